-- Pieces that are right are the recording of a legal history, and such a recording has no others.
use Rattle.std.proofs.Common.{◌≡◌, ℕ, ◌<◌, ◌≤◌, Bool, true, false, List, [], ◌∷◌, ◌++◌, length, reverse, Option, None, refl, sym, ◌∙◌, ap, subst, append-nil, arith}
use Rattle.std.specs.Prelude.{MatchBool, Ok, drop}
use Rattle.page_layers.specs.declared.view.View.{View}
use Rattle.model_history.specs.declared.event.Event.{Event}
use Rattle.model_history.specs.declared.event.Event.TheVariants as event
use Rattle.model_history.specs.declared.history.Entry.{Entry}
use Rattle.model_history.specs.EventFields.{sends}
use Rattle.model_history.specs.Scans.{counted}
use Rattle.model_history.specs.Legal.{Next, Legal}
use Rattle.model_history.specs.Scripts.{ScriptModel}
use Rattle.model_history.proofs.Course.{course}
use Rattle.model_history.proofs.DueFacts.{at_activate}
use Rattle.model_history.proofs.RangeBounds.{sent_few}
use Rattle.recording_text.specs.Pieces.{Piece, HasImage, IsPiece, ArePieces, entry_of, entries, is_end, shown_after}
use Rattle.recording_text.specs.Views.{ViewTable, view_at, views_of}
use Rattle.recording_check.specs.declared.verdict.Verdict.{Verdict}
use Rattle.recording_check.specs.declared.verdict.Verdict.TheVariants.{Good, No}
use Rattle.recording_check.specs.Openings.{OpensWith}
use Rattle.recording_check.specs.Painted.{ArePainted, IsNamed, IsRecorded, IsOver}
use Rattle.recording_check.specs.Recordings.{IsRecording, IsBadAt}
use Rattle.recording_check.specs.Verdicts.{IsRight, AreRightPieces, IsWrongAt, IsLegalRecording, IsFirstWrongEvent, Judges}
use Rattle.recording_check.specs.inner.Judgements.{JudgesParts}
use Rattle.recording_check.proofs.JudgedPieces.{past_on}
use Rattle.recording_check.proofs.OneReading.{one_reading, not_bad}
use Rattle.recording_check.proofs.PaintedRuns.{painted_is_recording, history_is_painted}
use Rattle.recording_check.proofs.Wholes.{is_recording}

-- right pieces are painted, and their entries legal

are_painted : (s : ScriptModel) (n : ℕ) (h : List Entry) (ps : List Piece) → AreRightPieces s n h ps → ArePainted s h ps
are_painted s n h [] right = tt
are_painted s n h (p ∷ ps) right = (right.0.image, are_painted s n (entry_of p.event ∷ h) ps right.1)

are_legal : (s : ScriptModel) (n : ℕ) (h : List Entry) (ps : List Piece) → Legal s n h → AreRightPieces s n h ps → Legal s n (reverse (entries ps) ++ h)
are_legal s n h [] legal right = legal
are_legal s n h (p ∷ ps) legal right =
    subst (λ (g : List Entry). Legal s n g) (sym (past_on (entry_of p.event) (entries ps) h)) (are_legal s n (entry_of p.event ∷ h) ps (legal, right.0.next) right.1)

-- an activation names a frame that the script has
frame_there : (s : ScriptModel) (n : ℕ) (h : List Entry) (e : Event) (v : View) (image : List ℕ) → Legal s n h → Next s n h (entry_of e) → HasImage v e image → IsNamed s e
unfolding entry_of
frame_there s n h (event.Activate k ms) v image legal next has =
    let c = course s n h legal in
    let a = at_activate s n h _ k ms next in
    let sent : k < counted sends h = c.committed_below k (c.pending_committed k a.frame) in
    let few : counted sends h ≤ length s.main = sent_few s n h legal in
    omega (arith, sent, few)
frame_there s n h (event.Stop a) v image legal next has = has
frame_there s n h e v image legal next has = tt

recorded : (s : ScriptModel) (n : ℕ) (h : List Entry) (v : View) (p : Piece) → Legal s n h → IsRight s n h p → IsPiece v p → IsRecorded s (entry_of p.event)
unfolding entry_of
recorded s n h v p legal right is = record { fits = is.fits; named = frame_there s n h p.event v p.image legal right.next is.image; actor = refl }

over_in : (b : Bool) (s : ScriptModel) (t : ViewTable) (shown : Option ℕ) (ps : List Piece) → MatchBool b (ps ≡ []) (ArePieces t shown ps) → (ArePieces t shown ps → IsOver s (entries ps)) → MatchBool b (entries ps ≡ []) (IsOver s (entries ps))
over_in true s t shown ps none more = ap entries none
over_in false s t shown ps are more = more are

are_over : (s : ScriptModel) (n : ℕ) (h : List Entry) (t : ViewTable) (shown : Option ℕ) (ps : List Piece) → Legal s n h → ArePieces t shown ps → AreRightPieces s n h ps → IsOver s (entries ps)
unfolding entry_of
are_over s n h t shown [] legal are right = are
are_over s n h t shown (p ∷ ps) legal are right = (
  recorded s n h (view_at t shown) p legal right.0 are.0,
  over_in (is_end p.event) s t (shown_after shown p.event) ps are.1 (λ more. are_over s n (entry_of p.event ∷ h) t (shown_after shown p.event) ps (legal, right.0.next) more right.1),
)

pub right_is_legal : (n : ℕ) (bytes : List ℕ) (s : ScriptModel) (ps : List Piece) → IsRecording bytes s ps → AreRightPieces s n [] ps → IsLegalRecording n bytes
right_is_legal n bytes s ps is right = record {
  script = s;
  history = entries ps;
  line = is.opening.script;
  legal = subst (λ (h : List Entry). Legal s n h) (append-nil (reverse (entries ps))) (are_legal s n [] ps tt right);
  over = are_over s n [] (views_of s) None ps tt is.pieces right;
  text = painted_is_recording bytes s ps is (are_painted s n [] ps right);
}

-- the other way: the pieces of a legal recording are right

are_right : (s : ScriptModel) (n : ℕ) (h : List Entry) (ps : List Piece) → ArePainted s h ps → Legal s n (reverse (entries ps) ++ h) → AreRightPieces s n h ps × Legal s n h
are_right s n h [] painted legal = (tt, legal)
are_right s n h (p ∷ ps) painted legal =
    let rest = are_right s n (entry_of p.event ∷ h) ps painted.1 (subst (λ (g : List Entry). Legal s n g) (past_on (entry_of p.event) (entries ps) h) legal) in
    ((record { next = rest.1.1; image = painted.0 }, rest.0), rest.1.0)

-- all of them are right, so none is wrong

right_at : (s : ScriptModel) (n : ℕ) (h : List Entry) (before later : List Piece) (p : Piece) → AreRightPieces s n h (before ++ p ∷ later) → IsRight s n (reverse (entries before) ++ h) p
right_at s n h [] later p right = right.0
right_at s n h (q ∷ before) later p right = subst (λ (g : List Entry). IsRight s n g p) (sym (past_on (entry_of q.event) (entries before) h)) (right_at s n (entry_of q.event ∷ h) before later p right.1)

none_wrong : (s : ScriptModel) (n : ℕ) (ps : List Piece) (place : ℕ) → AreRightPieces s n [] ps → IsWrongAt s n ps place → ⊥
none_wrong s n ps place right w =
    let there : IsRight s n (reverse (entries w.before) ++ []) w.piece = right_at s n [] w.before w.later w.piece (subst (λ (qs : List Piece). AreRightPieces s n [] qs) w.is right) in
    w.wrong (subst (λ (g : List Entry). IsRight s n g w.piece) (append-nil (reverse (entries w.before))) there)

pub legal_not_wrong : (n : ℕ) (bytes : List ℕ) (place : ℕ) → IsLegalRecording n bytes → IsFirstWrongEvent n bytes place → ⊥
legal_not_wrong n bytes place good (t, qs, is, w) =
    let a = history_is_painted good.script good.history good.line good.over in
    let there : IsRecording bytes good.script a.0 = subst (λ (xs : List ℕ). IsRecording xs good.script a.0) (sym good.text) a.1 in
    let legal : Legal good.script n (reverse (entries a.0) ++ []) = subst (λ (g : List Entry). Legal good.script n g) (ap reverse (sym a.2) ∙ sym (append-nil (reverse (entries a.0)))) good.legal in
    let right = are_right good.script n [] a.0 a.3 legal in
    let one = one_reading bytes good.script t a.0 qs there is in
    let wrong : IsWrongAt good.script n a.0 place = subst (λ (z : ScriptModel). IsWrongAt z n a.0 place) (sym one.0) (subst (λ (rs : List Piece). IsWrongAt t n rs place) (sym one.1) w) in
    none_wrong good.script n a.0 place right.0 wrong

pub legal_not_bad : (n : ℕ) (bytes : List ℕ) (place : ℕ) → IsLegalRecording n bytes → IsBadAt bytes place → ⊥
legal_not_bad n bytes place good bad =
    let a = history_is_painted good.script good.history good.line good.over in
    not_bad bytes good.script a.0 place (subst (λ (xs : List ℕ). IsRecording xs good.script a.0) (sym good.text) a.1) bad

pub wrong_not_bad : (n : ℕ) (bytes : List ℕ) (event place : ℕ) → IsFirstWrongEvent n bytes event → IsBadAt bytes place → ⊥
wrong_not_bad n bytes event place (s, ps, is, w) bad = not_bad bytes s ps place is bad

-- what is said of the parts is said of the whole
pub judged_whole : (bytes : List ℕ) (s : ScriptModel) (end : ℕ) (v : Verdict) → OpensWith bytes s (drop end bytes) → JudgesParts bytes s 16 (views_of s) end (Ok v) → Judges bytes (Ok v)
judged_whole bytes s end Good opens judged = right_is_legal 16 bytes s judged.0 (is_recording bytes s end judged.0 opens judged.1) judged.2
judged_whole bytes s end (No place) opens judged = (s, judged.0, is_recording bytes s end judged.0 opens judged.1, judged.2)
