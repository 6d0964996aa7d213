-- Pieces, judged one after another.
use Rattle.std.proofs.Common.{◌≡◌, ℕ, ◌+◌, ◌-◌, ◌≤◌, Bool, true, false, List, [], ◌∷◌, ◌++◌, length, drop, reverse, Option, Some, None, is_some, refl, sym, ◌∙◌, ap, subst, append_assoc, append-nil, arith, length-append}
use Rattle.std.specs.Prelude.{MatchBool, Ok, Err}
use Rattle.std.specs.List.{flat_map}
use Rattle.std.proofs.lemmas.Grind.{flat_map-append}
use Rattle.std.proofs.lemmas.List.{reverse-append, length-drop}
use Rattle.model_history.specs.declared.history.Entry.{Entry}
use Rattle.model_history.specs.Scripts.{ScriptModel}
use Rattle.impl_log.specs.Runs.{Run, past, with_entry}
use Rattle.recording_text.specs.declared.cursor.Cursor.{Cursor}
use Rattle.recording_text.specs.declared.cursor.EventSpan.{EventSpan}
use Rattle.recording_text.specs.BadParts.{IsBadPart, AreFront, shown_behind, StopsAt}
use Rattle.recording_text.specs.Bodies.{ArePiecesFrom}
use Rattle.recording_text.specs.Pieces.{Piece, piece_text, IsPiece, ArePieces, entry_of, entries, is_end, shown_after}
use Rattle.recording_text.specs.Taking.{IsImageAt, TakesPiece, TakesNext}
use Rattle.recording_text.specs.Views.{ViewTable, view_at}
use Rattle.recording_check.specs.Verdicts.{IsRight, AreRightPieces, IsWrongAt}
use Rattle.recording_check.specs.inner.Judgements.{AreJudged, JudgesNext, JudgesParts, verdict_where}
use Rattle.recording_check.specs.inner.Rightness.{Judged}

-- one piece more

pub entries_more : (ps : List Piece) (p : Piece) → entries (ps ++ p ∷ []) ≡ entries ps ++ entry_of p.event ∷ []
entries_more [] p = refl
entries_more (q ∷ ps) p = ap (λ (es : List Entry). entry_of q.event ∷ es) (entries_more ps p)

-- a past, grown by an entry and then by others
pub past_on : (e : Entry) (es h : List Entry) → reverse (e ∷ es) ++ h ≡ reverse es ++ (e ∷ h)
past_on e es h = ap (λ (xs : List Entry). xs ++ h) (reverse-append (e ∷ []) es) ∙ append_assoc (reverse es) (e ∷ []) h

right_more_on : (s : ScriptModel) (n : ℕ) (h : List Entry) (ps : List Piece) (p : Piece) → AreRightPieces s n h ps → IsRight s n (reverse (entries ps) ++ h) p → AreRightPieces s n h (ps ++ p ∷ [])
right_more_on s n h [] p all one = (one, tt)
right_more_on s n h (q ∷ ps) p all one = (all.0, right_more_on s n (entry_of q.event ∷ h) ps p all.1 (subst (λ (g : List Entry). IsRight s n g p) (past_on (entry_of q.event) (entries ps) h) one))

right_more : (s : ScriptModel) (n : ℕ) (ps : List Piece) (p : Piece) → AreRightPieces s n [] ps → IsRight s n (reverse (entries ps)) p → AreRightPieces s n [] (ps ++ p ∷ [])
right_more s n ps p all one = right_more_on s n [] ps p all (subst (λ (g : List Entry). IsRight s n g p) (sym (append-nil (reverse (entries ps)))) one)

-- what is judged, with a piece more

pub stays_wrong : (s : ScriptModel) (n : ℕ) (ps : List Piece) (p : Piece) (place : ℕ) → IsWrongAt s n ps place → IsWrongAt s n (ps ++ p ∷ []) place
stays_wrong s n ps p place w = record {
  before = w.before;
  piece = w.piece;
  later = w.later ++ p ∷ [];
  is = ap (λ (qs : List Piece). qs ++ p ∷ []) w.is ∙ append_assoc w.before (w.piece ∷ w.later) (p ∷ []);
  at = w.at;
  right = w.right;
  wrong = w.wrong;
}

-- none was wrong, and the piece is right
goes_right : (ps : List Piece) (old new : Run) (p : Piece) → old.entries ≡ entries ps → AreRightPieces old.script old.workers [] ps → IsRight old.script old.workers (past old) p
    → new ≡ with_entry old (entry_of p.event).actor (entry_of p.event).event → AreJudged (ps ++ p ∷ []) new None
goes_right ps old new p has all one is =
    let entries_are : new.entries ≡ entries (ps ++ p ∷ []) = ap (λ (r : Run). r.entries) is ∙ ap (λ (es : List Entry). es ++ entry_of p.event ∷ []) has ∙ sym (entries_more ps p) in
    let more : AreRightPieces old.script old.workers [] (ps ++ p ∷ []) = right_more old.script old.workers ps p all (subst (λ (es : List Entry). IsRight old.script old.workers (reverse es) p) has one) in
    (entries_are, subst (λ (r : Run). AreRightPieces r.script r.workers [] (ps ++ p ∷ [])) (sym is) more)

-- none was wrong, and the piece is
goes_wrong : (ps : List Piece) (old new : Run) (p : Piece) (index : ℕ) → old.entries ≡ entries ps → AreRightPieces old.script old.workers [] ps → (IsRight old.script old.workers (past old) p → ⊥)
    → new ≡ old → index ≡ length ps → AreJudged (ps ++ p ∷ []) new (Some index)
goes_wrong ps old new p index has all stops is at =
    subst (λ (r : Run). IsWrongAt r.script r.workers (ps ++ p ∷ []) index) (sym is) (record {
      before = ps;
      piece = p;
      later = [];
      is = refl;
      at = sym at;
      right = all;
      wrong = λ right. stops (subst (λ (es : List Entry). IsRight old.script old.workers (reverse es) p) (sym has) right);
    })

abbrev pub told_by : Bool → ℕ → Option ℕ
told_by true index = None
told_by false index = Some index

-- one piece more, where none was wrong
pub judged_more : (b : Bool) (ps : List Piece) (old new : Run) (p : Piece) (index : ℕ) → Judged old p new b → index ≡ length ps → AreJudged ps old None → AreJudged (ps ++ p ∷ []) new (told_by b index)
judged_more true ps old new p index judged at so = goes_right ps old new p so.0 so.1 judged.0 judged.1
judged_more false ps old new p index judged at so = goes_wrong ps old new p index so.0 so.1 judged.0 judged.1 at

-- the run is of the same script and as many workers
pub same_script : (b : Bool) (old new : Run) (p : Piece) → Judged old p new b → new.script ≡ old.script
same_script true old new p judged = ap (λ (r : Run). r.script) judged.1
same_script false old new p judged = ap (λ (r : Run). r.script) judged.1

pub same_workers : (b : Bool) (old new : Run) (p : Piece) → Judged old p new b → new.workers ≡ old.workers
same_workers true old new p judged = ap (λ (r : Run). r.workers) judged.1
same_workers false old new p judged = ap (λ (r : Run). r.workers) judged.1

-- a prefix and a piece after it

front_more : (t : ViewTable) (shown : Option ℕ) (ps : List Piece) (p : Piece) → AreFront t shown ps → IsPiece (view_at t (shown_behind shown ps)) p → is_end p.event ≡ false → AreFront t shown (ps ++ p ∷ [])
front_more t shown [] p are is more = (is, more, tt)
front_more t shown (q ∷ ps) p are is more = (are.0, are.1, front_more t (shown_after shown q.event) ps p are.2 is more)

shown_more : (shown : Option ℕ) (ps : List Piece) (p : Piece) → shown_behind shown (ps ++ p ∷ []) ≡ shown_after (shown_behind shown ps) p.event
shown_more shown [] p = refl
shown_more shown (q ∷ ps) p = shown_more (shown_after shown q.event) ps p

matched : (A B : Type 0) (b : Bool) → b ≡ false → B → MatchBool b A B
matched A B true e y = absurd (cc (e))
matched A B false e y = y

matched_end : (A B : Type 0) (b : Bool) → b ≡ true → A → MatchBool b A B
matched_end A B true e x = x
matched_end A B false e x = absurd (cc (e))

front_ends : (t : ViewTable) (shown : Option ℕ) (ps : List Piece) (p : Piece) → AreFront t shown ps → IsPiece (view_at t (shown_behind shown ps)) p → is_end p.event ≡ true → ArePieces t shown (ps ++ p ∷ [])
front_ends t shown [] p are is last = (is, matched_end _ _ (is_end p.event) last refl)
front_ends t shown (q ∷ ps) p are is last = (are.0, matched _ _ (is_end q.event) are.1 (front_ends t (shown_after shown q.event) ps p are.2 is last))

-- where the walk through the parts stands
pub record StandsBehind (bytes : List ℕ) (t : ViewTable) (start : ℕ) (c : Cursor) (ps : List Piece) : Type 0 where
  pub front : AreFront t None ps
  pub text : drop start bytes ≡ flat_map piece_text ps ++ drop c.at bytes
  pub shown : c.shown ≡ shown_behind None ps
  pub index : c.index ≡ length ps
  pub at : c.at ≡ start + length (flat_map piece_text ps)

text_more : (bytes : List ℕ) (start at now : ℕ) (ps : List Piece) (p : Piece) → drop start bytes ≡ flat_map piece_text ps ++ drop at bytes → drop at bytes ≡ piece_text p ++ drop now bytes
    → drop start bytes ≡ flat_map piece_text (ps ++ p ∷ []) ++ drop now bytes
text_more bytes start at now ps p text more =
    let one : flat_map piece_text (ps ++ p ∷ []) ≡ flat_map piece_text ps ++ piece_text p = flat_map-append piece_text ps (p ∷ []) ∙ ap (λ (x : List ℕ). flat_map piece_text ps ++ x) (append-nil (piece_text p)) in
    text ∙ ap (λ (x : List ℕ). flat_map piece_text ps ++ x) more ∙ sym (append_assoc (flat_map piece_text ps) (piece_text p) (drop now bytes)) ∙ ap (λ (x : List ℕ). x ++ drop now bytes) (sym one)

-- the piece of a step
abbrev pub piece_in : EventSpan → List ℕ → Piece
piece_in step image = record { event = step.event; image = image }

module _ (bytes : List ℕ) (t : ViewTable) (start : ℕ) (old new : Cursor) (step : EventSpan) (ps : List Piece) (behind : StandsBehind bytes t start old ps) (takes : TakesPiece bytes t old new step) where
  whole : drop start bytes ≡ flat_map piece_text (ps ++ piece_in step takes.image ∷ []) ++ drop new.at bytes
  whole = text_more bytes start old.at new.at ps (piece_in step takes.image) behind.text takes.text

  is_piece : IsPiece (view_at t (shown_behind None ps)) (piece_in step takes.image)
  is_piece = subst (λ (o : Option ℕ). IsPiece (view_at t o) (piece_in step takes.image)) behind.shown takes.piece

  length_more : old.at ≤ length bytes → new.at ≤ length bytes → new.at ≡ start + length (flat_map piece_text (ps ++ piece_in step takes.image ∷ []))
  length_more was is =
      let p = piece_in step takes.image in
      let left : length (drop old.at bytes) ≡ length bytes - old.at = length-drop old.at bytes in
      let rest : length (drop new.at bytes) ≡ length bytes - new.at = length-drop new.at bytes in
      let parts : length (drop old.at bytes) ≡ length (piece_text p) + length (drop new.at bytes) = ap length takes.text ∙ length-append (piece_text p) (drop new.at bytes) in
      let one : flat_map piece_text (ps ++ p ∷ []) ≡ flat_map piece_text ps ++ piece_text p = flat_map-append piece_text ps (p ∷ []) ∙ ap (λ (x : List ℕ). flat_map piece_text ps ++ x) (append-nil (piece_text p)) in
      let both : length (flat_map piece_text (ps ++ p ∷ [])) ≡ length (flat_map piece_text ps) + length (piece_text p) = ap length one ∙ length-append (flat_map piece_text ps) (piece_text p) in
      let at = behind.at in
      omega (arith, left, rest, parts, both, at, was, is)

  pub moves_on : old.at ≤ length bytes → new.at ≤ length bytes → is_end step.event ≡ false → StandsBehind bytes t start new (ps ++ piece_in step takes.image ∷ [])
  moves_on was is more = record {
    front = front_more t None ps (piece_in step takes.image) behind.front is_piece more;
    text = whole;
    shown = takes.shown ∙ ap (λ (o : Option ℕ). shown_after o step.event) behind.shown ∙ sym (shown_more None ps (piece_in step takes.image));
    index = takes.index ∙ ap (λ (n : ℕ). n + 1) behind.index ∙ sym (length-append ps (piece_in step takes.image ∷ []));
    at = length_more was is;
  }

  pub ends_here : is_end step.event ≡ true → ArePiecesFrom bytes t start (ps ++ piece_in step takes.image ∷ [])
  ends_here last = (
    front_ends t None ps (piece_in step takes.image) behind.front is_piece last,
    whole ∙ ap (λ (x : List ℕ). flat_map piece_text (ps ++ piece_in step takes.image ∷ []) ++ x) (takes.last last) ∙ append-nil (flat_map piece_text (ps ++ piece_in step takes.image ∷ [])),
  )

-- what is not of its form stops the walk
pub stops_here : (bytes : List ℕ) (t : ViewTable) (start : ℕ) (old new : Cursor) (place : ℕ) (ps : List Piece) → StandsBehind bytes t start old ps → TakesNext bytes t old new (Err place) → StopsAt bytes t start place
stops_here bytes t start old new place ps behind takes =
    let n : ℕ = takes.0 in
    let bad : IsBadPart (view_at t (shown_behind None ps)) (drop old.at bytes) n = subst (λ (o : Option ℕ). IsBadPart (view_at t o) (drop old.at bytes) n) behind.shown takes.1 in
    let at = behind.at in
    let is = takes.2 in (
      length (flat_map piece_text ps) + n,
      (ps, drop old.at bytes, n, behind.front, behind.text, bad, refl),
      omega (arith, at, is),
    )

-- the answer at the end
pub told : (bytes : List ℕ) (t : ViewTable) (start : ℕ) (s : ScriptModel) (n : ℕ) (ps : List Piece) (r : Run) (o : Option ℕ) → ArePiecesFrom bytes t start ps → r.script ≡ s → r.workers ≡ n → AreJudged ps r o → JudgesParts bytes s n t start (Ok (verdict_where o))
told bytes t start s n ps r None are script workers judged = (ps, are, subst (λ (m : ℕ). AreRightPieces s m [] ps) workers (subst (λ (z : ScriptModel). AreRightPieces z r.workers [] ps) script judged.1))
told bytes t start s n ps r (Some place) are script workers judged = (ps, are, subst (λ (m : ℕ). IsWrongAt s m ps place) workers (subst (λ (z : ScriptModel). IsWrongAt z r.workers ps place) script judged))

-- a piece more after one that is wrong

still_wrong : (o : Option ℕ) (ps : List Piece) (r : Run) (p : Piece) → is_some o ≡ true → AreJudged ps r o → AreJudged (ps ++ p ∷ []) r o
still_wrong None ps r p some so = absurd (cc (some))
still_wrong (Some place) ps r p some so = stays_wrong r.script r.workers ps p place so

pub passed : (bytes : List ℕ) (r : Run) (o : Option ℕ) (index : ℕ) (step : EventSpan) → is_some o ≡ true → JudgesNext bytes r o index step r o
passed bytes r o index step some = record { script = refl; workers = refl; judged = λ ps image stands at so. still_wrong o ps r (piece_in step image) some so }

-- a piece more after right ones
pub looked_at : (bytes : List ℕ) (old new : Run) (o : Option ℕ) (index : ℕ) (step : EventSpan) (b : Bool) (there : List ℕ) → is_some o ≡ false → IsImageAt bytes step.image there
    → ((image : List ℕ) → IsImageAt bytes step.image image → Judged old (piece_in step image) new b) → JudgesNext bytes old o index step new (told_by b index)
looked_at bytes old new (Some place) index step b there none stands judged = absurd (cc (none))
looked_at bytes old new None index step b there none stands judged = record {
  script = same_script b old new (piece_in step there) (judged there stands);
  workers = same_workers b old new (piece_in step there) (judged there stands);
  judged = λ ps image at_image at so. judged_more b ps old new (piece_in step image) index (judged image at_image) at so;
}
