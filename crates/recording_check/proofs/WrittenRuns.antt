-- The recording of a legal history that the end closes is legal.
use Rattle.std.proofs.Common.{◌≡◌, ℕ, ◌+◌, ◌<◌, ◌≤◌, Bool, true, false, cond, List, [], ◌∷◌, ◌++◌, length, reverse, refl, ap, sym, ◌∙◌, subst, append-nil, arith}
use Rattle.std.specs.Prelude.{MatchBool, nat_lt}
use Rattle.model_history.specs.declared.event.Event.{Event}
use Rattle.model_history.specs.declared.event.Event.TheVariants as event
use Rattle.model_history.specs.declared.history.Entry.{Entry}
use Rattle.model_history.specs.Accepted.{IsAccepted}
use Rattle.model_history.specs.EventFields.{sends, actor_of, is_last}
use Rattle.model_history.specs.Legal.{Next, Legal, IsLegal}
use Rattle.model_history.specs.Scans.{counted, has_ended}
use Rattle.model_history.specs.Scripts.{ScriptModel}
use Rattle.model_history.proofs.BoolFacts.{below, or_left_false}
use Rattle.model_history.proofs.Course.{course}
use Rattle.model_history.proofs.DueFacts.{entry, at_activate}
use Rattle.model_history.proofs.Ranged.{playable}
use Rattle.model_history.proofs.RangeBounds.{sent_few}
use Rattle.script_json.specs.Recordings.{recording}
use Rattle.recording_text.specs.Pieces.{entry_of, is_end}
use Rattle.recording_check.specs.Painted.{IsNamed, IsRecorded, IsOver}
use Rattle.recording_check.specs.Verdicts.{IsLegalRecording}
use Rattle.recording_check.proofs.JudgedPieces.{past_on}
use Rattle.recording_check.proofs.LegalEvents.{event_fits}
use Rattle.recording_check.proofs.ScriptLines.{accepted_line}

-- what may come in a run with few workers may come in one with more
next_with_more : (s : ScriptModel) (few more : ℕ) (h : List Entry) (e : Entry) → few ≤ more → Next s few h e → Next s more h e
next_with_more s few more h e le n = record {
  going = n.going;
  state = n.state;
  is_due = n.is_due;
  actor = n.actor;
  within = omega (arith, le, n.within);
}

pub legal_with_more : (s : ScriptModel) (few more : ℕ) (h : List Entry) → few ≤ more → Legal s few h → Legal s more h
legal_with_more s few more [] le legal = legal
legal_with_more s few more (e ∷ h) le legal = (legal_with_more s few more h le legal.0, next_with_more s few more h e le legal.1)

-- the last entry of a run that was played to its end
abbrev the_end : Entry
the_end = record { actor = 0; event = event.End }

-- an entry after which others come names a frame that there is, and is no stop
frame_there : (s : ScriptModel) (n : ℕ) (h : List Entry) (a : ℕ) (e : Event) → Legal s n h → Next s n h (entry a e) → is_last e ≡ false → IsNamed s e
frame_there s n h a (event.Activate k ms) legal next goes =
    let c = course s n h legal in
    let t = at_activate s n h a k ms next in
    let sent : k < counted sends h = c.committed_below k (c.pending_committed k t.frame) in
    let few : counted sends h ≤ length s.main = sent_few s n h legal in
    omega (arith, sent, few)
frame_there s n h a (event.Stop b) legal next goes = absurd cc
frame_there s n h a e legal next goes = tt

-- its actor is the one whose event it is, and has a number of 32 bits
fits_actor : (n : ℕ) → n < 4294967296 → n ≡ cond (nat_lt n 4294967296) n 4294967295
fits_actor n few = ap (λ (b : Bool). cond b n 4294967295) (sym (below n 4294967296 few))

actor_is : (s : ScriptModel) (h : List Entry) (e : Entry) → Next s 16 h e → e ≡ entry_of e.event
unfolding entry_of
actor_is s h e next =
    let few : actor_of e.event < 4294967296 = omega (arith, next.actor, next.within) in
    ap (λ (a : ℕ). entry a e.event) (next.actor ∙ fits_actor (actor_of e.event) few)

goes_on : (e : Event) → is_last e ≡ false → is_end e ≡ false
goes_on event.End goes = absurd cc
goes_on e goes = refl

not_over : (b : Bool) (X Y : Type 0) → b ≡ false → Y → MatchBool b X Y
not_over true X Y is y = absurd cc
not_over false X Y is y = y

-- what is said of the entries from here on: they are over, the past is legal, and nothing has ended it
record EndsHere (s : ScriptModel) (h es : List Entry) : Type 0 where
  pub over : IsOver s es
  pub legal : Legal s 16 h
  pub going : has_ended h ≡ false

ends_here : (s : ScriptModel) (h before : List Entry) → IsAccepted s → Legal s 16 (reverse (before ++ the_end ∷ []) ++ h) → EndsHere s h (before ++ the_end ∷ [])
ends_here s h [] accepted legal = record {
  over = (record { fits = tt; named = tt; actor = actor_is s h the_end legal.1 }, refl);
  legal = legal.0;
  going = legal.1.going;
}
ends_here s h (e ∷ before) accepted legal =
    let rest : EndsHere s (e ∷ h) (before ++ the_end ∷ []) = ends_here s (e ∷ h) before accepted (subst (λ (g : List Entry). Legal s 16 g) (past_on e (before ++ the_end ∷ []) h) legal) in
    let next : Next s 16 h e = rest.legal.1 in
    let goes : is_last e.event ≡ false = or_left_false (is_last e.event) (has_ended h) rest.going in
    let recorded : IsRecorded s e = record {
      fits = event_fits s 16 h e.actor e.event (playable s accepted) (omega arith) rest.legal;
      named = frame_there s 16 h e.actor e.event rest.legal.0 next goes;
      actor = actor_is s h e next;
    } in
    record {
      over = (recorded, not_over (is_end e.event) (before ++ the_end ∷ [] ≡ []) (IsOver s (before ++ the_end ∷ [])) (goes_on e.event goes) rest.over);
      legal = rest.legal.0;
      going = next.going;
    }

pub written_is_legal : (s : ScriptModel) (workers : ℕ) (before : List Entry) → IsAccepted s → workers ≤ 16 → IsLegal s workers (before ++ the_end ∷ []) → IsLegalRecording 16 (recording s (before ++ the_end ∷ []))
written_is_legal s workers before accepted few legal =
    let all : Legal s 16 (reverse (before ++ the_end ∷ [])) = legal_with_more s workers 16 (reverse (before ++ the_end ∷ [])) few legal in
    let over = (ends_here s [] before accepted (subst (λ (g : List Entry). Legal s 16 g) (sym (append-nil (reverse (before ++ the_end ∷ [])))) all)).over in
    record { script = s; history = before ++ the_end ∷ []; line = accepted_line s accepted; legal = all; over = over; text = refl }
