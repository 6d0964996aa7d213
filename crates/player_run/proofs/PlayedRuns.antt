-- The recording of a run of actors is one of a history that keeps what is promised.
use Rattle.std.proofs.Common.{◌≡◌, inl, inr, ℕ, true, List, [], ◌∷◌, ◌++◌, reverse, refl, sym, ◌∙◌, ap, subst}
use Rattle.std.specs.Prelude.{Option, Some, None, MatchOption}
use Rattle.model_history.specs.Accepted.{IsAccepted}
use Rattle.model_history.specs.declared.event.Event.{Event}
use Rattle.model_history.specs.declared.event.Event.TheVariants as event
use Rattle.model_history.specs.declared.history.Entry.{Entry}
use Rattle.model_history.specs.EventFields.{actor_of}
use Rattle.model_history.specs.Legal.{Legal, IsLegal}
use Rattle.model_history.specs.Recordings.{header, pieces, recorded}
use Rattle.model_history.specs.Scripts.{ScriptModel}
use Rattle.script_json.specs.Recordings.{recording, script_text}
use Rattle.script_json.proofs.CanonicalTexts.{recording_of}
use Rattle.impl_log.specs.Runs.{Run, past}
use Rattle.impl_log.proofs.LogSteps.{past_more}
use Rattle.impl_core.specs.Origins.{Origin}
use Rattle.impl_core.specs.Replies.{is_end, is_played}
use Rattle.proxy_threads.specs.Seats.{pairs}
use Rattle.proxy_threads.specs.Writing.{part}
use Rattle.proxy_threads.proofs.Holds.{entries_pairs}
use Rattle.player_uses.specs.declared.outcome.Outcome.{Outcome}
use Rattle.player_uses.specs.declared.outcome.Outcome.TheVariants.{Done, WriteFault, Memory}
use Rattle.player_uses.specs.Outputs.{WritesOrBegins, WritesSome}
use Rattle.player_run.specs.Promises.{HasEnded, IsSoundHistory}
use Rattle.player_run.specs.Runs.{IsPlayOf, IsPlayUpTo, IsRunOf}
use Rattle.player_run.specs.inner.Actors.{IsRunAt, PlayEnds}
use Rattle.player_run.proofs.Promised.{sound_of}

end_is : (e : Event) → is_end e ≡ true → e ≡ event.End
end_is event.End is = refl
end_is _ is = absurd (cc (is))

-- the last of the entries
played_last : (es : List Entry) → is_played es ≡ true → (before : List Entry) × (e : Entry) × (es ≡ before ++ e ∷ []) × (is_end e.event ≡ true)
played_last [] is = absurd (cc (is))
played_last (e ∷ []) is = ([], e, refl, is)
played_last (e ∷ f ∷ es) is = let l = played_last (f ∷ es) is in (e ∷ l.0, l.1, ap (λ (xs : List Entry). e ∷ xs) l.2, l.3)

-- a run that was played to its end ends with the end, which is the compositor's
ends_of : (s : ScriptModel) (workers : ℕ) (es : List Entry) → IsLegal s workers es → is_played es ≡ true → HasEnded es
ends_of s workers es legal is =
    let l = played_last es is in
    let whole : Legal s workers (l.1 ∷ reverse l.0) = subst (Legal s workers) (past_more l.0 es l.1 l.2) legal in
    let end : l.1.event ≡ event.End = end_is l.1.event l.3 in
    let own : l.1.actor ≡ 0 = whole.1.actor ∙ ap (λ (e : Event). actor_of e) end in
    (l.0, l.2 ∙ (ap (λ (n : ℕ). l.0 ++ record { actor = n; event = l.1.event } ∷ []) own ∙ ap (λ (e : Event). l.0 ++ record { actor = 0; event = e } ∷ []) end))

-- the lines before the events, and the part for all entries
recording_is : (s : ScriptModel) (es : List Entry) → header (script_text s) ++ part s [] (pairs es) ≡ recording s es
unfolding part recording recorded
recording_is s es = ap (λ (xs : List Entry). header (script_text s) ++ pieces s [] xs) (entries_pairs es)

module _ (s : ScriptModel) (workers : ℕ) (accepted : IsAccepted s) (before : List ℕ) (lines : before ≡ header (script_text s)) (r : Run) (at : IsRunAt (record { script = s; workers = workers }) r) where
  legal_is : IsLegal s workers r.entries
  legal_is = subst (λ (z : Origin). Legal z.script z.workers (past r)) (sym at.origin) at.legal

  whole_is : before ++ part r.script [] (pairs r.entries) ≡ recording s r.entries
  whole_is =
      ap (λ (w : List ℕ). w ++ part r.script [] (pairs r.entries)) lines
      ∙ (ap (λ (z : Origin). header (script_text s) ++ part z.script [] (pairs r.entries)) (sym at.origin) ∙ recording_is s r.entries)

  sound_is : IsSoundHistory s workers r.entries
  sound_is = sound_of s workers r.entries accepted legal_is

  up_to : IsPlayUpTo workers s (before ++ part r.script [] (pairs r.entries))
  up_to = (r.entries, sound_is, recording_of s r.entries (before ++ part r.script [] (pairs r.entries)) accepted.ranges whole_is)

  play_is : is_played r.entries ≡ true → IsPlayOf workers s (before ++ part r.script [] (pairs r.entries))
  play_is is = (r.entries, record { sound = sound_is; ends = ends_of s workers r.entries legal_is is }, recording_of s r.entries (before ++ part r.script [] (pairs r.entries)) accepted.ranges whole_is)

pub plays_script : (s : ScriptModel) (workers : ℕ) → IsAccepted s → (before : List ℕ) (old new : Option (List ℕ)) (o : Outcome) → before ≡ header (script_text s) → PlayEnds (record { script = s; workers = workers }) before old new o
    → WritesOrBegins (IsPlayOf workers s) (IsPlayUpTo workers s) old new o
plays_script s workers accepted before old new Done lines (r, at, is, gains) = (before ++ part r.script [] (pairs r.entries), play_is s workers accepted before lines r at is, gains)
plays_script s workers accepted before old new WriteFault lines (r, at, gains) = (before ++ part r.script [] (pairs r.entries), up_to s workers accepted before lines r at, gains)
plays_script s workers accepted before old new Memory lines (r, at, gains) = inr (before ++ part r.script [] (pairs r.entries), up_to s workers accepted before lines r at, gains)
plays_script s workers accepted before old new _ lines ends = absurd ends

-- the same where they may not have been started
pub threads_play : (X : Type 0) (s : ScriptModel) (workers : ℕ) → IsAccepted s → (before : List ℕ) (stem : Option Origin) (old new : Option (List ℕ)) (r : Option Outcome) → before ≡ header (script_text s) → stem ≡ Some (record { script = s; workers = workers })
    → MatchOption r X (λ outcome. (o : Origin) → stem ≡ Some o → PlayEnds o before old new outcome) → MatchOption r X (WritesOrBegins (IsPlayOf workers s) (IsPlayUpTo workers s) old new)
threads_play X s workers accepted before stem old new None lines is ends = ends
threads_play X s workers accepted before stem old new (Some outcome) lines is ends = plays_script s workers accepted before old new outcome lines (ends (record { script = s; workers = workers }) is)

-- a run in lockstep is one that actors may play
pub lockstep_plays : (s : ScriptModel) (workers : ℕ) (old new : Option (List ℕ)) (o : Outcome) → WritesSome (IsRunOf workers s) old new o → WritesOrBegins (IsPlayOf workers s) (IsPlayUpTo workers s) old new o
lockstep_plays s workers old new Done (whole, (h, promised, is), gains) = (whole, (h, promised.played, is), gains)
lockstep_plays s workers old new WriteFault (whole, (h, promised, is), gains) = (whole, (h, promised.played.sound, is), gains)
lockstep_plays s workers old new Memory (inl same) = inl same
lockstep_plays s workers old new Memory (inr (whole, (h, promised, is), gains)) = inr (whole, (h, promised.played.sound, is), gains)
lockstep_plays s workers old new _ wrote = absurd wrote
