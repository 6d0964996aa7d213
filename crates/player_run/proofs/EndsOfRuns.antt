-- How a run of actors ended, and what its sink gained.
use Rattle.std.proofs.Common.{◌≡◌, inl, inr, ℕ, Bool, true, false, List, [], ◌++◌, Option, Some, sym, ◌∙◌, ap, subst, arith, append_assoc, append-nil}
use Rattle.std.specs.Prelude.{Result, Ok, Err}
use Rattle.std.specs.Io.KnownBytes.{Appends}
use Rattle.byte_io.specs.Counts.{Rose}
use Rattle.byte_io.specs.Pieces.{GainsPrefix, PutsAll, WriteCause}
use Rattle.thread_pieces.specs.Ring.{whole}
use Rattle.byte_io.specs.declared.writing.PutFault.{PutFault}
use Rattle.byte_io.specs.declared.writing.PutFault.TheVariants as put_fault
use Rattle.model_history.specs.declared.event.Event.{Event}
use Rattle.model_history.specs.declared.history.Entry.{Entry}
use Rattle.impl_log.specs.Runs.{Run}
use Rattle.impl_core.specs.Origins.{Origin, origin_of}
use Rattle.impl_core.specs.Replies.{is_played}
use Rattle.proxy_threads.specs.declared.turned.Turned.{Turned}
use Rattle.proxy_threads.specs.declared.turned.Turned.TheVariants as turned
use Rattle.proxy_threads.specs.Seats.{Seat, entries_of, pairs}
use Rattle.proxy_threads.specs.Writing.{part, FaultCause, IsLast, KnowsEnd, Wrote}
use Rattle.proxy_threads.proofs.Holds.{entries_pairs}
use Rattle.player_run.specs.declared.beside.Ending.{Ending}
use Rattle.player_run.specs.declared.beside.Remains.{Remains}
use Rattle.player_uses.specs.Faults.{Causes}
use Rattle.player_run.specs.inner.Actors.{HasRun, IsRunAt, PlayEnds, joint_outcome}

-- a count that did not rise
no_rise : {X : Type 0} → Rose 0 0 → X
no_rise (inl lt) = absurd (omega (arith, lt))
no_rise (inr is) = absurd (omega (arith, is))

some_is : (a b : Origin) → Some a ≡ Some b → a ≡ b
some_is a b is = cc

written_cause : {X : Type 0} (x : X) (last : Turned) (over : Bool) (f g : ℕ) → Causes 0 0 f g (joint_outcome (Ok x) (record { last = last; over = over }))
written_cause x turned.Ended true f g = tt
written_cause x turned.Ended false f g = tt
written_cause x turned.Went over f g = tt
written_cause x turned.Blocked over f g = tt
written_cause x turned.Memory over f g = tt
written_cause x turned.WriteFault over f g = tt

-- a fault has its cause
pub told_cause : {X : Type 0} (r : Result X PutFault) (ending : Ending) (f g : ℕ) → WriteCause f g r → Causes 0 0 f g (joint_outcome r ending)
told_cause (Err put_fault.Failed) ending f g rose = rose
told_cause (Err (put_fault.Memory _)) ending f g rose = tt
told_cause (Ok x) ending f g rose = written_cause x ending.last ending.over f g

module _ (o : Origin) (run : Run) (at : IsRunAt o run) (q : Seat) (seen : q.seen ≡ pairs run.entries) (before put : List ℕ) (first new : Option (List ℕ)) where
  abbrev text : List ℕ
  text = before ++ part run.script [] (pairs run.entries)

  -- what was put is a prefix of the text, and so is what the sink gained of it
  less : (rest : List ℕ) → put ++ rest ≡ text → GainsPrefix first new put → GainsPrefix first new text
  less rest is g = (g.0, g.1 ++ rest, sym (append_assoc g.0 g.1 rest) ∙ (ap (λ (w : List ℕ). w ++ rest) g.2 ∙ is), g.3)

  some : (rest : List ℕ) → put ++ rest ≡ text → Appends first new put → GainsPrefix first new text
  some rest is g = (put, rest, is, g)

  over_is : (over : Bool) → KnowsEnd (Some q) over turned.Ended → over ≡ is_played run.entries
  over_is over knows = knows ∙ ap (λ (es : List Entry). is_played es) (ap (λ (xs : List (ℕ × Event)). entries_of xs) seen ∙ entries_pairs run.entries)

  whole_ends : {X : Type 0} (over : Bool) (r : Result X PutFault) → put ≡ text → over ≡ is_played run.entries → PutsAll first new put r → PlayEnds o before first new (joint_outcome r (record { last = turned.Ended; over = over }))
  whole_ends true (Ok x) is knows g = (run, at, sym knows, subst (λ (w : List ℕ). Appends first new w) is g)
  whole_ends false (Ok x) is knows g = (run, at, some [] (append-nil put ∙ is) g)
  whole_ends true (Err put_fault.Failed) is knows g = (run, at, less [] (append-nil put ∙ is) g)
  whole_ends false (Err put_fault.Failed) is knows g = (run, at, less [] (append-nil put ∙ is) g)
  whole_ends true (Err (put_fault.Memory _)) is knows g = (run, at, less [] (append-nil put ∙ is) g)
  whole_ends false (Err (put_fault.Memory _)) is knows g = (run, at, less [] (append-nil put ∙ is) g)

  front_ends : {X : Type 0} (over : Bool) (r : Result X PutFault) (rest : List ℕ) → put ++ rest ≡ text → PutsAll first new put r → PlayEnds o before first new (joint_outcome r (record { last = turned.Memory; over = over }))
  front_ends over (Ok x) rest is g = (run, at, some rest is g)
  front_ends over (Err put_fault.Failed) rest is g = (run, at, less rest is g)
  front_ends over (Err (put_fault.Memory _)) rest is g = (run, at, less rest is g)

  front_put : GainsPrefix (Some before) (Some put) (part run.script [] (pairs run.entries)) → (rest : List ℕ) × (put ++ rest ≡ text)
  front_put g = (g.1, ap (λ (w : List ℕ). w ++ g.1) g.3 ∙ (append_assoc before g.0 g.1 ∙ ap (λ (w : List ℕ). before ++ w) g.2))

  pub run_ends : {X : Type 0} (last : Turned) (over : Bool) (r : Result X PutFault) → IsLast last → FaultCause 0 0 last → Wrote (Some before) (Some put) (part run.script [] (pairs run.entries)) last → KnowsEnd (Some q) over last → PutsAll first new put r
      → PlayEnds o before first new (joint_outcome r (record { last = last; over = over }))
  run_ends turned.Ended over r is_last calm wrote knows g = whole_ends over r wrote (over_is over knows) g
  run_ends turned.Memory over r is_last calm wrote knows g = let f = front_put wrote in front_ends over r f.0 f.1 g
  run_ends turned.WriteFault over r is_last calm wrote knows g = no_rise calm
  run_ends turned.Went over r is_last calm wrote knows g = absurd is_last
  run_ends turned.Blocked over r is_last calm wrote knows g = absurd is_last

pub settles : {X : Type 0} (p : Seat) (o : Origin) (before : List ℕ) (ran : Remains) (first old new : Option (List ℕ)) (r : Result X PutFault) → p.stem ≡ Some o → HasRun p before ran first old → PutsAll first new (whole ran.sink) r → PlayEnds o before first new (joint_outcome r ran.ending)
settles p o before ran first old new r stem has gained =
    let turns = has.drove.turns in
    let run = turns.run in
    let at : IsRunAt o run = record { origin = some_is o (origin_of run) (sym stem ∙ (sym turns.same.stem ∙ turns.stands.stem)); legal = turns.stands.legal } in
    run_ends o run at ran.pass turns.stands.seen before (whole ran.sink) first new ran.ending.last ran.ending.over r turns.last has.calm
    (subst (λ (xs : List (ℕ × Event)). Wrote (Some before) (Some (whole ran.sink)) (part run.script [] xs) ran.ending.last) turns.stands.seen turns.wrote) has.drove.over gained
