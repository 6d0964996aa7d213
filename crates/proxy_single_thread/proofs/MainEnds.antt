-- The main side of a run, as it runs the frame in flight and hands over how that frame ends.
use Rattle.std.proofs.Common.{◌≡◌, ℕ, suc, ◌<◌, ◌≤◌, Bool, true, false, List, length, Option, Some, None, sym, ◌∙◌, ap, subst, arith}
use Rattle.model_states.specs.declared.kind.Kind.TheVariants as kind
use Rattle.model_states.specs.Kinds.{is_sent}
use Rattle.page_layers.specs.declared.moves.Move.{Move}
use Rattle.model_history.specs.declared.event.Event.TheVariants as event
use Rattle.model_history.specs.Scripts.{ScriptModel}
use Rattle.model_history.specs.Commits.{CommitModel}
use Rattle.model_history.specs.EventFields.{sends}
use Rattle.model_history.specs.Scans.{has_ended, counted}
use Rattle.model_history.specs.Frames.{pulls_of}
use Rattle.model_history.specs.Accepted.{IsPlayable}
use Rattle.model_history.specs.Ended.{AreBounded}
use Rattle.model_history.specs.Legal.{sched, Legal}
use Rattle.model_history.proofs.BoolFacts.{by_test}
use Rattle.model_history.proofs.RangeBounds.{sent_few}
use Rattle.model_history.proofs.PullBounds.{pulls_bounded}
use Rattle.impl_log.specs.Runs.{Run, past, now, with_entry}
use Rattle.main_host.specs.Hosts.{MainHostModel, IsEnd, with_frame}
use Rattle.main_host.specs.declared.main_end.MainEnd.{MainEnd}
use Rattle.main_host.specs.declared.main_end.MainEnd.TheVariants as end
use Rattle.impl_core.specs.Replies.{told_frame}
use Rattle.impl_core.proofs.ToldFrames.{IsToldFrame, told_frame_is}
use Rattle.proxy_single_thread.specs.declared.main_side.MainSide.{MainSide}
use Rattle.proxy_single_thread.specs.inner.Ends.{is_ready}
use Rattle.proxy_single_thread.specs.inner.Sides.{IsAtRest, IsBefore, IsBehind, IsInFlight, IsMainOf, IsMain}
use Rattle.proxy_single_thread.proofs.MainPulls.{some_last, ready_comes, abort_comes, no_ready, no_abort}
use Rattle.proxy_single_thread.proofs.MainSteps.{has_run, rests, main_after}

-- the end of a frame in flight that was run
pub record IsHeld (r : Run) (side : MainSide) (e : MainEnd) : Type 0 where
  pub sent : is_sent (sched (past r)).main_state ≡ true
  pub behind : IsBehind r.script (pulls_of (past r)) (counted sends (past r)) side e

-- where a frame is in flight it is before or after its run
in_flight : (r : Run) (side : MainSide) → IsMain r side → is_sent (sched (past r)).main_state ≡ true → (o : Option MainEnd) → side.end ≡ o
    → IsInFlight r.script (pulls_of (past r)) (counted sends (past r)) side o
in_flight r side m t o is =
    subst (λ (z : Option MainEnd). IsInFlight r.script (pulls_of (past r)) (counted sends (past r)) side z) is (subst (λ (b : Bool). IsMainOf r.script (pulls_of (past r)) (counted sends (past r)) side b) t m)

-- where no frame is in flight no end is kept
at_rest : (r : Run) (side : MainSide) → IsMain r side → is_sent (sched (past r)).main_state ≡ false → side.end ≡ None
at_rest r side m f =
    let rest : IsAtRest r.script (pulls_of (past r)) (counted sends (past r)) side = subst (λ (b : Bool). IsMainOf r.script (pulls_of (past r)) (counted sends (past r)) side b) f m in
    rest.none

-- an end that is kept is that of the frame in flight
pub held_is : (r : Run) (side : MainSide) (e : MainEnd) → IsMain r side → side.end ≡ Some e → IsHeld r side e
held_is r side e m is = by_test (is_sent (sched (past r)).main_state) sent absent
  where
    sent : is_sent (sched (past r)).main_state ≡ true → IsHeld r side e
    sent t = record { sent = t; behind = in_flight r side m t (Some e) is }

    apart : (o : Option MainEnd) → o ≡ Some e → o ≡ None → ⊥
    apart None i j = absurd cc
    apart (Some x) i j = absurd cc

    absent : is_sent (sched (past r)).main_state ≡ false → IsHeld r side e
    absent f = absurd (apart side.end is (at_rest r side m f))

-- ---- the frame in flight is run

module _ (r : Run) (side : MainSide) (legal : Legal r.script r.workers (past r)) (m : IsMain r side) (none : side.end ≡ None) (k : ℕ) (ms : List Move) (told : Some (k, ms) ≡ told_frame r) where
  t : IsToldFrame r k ms
  t = told_frame_is r k ms told

  before : IsBefore r.script (pulls_of (past r)) (counted sends (past r)) side
  before = in_flight r side m t.sent None none

  same : before.frame ≡ k
  same =
      let last = before.last in
      let total : counted sends (past r) ≡ suc k = some_last r.script r.workers (past r) legal k t.last in
      omega (arith, last, total)

  pub frame_left : length side.host.sends < length side.host.script.main
  frame_left =
      let count = before.run.count in
      let last = before.last in
      let few : counted sends (past r) ≤ length r.script.main = sent_few r.script r.workers (past r) legal in
      let lt : length side.host.sends < length r.script.main = omega (arith, count, last, few) in
      subst (λ (s : ScriptModel). length side.host.sends < length s.main) (sym before.run.script) lt

  pub told_bounded : IsPlayable r.script → AreBounded ms
  told_bounded a = subst (λ (l : List Move). AreBounded l) (sym t.pulls) (pulls_bounded r.script r.workers (past r) k a legal)

  pub runs_frame : (host : MainHostModel) (e : MainEnd) (changed : Bool) → host ≡ with_frame side.host ms → IsEnd side.host ms e → changed ≡ is_ready e → IsMain r (record { host = host; end = Some e; changed = changed })
  runs_frame host e changed more ends so =
      subst (λ (b : Bool). IsMainOf r.script (pulls_of (past r)) (counted sends (past r)) (record { host = host; end = Some e; changed = changed }) b) (sym t.sent)
      (has_run r.script (pulls_of (past r)) (counted sends (past r)) before.frame side.host host ms e changed before.last before.run (t.pulls ∙ ap (pulls_of (past r)) (sym same)) more ends so)

-- ---- its end is handed over

module _ (r : Run) (side : MainSide) (legal : Legal r.script r.workers (past r)) (going : has_ended (past r) ≡ false) where
  module _ (c : CommitModel) (held : IsHeld r side (end.Ready c)) where
    pub ready_now : now r kind.Ready 1 ≡ Some (event.Ready c.frame)
    ready_now =
        let b = held.behind in
        ready_comes r.script r.workers (past r) legal going held.sent b.frame b.last b.ends.0 ∙ ap (λ j. Some (event.Ready j)) (sym b.ends.1)

    pub abort_not : now r kind.Abort 1 ≡ None
    abort_not = let b = held.behind in no_abort r.script r.workers (past r) legal going held.sent b.frame b.last b.ends.0

    pub after_ready : (new : Run) → new ≡ with_entry r 1 (event.Ready c.frame) → IsMain new (record { host = side.host; end = None; changed = side.changed })
    after_ready new is = main_after r new 1 (event.Ready c.frame) (record { host = side.host; end = None; changed = side.changed }) is (rests r.script (pulls_of (past r)) (counted sends (past r)) side (end.Ready c) held.behind)

  module _ (k : ℕ) (held : IsHeld r side (end.Abort k)) where
    pub abort_now : now r kind.Abort 1 ≡ Some (event.Abort k)
    abort_now =
        let b = held.behind in
        abort_comes r.script r.workers (past r) legal going held.sent b.frame b.last b.ends.0 ∙ ap (λ j. Some (event.Abort j)) (sym b.ends.1)

    pub ready_not : now r kind.Ready 1 ≡ None
    ready_not = let b = held.behind in no_ready r.script r.workers (past r) legal going held.sent b.frame b.last b.ends.0

    pub after_abort : (new : Run) → new ≡ with_entry r 1 (event.Abort k) → IsMain new (record { host = side.host; end = None; changed = side.changed })
    after_abort new is = main_after r new 1 (event.Abort k) (record { host = side.host; end = None; changed = side.changed }) is (rests r.script (pulls_of (past r)) (counted sends (past r)) side (end.Abort k) held.behind)
