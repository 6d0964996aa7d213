use Rattle.std.proofs.Common.{◌≡◌, ◌<◌, false, ap, subst, sym, arith}
use Rattle.std.specs.Prelude.{length}
use Rattle.model_states.specs.Kinds.{is_sent}
use Rattle.model_history.specs.Frames.{is_left}
use Rattle.model_history.specs.Legal.{sched}
use Rattle.model_history.proofs.GrownPlays.{playable_main_frame}
use Rattle.impl_log.specs.Runs.{Run, past}
use Rattle.cc_live.specs.Calls.{most_told}
use Rattle.cc_live.specs.Lives.{LiveModel, open_of}
use Rattle.cc_live.proofs.MainSides.{side_frame_told}
use Rattle.cc_live.proofs.ToldRuns.{frame_told}
use Rattle.cc_live.proofs.live.Live.tell_frame.Goals as goal

pub add_frame-requires-clause-playable : goal.add_frame-requires-clause-playable
add_frame-requires-clause-playable c =
    let s = c.self.inside.core.script in
    let room : length s.main < most_told = subst (λ (l : LiveModel). length l.run.script.main < most_told) (sym c.self.view_is) c.requires.room in
    playable_main_frame s c.is_legal.ensures.playable (omega (arith, room))

pub add_frame-requires-clause-looked : goal.add_frame-requires-clause-looked
add_frame-requires-clause-looked c = c.self.invariant.0.told.looked

pub invariant_of-self : goal.invariant_of-self
invariant_of-self c = (
  frame_told c.self.inside.core c.add_frame.new.self c.self.inside.waits c.self.inside.jobs.items c.add_frame.ensures
      (subst (λ (r : Run). is_left r.script (past r) ≡ false) (sym (ap (λ (l : LiveModel). l.run) c.self.view_is)) c.requires.none)
      (subst (λ (r : Run). is_sent (sched (past r)).main_state ≡ false) (sym (ap (λ (l : LiveModel). l.run) c.self.view_is)) c.requires.free)
      c.self.invariant.0,
  side_frame_told c.self.inside.core c.add_frame.new.self c.self.inside.main.value (open_of c.self.inside.open_frame) c.add_frame.ensures c.self.invariant.1,
)
