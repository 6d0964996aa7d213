-- The scrollers are moved, and the queue goes.
use Rattle.std.proofs.Common.{◌∷◌, refl}
use Rattle.impl_log.specs.Runs.{past}
use Rattle.recording_judge.specs.inner.States.{entry}
use Rattle.recording_judge.proofs.HostFacts.{scroll_is_none}
use Rattle.recording_judge.proofs.MainSteps.{main_stays}
use Rattle.recording_judge.proofs.StateFacts.{scroll_keys}
use Rattle.recording_judge.proofs.state.State.step_moves.Goals as goal

pub move_host-requires : goal.move_host-requires
move_host-requires c =
    let r = c.args.self.now.log in
    let m = c.requires.may in
    record {
      script = r.script;
      workers = r.workers;
      past = past r;
      entry = entry c.args.actor c.args.event.now;
      playable = m.playable;
      legal = m.legal;
      scroll = c.requires.scroll;
      moves = c.requires.moves;
      hosts = m.state.host;
    }

pub returns : goal.returns
returns c =
    let r = c.args.self.now.log in
    let s = r.script in
    let n = r.workers in
    let h = past r in
    let a = c.args.actor in
    let e = c.args.event.now in
    let m = c.requires.may in
    record {
      log = refl;
      keeps = record {
        host = c.in_ok-move_host.ensures s n h (entry a e) m.legal c.requires.scroll c.requires.moves m.state.host;
        tiles = c.forget_queue.ensures s n h (entry a e ∷ h) m.state.tiles (scroll_keys s h a e c.requires.scroll);
        main = main_stays s n h a c.args.self.now.main e m.legal (scroll_is_none e c.requires.scroll).sends m.state.main;
      };
    }
