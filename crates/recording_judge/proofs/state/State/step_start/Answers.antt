-- The worker holds the key.
use Rattle.std.proofs.Common.{refl}
use Rattle.model_history.specs.declared.event.Event.TheVariants as event
use Rattle.impl_log.specs.Runs.{past}
use Rattle.recording_judge.proofs.MainSteps.{main_stays}
use Rattle.recording_judge.proofs.StateFacts.{start_within}
use Rattle.recording_judge.proofs.state.State.step_start.Goals as goal

pub start-requires : goal.start-requires
start-requires c =
    let r = c.args.self.now.log in
    record {
      script = r.script;
      workers = r.workers;
      past = past r;
      actor = c.args.actor;
      within = start_within r.script r.workers (past r) c.args.actor c.args.worker c.args.key c.args.evicted.now c.requires.legal;
      holds = c.requires.state.tiles;
      legal = c.requires.legal;
    }

pub returns : goal.returns
returns c =
    let r = c.args.self.now.log in
    let s = r.script in
    let n = r.workers in
    let h = past r in
    let a = c.args.actor in
    let w = c.args.worker in
    let q = c.args.key in
    let ks = c.args.evicted.now in
    let k = c.requires.state in
    record {
      log = refl;
      keeps = record {
        host = k.host;
        tiles = c.start.ensures s n h a (start_within s n h a w q ks c.requires.legal) k.tiles c.requires.legal;
        main = main_stays s n h a c.args.self.now.main (event.Start w q ks) c.requires.legal refl k.main;
      };
    }
