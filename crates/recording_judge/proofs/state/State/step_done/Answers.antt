-- The worker holds nothing, and the tile is there where it is live.
use Rattle.std.proofs.Common.{◌∙◌, refl}
use Rattle.model_history.specs.declared.event.Event.TheVariants as event
use Rattle.impl_log.specs.Runs.{past}
use Rattle.recording_judge.proofs.MainSteps.{main_stays}
use Rattle.recording_judge.proofs.StateFacts.{done_within, on_ok}
use Rattle.recording_judge.proofs.state.State.step_done.Goals as goal

pub done-requires : goal.done-requires
done-requires c =
    let r = c.args.self.now.log in
    let h = past r in
    let k = c.requires.state in
    record {
      script = r.script;
      workers = r.workers;
      past = h;
      actor = c.args.actor;
      within = done_within r.script r.workers h c.args.actor c.args.worker c.args.key c.requires.legal;
      holds = k.tiles;
      legal = c.requires.legal;
      is_tile = c.tile-tile.ensures r.script h k.host c.plan.ensures (c.pinned-pinned.ensures r.script r.workers h k.tiles);
    }

pub returns : goal.returns
returns c =
    let r = c.args.self.now.log in
    let s = r.script in
    let n = r.workers in
    let h = past r in
    let a = c.args.actor in
    let w = c.args.worker in
    let q = c.args.key in
    let k = c.requires.state in
    on_ok c.done.result
    (λ holds.
    record {
      log = refl;
      keeps = record {
        host = k.host;
        tiles = holds s n h a (done_within s n h a w q c.requires.legal) k.tiles c.requires.legal (c.tile-tile.ensures s h k.host c.plan.ensures (c.pinned-pinned.ensures s n h k.tiles));
        main = main_stays s n h a c.args.self.now.main (event.DoneTile w q) c.requires.legal refl k.main;
      };
    })
    c.done.ensures
