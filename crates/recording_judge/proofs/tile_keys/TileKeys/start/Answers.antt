-- The keys and the queue start the key.
use Rattle.std.proofs.Common.{not, ◌&&◌, refl, ◌∙◌, ap}
use Rattle.geom.specs.KeyLists.{has_key}
use Rattle.recording_judge.proofs.TileSteps.{may_start_with, start_holds}
use Rattle.recording_judge.proofs.tile_keys.TileKeys.start.Goals as goal

pub start_in-requires : goal.start_in-requires
start_in-requires c = let r = c.requires in may_start_with r.script r.workers r.past r.actor c.args.worker c.args.key c.args.evicted.now r.legal c.args.self.now r.holds

pub returns : goal.returns
returns c = λ s n h a lt holds legal.
    start_holds s n h a c.args.worker c.args.key c.args.evicted.now legal c.args.self.now holds _
    (λ k. c.remove_all.ensures k ∙ ap (λ ks. has_key c.args.self.now.ready k && not (has_key ks k)) c.as_slice.ensures) refl c.put_held.ensures.count c.put_held.ensures.held c.start_in.ensures
