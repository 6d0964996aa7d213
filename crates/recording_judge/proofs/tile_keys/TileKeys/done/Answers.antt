-- The key is ready where it is live, and the queue takes its tile.
use Rattle.std.proofs.Common.{◌&&◌, ◌||◌, refl, ◌∙◌, ap}
use Rattle.geom.specs.KeyLists.{same_key, has_key}
use Rattle.recording_judge.proofs.TileSteps.{queue_flies, queue_lacks, done_holds}
use Rattle.recording_judge.proofs.tile_keys.TileKeys.done.Goals as goal

pub finish_in-requires-clause-some : goal.finish_in-requires-clause-some
finish_in-requires-clause-some c = let r = c.requires in queue_flies r.script r.workers r.past r.actor c.args.worker c.args.key r.legal c.args.self.now r.holds c.args.tile r.is_tile

pub finish_in-requires-clause-new : goal.finish_in-requires-clause-new
finish_in-requires-clause-new c = let r = c.requires in queue_lacks r.script r.workers r.past r.actor c.args.worker c.args.key r.legal c.args.self.now r.holds c.args.tile r.is_tile

pub returns : goal.returns
returns c = λ s n h a lt holds legal is_tile.
    done_holds s n h a c.args.worker c.args.key legal c.args.self.now holds c.args.tile is_tile _
    (λ k. c.in_ok-insert_live.ensures k ∙ ap (λ b. (b && same_key c.args.key k) || has_key c.args.self.now.ready k) c.is_some.ensures) refl c.put_held.ensures.count c.put_held.ensures.held c.finish_in.ensures
