use Rattle.std.proofs.Common.{◌≤◌, ◌-◌, Option, Some, sym, subst, arith, vec_capacity}
use Rattle.std.specs.Prelude.{IfSome}
use Rattle.tile_priority.specs.Tiles.{Tile}
use Rattle.tile_priority.specs.Choice.{Choice}
use Rattle.tile_priority.specs.Alike.{Alike, finished}
use Rattle.tile_queue.specs.Queues.{IsNew}
use Rattle.tile_queue.specs.inner.Orders.{choice_of}
use Rattle.tile_queue.proofs.Changes.{IsFinished, finish_all}
use Rattle.tile_queue.proofs.queue.RasterQueue.finished.Goals as goal

done : (c : goal.After-keep) → IsFinished c.self.inside.wanted.items c.self.inside.staying.items c.self.inside.evictables.items c.self.inside.in_flight c.self.inside.budget c.self.inside.wanted.room (vec_capacity c.keep.new.staying) c.keep.new.evictables.room c.in-Some.tile c.keep.new.staying.items c.keep.new.evictables.items
done c =
    let n : IsNew c.args.self.now c.in-Some.tile.key = subst (λ (o : Option Tile). IfSome o (λ t. IsNew c.args.self.now t.key)) c.in-Some.is c.requires.new in
    let l : 1 ≤ c.self.inside.in_flight = subst (λ (z : Choice). 1 ≤ z.in_flight) (sym c.self.view_is) c.requires.some in
    finish_all c.self.inside.wanted.items c.self.inside.staying.items c.keep.new.staying.items c.self.inside.evictables.items c.keep.new.evictables.items c.self.inside.in_flight c.self.inside.budget
    c.self.inside.wanted.room (vec_capacity c.self.inside.staying) c.self.inside.evictables.room (vec_capacity c.keep.new.staying) c.keep.new.evictables.room c.in-Some.tile c.self.invariant (subst (λ (z : Choice). IsNew z c.in-Some.tile.key) (sym c.self.view_is) n) l c.keep.ensures.kept_capacity (omega (arith, c.keep.ensures.evictables_room)) c.keep.ensures.remains c.keep.ensures.yields

pub invariant_of-self : goal.invariant_of-self
invariant_of-self c = (done c).queue

pub returns-in-Some : goal.returns-in-Some
returns-in-Some c =
    subst (λ (o : Option Tile). Alike (choice_of c.self.inside.wanted.items c.keep.new.staying.items c.keep.new.evictables.items (c.self.inside.in_flight - 1) c.self.inside.budget) (finished c.args.self.now o)) (sym c.in-Some.is)
    (subst (λ (z : Choice). Alike (choice_of c.self.inside.wanted.items c.keep.new.staying.items c.keep.new.evictables.items (c.self.inside.in_flight - 1) c.self.inside.budget) (finished z (Some c.in-Some.tile))) c.self.view_is (done c).alike)
