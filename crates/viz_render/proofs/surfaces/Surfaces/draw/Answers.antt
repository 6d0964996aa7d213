-- The surfaces keep their room, and what is drawn fits into it.
use Rattle.std.proofs.Common.{refl, arith}
use Rattle.page_display_list.specs.Bitmaps.{near}
use Rattle.viz_render.proofs.SceneSteps.{strip_size, room_for}
use Rattle.viz_render.proofs.surfaces.Surfaces.draw.Goals as goal

pub invariant_of-self : goal.invariant_of-self
invariant_of-self c =
    let ready = rw (← c.self.view_is) at c.requires.ready.passes in
    let room = c.draw_scene.ensures.room _ (room_for _ _ c.self.inside.passes ready c.self.invariant.room) in
    record {
      some = c.self.invariant.some;
      low = c.self.invariant.low;
      room = record { count = refl; inner = room.inner; root = room.root };
    }

pub returns-clause-size : goal.returns-clause-size
returns-clause-size c =
    let ready = rw (← c.self.view_is) at c.requires.ready.passes in
    let room = c.draw_scene.ensures.room _ (room_for _ _ c.self.inside.passes ready c.self.invariant.room) in
    let narrow = rw (← c.self.view_is) at c.requires.narrow in
    let low = rw (← c.self.view_is) at c.requires.low in
    let fit = strip_size (near c.args.area.w) (near c.args.area.h) c.self.inside.width c.self.inside.rows narrow low in
    let had = room.root in
    omega arith
