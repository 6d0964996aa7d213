-- The quads are drawn over the colour, and the bytes after them stay.
use Rattle.std.proofs.Common.{◌≡◌, ◌*◌, length, drop, arith, refl}
use Rattle.std.proofs.lemmas.List.{length-take}
use Rattle.std.proofs.lemmas.Int.{clamps}
use Rattle.pixel.proofs.Parts.{run_premultiplied}
use Rattle.page_display_list.specs.Bitmaps.{near}
use Rattle.viz_scene.specs.Views.{quads_view}
use Rattle.viz_render.proofs.PassSteps.{shows_seen, front_premultiplied}
use Rattle.viz_render.proofs.passes.draw_over.Goals as goal

pub returns-clause-pixels : goal.returns-clause-pixels
returns-clause-pixels c =
    let area : c.width_of.result * c.height_of.result ≡ near c.args.area.w * near c.args.area.h = rw (c.width_of.ensures, c.height_of.ensures) refl in
    let taken = length-take (4 * (c.width_of.result * c.height_of.result)) c.args.bytes.now in
    shows_seen (length c.args.quads.now) c.args.area c.args.mask.now.tops c.args.passes.now c.args.below (quads_view c.args.quads.now) c.draw_quads.new.surface
    (drop (4 * (c.width_of.result * c.height_of.result)) c.args.bytes.now) (omega (arith, clamps)) c.draw_quads.ensures.pixels

pub returns-clause-premultiplied : goal.returns-clause-premultiplied
returns-clause-premultiplied c = λ old.
    let area : c.width_of.result * c.height_of.result ≡ near c.args.area.w * near c.args.area.h = rw (c.width_of.ensures, c.height_of.ensures) refl in
    let taken = length-take (4 * (c.width_of.result * c.height_of.result)) c.args.bytes.now in
    front_premultiplied (c.width_of.result * c.height_of.result) c.draw_quads.new.surface c.args.bytes.now (omega (arith, clamps)) (omega arith)
    (c.draw_quads.ensures.premultiplied
    (run_premultiplied 0 (c.width_of.result * c.height_of.result) (4 * (c.width_of.result * c.height_of.result)) c.args.bytes.now refl (omega arith) old)) old
