-- Each row adds what it writes to what was written.
use Rattle.std.proofs.Common.{ℕ, ◌+◌, ◌-◌, ◌*◌, List, arith, subst, ap}
use Rattle.pixel.specs.Rows.{pixel}
use Rattle.viz_canvas.specs.Formats.{bytes_at}
use Rattle.viz_canvas.specs.inner.Parts.{PartOf}
use Rattle.viz_canvas.proofs.Bytes.{in_order, no_more}
use Rattle.viz_canvas.proofs.EachSteps.{row_step}
use Rattle.viz_canvas.proofs.StripSteps.{part_like, picture_place}
use Rattle.viz_canvas.proofs.strip.write_area.Goals as goal

pub place_of-place-requires-clause-small : goal.place_of-place-requires-clause-small
place_of-place-requires-clause-small g c =
    let some = no_more g.F.PixelFormat.DEPTH (c.args.size.width * c.args.size.height) g.met.F.PixelFormat.some in
    omega (arith, some, c.requires.size)

pub write_run-requires-clause-there : goal.write_run-requires-clause-there
write_run-requires-clause-there g c =
    let fits = in_order g.F.PixelFormat.DEPTH (c.place_of-place.result + c.args.at.w) (c.args.size.width * c.args.size.height) c.place_of-place.ensures.inside in
    omega (arith, fits, c.requires.size)

pub loop-row-preserved : goal.loop-row-preserved
loop-row-preserved g c =
    let d = g.F.PixelFormat.DEPTH in
    let bytes_of = g.F.PixelFormat.bytes_of in
    let at = c.args.at in
    let row = c.loop-row.row in
    let drawn = c.args.drawn.now in
    let wanted : ℕ → List ℕ → List ℕ = λ j below. bytes_of (pixel drawn ((at.y + row - at.y) * at.w + (at.x + j - at.x))) in
    let there =
    part_like (bytes_at d) c.place_of-place.result at.w (λ j below. bytes_of (pixel drawn (c.place_of-from.result + j))) wanted c.loop-row.bytes c.write_run.new.bytes c.write_run.ensures
    (λ j below lt. ap (λ (k : ℕ). bytes_of (pixel drawn k)) (picture_place at.x at.y at.w row j c.place_of-from.result c.place_of-from.ensures.value)) in
    let part = subst (λ (k : ℕ). PartOf (bytes_at d) k at.w wanted c.loop-row.bytes c.write_run.new.bytes) c.place_of-place.ensures.value there in
    row_step (bytes_at d) c.args.size.width c.args.size.height at (λ x y below. bytes_of (pixel drawn ((y - at.y) * at.w + (x - at.x)))) c.args.bytes.now c.loop-row.bytes c.write_run.new.bytes row
    c.requires.inside (omega arith) c.loop-row.invariant part
