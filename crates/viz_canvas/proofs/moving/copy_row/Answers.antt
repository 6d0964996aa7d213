-- The row's pixels are one run, copied from the run of the same columns in the other row.
use Rattle.std.proofs.Common.{ℕ, ◌+◌, ◌*◌, List, ap, subst, arith}
use Rattle.viz_canvas.specs.Formats.{bytes_at}
use Rattle.viz_canvas.specs.inner.Parts.{PartOf}
use Rattle.viz_canvas.proofs.Bytes.{in_order, no_more}
use Rattle.viz_canvas.proofs.StripSteps.{part_like}
use Rattle.viz_canvas.proofs.moving.copy_row.Goals as goal

pub place_of-place-requires-clause-small : goal.place_of-place-requires-clause-small
place_of-place-requires-clause-small g c =
    let some = no_more g.F.PixelFormat.DEPTH (c.args.band.across * c.args.band.rows) g.met.F.PixelFormat.some in
    omega (arith, some, c.requires.size)

pub place_of-given-requires-clause-small : goal.place_of-given-requires-clause-small
place_of-given-requires-clause-small g c =
    let some = no_more g.F.PixelFormat.DEPTH (c.args.band.across * c.args.band.rows) g.met.F.PixelFormat.some in
    omega (arith, some, c.requires.size)

pub copy_run-requires-clause-given : goal.copy_run-requires-clause-given
copy_run-requires-clause-given g c =
    let fits = in_order g.F.PixelFormat.DEPTH (c.place_of-given.result + c.args.at.w) (c.args.band.across * c.args.band.rows) c.place_of-given.ensures.inside in
    omega (arith, fits, c.requires.size)

pub copy_run-requires-clause-there : goal.copy_run-requires-clause-there
copy_run-requires-clause-there g c =
    let fits = in_order g.F.PixelFormat.DEPTH (c.place_of-place.result + c.args.at.w) (c.args.band.across * c.args.band.rows) c.place_of-place.ensures.inside in
    omega (arith, fits, c.requires.size)

pub returns : goal.returns
returns g c =
    let read = bytes_at g.F.PixelFormat.DEPTH in
    let at = c.args.at in
    let old = c.args.bytes.now in
    let new = c.copy_run.new.bytes in
    let source = c.args.source * c.args.band.across in
    let wanted : ℕ → List ℕ → List ℕ = λ j below. read old (source + (at.x + j)) in
    let from = c.place_of-given.ensures.value in
    let there =
    part_like read c.place_of-place.result at.w (λ j below. read old (c.place_of-given.result + j)) wanted old new c.copy_run.ensures
    (λ j below lt. ap (read old) (omega (arith, from))) in
    subst (λ (k : ℕ). PartOf read k at.w wanted old new) c.place_of-place.ensures.value there
