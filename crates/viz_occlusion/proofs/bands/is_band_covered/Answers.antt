-- The rows of a band are those from its start on, as far as they are asked for.
use Rattle.std.proofs.Common.{rules, ◌∙◌, ap, ℤ, pos, ◌+ℤ◌, FitsSigned, arith}
use Rattle.std.specs.Int.{int_min, int_max}
use Rattle.std.proofs.lemmas.Int.{ints, to_z-of_z}
use mir.Syntax.{w32}
use Rattle.viz_occlusion.proofs.BandSteps.{block_of_band, open_in_band}
use Rattle.viz_occlusion.proofs.bands.is_band_covered.Goals as goal

pub returns-clause-yes : goal.returns-clause-yes
returns-clause-yes c =
    let rl = c.ranges.left in
    let rr = c.ranges.right in
    let rt = c.ranges.top in
    let rb = c.ranges.bottom in
    let fs : FitsSigned w32 c.start_of-start.result = search rules in
    let fm : FitsSigned w32 c.max.result = search rules in
    let fn : FitsSigned w32 c.min.result = search rules in
    let s = c.start_of-start.ensures in
    let few = c.requires.band in
    let fe : FitsSigned w32 (c.start_of-start.result +ℤ pos 32) = omega (arith, ints, s, few) in
    let m = simp to_z-of_z at c.max.ensures.value in
    let n = simp to_z-of_z at c.min.ensures.value in
    let yes = simp to_z-of_z at c.are_rows_covered.ensures.yes in
    λ t. block_of_band c.args.band c.args.rects.now c.args.left c.args.right c.args.top c.args.bottom c.max.result c.min.result (m ∙ ap (int_max c.args.top) s)
    (n ∙ ap (λ (z : ℤ). int_min c.args.bottom (z +ℤ pos 32)) s) (yes t)

pub returns-clause-no : goal.returns-clause-no
returns-clause-no c =
    let rl = c.ranges.left in
    let rr = c.ranges.right in
    let rt = c.ranges.top in
    let rb = c.ranges.bottom in
    let fs : FitsSigned w32 c.start_of-start.result = search rules in
    let fm : FitsSigned w32 c.max.result = search rules in
    let fn : FitsSigned w32 c.min.result = search rules in
    let s = c.start_of-start.ensures in
    let few = c.requires.band in
    let fe : FitsSigned w32 (c.start_of-start.result +ℤ pos 32) = omega (arith, ints, s, few) in
    let m = simp to_z-of_z at c.max.ensures.value in
    let n = simp to_z-of_z at c.min.ensures.value in
    let no = simp to_z-of_z at c.are_rows_covered.ensures.no in
    λ f. open_in_band c.args.band c.args.rects.now c.args.left c.args.right c.args.top c.args.bottom c.max.result c.min.result (m ∙ ap (int_max c.args.top) s)
    (n ∙ ap (λ (z : ℤ). int_min c.args.bottom (z +ℤ pos 32)) s) (no f)
