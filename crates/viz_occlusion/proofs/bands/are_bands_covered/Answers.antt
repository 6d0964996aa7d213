-- One band more is covered, or one is open.
use Rattle.std.proofs.Common.{rules, ◌<◌, length, arith}
use Rattle.std.proofs.lemmas.Int.{to_z-of_z}
use Rattle.viz_occlusion.proofs.BandSteps.{band_at, block_at, open_at, bands_more}
use Rattle.viz_occlusion.proofs.bands.are_bands_covered.Goals as goal

pub returns-then-not-is_band_covered-clause-no : goal.returns-then-not-is_band_covered-clause-no
returns-then-not-is_band_covered-clause-no c =
    let rl = c.ranges.left in
    let rr = c.ranges.right in
    let rt = c.ranges.top in
    let rb = c.ranges.bottom in
    let lt : c.loop-band.band < length c.args.bands.now = omega (arith, c.loop-band-test.true, c.band_after-band-end.ensures.few, c.requires.many) in
    let at = band_at c.args.bands.now c.loop-band.band c.index-bands-band.result c.rects.result.now lt c.index-bands-band.is c.rects.ensures.value in
    let no = simp to_z-of_z at c.is_band_covered.ensures.no in
    λ f. open_at c.args.bands.now c.loop-band.band c.rects.result.now c.args.left c.args.right c.args.top c.args.bottom at (no (search rules))

pub loop-band-preserved : goal.loop-band-preserved
loop-band-preserved c =
    let rl = c.ranges.left in
    let rr = c.ranges.right in
    let rt = c.ranges.top in
    let rb = c.ranges.bottom in
    let lt : c.loop-band.band < length c.args.bands.now = omega (arith, c.loop-band-test.true, c.band_after-band-end.ensures.few, c.requires.many) in
    let at = band_at c.args.bands.now c.loop-band.band c.index-bands-band.result c.rects.result.now lt c.index-bands-band.is c.rects.ensures.value in
    let before = simp to_z-of_z at c.loop-band.invariant in
    let yes = simp to_z-of_z at c.is_band_covered.ensures.yes in
    simp to_z-of_z
    (bands_more c.loop-band.band c.args.bands.now c.args.left c.args.right c.args.top c.args.bottom before
    (block_at c.args.bands.now c.loop-band.band c.rects.result.now c.args.left c.args.right c.args.top c.args.bottom at (yes (search rules))))
