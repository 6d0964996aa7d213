-- All bands that the rect meets have its points.
use Rattle.std.proofs.Common.{rules, ◌*◌, pos, ℤ, ◌≤ℤ◌, subst, List, FitsSigned}
use Rattle.std.proofs.lemmas.Int.{to_z-of_z}
use mir.Syntax.{w32}
use Rattle.geom.specs.declared.Rect.{Rect}
use Rattle.viz_occlusion.specs.inner.Bands.{GainsInBands}
use Rattle.viz_occlusion.proofs.BandSteps.{gains_all}
use Rattle.viz_occlusion.proofs.bands.Cover.add.Goals as goal

pub returns : goal.returns
returns c =
    let fy : FitsSigned w32 c.args.rect.y = search rules in
    let fh : FitsSigned w32 c.args.rect.h = search rules in
    let fe : FitsSigned w32 c.end_of.result = search rules in
    let e = simp to_z-of_z at c.end_of.ensures in
    let row = simp to_z-of_z at c.band_of-first.ensures.row in
    let below = simp to_z-of_z at c.band_after-end.ensures.below in
    subst (λ (bs : List (List Rect)). GainsInBands bs c.add_to_bands.new.bands.items c.args.rect) c.self.view_is
    (gains_all c.band_of-first.result c.band_after-end.result c.self.inside.bands.items c.add_to_bands.new.bands.items c.args.rect row
    (subst (λ (z : ℤ). z ≤ℤ pos (32 * c.band_after-end.result)) e below) c.in_ok-add_to_bands.ensures.gains)
