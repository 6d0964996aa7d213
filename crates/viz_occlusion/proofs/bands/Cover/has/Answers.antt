-- An area is columns and rows.
use Rattle.std.proofs.Common.{rules, ◌∙◌, subst, List, FitsSigned}
use Rattle.std.proofs.lemmas.Int.{to_z-of_z}
use mir.Syntax.{w32}
use Rattle.geom.specs.declared.Rect.{Rect}
use Rattle.viz_occlusion.specs.inner.Bands.{IsInBands, HasGap}
use Rattle.viz_occlusion.proofs.BandSteps.{area_in_bands, area_gap}
use Rattle.viz_occlusion.proofs.bands.Cover.has.Goals as goal

pub returns-clause-yes : goal.returns-clause-yes
returns-clause-yes c =
    let fx : FitsSigned w32 c.args.area.x = search rules in
    let fy : FitsSigned w32 c.args.area.y = search rules in
    let fw : FitsSigned w32 c.args.area.w = search rules in
    let fh : FitsSigned w32 c.args.area.h = search rules in
    let fr : FitsSigned w32 c.end_of-right.result = search rules in
    let fb : FitsSigned w32 c.end_of-bottom.result = search rules in
    let r = simp to_z-of_z at c.end_of-right.ensures in
    let b = simp to_z-of_z at c.end_of-bottom.ensures in
    let yes = simp to_z-of_z at c.are_bands_covered.ensures.yes in
    λ t. subst (λ (bs : List (List Rect)). IsInBands c.args.area bs) (c.as_slice.ensures.value ∙ c.self.view_is)
    (area_in_bands c.args.area c.as_slice.result.now c.end_of-right.result c.end_of-bottom.result r b (yes t))

pub returns-clause-no : goal.returns-clause-no
returns-clause-no c =
    let fx : FitsSigned w32 c.args.area.x = search rules in
    let fy : FitsSigned w32 c.args.area.y = search rules in
    let fw : FitsSigned w32 c.args.area.w = search rules in
    let fh : FitsSigned w32 c.args.area.h = search rules in
    let fr : FitsSigned w32 c.end_of-right.result = search rules in
    let fb : FitsSigned w32 c.end_of-bottom.result = search rules in
    let r = simp to_z-of_z at c.end_of-right.ensures in
    let b = simp to_z-of_z at c.end_of-bottom.ensures in
    let no = simp to_z-of_z at c.are_bands_covered.ensures.no in
    λ f. subst (λ (bs : List (List Rect)). HasGap c.args.area bs) (c.as_slice.ensures.value ∙ c.self.view_is)
    (area_gap c.args.area c.as_slice.result.now c.end_of-right.result c.end_of-bottom.result r b (no f))
