-- The samples have the colours and the groups of the layers.
use Rattle.std.proofs.Common.{◌≡◌, ◌≤◌, List, length, map, get_or, ap, sym, ◌∙◌, arith, rules}
use Rattle.std.specs.Prelude.{FitsSigned}
use Rattle.std.specs.Int.{w32}
use Rattle.std.proofs.lemmas.Int.{to_z-of_z}
use Rattle.std.proofs.lemmas.Grind.{common_steps}
use Rattle.page_layers.specs.declared.paint.Group.{Group}
use Rattle.page_layers.specs.declared.paint.LayerSample.{LayerSample}
use Rattle.page_layers.specs.inner.LayerSamples.{colour_of}
use Rattle.page_layers.specs.Paintings.{Ready, Placed, placed_colour}
use Rattle.page_layers.proofs.SampleColours.{each-sample, lists_of, painted}
use Rattle.page_layers.proofs.tree_paint.Painting.pixel.Goals as goal

pub paint_from-requires-clause-few : goal.paint_from-requires-clause-few
paint_from-requires-clause-few c = λ k d lt.
    let written : c.as_slice-2.result.now ≡ c.set_colours.new.samples = grind (arith, common_steps) in
    let same : map (λ (s : LayerSample). s.groups.items) c.self.inside.samples.items ≡ lists_of c.as_slice-2.result.now =
    sym (ap lists_of written ∙ c.set_colours.ensures.groups ∙ ap lists_of c.as_mut_slice.ensures.value) in
    let few : length (get_or c.as_slice-2.result.now k d).groups.items ≤ 256 = each-sample (λ (gs : List Group). length gs ≤ 256) c.as_slice-2.result.now (map (λ (s : LayerSample). s.groups.items) c.self.inside.samples.items) same c.self.invariant.2 k d lt in
    search (rules, few)

pub returns-clause-value : goal.returns-clause-value
returns-clause-value c = λ p offset missing shows.
    let x : FitsSigned w32 c.args.x = search rules in
    let y : FitsSigned w32 c.args.y = search rules in
    let written : c.as_slice-2.result.now ≡ c.set_colours.new.samples = grind (arith, common_steps) in
    let colours = simp to_z-of_z at c.set_colours.ensures.colours in
    let view = c.self.view_is in
    painted p offset missing c.args.self.now c.as_slice-2.result.now c.args.background c.paint_from.result c.args.x c.args.y shows
    (ap lists_of written ∙ c.set_colours.ensures.groups ∙ ap lists_of c.as_mut_slice.ensures.value ∙ ap (λ (r : Ready). r.groups) view)
    (ap (λ (ss : List LayerSample). map colour_of ss) written ∙ colours ∙ ap (λ (ls : List Placed). map (placed_colour c.self.inside.tile c.args.x c.args.y) ls) c.as_slice.ensures.value ∙ ap (λ (r : Ready). map (placed_colour r.tile c.args.x c.args.y) r.layers) view)
    (λ opacity have. c.paint_from.ensures opacity have)
