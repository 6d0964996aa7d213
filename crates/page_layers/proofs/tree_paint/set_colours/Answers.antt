-- One sample more has its colour.
use Rattle.std.proofs.Common.{refl, ◌∙◌, arith, rules}
use Rattle.std.specs.Prelude.{FitsSigned}
use Rattle.std.specs.Int.{w32}
use Rattle.std.proofs.lemmas.Int.{to_z-of_z}
use Rattle.std.proofs.Math.Seq.{map-set_same}
use Rattle.page_layers.specs.declared.paint.LayerSample.{LayerSample}
use Rattle.page_layers.specs.Paintings.{placed_colour}
use Rattle.page_layers.proofs.SampleColours.{colours_more, colours_all}
use Rattle.page_layers.proofs.tree_paint.set_colours.Goals as goal

pub loop-i-preserved : goal.loop-i-preserved
loop-i-preserved c =
    let x : FitsSigned w32 c.args.x = search rules in
    let y : FitsSigned w32 c.args.y = search rules in
    let old = simp to_z-of_z at c.loop-i.invariant.colours in
    let new = simp to_z-of_z at c.colour_at.ensures in
    simp to_z-of_z (record {
      colours = colours_more (placed_colour c.args.tile c.args.x c.args.y) c.args.layers.now c.loop-i.samples c.loop-i.i _ c.index-layers-i.result (omega arith) (omega arith) old c.index-layers-i.is new;
      groups = map-set_same (λ (s : LayerSample). s.groups.items) c.loop-i.samples c.loop-i.i _ c.index-samples-i.result refl ∙ c.loop-i.invariant.groups;
    })

pub returns-clause-colours : goal.returns-clause-colours
returns-clause-colours c =
    let x : FitsSigned w32 c.args.x = search rules in
    let y : FitsSigned w32 c.args.y = search rules in
    let old = simp to_z-of_z at c.loop-i.invariant.colours in
    colours_all (placed_colour c.args.tile c.args.x c.args.y) c.args.layers.now c.loop-i.samples c.loop-i.i (omega arith) (omega arith) old
