-- One layer less is to be looked at.
use Rattle.std.proofs.Common.{◌∙◌, refl, sym}
use Rattle.geom.specs.Sides.{IsLayerSide}
use Rattle.page_properties.specs.OffsetMap.{offset_at}
use Rattle.page_properties.specs.Placement.{translation, draws}
use Rattle.page_properties.proofs.Chains.{follow_the_parent}
use Rattle.page_layers.specs.Layers.{parts_of}
use Rattle.page_layers.specs.Hits.{covers_point}
use Rattle.page_layers.specs.declared.layer.Layer.{Layer}
use Rattle.page_hit_test.specs.inner.Found.{is_open_at}
use Rattle.page_hit_test.proofs.Placings.{open_root}
use Rattle.page_hit_test.proofs.TopmostSteps.{step_down, found, passed, all_front}
use Rattle.page_hit_test.proofs.targets.topmost.Goals as goal

pub loop-layer-init : goal.loop-layer-init
loop-layer-init c =
    let offset = offset_at c.args.offsets.now in
    let t = c.args.tree.now.props in
    record {
      same = refl;
      sizes = c.requires.sizes;
      places = c.root_place-places.ensures (translation offset t.transforms) (follow_the_parent.root_translation offset t c.requires.trees);
      clips = c.root_holds-clips.ensures (is_open_at offset t c.args.p) (open_root offset t c.requires.trees c.args.p);
      effects = c.root_holds-effects.ensures (draws t.effects) (follow_the_parent.root_draws t c.requires.trees);
    }

pub returns-then-id-ne0 : goal.returns-then-id-ne0
returns-then-id-ne0 c =
    let s = step_down parts_of (covers_point c.args.tree.now (offset_at c.args.offsets.now) c.args.p.x c.args.p.y) c.loop-layer.rest.now c.in-Some.below.now c.in-Some.layer.now c.covering_id-id.result c.in-Some.ensures.cases.0 c.covering_id-id.ensures.value in
    sym (sym c.loop-layer.invariant.same ∙ s ∙ found c.covering_id-id.result _ c.if-id-ne0.true)

pub loop-layer-preserved : goal.loop-layer-preserved
loop-layer-preserved c =
    let s = step_down parts_of (covers_point c.args.tree.now (offset_at c.args.offsets.now) c.args.p.x c.args.p.y) c.loop-layer.rest.now c.in-Some.below.now c.in-Some.layer.now c.covering_id-id.result c.in-Some.ensures.cases.0 c.covering_id-id.ensures.value in
    record {
      same = sym (s ∙ passed c.covering_id-id.result _ c.if-id-ne0.false) ∙ c.loop-layer.invariant.same;
      sizes = all_front (λ (w : Layer). IsLayerSide w.w × IsLayerSide w.h) c.loop-layer.rest.now c.in-Some.below.now c.in-Some.layer.now c.in-Some.ensures.cases.0 c.loop-layer.invariant.sizes;
      places = c.covering_id-id.ensures.places;
      clips = c.covering_id-id.ensures.clips;
      effects = c.covering_id-id.ensures.effects;
    }
