use Rattle.std.proofs.Common.{ℕ, ◌≡◌, ◌≤◌, ◌+◌, suc, All, vec_len, arith, add-one, ap, ◌∙◌, drop}
use Rattle.std.proofs.lemmas.List.Elements.{All-drop, All-rest, All-same}
use Rattle.pixel.specs.Colours.{clear}
use Rattle.page_layers.specs.declared.paint.Group.{Group}
use Rattle.page_layers.specs.declared.paint.LayerSample.{LayerSample}
use Rattle.page_layers.specs.Painting.{folded, items_at}
use Rattle.page_layers.specs.inner.LayerSamples.{groups_of, colour_of}
use Rattle.page_layers.proofs.SampleSteps.{run_not_empty, group_turn, layer_turn}
use Rattle.page_layers.proofs.paint.+paint_from.Goals as goal

pub loop-first-smaller-then-depth-len : goal.loop-first-smaller-then-depth-len
loop-first-smaller-then-depth-len t c =
    let some : 1 ≤ c.run_len.result = run_not_empty c.args.depth c.run_len.result c.loop-first.rest.now c.in-Some.tail.now c.in-Some.first.now c.index-group.result.now c.in-Some.ensures.cases.0 (omega arith) c.index-group.ensures c.run_len.ensures.value in
    omega (arith, some)

pub loop-first-preserved-then-depth-len : goal.loop-first-preserved-then-depth-len
loop-first-preserved-then-depth-len t c =
    let back = c.split_at.ensures.back in
    let same : c.args.depth + 1 ≡ suc c.args.depth = add-one c.args.depth in
    record {
      few = All-same (λ (s : LayerSample). vec_len s.groups ≤ 256) c.split_at.result.1.now (drop c.run_len.result c.loop-first.rest.now) back (All-drop (λ (s : LayerSample). vec_len s.groups ≤ 256) c.run_len.result c.loop-first.rest.now c.loop-first.invariant.few);
      painted = λ opacity all.
          let old = c.loop-first.invariant.painted opacity all in (
            All-same (λ (s : LayerSample). All (λ (g : Group). opacity g.effect ≡ g.opacity) s.groups.items) c.split_at.result.1.now (drop c.run_len.result c.loop-first.rest.now) back (All-drop (λ (s : LayerSample). All (λ (g : Group). opacity g.effect ≡ g.opacity) s.groups.items) c.run_len.result c.loop-first.rest.now old.0),
            group_turn opacity c.args.depth c.run_len.result c.loop-first.rest.now c.split_at.result.0.now c.split_at.result.1.now c.in-Some.tail.now c.in-Some.first.now c.index-group.result.now c.loop-first.colour c.paint_from-inner.result c.scale.result c.over-colour.result c.in-Some.ensures.cases.0 (omega arith) c.index-group.ensures c.run_len.ensures.value c.split_at.ensures.front back old.0 (λ have. c.paint_from-inner.ensures opacity have ∙ ap (λ (d : ℕ). folded opacity (items_at groups_of colour_of d c.split_at.result.0.now) clear) same) c.scale.ensures.value c.over-colour.ensures.value
                ∙ old.1,
          );
    }

pub loop-first-preserved : goal.loop-first-preserved
loop-first-preserved t c = record {
  few = All-rest (λ (s : LayerSample). vec_len s.groups ≤ 256) c.in-Some.first.now c.in-Some.tail.now c.loop-first.rest.now c.in-Some.ensures.cases.0 c.loop-first.invariant.few;
  painted = λ opacity all.
      let old = c.loop-first.invariant.painted opacity all in (
        All-rest (λ (s : LayerSample). All (λ (g : Group). opacity g.effect ≡ g.opacity) s.groups.items) c.in-Some.first.now c.in-Some.tail.now c.loop-first.rest.now c.in-Some.ensures.cases.0 old.0,
        layer_turn opacity c.args.depth c.loop-first.rest.now c.in-Some.tail.now c.in-Some.first.now c.loop-first.colour c.over-colour-else-depth-len.result c.in-Some.ensures.cases.0 (omega arith) c.over-colour-else-depth-len.ensures.value
            ∙ old.1,
      );
}
