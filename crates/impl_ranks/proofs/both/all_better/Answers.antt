-- One layer more.
use Rattle.std.proofs.Common.{◌≡◌, ◌++◌, [], List, filter_map, take, ap, ◌∙◌, arith}
use Rattle.std.specs.List.{flat_map}
use Rattle.std.proofs.lemmas.List.{take_all}
use Rattle.tile_priority.specs.declared.rank.Rank.{Rank}
use Rattle.tile_priority.specs.declared.rank.Side.TheVariants as side
use Rattle.impl_ranks.specs.SeenTrees.{SeenLayerModel}
use Rattle.impl_ranks.specs.inner.Lists.{layer_at, near_ranks}
use Rattle.impl_ranks.specs.inner.Pairs.{Pair, better_beside, better_near}
use Rattle.impl_ranks.proofs.LoopFacts.{flat_more}
use Rattle.impl_ranks.proofs.Pairs.{better_all}
use Rattle.impl_ranks.proofs.both.all_better.Goals as goal

pub loop-layer-preserved : goal.loop-layer-preserved
loop-layer-preserved c =
    let v = c.layer-item.result in
    let others = c.args.others.now in
    let other = c.layer_at-other.ensures ∙ ap (λ n. layer_at n others) c.id.ensures in
    let pushed : Pair → List Rank = λ p. c.loop-layer.all.items ++ filter_map (better_beside p.theirs p.other) (near_ranks p.borders side.Active p.layer) in
    let one = ap (λ o. pushed (record { borders = c.args.borders.now; layer = v; theirs = c.args.theirs.now; other = o })) other in
    let here = ap (λ (z : SeenLayerModel). c.loop-layer.all.items ++ better_near c.args.borders.now c.args.theirs.now others z) c.layer-item.is in
    flat_more (better_near c.args.borders.now c.args.theirs.now others) c.args.layers.now c.loop-layer.layer-index v [] c.loop-layer.all.items c.push_better.new.ranks.items
    c.loop-layer-test.true c.loop-layer.invariant
    (c.in_ok-push_better.ensures ∙ (ap pushed c.new-pair.ensures ∙ (one ∙ here)))

pub returns : goal.returns
returns c =
    let all : take c.loop-layer.layer-index c.args.layers.now ≡ c.args.layers.now = take_all c.loop-layer.layer-index c.args.layers.now (omega (arith, c.loop-layer.auto.layer-index-end, c.loop-layer-test.false)) in
    c.loop-layer.invariant
    ∙ (ap (λ ls. flat_map (better_near c.args.borders.now c.args.theirs.now c.args.others.now) ls) all
    ∙ ap (λ (rs : List Rank). rs) (better_all c.args.borders.now c.args.theirs.now c.args.others.now c.args.layers.now))
