-- One key more.
use Rattle.std.proofs.Common.{◌≡◌, ◌++◌, [], filter_map, take, ap, ◌∙◌, arith}
use Rattle.std.specs.List.{cons_option}
use Rattle.std.proofs.lemmas.List.{take_all}
use Rattle.tile_priority.specs.Tiles.{Tile}
use Rattle.model_steps.specs.Choices.{rank_in_both}
use Rattle.impl_ranks.proofs.LoopFacts.{option_more}
use Rattle.impl_choice.proofs.foreseen.ranks_of.Goals as goal

pub loop-key-preserved : goal.loop-key-preserved
loop-key-preserved c = λ a p left right.
    option_more (rank_in_both c.args.plan.now a p) c.args.keys.now c.loop-key.key-index _ [] c.loop-key.ranks.items c.push_rank.new.ranks.items c.loop-key-test.true (c.loop-key.invariant a p left right)
    (c.in_ok-push_rank.ensures ∙ ap (λ (t : Tile). c.loop-key.ranks.items ++ cons_option t.rank []) (c.one.view_is ∙ c.tile-one.ensures a p left right))

pub returns : goal.returns
returns c = λ a p left right.
    let all : take c.loop-key.key-index c.args.keys.now ≡ c.args.keys.now = take_all c.loop-key.key-index c.args.keys.now (omega (arith, c.loop-key.auto.key-index-end, c.loop-key-test.false)) in
    c.loop-key.invariant a p left right ∙ ap (filter_map (rank_in_both c.args.plan.now a p)) all
