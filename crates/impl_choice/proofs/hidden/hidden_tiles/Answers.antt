-- One key more.
use Rattle.std.proofs.Common.{◌≡◌, ◌++◌, [], ◌∷◌, map, filter, take, ap, ◌∙◌, arith}
use Rattle.std.proofs.lemmas.List.{take_all}
use Rattle.tile_priority.specs.Tiles.{Tile}
use Rattle.model_steps.specs.Choices.{tile_in_both}
use Rattle.impl_tiles.specs.Visible.{is_hidden}
use Rattle.impl_choice.proofs.LoopFacts.{mapped_more, pinned_as}
use Rattle.impl_choice.proofs.hidden.hidden_tiles.Goals as goal

pub loop-key-preserved : goal.loop-key-preserved
loop-key-preserved c = λ a p left right.
    let s = c.args.plan.now in
    let g = tile_in_both s a p c.args.manager.now.pinned in
    let is = pinned_as s a p c.args.manager.now.pinned _ _ _ (c.tile.ensures a p left right) c.pinned_near-pinned.ensures in
    mapped_more is_hidden g c.args.keys.now c.loop-key.key-index _ c.loop-key.tiles.items c.push_hidden.new.tiles.items c.loop-key-test.true (c.loop-key.invariant a p left right)
    (c.in_ok-push_hidden.ensures ∙ ap (λ (t : Tile). c.loop-key.tiles.items ++ filter is_hidden (t ∷ [])) is)

pub returns : goal.returns
returns c = λ a p left right.
    let s = c.args.plan.now in
    let all : take c.loop-key.key-index c.args.keys.now ≡ c.args.keys.now = take_all c.loop-key.key-index c.args.keys.now (omega (arith, c.loop-key.auto.key-index-end, c.loop-key-test.false)) in
    c.loop-key.invariant a p left right ∙ ap (λ ks. filter is_hidden (map (tile_in_both s a p c.args.manager.now.pinned) ks)) all
