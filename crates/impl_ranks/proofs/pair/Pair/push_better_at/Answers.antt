-- One place more.
use Rattle.std.proofs.Common.{◌≡◌, ◌++◌, [], Option, filter_map, take, ap, ◌∙◌, arith, rules}
use Rattle.std.specs.List.{cons_option}
use Rattle.std.specs.Option.{option_and_then}
use Rattle.std.proofs.lemmas.List.{take_all}
use Rattle.geom.specs.declared.tile.Place.{Place}
use Rattle.tile_priority.specs.declared.rank.Rank.{Rank}
use Rattle.tile_priority.specs.declared.rank.Side.TheVariants as side
use Rattle.impl_ranks.specs.inner.Lists.{place_rank}
use Rattle.impl_ranks.specs.inner.Pairs.{better_beside}
use Rattle.impl_ranks.proofs.LoopFacts.{option_more}
use Rattle.impl_ranks.proofs.pair.Pair.push_better_at.Goals as goal

-- what would be read past the end
abbrev none : Place
none = record { x = 0; y = 0 }

pub loop-place-preserved : goal.loop-place-preserved
loop-place-preserved c =
    option_more (λ (p : Place). option_and_then (better_beside c.args.self.now.theirs c.args.self.now.other) (place_rank c.args.self.now.borders side.Active c.args.self.now.layer p)) c.args.places.now c.loop-place.place-index none c.args.ranks.now.items c.loop-place.ranks.items c.push_rank.new.ranks.items (search rules) c.loop-place.invariant
    (c.in_ok-push_rank.ensures ∙ ap (λ (o : Option Rank). c.loop-place.ranks.items ++ cons_option o []) c.better.ensures)

pub returns : goal.returns
returns c =
    let all : take c.loop-place.place-index c.args.places.now ≡ c.args.places.now = take_all c.loop-place.place-index c.args.places.now (omega (arith, c.loop-place.auto.place-index-end, c.loop-place-test.false)) in
    c.loop-place.invariant ∙ ap (λ ps. c.args.ranks.now.items ++ filter_map (λ (p : Place). option_and_then (better_beside c.args.self.now.theirs c.args.self.now.other) (place_rank c.args.self.now.borders side.Active c.args.self.now.layer p)) ps) all
