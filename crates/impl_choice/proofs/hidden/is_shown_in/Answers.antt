-- Beside a tree without layers a key has the rank of the one tree.
use Rattle.std.proofs.Common.{◌≡◌, Option, Some, None, [], refl, ◌∙◌, ap}
use Rattle.tile_priority.specs.declared.rank.Rank.{Rank}
use Rattle.tile_priority.specs.declared.rank.Side.TheVariants as side
use Rattle.tile_priority.specs.Ranks.{least}
use Rattle.tile_priority.specs.Tiles.{Tile}
use Rattle.tile_priority.specs.Choice.{is_visible_rank}
use Rattle.model_history.specs.Tiles.{Tree}
use Rattle.model_history.specs.Ranking.{rank_in}
use Rattle.impl_ranks.proofs.BothTrees.{none_ranked}
use Rattle.impl_choice.proofs.hidden.is_shown_in.Goals as goal

alone : (o : Option Rank) → least o None ≡ o
alone None = refl
alone (Some r) = refl

-- the tree without its layers
abbrev blank : Tree → Tree
blank t = record { page = record t.page { layers = [] }; offset = t.offset; stamp = t.stamp }

pub returns : goal.returns
returns c = λ t is.
    let s = c.args.plan.now in
    let q = c.args.key in
    let none = none_ranked s side.Pending (blank t) q refl in
    let rank = ap (λ (z : Tile). z.rank) (c.one.view_is ∙ c.tile-one.ensures t (blank t) is refl) ∙ (ap (least (rank_in s side.Active t q)) none ∙ alone (rank_in s side.Active t q)) in
    c.is_visible_rank.ensures ∙ ap is_visible_rank rank
