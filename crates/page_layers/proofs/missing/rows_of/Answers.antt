-- The same keys in another order.
use Rattle.std.proofs.Common.{◌==◌, ◌&&◌, ap, sym, ◌∙◌, List, rules}
use Rattle.std.proofs.lemmas.List.Sorted.{IsNonDecreasingBy-from_sort_by_key, list_any-IsPermutation}
use Rattle.geom.specs.declared.tile.TileKey.{TileKey}
use Rattle.page_layers.specs.Paintings.{has_place}
use Rattle.page_layers.proofs.missing.rows_of.Goals as goal

pub returns-clause-same : goal.returns-clause-same
returns-clause-same c = λ place.
    sym (list_any-IsPermutation (λ k. (k.x == place.x) && (k.y == place.y)) _ _ c.sort_unstable_by_key.ensures.permutation)
    ∙ ap (λ (ks : List TileKey). has_place ks place) c.in_ok-own.ensures

pub returns-clause-rising : goal.returns-clause-rising
returns-clause-rising c = IsNonDecreasingBy-from_sort_by_key (λ k. k.y) _ c.sort_unstable_by_key.ensures.sorted (λ a r q k. search rules)
