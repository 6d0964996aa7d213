use Rattle.std.proofs.Common.{List, map, get_or, ap, ◌∙◌, subst}
use Rattle.std.specs.List.Sorted.{IsBinarySearchResult}
use Rattle.tile_queue.specs.inner.Listing.{Listing}
use Rattle.tile_queue.proofs.Slots.{search_map}
use Rattle.tile_queue.proofs.listed.Listed.search.Goals as goal

pub returns-clause-position : goal.returns-clause-position
returns-clause-position g c =
    let e = ap (λ (s : List g.row.T.Denot). map (λ i. get_or s i c.self.inside.nothing) c.self.inside.order.items) c.deref.ensures.value ∙ ap (λ (z : Listing g.row.T.Denot). z.items) c.self.view_is in
    subst (λ (xs : List g.row.T.Denot). IsBinarySearchResult (λ y. g.T.Ord.cmp y c.args.x.now) xs c.search_in.result) e
    (search_map (λ i. get_or c.deref.result.now i c.self.inside.nothing) (λ y. g.T.Ord.cmp y c.args.x.now) c.self.inside.order.items c.search_in.result c.search_in.ensures.bound c.search_in.ensures.position)
