-- The closure gives the key.
use Rattle.std.proofs.Common.{rules}
use Rattle.std.proofs.lemmas.List.Sorted.{answers_always}
use Rattle.impl_tiles.proofs.Searches.{searched}
use Rattle.impl_tiles.proofs.search.search.Goals as goal

pub returns : goal.returns
returns c =
    let facts = c.binary_search_by_key.ensures in
    let by_key = facts.position (λ h. h.key) (answers_always _ _ _ (λ f a r g called. search rules)) in
    searched c.args.held.now c.args.key _ c.requires facts.bound by_key
