-- All that are not pinned are those that give way and those that stay.
use Rattle.std.proofs.Common.{◌≡◌, ◌+◌, ◌-◌, length, map, filter, ◌∙◌, ap, arith}
use Rattle.std.specs.FinMap as fin
use Rattle.tile_priority.specs.Choice.{gives_way}
use Rattle.impl_tiles.specs.Choices.{tile_among, choice_among, stays_for}
use Rattle.impl_tiles.proofs.Counts.{evictables_count}
use Rattle.impl_tiles.proofs.ranks.Ranks.evictables.Goals as goal

pub overflow_sub-result : goal.overflow_sub-result
overflow_sub-result c =
    let store = c.args.store.now in
    let pins = c.args.pins.now in
    let rs = c.self.inside.ranks.items in
    let b = c.args.bin in
    let stay : c.staying.result ≡ length (filter (stays_for store pins b) rs) = c.staying.ensures ∙ ap (λ xs. length (filter (stays_for store pins b) xs)) c.as_slice.ensures.value in
    let all : c.unpinned.result ≡ length (filter (gives_way b) (map (tile_among rs pins) (fin.keys store.ready))) + length (filter (stays_for store pins b) rs) =
    c.unpinned.ensures ∙ evictables_count store pins rs c.self.invariant b in
    omega (arith, stay, all)

pub returns : goal.returns
returns c =
    let store = c.args.store.now in
    let pins = c.args.pins.now in
    let rs = c.self.inside.ranks.items in
    let b = c.args.bin in
    let stay : c.staying.result ≡ length (filter (stays_for store pins b) rs) = c.staying.ensures ∙ ap (λ xs. length (filter (stays_for store pins b) xs)) c.as_slice.ensures.value in
    let all : c.unpinned.result ≡ length (filter (gives_way b) (map (tile_among rs pins) (fin.keys store.ready))) + length (filter (stays_for store pins b) rs) =
    c.unpinned.ensures ∙ evictables_count store pins rs c.self.invariant b in
    let here : c.unpinned.result - c.staying.result ≡ length (filter (gives_way b) (map (tile_among rs pins) (fin.keys store.ready))) = omega (arith, stay, all) in
    here ∙ ap (λ r. length (filter (gives_way b) (choice_among store pins r).ready)) c.self.view_is
