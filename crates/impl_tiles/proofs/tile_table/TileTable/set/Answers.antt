-- The tile of the key changes, and no other.
use Rattle.std.proofs.Common.{◌≡◌, Some, None, ap, sym, ◌∙◌, subst, refl}
use Rattle.std.specs.FinMap as fin
use Rattle.slab.specs.Slab.{get, Updates}
use Rattle.impl_tiles.specs.declared.held.Tile.{Tile}
use Rattle.impl_tiles.specs.inner.Chunked.{flat, index_of, HasKeyAt, HasGapAt}
use Rattle.impl_tiles.specs.inner.TileTables.{HasTileOf, IsTileTable}
use Rattle.impl_tiles.proofs.Flats.{spot_is}
use Rattle.impl_tiles.proofs.TableSteps.{held_map, set, not_found, tile_at, not_none}
use Rattle.impl_tiles.proofs.tile_table.TileTable.set.Goals as goal

pub at-requires : goal.at-requires
at-requires c = (subst (λ cs. HasKeyAt cs c.key-key.result c.in-Ok.spot) c.as_slice.ensures.chunks c.in-Ok.ensures.found).spot

has : (c : goal.After-at) → HasKeyAt c.self.inside.held.chunks c.key-key.result c.in-Ok.spot
has c = subst (λ cs. HasKeyAt cs c.key-key.result c.in-Ok.spot) c.as_slice.ensures.chunks c.in-Ok.ensures.found

place : (c : goal.After-at) → c.at.result.place ≡ (has c).stands.one.place
place c = ap (λ h. h.place) (spot_is c.self.inside.held.chunks c.in-Ok.spot (has c).spot (has c).stands.one (has c).stands.here c.at.result c.at.ensures)

pub give-requires : goal.give-requires
give-requires c =
    let cs = c.self.inside.held.chunks in
    subst (λ p. HasTileOf (get c.self.inside.tiles) p c.key-key.result) (sym (place c)) (tile_at c.self.inside.tiles (flat cs) c.key-key.result (index_of cs c.in-Ok.spot) c.self.invariant (has c).stands)

made : (c : goal.After-give) → IsTileTable c.give.new.tiles (flat c.self.inside.held.chunks)
    × (held_map c.give.new.tiles (flat c.self.inside.held.chunks) ≡ fin.insert (held_map c.self.inside.tiles (flat c.self.inside.held.chunks)) c.key-key.result (Some c.args.image.value))
made c =
    let tiles = c.self.inside.tiles in
    let cs = c.self.inside.held.chunks in
    let tile : Tile = record { key = c.key-key.result; image = Some c.args.image } in
    let here = subst (λ cs. HasKeyAt cs c.key-key.result c.in-Ok.spot) c.as_slice.ensures.chunks c.in-Ok.ensures.found in
    let at : c.at.result.place ≡ here.stands.one.place = ap (λ h. h.place) (spot_is cs c.in-Ok.spot here.spot here.stands.one here.stands.here c.at.result c.at.ensures) in
    let up = subst (λ p. Updates tiles c.give.new.tiles p (Some tile)) at c.give.ensures.updates in
    set tiles c.give.new.tiles (flat cs) c.key-key.result (index_of cs c.in-Ok.spot) c.self.invariant here.stands tile up c.give.ensures.len refl

pub invariant_of-self : goal.invariant_of-self
invariant_of-self c = (made c).0

pub returns-in-Ok-clause-held : goal.returns-in-Ok-clause-held
returns-in-Ok-clause-held c =
    let key : c.key-key.result ≡ c.args.image.value.key = c.key-key.ensures ∙ ap (λ i. i.key) c.deref.ensures in
    (made c).1
    ∙ ap (λ s. fin.insert s.held c.key-key.result (Some c.args.image.value)) c.self.view_is
    ∙ ap (λ k. fin.insert c.args.self.now.held k (Some c.args.image.value)) key

pub returns-in_default-clause-held : goal.returns-in_default-clause-held
returns-in_default-clause-held c =
    let cs = c.self.inside.held.chunks in
    let key : c.key-key.result ≡ c.args.image.value.key = c.key-key.ensures ∙ ap (λ i. i.key) c.deref.ensures in
    let gap = subst (λ cs. HasGapAt cs c.key-key.result c.in_default.field-0) c.as_slice.ensures.chunks c.in_default.ensures.absent in
    let none : fin.get c.args.self.now.held c.args.image.value.key ≡ None =
    ap (fin.get c.args.self.now.held) (sym key) ∙ sym (ap (λ s. fin.get s.held c.key-key.result) c.self.view_is) ∙ not_found c.self.inside.tiles (flat cs) c.key-key.result (index_of cs c.in_default.field-0) gap.goes c.self.invariant.rises in
    absurd (not_none (fin.get c.args.self.now.held c.args.image.value.key) none c.requires)
