-- The key comes into its gap, and its tile to an empty place.
use Rattle.std.proofs.Common.{◌≡◌, ◌<◌, ◌≤◌, length, None, ap, sym, ◌∙◌, subst, arith, rules}
use Rattle.std.specs.FinMap as fin
use Rattle.slab.specs.Slab.{slab_len}
use Rattle.impl_tiles.specs.declared.held.KeyedPlace.{KeyedPlace}
use Rattle.impl_tiles.specs.declared.held.Tile.{Tile}
use Rattle.impl_tiles.specs.inner.Chunked.{flat, index_of, HasKeyAt, HasGapAt}
use Rattle.impl_tiles.specs.inner.TileTables.{IsTileTable, room}
use Rattle.impl_tiles.proofs.TableSteps.{held_map, put, found_at}
use Rattle.impl_tiles.proofs.tile_table.TileTable.put.Goals as goal

pub insert-requires-clause-gap : goal.insert-requires-clause-gap
insert-requires-clause-gap c = (subst (λ cs. HasGapAt cs c.args.key c.in-Err.spot) c.as_slice.ensures.chunks c.in-Err.ensures.absent).gap

made : (c : goal.After-insert) → IsTileTable c.insert_reserved-place.new.self (flat c.insert.new.self.chunks)
    × (held_map c.insert_reserved-place.new.self (flat c.insert.new.self.chunks) ≡ fin.insert (held_map c.self.inside.tiles (flat c.self.inside.held.chunks)) c.args.key None)
made c =
    let tiles = c.self.inside.tiles in
    let cs = c.self.inside.held.chunks in
    let held = flat cs in
    let new = c.insert_reserved-place.new.self in
    let one : KeyedPlace = record { key = c.args.key; place = c.insert_reserved-place.result } in
    let tile : Tile = record { key = c.args.key; image = None } in
    let at = index_of cs c.in-Err.spot in
    let gap = (subst (λ cs. HasGapAt cs c.args.key c.in-Err.spot) c.as_slice.ensures.chunks c.in-Err.ensures.absent).goes in
    let spare : 1 ≤ room c.self.inside.held.spare tiles.capacity (slab_len tiles) = subst (λ s. 1 ≤ s.spare) (sym c.self.view_is) c.requires.room in
    let few : length held < 4294967295 = omega (arith, spare, c.self.invariant.counted) in
    let step = put tiles new held at one tile c.self.invariant gap few c.insert_reserved-place.ensures.was_vacant c.insert_reserved-place.ensures.updates c.insert_reserved-place.ensures.len (search rules) in
    (subst (IsTileTable new) (sym c.insert.ensures.held) step.0, ap (held_map new) c.insert.ensures.held ∙ step.1)

pub invariant_of-self : goal.invariant_of-self
invariant_of-self c = (made c).0

pub returns-in-Err-clause-held : goal.returns-in-Err-clause-held
returns-in-Err-clause-held c = (made c).1 ∙ ap (λ s. fin.insert s.held c.args.key None) c.self.view_is

pub returns-in_default-clause-held : goal.returns-in_default-clause-held
returns-in_default-clause-held c =
    let cs = c.self.inside.held.chunks in
    let has = subst (λ cs. HasKeyAt cs c.args.key c.in_default.field-0) c.as_slice.ensures.chunks c.in_default.ensures.found in
    let there = sym (ap (λ s. fin.get s.held c.args.key) c.self.view_is) ∙ found_at c.self.inside.tiles (flat cs) c.args.key (index_of cs c.in_default.field-0) has.stands c.self.invariant.rises in
    absurd (cc (there, c.requires.absent))

pub returns-in-Err-clause-spare : goal.returns-in-Err-clause-spare
returns-in-Err-clause-spare c =
    let old = ap (λ s. s.spare) c.self.view_is in
    omega (arith, old, c.has_room_for_one.ensures)
