-- The keys and their tiles stay.
use Rattle.std.proofs.Common.{ℕ, List, subst, sym}
use Rattle.slab.specs.Slab.{Slab}
use Rattle.impl_tiles.specs.declared.held.KeyedPlace.{KeyedPlace}
use Rattle.impl_tiles.specs.declared.held.Tile.{Tile}
use Rattle.impl_tiles.specs.inner.Chunked.{flat}
use Rattle.impl_tiles.specs.inner.TileTables.{IsTileTable}
use Rattle.impl_tiles.proofs.tile_table.TileTable.reserve.Goals as goal

with_room : (tiles : Slab Tile) (held : List KeyedPlace) (n : ℕ) → IsTileTable tiles held → IsTileTable (record tiles { capacity = n }) held
with_room tiles held n table = record { rises = table.rises; kept = table.kept; counted = table.counted; few = table.few }

pub invariant_of-self-2 : goal.invariant_of-self-2
invariant_of-self-2 c =
    let held = flat c.self.inside.held.chunks in
    let tiles = subst (λ t. IsTileTable t held) (sym c.reserve-2.ensures.rest_kept) (with_room c.self.inside.tiles held c.reserve-2.new.self.capacity c.self.invariant) in
    subst (λ cs. IsTileTable c.reserve-2.new.self (flat cs)) (sym c.in_ok-reserve.ensures.chunks) tiles
