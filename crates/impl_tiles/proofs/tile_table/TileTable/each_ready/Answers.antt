-- All of them are left.
use Rattle.std.proofs.Common.{ap, ◌∙◌}
use Rattle.std.specs.FinMap as fin
use Rattle.slab.specs.Slab.{get}
use Rattle.impl_tiles.specs.inner.Chunked.{flat}
use Rattle.impl_tiles.specs.inner.Rows.{ready_of}
use Rattle.impl_tiles.specs.inner.TileTables.{made_keys}
use Rattle.impl_tiles.proofs.MadeKeys.{made_all}
use Rattle.impl_tiles.proofs.tile_table.TileTable.each_ready.Goals as goal

pub returns : goal.returns
returns c =
    ap (made_keys (get c.self.inside.tiles)) (c.new.ensures ∙ ap flat c.as_slice.ensures.chunks)
    ∙ made_all c.self.inside.tiles (flat c.self.inside.held.chunks) c.self.invariant.rises
    ∙ ap (λ s. fin.keys (ready_of s.held)) c.self.view_is
