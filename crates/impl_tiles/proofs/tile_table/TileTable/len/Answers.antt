-- There is one tile for each held key.
use Rattle.std.proofs.Common.{ap, sym, ◌∙◌}
use Rattle.std.specs.FinMap as fin
use Rattle.impl_tiles.specs.inner.Chunked.{flat}
use Rattle.impl_tiles.proofs.TableSteps.{len_held}
use Rattle.impl_tiles.proofs.tile_table.TileTable.len.Goals as goal

pub returns : goal.returns
returns c =
    c.len.ensures
    ∙ c.self.invariant.counted
    ∙ sym (len_held c.self.inside.tiles (flat c.self.inside.held.chunks) c.self.invariant.rises)
    ∙ ap (λ s. fin.len s.held) c.self.view_is
