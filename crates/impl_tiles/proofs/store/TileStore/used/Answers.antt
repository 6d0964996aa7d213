-- Each held key is ready or in flight.
use Rattle.std.proofs.Common.{ap, ◌∙◌}
use Rattle.impl_tiles.specs.Stores.{store_used}
use Rattle.impl_tiles.proofs.Parts.{len_parts}
use Rattle.impl_tiles.proofs.store.TileStore.used.Goals as goal

pub returns : goal.returns
returns c = c.len.ensures ∙ len_parts c.self.inside.table.held ∙ ap store_used c.self.view_is
