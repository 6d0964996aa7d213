-- The outlook tells it.
use Rattle.std.proofs.Common.{subst, ◌↔◌, IsTrue}
use Rattle.impl_tiles.specs.Managers.{Managed, TellsNext}
use Rattle.impl_tiles.proofs.manager.TileManager.tells_next.Goals as goal

pub returns : goal.returns
returns c = subst (λ (z : Managed). IsTrue c.tells_next.result ↔ TellsNext z.outlook) c.self.view_is c.tells_next.ensures
