-- What is looked at tells the first rank of the past's choice.
use Rattle.std.proofs.Common.{◌∙◌, ap, sym, subst, option_map}
use Rattle.tile_queue.specs.Queues.{rank_key}
use Rattle.impl_tiles.specs.Managers.{Managed, Manages, TellsNext}
use Rattle.impl_tiles.proofs.AmongRanks.{foreseen_first}
use Rattle.impl_tiles.proofs.manager.TileManager.next_start.Goals as goal

pub returns : goal.returns
returns c = λ s n h legal holds.
    let m : Managed = record { store = c.self.inside.store; pinned = c.self.inside.pins; outlook = c.self.inside.outlook } in
    c.first.ensures
    ∙ ap (option_map rank_key) (foreseen_first s n h legal m (subst (Manages s h) (sym c.self.view_is) holds) (subst (λ (z : Managed). TellsNext z.outlook) (sym c.self.view_is) c.requires))
