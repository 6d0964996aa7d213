-- What is looked at tells what the past's choice gives up for its first rank.
use Rattle.std.proofs.Common.{◌∙◌, ap, sym, subst, map}
use Rattle.tile_priority.specs.Choice.{evictable_key}
use Rattle.tile_priority.proofs.Choosing.{first_is_one}
use Rattle.impl_tiles.specs.Managers.{Managed, Manages, TellsNext, foreseen}
use Rattle.impl_tiles.proofs.AmongRanks.{foreseen_first, foreseen_evicted}
use Rattle.impl_tiles.proofs.Bools.{of_answer}
use Rattle.impl_tiles.proofs.manager.TileManager.evicted.Goals as goal

pub returns : goal.returns
returns c = λ s n h r legal holds is_first is_key.
    let m : Managed = record { store = c.self.inside.store; pinned = c.self.inside.pins; outlook = c.self.inside.outlook } in
    let now = foreseen m.store m.pinned m.outlook in
    let held : Manages s h m = subst (Manages s h) (sym c.self.view_is) holds in
    let tells : TellsNext m.outlook = subst (λ (z : Managed). TellsNext z.outlook) (sym c.self.view_is) c.requires in
    of_answer c.evicted.result (λ keys given.
    given r (first_is_one.there now r (foreseen_first s n h legal m held tells ∙ is_first)).wanted is_key
    ∙ ap (map evictable_key) (foreseen_evicted s n h legal m held r tells)) c.evicted.ensures
