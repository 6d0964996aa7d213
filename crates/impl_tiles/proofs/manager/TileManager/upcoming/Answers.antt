-- Alike choices want the same ranks.
use Rattle.std.proofs.Common.{◌≡◌, true, ◌∙◌, ap, sym, subst, take}
use Rattle.model_history.specs.Ranking.{choice}
use Rattle.impl_tiles.specs.Managers.{Managed, Manages, foreseen, is_seen}
use Rattle.impl_tiles.proofs.AlikeChoices.{same_wanted}
use Rattle.impl_tiles.proofs.AmongRanks.{foreseen_alike}
use Rattle.impl_tiles.proofs.Bools.{of_answer}
use Rattle.impl_tiles.proofs.manager.TileManager.upcoming.Goals as goal

pub returns : goal.returns
returns c = λ s n h legal holds.
    let m : Managed = record { store = c.self.inside.store; pinned = c.self.inside.pins; outlook = c.self.inside.outlook } in
    let alike = foreseen_alike s n h legal m (subst (Manages s h) (sym c.self.view_is) holds) (subst (λ (z : Managed). is_seen z.outlook ≡ true) (sym c.self.view_is) c.requires) in
    of_answer c.wanted.result (λ ranks given. given ∙ ap (take c.args.most) (same_wanted (foreseen m.store m.pinned m.outlook) (choice s h) alike)) c.wanted.ensures
