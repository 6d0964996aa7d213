-- No tile is there, and nothing is wanted.
use Rattle.std.proofs.Common.{◌≡◌, [], sym, subst}
use Rattle.impl_tiles.specs.Stores.{empty_store}
use Rattle.impl_tiles.specs.declared.outlook.Outlook.TheVariants as outlook
use Rattle.impl_tiles.specs.Managers.{Managed, Manages}
use Rattle.impl_tiles.proofs.OtherTiles.{begins_empty}
use Rattle.impl_tiles.proofs.manager.TileManager.new.Goals as goal

pub returns-clause-tiles : goal.returns-clause-tiles
returns-clause-tiles c = λ s e.
    let spare = c.new.result.spare in
    let queue = c.rebuild.new.self in
    let is : ◌≡◌ {A = Managed} (record { store = empty_store spare; pinned = []; outlook = outlook.Queue queue }) (record { store = c.new.result; pinned = c.new-2.result; outlook = outlook.Queue queue }) =
    λ i. record { store = sym c.new.ensures i; pinned = sym c.new-2.ensures i; outlook = outlook.Queue queue } in
    subst (Manages s []) is (begins_empty s c.args.budget spare queue e c.in_ok-rebuild.ensures.choice)
