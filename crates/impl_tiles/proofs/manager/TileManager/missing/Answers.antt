-- They are missing in the store.
use Rattle.std.proofs.Common.{filter, ◌∙◌, ap}
use Rattle.impl_tiles.specs.Choices.{store_lacks}
use Rattle.impl_tiles.specs.Managers.{Managed}
use Rattle.impl_tiles.proofs.Bools.{of_answer}
use Rattle.impl_tiles.proofs.manager.TileManager.missing.Goals as goal

pub returns : goal.returns
returns c =
    of_answer c.missing_keys.result (λ keys is.
    is
    ∙ ap (filter (store_lacks c.self.inside.store)) c.as_slice.ensures
    ∙ ap (λ (m : Managed). filter (store_lacks m.store) c.args.keys.now) c.self.view_is) c.missing_keys.ensures
