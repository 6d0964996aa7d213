-- The key is held without an image.
use Rattle.std.proofs.Common.{◌≡◌, None, sym, ap, ◌∙◌}
use Rattle.std.specs.FinMap as fin
use Rattle.impl_tiles.specs.Stores.{is_in_flight}
use Rattle.impl_tiles.specs.inner.Rows.{is_flying}
use Rattle.impl_tiles.proofs.Parts.{contains_flying}
use Rattle.impl_tiles.proofs.StoreSteps.{missing}
use Rattle.impl_tiles.proofs.store.TileStore.in_flight.Goals as goal

pub returns-in-Some : goal.returns-in-Some
returns-in-Some c =
    let m = c.self.inside.table.held in
    missing (λ a. a.value) c.in-Some.tile.now.image c.is_none.result c.is_none.ensures
    ∙ ap is_flying c.in-Some.ensures ∙ sym (contains_flying m c.args.key) ∙ ap (λ s. is_in_flight s c.args.key) c.self.view_is

pub returns-in-None : goal.returns-in-None
returns-in-None c =
    let m = c.self.inside.table.held in
    let none : None ≡ fin.get m c.args.key = c.in-None.ensures in
    ap is_flying none ∙ sym (contains_flying m c.args.key) ∙ ap (λ s. is_in_flight s c.args.key) c.self.view_is
