-- The key is held with an image.
use Rattle.std.proofs.Common.{◌≡◌, None, option_map, sym, ap, ◌∙◌}
use Rattle.std.specs.Option.{option_flatten}
use Rattle.std.specs.FinMap as fin
use Rattle.impl_tiles.specs.Stores.{image_of}
use Rattle.impl_tiles.proofs.Parts.{get_ready}
use Rattle.impl_tiles.proofs.StoreSteps.{seen}
use Rattle.impl_tiles.proofs.store.TileStore.ready_near.Goals as goal

pub returns-in-Some : goal.returns-in-Some
returns-in-Some c =
    let m = c.self.inside.table.held in
    seen (λ r. r.now) (λ a. a.value) c.as_ref.result
    ∙ ap (option_map (λ a. a.value)) c.as_ref.ensures.value
    ∙ ap option_flatten c.in-Some.ensures ∙ sym (get_ready m c.args.key) ∙ ap (λ s. image_of s c.args.key) c.self.view_is

pub returns-in-None : goal.returns-in-None
returns-in-None c =
    let m = c.self.inside.table.held in
    let none : None ≡ fin.get m c.args.key = c.in-None.ensures in
    ap option_flatten none ∙ sym (get_ready m c.args.key) ∙ ap (λ s. image_of s c.args.key) c.self.view_is
