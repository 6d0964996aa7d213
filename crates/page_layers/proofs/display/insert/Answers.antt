use Rattle.std.proofs.Common.{ℕ, Option, ◌≤◌, ◌<◌, List, length, ap, sym, subst}
use Rattle.std.specs.Prelude.{insert}
use Rattle.page_display_list.specs.declared.item.Item.{Item}
use Rattle.page_layers.specs.declared.layer.Layer.{Layer}
use Rattle.page_layers.specs.Layers.{PageLayer, parts_of}
use Rattle.page_layers.specs.inner.FoundPlaces.{StandsAt, IsPlaceOf}
use Rattle.page_layers.proofs.LayerPlaces.{at_place, edited_is, unedited_is, on_ok, on_err}
use Rattle.page_layers.proofs.display.insert.Goals as goal

pub insert_in-requires-clause-place : goal.insert_in-requires-clause-place
insert_in-requires-clause-place c =
    let stands : StandsAt c.args.id c.args.layers.now.items c.in-Some.place = subst (λ (o : Option ℕ). IsPlaceOf c.args.id c.args.layers.now.items o) c.in-Some.is c.requires.place in
    let held = subst (λ (l : Layer). let items : List Item = l.list.value in (c.args.at ≤ length items) × (length items < 256)) (sym c.index_mut-layer.ensures.value) (at_place (λ (items : List Item). (c.args.at ≤ length items) × (length items < 256)) c.args.id c.in-Some.place c.args.layers.now.items c.index_mut-layer.result.now stands c.requires.fits) in
    held.0

pub insert_in-requires-clause-room : goal.insert_in-requires-clause-room
insert_in-requires-clause-room c =
    let stands : StandsAt c.args.id c.args.layers.now.items c.in-Some.place = subst (λ (o : Option ℕ). IsPlaceOf c.args.id c.args.layers.now.items o) c.in-Some.is c.requires.place in
    let held = subst (λ (l : Layer). let items : List Item = l.list.value in (c.args.at ≤ length items) × (length items < 256)) (sym c.index_mut-layer.ensures.value) (at_place (λ (items : List Item). (c.args.at ≤ length items) × (length items < 256)) c.args.id c.in-Some.place c.args.layers.now.items c.index_mut-layer.result.now stands c.requires.fits) in
    held.1

pub returns-in-Some-clause-ok : goal.returns-in-Some-clause-ok
returns-in-Some-clause-ok c =
    let stands : StandsAt c.args.id c.args.layers.now.items c.in-Some.place = subst (λ (o : Option ℕ). IsPlaceOf c.args.id c.args.layers.now.items o) c.in-Some.is c.requires.place in
    on_ok c.insert_in.result (λ made. edited_is c.args.id c.in-Some.place c.args.layers.now.items c.index_mut-layer.result.now _ (λ (items : List Item). insert items c.args.at c.args.item) stands c.index_mut-layer.ensures.value (ap (λ (xs : List Item). let l : PageLayer = record (parts_of c.index_mut-layer.result.now) { items = xs } in l) made)) c.insert_in.ensures.ok

pub returns-in-Some-clause-err : goal.returns-in-Some-clause-err
returns-in-Some-clause-err c =
    let stands : StandsAt c.args.id c.args.layers.now.items c.in-Some.place = subst (λ (o : Option ℕ). IsPlaceOf c.args.id c.args.layers.now.items o) c.in-Some.is c.requires.place in
    on_err c.insert_in.result (λ made. unedited_is c.args.id c.in-Some.place c.args.layers.now.items c.index_mut-layer.result.now _ stands c.index_mut-layer.ensures.value (ap (λ (xs : List Item). let l : PageLayer = record (parts_of c.index_mut-layer.result.now) { items = xs } in l) made)) c.insert_in.ensures.err
