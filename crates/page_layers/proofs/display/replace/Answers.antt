use Rattle.std.proofs.Common.{ℕ, Option, ◌<◌, List, length, ap, sym, subst, set}
use Rattle.page_display_list.specs.declared.item.Item.{Item}
use Rattle.page_layers.specs.declared.layer.Layer.{Layer}
use Rattle.page_layers.specs.Layers.{PageLayer, parts_of}
use Rattle.page_layers.specs.inner.FoundPlaces.{StandsAt, IsPlaceOf}
use Rattle.page_layers.proofs.LayerPlaces.{at_place, edited_is, unedited_is, on_ok, on_err}
use Rattle.page_layers.proofs.display.replace.Goals as goal

pub replace_in-requires-clause-place : goal.replace_in-requires-clause-place
replace_in-requires-clause-place c =
    let stands : StandsAt c.args.id c.args.layers.now.items c.in-Some.place = subst (λ (o : Option ℕ). IsPlaceOf c.args.id c.args.layers.now.items o) c.in-Some.is c.requires.place in
    let held = subst (λ (l : Layer). let items : List Item = l.list.value in c.args.at < length items) (sym c.index_mut-layer.ensures.value) (at_place (λ (items : List Item). c.args.at < length items) c.args.id c.in-Some.place c.args.layers.now.items c.index_mut-layer.result.now stands c.requires.fits) in
    held

pub returns-in-Some-clause-ok : goal.returns-in-Some-clause-ok
returns-in-Some-clause-ok c =
    let stands : StandsAt c.args.id c.args.layers.now.items c.in-Some.place = subst (λ (o : Option ℕ). IsPlaceOf c.args.id c.args.layers.now.items o) c.in-Some.is c.requires.place in
    on_ok c.replace_in.result (λ made. edited_is c.args.id c.in-Some.place c.args.layers.now.items c.index_mut-layer.result.now _ (λ (items : List Item). set items c.args.at c.args.item) stands c.index_mut-layer.ensures.value (ap (λ (xs : List Item). let l : PageLayer = record (parts_of c.index_mut-layer.result.now) { items = xs } in l) made)) c.replace_in.ensures.ok

pub returns-in-Some-clause-err : goal.returns-in-Some-clause-err
returns-in-Some-clause-err c =
    let stands : StandsAt c.args.id c.args.layers.now.items c.in-Some.place = subst (λ (o : Option ℕ). IsPlaceOf c.args.id c.args.layers.now.items o) c.in-Some.is c.requires.place in
    on_err c.replace_in.result (λ made. unedited_is c.args.id c.in-Some.place c.args.layers.now.items c.index_mut-layer.result.now _ stands c.index_mut-layer.ensures.value (ap (λ (xs : List Item). let l : PageLayer = record (parts_of c.index_mut-layer.result.now) { items = xs } in l) made)) c.replace_in.ensures.err
