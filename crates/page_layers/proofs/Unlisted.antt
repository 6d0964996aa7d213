-- What a command does not list it does not change.
use Rattle.std.proofs.Common.{ℕ, ℤ, ◌≡◌, ◌<◌, ◌==◌, ◌&&◌, ◌||◌, Bool, true, false, Option, Some, None, Ok, List, [], ◌∷◌, length, get_or, refl, ap, sym, ◌∙◌, subst, arith, eqb-true}
use Rattle.std.specs.Prelude.{option_map, slice_get, slice_set, nat_lt}
use Rattle.std.specs.List.{find, insert, remove}
use Rattle.std.proofs.lemmas.Bool.Decides.{nat_tests}
use Rattle.geom.specs.Covers.{covers}
use Rattle.region.specs.Points.{covered}
use Rattle.pixel.specs.Colours.{Parts}
use Rattle.page_display_list.specs.declared.item.Item.{Item}
use Rattle.page_display_list.specs.Content.{content, rect_of_item}
use Rattle.page_layers.specs.declared.command.Command.{Command}
use Rattle.page_layers.specs.declared.command.Command.TheVariants as command
use Rattle.page_layers.specs.declared.fault.EditFault.TheVariants as fault
use Rattle.page_layers.specs.Tests.{◌>>=◌, require}
use Rattle.page_layers.specs.Layers.{PageLayer, has_id, with_size, with_colour, with_items}
use Rattle.page_layers.specs.Lists.{with_first_changed, without_first}
use Rattle.page_layers.specs.Pages.{Page}
use Rattle.page_layers.specs.Refusals.{has_layer, item_count, test_of}
use Rattle.page_layers.specs.IfThere.{count_in, rects_of, item_rect_in}
use Rattle.page_layers.specs.Effects.{page_after_command, layer_change_of}
use Rattle.page_layers.specs.Outcomes.{Accepts}
use Rattle.page_layers.specs.Sound.{AreDistinctLayers, IsPage}
use Rattle.page_layers.specs.Contents.{content_at, size_of, shows_at, is_changed_whole, KeepsTheRest}
use Rattle.page_layers.proofs.LayerKeeps.{absent-taken}
use Rattle.page_layers.proofs.LayerPlaces.{item_there}
use Rattle.page_layers.proofs.FoundLayers.{found-insert, found-without, found-other, found-here, found-moved}
use Rattle.page_layers.proofs.ItemContent.{content-insert, content-remove, content-set}
use Rattle.page_layers.proofs.TestFacts.{passed, held}

-- what is read of a layer that was found
abbrev shown : ℤ → ℤ → Option PageLayer → Option Parts
shown x y o = option_map (λ l. content l.items x y) o

abbrev sized : Option PageLayer → Option (ℕ × ℕ)
sized o = option_map (λ l. (l.w, l.h)) o

-- ---- tests that fail

-- the second of two fails where the first holds
second_fails : (a b : Bool) → a ≡ true → (a && b) ≡ false → b ≡ false
second_fails true b is h = h
second_fails false b is h = absurd (cc)

-- neither of two holds
first_of : (a b : Bool) → (a || b) ≡ false → a ≡ false
first_of true b h = absurd (cc)
first_of false b h = refl

rest_of : (a b : Bool) → (a || b) ≡ false → b ≡ false
rest_of true b h = absurd (cc)
rest_of false b h = h

first_fails : (a : Bool) → (a && true) ≡ false → a ≡ false
first_fails true h = absurd (cc)
first_fails false h = refl

-- ---- what is read of the layers that are found

-- what a change keeps of the layer that it changes is the same of each layer that is found
viewed : {V : Type 0} (v : PageLayer → V) (i id : ℕ) (f : PageLayer → PageLayer) → ((l : PageLayer) → (f l).id ≡ l.id) → (ls : List PageLayer)
    → ((i == id) ≡ true → option_map v (option_map f (find (has_id i) ls)) ≡ option_map v (find (has_id i) ls))
    → option_map v (find (has_id id) (with_first_changed (has_id i) f ls)) ≡ option_map v (find (has_id id) ls)
viewed v i id f keeps ls same = go (i == id) refl
  where
    go : (b : Bool) → (i == id) ≡ b → option_map v (find (has_id id) (with_first_changed (has_id i) f ls)) ≡ option_map v (find (has_id id) ls)
    go true e =
        let is : i ≡ id = eqb-true i id e in
        ap (λ (n : ℕ). option_map v (find (has_id n) (with_first_changed (has_id i) f ls))) (sym is)
        ∙ ap (λ (o : Option PageLayer). option_map v o) (found-here i f keeps ls)
        ∙ same e
        ∙ ap (λ (n : ℕ). option_map v (find (has_id n) ls)) is
    go false e = ap (λ (o : Option PageLayer). option_map v o) (found-other i id f keeps ls e)

-- what a change keeps of every layer
of_every : {V : Type 0} (v : PageLayer → V) (f : PageLayer → PageLayer) → ((l : PageLayer) → v (f l) ≡ v l) → (o : Option PageLayer) → option_map v (option_map f o) ≡ option_map v o
of_every v f keeps None = refl
of_every v f keeps (Some l) = ap Some (keeps l)

-- ---- items

-- an item that is taken out or replaced at its place
removed_items : (x y : ℤ) (items : List Item) (at : ℕ) → at < length items → covered (rects_of (option_map rect_of_item (slice_get items at))) x y ≡ false → content (remove items at) x y ≡ content items x y
removed_items x y [] at lt out = absurd (omega (arith, lt))
removed_items x y (d ∷ items) at lt out =
    let there : covered (rect_of_item (get_or (d ∷ items) at d) ∷ []) x y ≡ false = ap (λ (o : Option Item). covered (rects_of (option_map rect_of_item o)) x y) (sym (item_there (d ∷ items) at d lt)) ∙ out in
    content-remove (d ∷ items) at d x y lt (first_of (covers (rect_of_item (get_or (d ∷ items) at d)) x y) (covered [] x y) there)

replaced_items : (x y : ℤ) (items : List Item) (at : ℕ) (item : Item) → at < length items → covered (rect_of_item item ∷ rects_of (option_map rect_of_item (slice_get items at))) x y ≡ false → content (slice_set items at item) x y ≡ content items x y
replaced_items x y [] at item lt out = absurd (omega (arith, lt))
replaced_items x y (d ∷ items) at item lt out =
    let old : covered (rects_of (option_map rect_of_item (slice_get (d ∷ items) at))) x y ≡ false = rest_of (covers (rect_of_item item) x y) (covered (rects_of (option_map rect_of_item (slice_get (d ∷ items) at))) x y) out in
    let there : covered (rect_of_item (get_or (d ∷ items) at d) ∷ []) x y ≡ false = ap (λ (o : Option Item). covered (rects_of (option_map rect_of_item o)) x y) (sym (item_there (d ∷ items) at d lt)) ∙ old in
    content-set (d ∷ items) at item d x y lt (first_of (covers (rect_of_item item) x y) (covered (rects_of (option_map rect_of_item (slice_get (d ∷ items) at))) x y) out) (first_of (covers (rect_of_item (get_or (d ∷ items) at d)) x y) (covered [] x y) there)

-- the place of an item is one of the layer's, where the test passed
below : (at count : ℕ) → require (nat_lt at count) fault.BadPlace ≡ Ok tt → at < count
below at count ok = let b : nat_lt at count ≡ true = held (nat_lt at count) fault.BadPlace ok in grind (arith, nat_tests, b)

removed_view : (x y : ℤ) (at : ℕ) (o : Option PageLayer) → (count_in o >>= (λ count. require (nat_lt at count) fault.BadPlace)) ≡ Ok tt → covered (rects_of (item_rect_in at o)) x y ≡ false
    → shown x y (option_map (with_items (λ items. remove items at)) o) ≡ shown x y o
removed_view x y at None ok out = refl
removed_view x y at (Some l) ok out = ap Some (removed_items x y l.items at (below at (length l.items) ok) out)

replaced_view : (x y : ℤ) (at : ℕ) (item : Item) (o : Option PageLayer) → ((count : ℕ) × (count_in o ≡ Ok count) × (at < count)) → covered (rect_of_item item ∷ rects_of (item_rect_in at o)) x y ≡ false
    → shown x y (option_map (with_items (λ items. slice_set items at item)) o) ≡ shown x y o
replaced_view x y at item None ok out = refl
replaced_view x y at item (Some l) ok out = let same : length l.items ≡ ok.0 = cc in ap Some (replaced_items x y l.items at item (subst (λ (n : ℕ). at < n) (sym same) ok.2) out)

remove_tested : (p : Page) (layer at : ℕ) → test_of p (command.RemoveItem (record { layer = layer; at = at })) ≡ Ok tt → (count_in (find (has_id layer) p.layers) >>= (λ count. require (nat_lt at count) fault.BadPlace)) ≡ Ok tt
unfolding test_of
remove_tested p layer at ok = ok

replace_tested : (p : Page) (layer at : ℕ) (item : Item) → test_of p (command.ReplaceItem (record { layer = layer; at = at; item = item })) ≡ Ok tt → (count : ℕ) × (count_in (find (has_id layer) p.layers) ≡ Ok count) × (at < count)
unfolding test_of
replace_tested p layer at item ok =
    let counted = passed (item_count layer p.layers) _ tt ok in
    let placed = passed (require (nat_lt at counted.0) fault.BadPlace) _ tt counted.2 in
    (counted.0, counted.1, below at counted.0 placed.1)

-- ---- layers that are taken out

-- a layer that is still there is not the one that was taken out
still_there : (i id : ℕ) (ls : List PageLayer) → AreDistinctLayers ls → has_layer id (without_first (has_id i) ls) ≡ true → (i == id) ≡ false
still_there i id ls d there = go (i == id) refl
  where
    go : (b : Bool) → (i == id) ≡ b → b ≡ false
    go false e = refl
    go true e = let gone : has_layer id (without_first (has_id i) ls) ≡ false = ap (λ (n : ℕ). has_layer n (without_first (has_id i) ls)) (sym (eqb-true i id e)) ∙ absent-taken i ls d in absurd (cc)

-- ---- each command

-- a layer that is resized keeps its items
resized_shows : (p : Page) (i w h id : ℕ) (x y : ℤ) → content_at (page_after_command p (command.ResizeLayer (record { id = i; w = w; h = h }))) id x y ≡ content_at p id x y
resized_shows p i w h id x y = viewed (λ l. content l.items x y) i id (with_size w h) (λ l. refl) p.layers (λ e. of_every (λ l. content l.items x y) (with_size w h) (λ l. refl) (find (has_id i) p.layers))

content_kept : (p : Page) (c : Command) → IsPage p → test_of p c ≡ Ok tt → (id : ℕ) (x y : ℤ) → has_layer id (page_after_command p c).layers ≡ true → shows_at (layer_change_of p c) id x y ≡ false → content_at (page_after_command p c) id x y ≡ content_at p id x y
content_kept p (command.AddLayer c) is ok id x y there out = ap (shown x y) (found-insert id _ p.layers c.at (first_fails (c.id == id) out))
content_kept p (command.RemoveLayer c) is ok id x y there out = ap (shown x y) (found-without c.id id p.layers (still_there c.id id p.layers is.distinct there))
content_kept p (command.ResizeLayer c) is ok id x y there out = resized_shows p c.id c.w c.h id x y
content_kept p (command.SetColour c) is ok id x y there out = viewed (λ l. content l.items x y) c.id id (with_colour c.colour) (λ l. refl) p.layers (λ e. of_every (λ l. content l.items x y) (with_colour c.colour) (λ l. refl) (find (has_id c.id) p.layers))
content_kept p (command.InsertItem c) is ok id x y there out = viewed (λ l. content l.items x y) c.layer id (with_items (λ items. insert items c.at c.item)) (λ l. refl) p.layers (λ e. of_every (λ l. content l.items x y) (with_items (λ items. insert items c.at c.item)) (λ l. content-insert l.items c.at c.item x y (first_of (covers (rect_of_item c.item) x y) (covered [] x y) (second_fails (c.layer == id) (covered (rect_of_item c.item ∷ []) x y) e out))) (find (has_id c.layer) p.layers))
content_kept p (command.RemoveItem c) is ok id x y there out = viewed (λ l. content l.items x y) c.layer id (with_items (λ items. remove items c.at)) (λ l. refl) p.layers (λ e. removed_view x y c.at (find (has_id c.layer) p.layers) (remove_tested p c.layer c.at ok) (second_fails (c.layer == id) _ e out))
content_kept p (command.ReplaceItem c) is ok id x y there out = viewed (λ l. content l.items x y) c.layer id (with_items (λ items. slice_set items c.at c.item)) (λ l. refl) p.layers (λ e. replaced_view x y c.at c.item (find (has_id c.layer) p.layers) (replace_tested p c.layer c.at c.item ok) (second_fails (c.layer == id) _ e out))
content_kept p (command.MoveLayer c) is ok id x y there out = ap (shown x y) (found-moved c.id c.at id p.layers is.distinct)
content_kept p _ is ok id x y there out = refl

size_kept : (p : Page) (c : Command) → IsPage p → (id : ℕ) → has_layer id (page_after_command p c).layers ≡ true → is_changed_whole (layer_change_of p c) id ≡ false → size_of (page_after_command p c) id ≡ size_of p id
size_kept p (command.AddLayer c) is id there out = ap sized (found-insert id _ p.layers c.at (first_fails (c.id == id) out))
size_kept p (command.RemoveLayer c) is id there out = ap sized (found-without c.id id p.layers (still_there c.id id p.layers is.distinct there))
size_kept p (command.ResizeLayer c) is id there out = ap sized (found-other c.id id (with_size c.w c.h) (λ l. refl) p.layers (first_fails (c.id == id) out))
size_kept p (command.SetColour c) is id there out = viewed (λ l. (l.w, l.h)) c.id id (with_colour c.colour) (λ l. refl) p.layers (λ e. of_every (λ l. (l.w, l.h)) (with_colour c.colour) (λ l. refl) (find (has_id c.id) p.layers))
size_kept p (command.InsertItem c) is id there out = viewed (λ l. (l.w, l.h)) c.layer id (with_items (λ items. insert items c.at c.item)) (λ l. refl) p.layers (λ e. of_every (λ l. (l.w, l.h)) (with_items (λ items. insert items c.at c.item)) (λ l. refl) (find (has_id c.layer) p.layers))
size_kept p (command.RemoveItem c) is id there out = viewed (λ l. (l.w, l.h)) c.layer id (with_items (λ items. remove items c.at)) (λ l. refl) p.layers (λ e. of_every (λ l. (l.w, l.h)) (with_items (λ items. remove items c.at)) (λ l. refl) (find (has_id c.layer) p.layers))
size_kept p (command.ReplaceItem c) is id there out = viewed (λ l. (l.w, l.h)) c.layer id (with_items (λ items. slice_set items c.at c.item)) (λ l. refl) p.layers (λ e. of_every (λ l. (l.w, l.h)) (with_items (λ items. slice_set items c.at c.item)) (λ l. refl) (find (has_id c.layer) p.layers))
size_kept p (command.MoveLayer c) is id there out = ap sized (found-moved c.id c.at id p.layers is.distinct)
size_kept p _ is id there out = refl

pub unlisted_stays : (p : Page) (c : Command) → IsPage p → Accepts p c → KeepsTheRest p c
unlisted_stays p c is ok = record { content = λ id x y before there out. content_kept p c is ok.passes id x y there out; size = λ id before there out. size_kept p c is id there out; resized = λ id w h x y is_resize. ap (λ (d : Command). content_at (page_after_command p d) id x y) is_resize ∙ resized_shows p id w h id x y }
