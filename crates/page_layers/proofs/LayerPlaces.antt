-- Layers at the place of their id.
use Rattle.std.proofs.Common.{ℕ, ◌≡◌, ◌<◌, Option, Some, None, List, length, get_or, set, map, sym, ap, ◌∙◌, arith, refl, Bool, true, false, cond, ◌==◌, [], ◌∷◌, subst, zero, suc, ◌≤◌}
use Rattle.std.specs.Prelude.{MatchOption, is_some, IfSome, slice_get, Result, Ok, Err, OnOk, OnErr}
use Rattle.std.specs.List.{position, position_or_len, find, insert, remove}
use Rattle.std.proofs.lemmas.List.{length-map, map-set, get_or-map}
use Rattle.page_layers.specs.declared.layer.Layer.{Layer}
use Rattle.page_layers.specs.Layers.{PageLayer, parts_of, has_id, with_items, put_at, with_layer_moved}
use Rattle.page_layers.specs.inner.FoundPlaces.{StandsAt}
use Rattle.page_layers.specs.Lists.{with_first_changed, without_first}
use Rattle.page_layers.specs.Refusals.{item_count}
use Rattle.page_layers.specs.IfThere.{count_in}
use Rattle.page_display_list.specs.declared.item.Item.{Item}
use Rattle.page_layers.proofs.LayerKeeps.{nothing_taken}
use Rattle.page_layers.proofs.ListEdits.{changed_at, removed_at, found_at, placed, place-map, map-remove, map-insert}

-- what the answer of `position` says of layers
pub place_is : (id : ℕ) (ls : List Layer) (r : Option ℕ) → r ≡ position (λ (l : Layer). has_id id (parts_of l)) ls → MatchOption r (find (has_id id) (map parts_of ls) ≡ None) (StandsAt id ls)
place_is id ls None is = placed parts_of (has_id id) ls None is
place_is id ls (Some i) is =
    let at : (i < length ls) × (i ≡ position_or_len (λ (l : Layer). has_id id (parts_of l)) ls) = placed parts_of (has_id id) ls (Some i) is in
    record { within = at.0; first = at.1 }

-- the place of a layer in the list that contracts see
viewed : (id i : ℕ) (ls : List Layer) → StandsAt id ls i → i ≡ position_or_len (has_id id) (map parts_of ls)
viewed id i ls at = at.first ∙ sym (place-map parts_of (has_id id) ls)

-- the layer that is found is the one at the place
pub found_is : (id i : ℕ) (ls : List Layer) (d : Layer) → StandsAt id ls i → find (has_id id) (map parts_of ls) ≡ Some (parts_of (get_or ls i d))
found_is id i ls d at =
    let lt : i < length (map parts_of ls) = omega (arith, at.within, length-map ls parts_of) in
    found_at (has_id id) (map parts_of ls) i (parts_of d) (viewed id i ls at) lt
    ∙ ap (λ (l : PageLayer). Some l) (get_or-map parts_of ls i d (parts_of d) at.within)

-- a layer that is changed at its place
pub changed_is : (id i : ℕ) (ls : List Layer) (d new : Layer) (f : PageLayer → PageLayer) → StandsAt id ls i → parts_of new ≡ f (parts_of (get_or ls i d)) → map parts_of (set ls i new) ≡ with_first_changed (has_id id) f (map parts_of ls)
changed_is id i ls d new f at is =
    let lt : i < length (map parts_of ls) = omega (arith, at.within, length-map ls parts_of) in
    map-set parts_of ls i new
    ∙ ap (λ (l : PageLayer). set (map parts_of ls) i l) (is ∙ ap f (sym (get_or-map parts_of ls i d (parts_of d) at.within)))
    ∙ changed_at (has_id id) f (map parts_of ls) i (parts_of d) (viewed id i ls at) lt

-- a layer that is taken out at its place
pub removed_is : (id i : ℕ) (ls : List Layer) → StandsAt id ls i → map parts_of (remove ls i) ≡ without_first (has_id id) (map parts_of ls)
removed_is id i ls at =
    let lt : i < length (map parts_of ls) = omega (arith, at.within, length-map ls parts_of) in
    map-remove parts_of ls i
    ∙ removed_at (has_id id) (map parts_of ls) i (viewed id i ls at) lt

-- a layer that is taken out at its place and put in at another
pub moved_is : (id i to : ℕ) (ls others after : List Layer) (l : Layer) → StandsAt id ls i → l ≡ get_or ls i l → others ≡ remove ls i → after ≡ insert others to l → map parts_of after ≡ with_layer_moved id to (map parts_of ls)
moved_is id i to ls others after l at l-is others-is after-is =
    ap (λ (xs : List Layer). map parts_of xs) after-is
    ∙ map-insert parts_of others to l
    ∙ ap (λ (xs : List PageLayer). insert xs to (parts_of l)) (ap (λ (xs : List Layer). map parts_of xs) others-is ∙ removed_is id i ls at)
    ∙ ap (λ (o : Option PageLayer). put_at to o (without_first (has_id id) (map parts_of ls))) (ap (λ (x : Layer). Some (parts_of x)) l-is ∙ sym (found_is id i ls l at))

-- ---- where no layer has the id

pub not_changed : (id : ℕ) (f : PageLayer → PageLayer) (ls : List PageLayer) → find (has_id id) ls ≡ None → ls ≡ with_first_changed (has_id id) f ls
not_changed id f [] none = refl
not_changed id f (l ∷ ls) none = go (l.id == id) none (not_changed id f ls)
  where
    go : (b : Bool) → cond b (Some l) (find (has_id id) ls) ≡ None → (find (has_id id) ls ≡ None → ls ≡ with_first_changed (has_id id) f ls) → l ∷ ls ≡ cond b (f l ∷ ls) (l ∷ with_first_changed (has_id id) f ls)
    go true none rest = absurd (cc)
    go false none rest = ap (λ (ks : List PageLayer). l ∷ ks) (rest none)

pub not_taken : (id : ℕ) (ls : List PageLayer) → find (has_id id) ls ≡ None → ls ≡ without_first (has_id id) ls
not_taken id ls none = sym (nothing_taken (has_id id) ls none)

pub not_moved : (id at : ℕ) (ls : List PageLayer) → find (has_id id) ls ≡ None → ls ≡ with_layer_moved id at ls
not_moved id at ls none = not_taken id ls none ∙ ap (λ (o : Option PageLayer). put_at at o (without_first (has_id id) ls)) (sym none)

-- a layer is there where it stands at a place
pub there_is : (id i : ℕ) (ls : List Layer) → StandsAt id ls i → is_some (find (has_id id) (map parts_of ls)) ≡ true
there_is id i [] at = absurd (omega (arith, at.within))
there_is id i (d ∷ ls) at = ap (λ (o : Option PageLayer). is_some o) (found_is id i (d ∷ ls) d at)

-- ---- items of the layer at a place

pub count_is : (id i : ℕ) (ls : List Layer) (d : Layer) → StandsAt id ls i → item_count id (map parts_of ls) ≡ Ok (length (get_or ls i d).list.value)
count_is id i ls d at = ap (λ (o : Option PageLayer). count_in o) (found_is id i ls d at)

-- what is required of the layer that is found holds of that at the place
pub at_place : (P : List Item → Type 0) (id i : ℕ) (ls : List Layer) (d : Layer) → StandsAt id ls i → IfSome (find (has_id id) (map parts_of ls)) (λ l. P l.items) → P (get_or ls i d).list.value
at_place P id i ls d at h = subst (λ (o : Option PageLayer). IfSome o (λ l. P l.items)) (found_is id i ls d at) h

-- an item at a place, and past the end
pub item_there : (items : List Item) (at : ℕ) (d : Item) → at < length items → slice_get items at ≡ Some (get_or items at d)
item_there [] at d lt = absurd (omega arith)
item_there (x ∷ xs) zero d lt = refl
item_there (x ∷ xs) (suc n) d lt = item_there xs n d (omega arith)

pub item_past : (items : List Item) (at : ℕ) → length items ≤ at → slice_get items at ≡ None
item_past [] zero le = refl
item_past [] (suc n) le = refl
item_past (x ∷ xs) zero le = absurd (omega arith)
item_past (x ∷ xs) (suc n) le = item_past xs n (omega arith)

-- a layer whose items are changed at its place
pub edited_is : (id i : ℕ) (ls : List Layer) (d new : Layer) (f : List Item → List Item) → StandsAt id ls i → d ≡ get_or ls i d → parts_of new ≡ with_items f (parts_of d) → map parts_of (set ls i new) ≡ with_first_changed (has_id id) (with_items f) (map parts_of ls)
edited_is id i ls d new f at same made = changed_is id i ls d new (with_items f) at (made ∙ ap (λ (l : Layer). with_items f (parts_of l)) same)

-- a layer that is not changed at its place
changed_nothing : (p : PageLayer → Bool) (ls : List PageLayer) → with_first_changed p (λ l. l) ls ≡ ls
changed_nothing p [] = refl
changed_nothing p (l ∷ ls) = go (p l) (changed_nothing p ls)
  where
    go : (b : Bool) → with_first_changed p (λ k. k) ls ≡ ls → cond b (l ∷ ls) (l ∷ with_first_changed p (λ k. k) ls) ≡ l ∷ ls
    go true rest = refl
    go false rest = ap (λ (ks : List PageLayer). l ∷ ks) rest

pub unedited_is : (id i : ℕ) (ls : List Layer) (d new : Layer) → StandsAt id ls i → d ≡ get_or ls i d → parts_of new ≡ parts_of d → map parts_of (set ls i new) ≡ map parts_of ls
unedited_is id i ls d new at same made = changed_is id i ls d new (λ l. l) at (made ∙ ap parts_of same) ∙ changed_nothing (has_id id) (map parts_of ls)

-- what follows where the answer is Ok, or an error
pub on_ok : {X E A B : Type 0} (r : Result X E) → (A → B) → OnOk r A → OnOk r B
on_ok (Ok x) f h = f h
on_ok (Err e) f h = h

pub on_err : {X E A B : Type 0} (r : Result X E) → (A → B) → OnErr r A → OnErr r B
on_err (Ok x) f h = h
on_err (Err e) f h = f h

-- ---- the effects of layers

pub effects-view : (ls : List Layer) → map (λ (l : Layer). l.effect) ls ≡ map (λ (l : PageLayer). l.effect) (map parts_of ls)
effects-view [] = refl
effects-view (l ∷ ls) = ap (λ (es : List ℕ). l.effect ∷ es) (effects-view ls)

-- with one more layer
pub effects_with : (ls : List Layer) (at : ℕ) (l : PageLayer) (es more : List ℕ) → es ≡ map (λ (k : Layer). k.effect) ls → more ≡ insert es at l.effect → more ≡ map (λ (k : PageLayer). k.effect) (insert (map parts_of ls) at l)
effects_with ls at l es more es-is more-is =
    more-is
    ∙ ap (λ (xs : List ℕ). insert xs at l.effect) (es-is ∙ effects-view ls)
    ∙ sym (map-insert (λ (k : PageLayer). k.effect) (map parts_of ls) at l)

-- with a layer moved
moved_effects_at : (id i to : ℕ) (ls : List Layer) (d : Layer) (es fewer more : List ℕ) (e : ℕ) → StandsAt id ls i → es ≡ map (λ (k : Layer). k.effect) ls → e ≡ get_or es i e → fewer ≡ remove es i → more ≡ insert fewer to e → more ≡ map (λ (k : PageLayer). k.effect) (with_layer_moved id to (map parts_of ls))
moved_effects_at id i to ls d es fewer more e at es-is e-is fewer-is more-is =
    let lt : i < length (map parts_of ls) = omega (arith, at.within, length-map ls parts_of) in
    let view : es ≡ map (λ (k : PageLayer). k.effect) (map parts_of ls) = es-is ∙ effects-view ls in
    let mine : e ≡ (get_or ls i d).effect = e-is ∙ ap (λ (xs : List ℕ). get_or xs i e) es-is ∙ get_or-map (λ (k : Layer). k.effect) ls i d e at.within in
    more-is
    ∙ ap (λ (xs : List ℕ). insert xs to e) (fewer-is ∙ ap (λ (xs : List ℕ). remove xs i) view ∙ sym (map-remove (λ (k : PageLayer). k.effect) (map parts_of ls) i) ∙ ap (λ (ks : List PageLayer). map (λ (k : PageLayer). k.effect) ks) (removed_at (has_id id) (map parts_of ls) i (viewed id i ls at) lt))
    ∙ ap (λ (x : ℕ). insert (map (λ (k : PageLayer). k.effect) (without_first (has_id id) (map parts_of ls))) to x) mine
    ∙ sym (map-insert (λ (k : PageLayer). k.effect) (without_first (has_id id) (map parts_of ls)) to (parts_of (get_or ls i d)))
    ∙ ap (λ (o : Option PageLayer). map (λ (k : PageLayer). k.effect) (put_at to o (without_first (has_id id) (map parts_of ls)))) (sym (found_is id i ls d at))

pub moved_effects : (id i to : ℕ) (ls : List Layer) (es fewer more : List ℕ) (e : ℕ) → StandsAt id ls i → es ≡ map (λ (k : Layer). k.effect) ls → e ≡ get_or es i e → fewer ≡ remove es i → more ≡ insert fewer to e → more ≡ map (λ (k : PageLayer). k.effect) (with_layer_moved id to (map parts_of ls))
moved_effects id i to [] es fewer more e at es-is e-is fewer-is more-is = absurd (omega (arith, at.within))
moved_effects id i to (d ∷ ls) es fewer more e at es-is e-is fewer-is more-is = moved_effects_at id i to (d ∷ ls) d es fewer more e at es-is e-is fewer-is more-is
