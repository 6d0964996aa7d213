-- Which layer is found after one was put in, taken out, moved or changed.
use Rattle.std.proofs.Common.{ℕ, zero, suc, ◌≡◌, ◌==◌, Bool, true, false, cond, Option, Some, None, List, [], ◌∷◌, refl, ap, sym, ◌∙◌, eqb-true}
use Rattle.std.specs.Prelude.{option_map, is_some}
use Rattle.std.specs.List.{find, insert}
use Rattle.page_layers.specs.Layers.{PageLayer, has_id, put_at, with_layer_moved}
use Rattle.page_layers.specs.Lists.{with_first_changed, without_first}
use Rattle.page_layers.specs.Refusals.{has_layer}
use Rattle.page_layers.specs.Sound.{AreDistinctLayers}
use Rattle.page_layers.proofs.LayerKeeps.{found_id, absent-taken, nothing_taken}

-- a layer that does not pass is put in
pub found-insert : (id : ℕ) (l : PageLayer) (ls : List PageLayer) (at : ℕ) → (l.id == id) ≡ false → find (has_id id) (insert ls at l) ≡ find (has_id id) ls
found-insert id l ls zero out = ap (λ (b : Bool). cond b (Some l) (find (has_id id) ls)) out
found-insert id l [] (suc n) out = ap (λ (b : Bool). cond b (Some l) (find (has_id id) [])) out
found-insert id l (k ∷ ls) (suc n) out = ap (λ (o : Option PageLayer). cond (k.id == id) (Some k) o) (found-insert id l ls n out)

-- a layer that is the only one with this id is put in
found-new : (id : ℕ) (l : PageLayer) (ls : List PageLayer) (at : ℕ) → (l.id == id) ≡ true → find (has_id id) ls ≡ None → find (has_id id) (insert ls at l) ≡ Some l
found-new id l ls zero is none = ap (λ (b : Bool). cond b (Some l) (find (has_id id) ls)) is
found-new id l [] (suc n) is none = ap (λ (b : Bool). cond b (Some l) (find (has_id id) [])) is
found-new id l (k ∷ ls) (suc n) is none = go (k.id == id) none (found-new id l ls n is)
  where
    go : (b : Bool) → cond b (Some k) (find (has_id id) ls) ≡ None → (find (has_id id) ls ≡ None → find (has_id id) (insert ls n l) ≡ Some l) → cond b (Some k) (find (has_id id) (insert ls n l)) ≡ Some l
    go true e rest = absurd (cc)
    go false e rest = rest e

-- another layer is taken out
pub found-without : (i id : ℕ) (ls : List PageLayer) → (i == id) ≡ false → find (has_id id) (without_first (has_id i) ls) ≡ find (has_id id) ls
found-without i id [] out = refl
found-without i id (k ∷ ls) out = go (k.id == i) refl (found-without i id ls out)
  where
    go : (b : Bool) → (k.id == i) ≡ b → find (has_id id) (without_first (has_id i) ls) ≡ find (has_id id) ls → find (has_id id) (cond b ls (k ∷ without_first (has_id i) ls)) ≡ cond (k.id == id) (Some k) (find (has_id id) ls)
    go true e rest = sym (ap (λ (b : Bool). cond b (Some k) (find (has_id id) ls)) (ap (λ (n : ℕ). n == id) (eqb-true k.id i e) ∙ out))
    go false e rest = ap (λ (o : Option PageLayer). cond (k.id == id) (Some k) o) rest

-- another layer is changed
pub found-other : (i id : ℕ) (f : PageLayer → PageLayer) → ((l : PageLayer) → (f l).id ≡ l.id) → (ls : List PageLayer) → (i == id) ≡ false → find (has_id id) (with_first_changed (has_id i) f ls) ≡ find (has_id id) ls
found-other i id f keeps [] out = refl
found-other i id f keeps (k ∷ ls) out = go (k.id == i) refl (found-other i id f keeps ls out)
  where
    go : (b : Bool) → (k.id == i) ≡ b → find (has_id id) (with_first_changed (has_id i) f ls) ≡ find (has_id id) ls → find (has_id id) (cond b (f k ∷ ls) (k ∷ with_first_changed (has_id i) f ls)) ≡ cond (k.id == id) (Some k) (find (has_id id) ls)
    go true e rest =
        let differs : (k.id == id) ≡ false = ap (λ (n : ℕ). n == id) (eqb-true k.id i e) ∙ out in
        ap (λ (n : ℕ). cond (n == id) (Some (f k)) (find (has_id id) ls)) (keeps k)
        ∙ ap (λ (b : Bool). cond b (Some (f k)) (find (has_id id) ls)) differs
        ∙ sym (ap (λ (b : Bool). cond b (Some k) (find (has_id id) ls)) differs)
    go false e rest = ap (λ (o : Option PageLayer). cond (k.id == id) (Some k) o) rest

-- the layer itself is changed
pub found-here : (id : ℕ) (f : PageLayer → PageLayer) → ((l : PageLayer) → (f l).id ≡ l.id) → (ls : List PageLayer) → find (has_id id) (with_first_changed (has_id id) f ls) ≡ option_map f (find (has_id id) ls)
found-here id f keeps [] = refl
found-here id f keeps (k ∷ ls) = go (k.id == id) refl (found-here id f keeps ls)
  where
    go : (b : Bool) → (k.id == id) ≡ b → find (has_id id) (with_first_changed (has_id id) f ls) ≡ option_map f (find (has_id id) ls) → find (has_id id) (cond b (f k ∷ ls) (k ∷ with_first_changed (has_id id) f ls)) ≡ option_map f (cond b (Some k) (find (has_id id) ls))
    go true e rest =
        ap (λ (n : ℕ). cond (n == id) (Some (f k)) (find (has_id id) ls)) (keeps k)
        ∙ ap (λ (b : Bool). cond b (Some (f k)) (find (has_id id) ls)) e
    go false e rest = ap (λ (b : Bool). cond b (Some k) (find (has_id id) (with_first_changed (has_id id) f ls))) e ∙ rest

-- nothing is found where the layer is not there
none_found : (id : ℕ) (ls : List PageLayer) → has_layer id ls ≡ false → find (has_id id) ls ≡ None
none_found id ls h = go (find (has_id id) ls) h
  where
    go : (o : Option PageLayer) → is_some o ≡ false → o ≡ None
    go None h = refl
    go (Some l) h = absurd (cc)

-- a layer is moved
pub found-moved : (i at id : ℕ) (ls : List PageLayer) → AreDistinctLayers ls → find (has_id id) (with_layer_moved i at ls) ≡ find (has_id id) ls
found-moved i at id ls d = go (find (has_id i) ls) refl
  where
    here : (l : PageLayer) → find (has_id i) ls ≡ Some l → (b : Bool) → (i == id) ≡ b → find (has_id id) (insert (without_first (has_id i) ls) at l) ≡ find (has_id id) ls
    here l e true same =
        let is : i ≡ id = eqb-true i id same in
        let mine : l.id ≡ i = found_id i ls l e in
        let passes : (l.id == id) ≡ true = ap (λ (n : ℕ). n == id) mine ∙ same in
        let gone : has_layer id (without_first (has_id i) ls) ≡ false = ap (λ (n : ℕ). has_layer n (without_first (has_id i) ls)) (sym is) ∙ absent-taken i ls d in
        found-new id l (without_first (has_id i) ls) at passes (none_found id (without_first (has_id i) ls) gone) ∙ sym e ∙ ap (λ (n : ℕ). find (has_id n) ls) is
    here l e false differs =
        let mine : l.id ≡ i = found_id i ls l e in
        found-insert id l (without_first (has_id i) ls) at (ap (λ (n : ℕ). n == id) mine ∙ differs) ∙ found-without i id ls differs

    go : (o : Option PageLayer) → find (has_id i) ls ≡ o → find (has_id id) (put_at at o (without_first (has_id i) ls)) ≡ find (has_id id) ls
    go (Some l) e = here l e (i == id) refl
    go None e = ap (λ (ks : List PageLayer). find (has_id id) ks) (nothing_taken (has_id i) ls e)
