-- What stays true of layers when one is changed, taken out or put in.
use Rattle.std.proofs.Common.{ℕ, zero, suc, ◌≡◌, ◌<◌, ◌≤◌, ◌==◌, Bool, true, false, cond, Option, Some, None, List, [], ◌∷◌, length, map, refl, ap, sym, ◌∙◌, subst, arith, eqb-true}
use Rattle.std.specs.Prelude.{is_some}
use Rattle.std.specs.List.{find, insert, AllByRecursion}
use Rattle.std.proofs.lemmas.List.Edits.{length-insert}
use Rattle.std.proofs.lemmas.Bool.Decides.{nat_tests}
use Rattle.page_layers.specs.Layers.{PageLayer, has_id, put_at, with_layer_moved}
use Rattle.page_layers.specs.Lists.{with_first_changed, without_first}
use Rattle.page_layers.specs.Refusals.{has_layer}
use Rattle.page_layers.specs.Sound.{AreDistinctLayers}

-- a list with an element put in, element by element
pub insert_next : {A : Type 0} (x y : A) (xs : List A) (n : ℕ) → insert (x ∷ xs) (suc n) y ≡ x ∷ insert xs n y
insert_next x y xs n = refl

-- ---- what holds of each element

pub each-weaker : {A : Type 0} (P Q : A → Type 0) → ((x : A) → P x → Q x) → (xs : List A) → AllByRecursion P xs → AllByRecursion Q xs
each-weaker P Q w [] all = tt
each-weaker P Q w (x ∷ xs) all = (w x all.0, each-weaker P Q w xs all.1)

pub each-changed : {A : Type 0} (P : A → Type 0) (p : A → Bool) (f : A → A) → ((x : A) → P x → P (f x)) → (xs : List A) → AllByRecursion P xs → AllByRecursion P (with_first_changed p f xs)
each-changed P p f keeps [] all = tt
each-changed {A} P p f keeps (x ∷ xs) all = go (p x) (each-changed P p f keeps xs all.1)
  where
    go : (b : Bool) → AllByRecursion P (with_first_changed p f xs) → AllByRecursion P (cond b (f x ∷ xs) (x ∷ with_first_changed p f xs))
    go true rest = (keeps x all.0, all.1)
    go false rest = (all.0, rest)

pub each-without : {A : Type 0} (P : A → Type 0) (p : A → Bool) (xs : List A) → AllByRecursion P xs → AllByRecursion P (without_first p xs)
each-without P p [] all = tt
each-without {A} P p (x ∷ xs) all = go (p x) (each-without P p xs all.1)
  where
    go : (b : Bool) → AllByRecursion P (without_first p xs) → AllByRecursion P (cond b xs (x ∷ without_first p xs))
    go true rest = all.1
    go false rest = (all.0, rest)

pub each-insert : {A : Type 0} (P : A → Type 0) (xs : List A) (at : ℕ) (y : A) → P y → AllByRecursion P xs → AllByRecursion P (insert xs at y)
each-insert P xs zero y new all = (new, all)
each-insert P [] (suc n) y new all = (new, tt)
each-insert P (x ∷ xs) (suc n) y new all = (all.0, each-insert P xs n y new all.1)

-- the element that is found is one of them
pub each-found : {A : Type 0} (P : A → Type 0) (p : A → Bool) (xs : List A) (y : A) → find p xs ≡ Some y → AllByRecursion P xs → P y
each-found P p [] y found all = absurd (cc)
each-found {A} P p (x ∷ xs) y found all = go (p x) found (λ f. each-found P p xs y f all.1)
  where
    go : (b : Bool) → cond b (Some x) (find p xs) ≡ Some y → (find p xs ≡ Some y → P y) → P y
    go true f rest = let same : x ≡ y = cc in subst P same all.0
    go false f rest = rest f

-- ---- how many there are

pub length-changed : {A : Type 0} (p : A → Bool) (f : A → A) (xs : List A) → length (with_first_changed p f xs) ≡ length xs
length-changed p f [] = refl
length-changed {A} p f (x ∷ xs) = go (p x) (length-changed p f xs)
  where
    go : (b : Bool) → length (with_first_changed p f xs) ≡ length xs → length (cond b (f x ∷ xs) (x ∷ with_first_changed p f xs)) ≡ suc (length xs)
    go true rest = refl
    go false rest = ap suc rest

pub length-without : {A : Type 0} (p : A → Bool) (xs : List A) → length (without_first p xs) ≤ length xs
length-without p [] = omega arith
length-without {A} p (x ∷ xs) = go (p x) (length-without p xs)
  where
    go : (b : Bool) → length (without_first p xs) ≤ length xs → length (cond b xs (x ∷ without_first p xs)) ≤ suc (length xs)
    go true rest = omega arith
    go false rest = omega (arith, rest)

-- where one is found, one fewer is left
pub length-taken : {A : Type 0} (p : A → Bool) (xs : List A) (y : A) → find p xs ≡ Some y → suc (length (without_first p xs)) ≡ length xs
length-taken p [] y found = absurd (cc)
length-taken {A} p (x ∷ xs) y found = go (p x) found (length-taken p xs y)
  where
    go : (b : Bool) → cond b (Some x) (find p xs) ≡ Some y → (find p xs ≡ Some y → suc (length (without_first p xs)) ≡ length xs) → suc (length (cond b xs (x ∷ without_first p xs))) ≡ suc (length xs)
    go true f rest = refl
    go false f rest = ap suc (rest f)

-- ---- a view that a change keeps

pub view-changed : {A B : Type 0} (v : A → B) (p : A → Bool) (f : A → A) → ((x : A) → v (f x) ≡ v x) → (xs : List A) → map v (with_first_changed p f xs) ≡ map v xs
view-changed v p f keeps [] = refl
view-changed {A} v p f keeps (x ∷ xs) = go (p x) (view-changed v p f keeps xs)
  where
    go : (b : Bool) → map v (with_first_changed p f xs) ≡ map v xs → map v (cond b (f x ∷ xs) (x ∷ with_first_changed p f xs)) ≡ v x ∷ map v xs
    go true rest = ap (λ (y : _). y ∷ map v xs) (keeps x)
    go false rest = ap (λ (ys : List _). v x ∷ ys) rest

-- ---- ids of their own

has_layer-step : (x : ℕ) (l : PageLayer) (ls ks : List PageLayer) → has_layer x ls ≡ has_layer x ks → has_layer x (l ∷ ls) ≡ has_layer x (l ∷ ks)
has_layer-step x l ls ks same = go (l.id == x) same
  where
    go : (b : Bool) → is_some (find (has_id x) ls) ≡ is_some (find (has_id x) ks) → is_some (cond b (Some l) (find (has_id x) ls)) ≡ is_some (cond b (Some l) (find (has_id x) ks))
    go true s = refl
    go false s = s

has_layer-changed : (x : ℕ) (p : PageLayer → Bool) (f : PageLayer → PageLayer) → ((l : PageLayer) → (f l).id ≡ l.id) → (ls : List PageLayer) → has_layer x (with_first_changed p f ls) ≡ has_layer x ls
has_layer-changed x p f keeps [] = refl
has_layer-changed x p f keeps (l ∷ ls) = go (p l) (has_layer-changed x p f keeps ls)
  where
    here : (b c : Bool) → b ≡ c → is_some (cond b (Some (f l)) (find (has_id x) ls)) ≡ is_some (cond c (Some l) (find (has_id x) ls))
    here true true e = refl
    here false false e = refl
    here true false e = absurd (cc)
    here false true e = absurd (cc)

    go : (b : Bool) → has_layer x (with_first_changed p f ls) ≡ has_layer x ls → has_layer x (cond b (f l ∷ ls) (l ∷ with_first_changed p f ls)) ≡ has_layer x (l ∷ ls)
    go true rest = here ((f l).id == x) (l.id == x) (ap (λ (n : ℕ). n == x) (keeps l))
    go false rest = has_layer-step x l (with_first_changed p f ls) ls rest

pub distinct-changed : (p : PageLayer → Bool) (f : PageLayer → PageLayer) → ((l : PageLayer) → (f l).id ≡ l.id) → (ls : List PageLayer) → AreDistinctLayers ls → AreDistinctLayers (with_first_changed p f ls)
distinct-changed p f keeps [] d = tt
distinct-changed p f keeps (l ∷ ls) d = go (p l) (distinct-changed p f keeps ls d.1)
  where
    go : (b : Bool) → AreDistinctLayers (with_first_changed p f ls) → AreDistinctLayers (cond b (f l ∷ ls) (l ∷ with_first_changed p f ls))
    go true rest = (ap (λ (n : ℕ). has_layer n ls) (keeps l) ∙ d.0, d.1)
    go false rest = (has_layer-changed l.id p f keeps ls ∙ d.0, rest)

-- a layer that is not there is not after the first, and is not the first
absent-tail : (x : ℕ) (l : PageLayer) (ls : List PageLayer) → has_layer x (l ∷ ls) ≡ false → has_layer x ls ≡ false
absent-tail x l ls h = go (l.id == x) h
  where
    go : (a : Bool) → is_some (cond a (Some l) (find (has_id x) ls)) ≡ false → has_layer x ls ≡ false
    go true h = absurd (cc)
    go false h = h

absent-head : (x : ℕ) (l : PageLayer) (ls : List PageLayer) → has_layer x (l ∷ ls) ≡ false → (l.id == x) ≡ false
absent-head x l ls h = go (l.id == x) h
  where
    go : (a : Bool) → is_some (cond a (Some l) (find (has_id x) ls)) ≡ false → a ≡ false
    go true h = absurd (cc)
    go false h = refl

-- a layer is not there where it is neither the first nor after it
pub absent-both : (x : ℕ) (l : PageLayer) (ls : List PageLayer) → (l.id == x) ≡ false → has_layer x ls ≡ false → has_layer x (l ∷ ls) ≡ false
absent-both x l ls e h = ap (λ (a : Bool). is_some (cond a (Some l) (find (has_id x) ls))) e ∙ h

-- the same, of a number that is no id, for a test the other way round
other_way : (x y : ℕ) → (x == y) ≡ false → (y == x) ≡ false
other_way x y h = grind (arith, nat_tests, h)

absent-insert : (x : ℕ) (l : PageLayer) (ls : List PageLayer) (at : ℕ) → (l.id == x) ≡ false → has_layer x ls ≡ false → has_layer x (insert ls at l) ≡ false
absent-insert x l ls zero e h = absent-both x l ls e h
absent-insert x l [] (suc n) e h = absent-both x l [] e h
absent-insert x l (k ∷ ls) (suc n) e h = absent-both x k (insert ls n l) (absent-head x k ls h) (absent-insert x l ls n e (absent-tail x k ls h))

pub distinct-insert : (l : PageLayer) (ls : List PageLayer) (at : ℕ) → has_layer l.id ls ≡ false → AreDistinctLayers ls → AreDistinctLayers (insert ls at l)
distinct-insert l ls zero h d = (h, d)
distinct-insert l [] (suc n) h d = (refl, tt)
distinct-insert l (k ∷ ls) (suc n) h d = (absent-insert k.id l ls n (other_way k.id l.id (absent-head l.id k ls h)) d.0, distinct-insert l ls n (absent-tail l.id k ls h) d.1)

-- the layer that is found has the id that was looked for
pub found_id : (id : ℕ) (ls : List PageLayer) (l : PageLayer) → find (has_id id) ls ≡ Some l → l.id ≡ id
found_id id [] l found = absurd (cc)
found_id id (k ∷ ls) l found = go (k.id == id) refl found (found_id id ls l)
  where
    go : (b : Bool) → (k.id == id) ≡ b → cond b (Some k) (find (has_id id) ls) ≡ Some l → (find (has_id id) ls ≡ Some l → l.id ≡ id) → l.id ≡ id
    go true e f rest = let same : k ≡ l = cc in ap (λ (x : PageLayer). x.id) (sym same) ∙ eqb-true k.id id e
    go false e f rest = rest f

-- a layer that was taken out is not there any more
pub absent-taken : (id : ℕ) (ls : List PageLayer) → AreDistinctLayers ls → has_layer id (without_first (has_id id) ls) ≡ false
absent-taken id [] d = refl
absent-taken id (k ∷ ls) d = go (k.id == id) refl (absent-taken id ls d.1)
  where
    go : (b : Bool) → (k.id == id) ≡ b → has_layer id (without_first (has_id id) ls) ≡ false → has_layer id (cond b ls (k ∷ without_first (has_id id) ls)) ≡ false
    go true e rest = ap (λ (n : ℕ). has_layer n ls) (sym (eqb-true k.id id e)) ∙ d.0
    go false e rest = absent-both id k (without_first (has_id id) ls) e rest

-- a layer that is not there is not there without another
pub absent-without : (x : ℕ) (p : PageLayer → Bool) (ls : List PageLayer) → has_layer x ls ≡ false → has_layer x (without_first p ls) ≡ false
absent-without x p [] h = refl
absent-without x p (l ∷ ls) h = go (p l) (absent-tail x l ls h) (absent-without x p ls (absent-tail x l ls h))
  where
    go : (b : Bool) → has_layer x ls ≡ false → has_layer x (without_first p ls) ≡ false → has_layer x (cond b ls (l ∷ without_first p ls)) ≡ false
    go true t r = t
    go false t r = has_layer-step x l (without_first p ls) ls (r ∙ sym t) ∙ h

pub distinct-without : (p : PageLayer → Bool) (ls : List PageLayer) → AreDistinctLayers ls → AreDistinctLayers (without_first p ls)
distinct-without p [] d = tt
distinct-without p (l ∷ ls) d = go (p l) (distinct-without p ls d.1)
  where
    go : (b : Bool) → AreDistinctLayers (without_first p ls) → AreDistinctLayers (cond b ls (l ∷ without_first p ls))
    go true rest = d.1
    go false rest = (absent-without l.id p ls d.0, rest)

-- ---- a layer that is moved

-- what holds of a moved layer's list, by whether the layer is there
pub moved-by : (P : List PageLayer → Type 0) (id at : ℕ) (ls : List PageLayer) → P ls → ((l : PageLayer) → find (has_id id) ls ≡ Some l → P (insert (without_first (has_id id) ls) at l)) → (find (has_id id) ls ≡ None → without_first (has_id id) ls ≡ ls) → P (with_layer_moved id at ls)
moved-by P id at ls same there none = go (find (has_id id) ls) refl
  where
    go : (o : Option PageLayer) → find (has_id id) ls ≡ o → P (put_at at o (without_first (has_id id) ls))
    go (Some l) e = there l e
    go None e = subst P (sym (none e)) same

-- nothing is taken out where nothing is found
pub nothing_taken : {A : Type 0} (p : A → Bool) (xs : List A) → find p xs ≡ None → without_first p xs ≡ xs
nothing_taken p [] e = refl
nothing_taken {A} p (x ∷ xs) e = go (p x) e (nothing_taken p xs)
  where
    go : (b : Bool) → cond b (Some x) (find p xs) ≡ None → (find p xs ≡ None → without_first p xs ≡ xs) → cond b xs (x ∷ without_first p xs) ≡ x ∷ xs
    go true e rest = absurd (cc)
    go false e rest = ap (λ (ys : List A). x ∷ ys) (rest e)

pub distinct-moved : (id at : ℕ) (ls : List PageLayer) → AreDistinctLayers ls → AreDistinctLayers (with_layer_moved id at ls)
distinct-moved id at ls d = moved-by AreDistinctLayers id at ls d (λ l e. distinct-insert l (without_first (has_id id) ls) at (ap (λ (n : ℕ). has_layer n (without_first (has_id id) ls)) (found_id id ls l e) ∙ absent-taken id ls d) (distinct-without (has_id id) ls d)) (nothing_taken (has_id id) ls)

pub each-moved : (P : PageLayer → Type 0) (id at : ℕ) (ls : List PageLayer) → AllByRecursion P ls → AllByRecursion P (with_layer_moved id at ls)
each-moved P id at ls all = moved-by (AllByRecursion P) id at ls all (λ l e. each-insert P (without_first (has_id id) ls) at l (each-found P (has_id id) ls l e all) (each-without P (has_id id) ls all)) (nothing_taken (has_id id) ls)

pub length-moved : (id at n : ℕ) (ls : List PageLayer) → at < length ls → length ls ≤ n → length (with_layer_moved id at ls) ≤ n
length-moved id at n ls lt le = moved-by (λ (ks : List PageLayer). length ks ≤ n) id at ls le (λ l e. let one : suc (length (without_first (has_id id) ls)) ≡ length ls = length-taken (has_id id) ls l e in let le' : at ≤ length (without_first (has_id id) ls) = omega (arith, one, lt) in omega (arith, one, le, length-insert (without_first (has_id id) ls) at l le')) (nothing_taken (has_id id) ls)
