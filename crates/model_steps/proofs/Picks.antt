-- Lists that are picked by tests.
use Rattle.std.proofs.Common.{◌≡◌, inl, inr, Bool, true, false, cond, not, ◌&&◌, ◌||◌, List, [], ◌∷◌, length, filter, map, suc, refl, sym, ◌∙◌, ap}
use Rattle.geom.specs.declared.tile.TileKey.{TileKey}
use Rattle.geom.specs.KeyLists.{same_key, has_key, AreDistinctKeys}
use Rattle.geom.proofs.KeyLists.{one_key, same_from}
use Rattle.tile_priority.specs.Ordered.{In}
use Rattle.tile_priority.proofs.StayAlike.{filter_both}
use Rattle.model_history.specs.Tiles.{without_keys}
use Rattle.model_history.proofs.BoolFacts.{not_both, is_false, or_left_false, or_right_false}

-- tests that agree on the elements of a list pick the same
pub filter_same : {X : Type 0} (f g : X → Bool) (xs : List X) → ((x : X) → In x xs → f x ≡ g x) → filter f xs ≡ filter g xs
filter_same f g [] e = refl
filter_same f g (x ∷ xs) e =
    let h : f x ≡ g x = e x (inl refl) in
    let r : filter f xs ≡ filter g xs = filter_same f g xs (λ y i. e y (inr i)) in
    λ j. cond (h j) (x ∷ r j) (r j)

pub filter_map_test : {X Y : Type 0} (f : X → Y) (p : Y → Bool) (xs : List X) → filter p (map f xs) ≡ map f (filter (λ x. p (f x)) xs)
filter_map_test f p [] = refl
filter_map_test f p (x ∷ xs) = by_test (p (f x)) (filter_map_test f p xs)
  where
    by_test : (t : Bool) → filter p (map f xs) ≡ map f (filter (λ x. p (f x)) xs)
        → cond t (f x ∷ filter p (map f xs)) (filter p (map f xs)) ≡ map f (cond t (x ∷ filter (λ x. p (f x)) xs) (filter (λ x. p (f x)) xs))
    by_test true e = ap (λ ys. f x ∷ ys) e
    by_test false e = e

and_swap : (a b : Bool) → a && b ≡ b && a
and_swap true true = refl
and_swap true false = refl
and_swap false true = refl
and_swap false false = refl

pub filter_swap : {X : Type 0} (f g : X → Bool) (xs : List X) → filter f (filter g xs) ≡ filter g (filter f xs)
filter_swap f g xs = filter_both f g xs ∙ filter_same (λ x. g x && f x) (λ x. f x && g x) xs (λ x i. and_swap (g x) (f x)) ∙ sym (filter_both g f xs)

all_stay : (ks : List TileKey) → ks ≡ filter (λ k. not (has_key [] k)) ks
all_stay [] = refl
all_stay (k ∷ ks) = ap (λ ls. k ∷ ls) (all_stay ks)

pub without_is : (ks qs : List TileKey) → without_keys ks qs ≡ filter (λ k. not (has_key qs k)) ks
without_is ks [] = all_stay ks
without_is ks (q ∷ qs) = refl

none_gone : (ks : List TileKey) (q : TileKey) → has_key ks q ≡ false → filter (λ k. not (has_key (q ∷ []) k)) ks ≡ ks
none_gone [] q h = refl
none_gone (k ∷ ks) q h =
    let n : same_key q k ≡ false = is_false (same_key q k) (λ t. not_both (same_key k q) (same_from k q (sym (one_key q k t))) (or_left_false (same_key k q) (has_key ks q) h)) in
    let r : filter (λ k. not (has_key (q ∷ []) k)) ks ≡ ks = none_gone ks q (or_right_false (same_key k q) (has_key ks q) h) in
    rw n (ap (λ ls. k ∷ ls) r)

-- a key that is taken from others that have it once leaves one fewer
pub shorter : (ks : List TileKey) (q : TileKey) → AreDistinctKeys ks → has_key ks q ≡ true → suc (length (filter (λ k. not (has_key (q ∷ []) k)) ks)) ≡ length ks
shorter [] q d h = absurd cc
shorter (k ∷ ks) q d h = by_key (same_key q k) refl (shorter ks q d.1)
  where
    same_back : (a b : TileKey) → same_key a b ≡ true → same_key b a ≡ true
    same_back a b t = same_from b a (sym (one_key a b t))

    by_key : (b : Bool) → same_key q k ≡ b → (has_key ks q ≡ true → suc (length (filter (λ k. not (has_key (q ∷ []) k)) ks)) ≡ length ks)
        → suc (length (cond (not (b || false)) (k ∷ filter (λ k. not (has_key (q ∷ []) k)) ks) (filter (λ k. not (has_key (q ∷ []) k)) ks))) ≡ suc (length ks)
    by_key true e f =
        let n : has_key ks q ≡ false = ap (has_key ks) (one_key q k e) ∙ d.0 in
        ap (λ ls. suc (length ls)) (none_gone ks q n)
    by_key false e f =
        let n : same_key k q ≡ false = is_false (same_key k q) (λ t. not_both (same_key q k) (same_back k q t) e) in
        ap suc (f (ap (λ b. b || has_key ks q) (sym n) ∙ h))
