-- What is left after the keys of a list are taken out one by one.
use Rattle.std.proofs.Common.{◌≡◌, ℕ, ◌+◌, ◌<◌, Bool, true, false, not, ◌||◌, cond, List, length, take, get_or, Option, Some, None, refl, sym, ◌∙◌, ap}
use Rattle.std.specs.Ordering.{eq_by_cmp}
use Rattle.std.specs.FinMap as fin
use Rattle.geom.specs.declared.tile.TileKey.{TileKey}
use Rattle.geom.specs.KeyOrder.{key_cmp}
use Rattle.geom.specs.KeyLists.{has_key}
use Rattle.impl_tiles.specs.inner.Rows.{has_image, if_live, if_not_named}
use Rattle.impl_tiles.specs.inner.TileTables.{is_unnamed}
use Rattle.geom.proofs.KeyOrders.{key_total}
use Rattle.geom.proofs.KeyLists.{has_key_more}

once_more : {X : Type 0} (a b : Bool) (x : Option (Option X)) → cond b None (if_not_named a x) ≡ if_not_named (a || b) x
once_more true true x = refl
once_more true false x = refl
once_more false true x = refl
once_more false false x = refl

-- one key more is taken out
pub dropped_more : {X : Type 0} (first now new : fin.FinMap key_cmp (Option X)) (keys : List TileKey) (i : ℕ) (d q : TileKey) → i < length keys
    → fin.get now q ≡ if_not_named (has_key (take i keys) q) (fin.get first q) → new ≡ fin.remove now (get_or keys i d)
    → fin.get new q ≡ if_not_named (has_key (take (i + 1) keys) q) (fin.get first q)
dropped_more first now new keys i d q lt so_far is =
    ap (λ m. fin.get m q) is
    ∙ fin.get-remove key_total now (get_or keys i d) q
    ∙ ap (cond (eq_by_cmp key_cmp q (get_or keys i d)) None) so_far
    ∙ once_more (has_key (take i keys) q) (eq_by_cmp key_cmp q (get_or keys i d)) (fin.get first q)
    ∙ ap (λ b. if_not_named b (fin.get first q)) (sym (has_key_more keys i d q lt))

-- a key with an image goes, and one without stays
pub gone_one : {X : Type 0} (b : Bool) (x : Option (Option X)) → (b ≡ true → has_image x ≡ true) → cond b None x ≡ if_live (not b) x
gone_one true None has = let e = has refl in cc
gone_one true (Some None) has = let e = has refl in cc
gone_one true (Some (Some x)) has = refl
gone_one false x has = refl

pub stays_one : {X : Type 0} (b : Bool) (x : Option (Option X)) → (b ≡ true → has_image x ≡ false) → x ≡ if_live (not b) x
stays_one true None has = refl
stays_one true (Some None) has = refl
stays_one true (Some (Some x)) has = let e = has refl in cc
stays_one false x has = refl

twice : {X : Type 0} (a b : Bool) (x : Option (Option X)) → if_live (not b) (if_live (not a) x) ≡ if_live (not (a || b)) x
twice true true None = refl
twice true true (Some None) = refl
twice true true (Some (Some x)) = refl
twice true false x = refl
twice false true x = refl
twice false false x = refl

-- one key more is given up
pub given_up_more : {X : Type 0} (first now new : fin.FinMap key_cmp (Option X)) (keys : List TileKey) (i : ℕ) (d q : TileKey) → i < length keys
    → fin.get now q ≡ if_live (is_unnamed (take i keys) q) (fin.get first q) → fin.get new q ≡ if_live (not (eq_by_cmp key_cmp q (get_or keys i d))) (fin.get now q)
    → fin.get new q ≡ if_live (is_unnamed (take (i + 1) keys) q) (fin.get first q)
given_up_more first now new keys i d q lt so_far is =
    is
    ∙ ap (if_live (not (eq_by_cmp key_cmp q (get_or keys i d)))) so_far
    ∙ twice (has_key (take i keys) q) (eq_by_cmp key_cmp q (get_or keys i d)) (fin.get first q)
    ∙ ap (λ b. if_live (not b) (fin.get first q)) (sym (has_key_more keys i d q lt))

-- nothing is given up yet
pub none_given_up : {X : Type 0} (x : Option (Option X)) → x ≡ if_live (not false) x
none_given_up x = refl
