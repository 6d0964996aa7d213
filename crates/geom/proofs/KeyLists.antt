-- Keys are the same exactly where they tie, and what a list of keys has.
use Rattle.std.proofs.Common.{◌≡◌, ℕ, ◌+◌, ◌<◌, Bool, true, false, ◌||◌, List, [], ◌∷◌, length, take, get_or, refl, sym, ◌∙◌, ap, subst, arith}
use Rattle.std.specs.List.{list_any}
use Rattle.std.specs.Ordering.{eq_by_cmp, is_eq}
use Rattle.std.specs.Cmp.{Equal-is, tied_itself}
use Rattle.std.proofs.lemmas.Bool.Decides.{nat_tests}
use Rattle.std.proofs.lemmas.List.Folds.{list_any_more}
use Rattle.geom.specs.declared.tile.TileKey.{TileKey}
use Rattle.geom.specs.KeyOrder.{key_cmp}
use Rattle.geom.specs.KeyLists.{same_key, has_key}
use Rattle.geom.proofs.KeyOrders.{key_total, key_ties}

-- keys that are the same are one key
pub one_key : (k q : TileKey) → same_key k q ≡ true → k ≡ q
one_key k q h =
    let layer : k.layer ≡ q.layer = grind (arith, nat_tests) in
    let x : k.x ≡ q.x = grind (arith, nat_tests) in
    let y : k.y ≡ q.y = grind (arith, nat_tests) in
    let stamp : k.stamp ≡ q.stamp = grind (arith, nat_tests) in
    λ i. record { layer = layer i; x = x i; y = y i; stamp = stamp i }

pub key_itself : (k : TileKey) → same_key k k ≡ true
key_itself k = grind (arith, nat_tests)

pub same_from : (k q : TileKey) → k ≡ q → same_key k q ≡ true
same_from k q e = ap (λ (z : TileKey). same_key k z) (sym e) ∙ key_itself k

either_way : (a b : Bool) → (a ≡ true → b ≡ true) → (b ≡ true → a ≡ true) → a ≡ b
either_way true b there back = sym (there refl)
either_way false true there back = back refl
either_way false false there back = refl

pub same_ties : (k q : TileKey) → same_key k q ≡ eq_by_cmp key_cmp q k
same_ties k q =
    either_way (same_key k q) (eq_by_cmp key_cmp q k)
    (λ t. subst (λ (z : TileKey). eq_by_cmp key_cmp q z ≡ true) (sym (one_key k q t)) (ap is_eq (tied_itself key_total q)))
    (λ t. same_from k q (sym (key_ties q k ((Equal-is (key_cmp q k)).0 t))))

pub has_key_more : (keys : List TileKey) (i : ℕ) (d q : TileKey) → i < length keys → has_key (take (i + 1) keys) q ≡ (has_key (take i keys) q || eq_by_cmp key_cmp q (get_or keys i d))
has_key_more keys i d q lt =
    list_any_more (λ k. same_key k q) keys i d lt ∙ ap (λ b. has_key (take i keys) q || b) (same_ties (get_or keys i d) q)

pub has_key_ties : (ks : List TileKey) (q : TileKey) → has_key ks q ≡ list_any (eq_by_cmp key_cmp q) ks
has_key_ties [] q = refl
has_key_ties (k ∷ ks) q = λ i. same_ties k q i || has_key_ties ks q i
