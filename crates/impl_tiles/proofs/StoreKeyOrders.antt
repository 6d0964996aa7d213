-- How keys compare.
use Rattle.std.proofs.Common.{◌≡◌, ◌==◌, true, ◌&&◌, refl, sym, ◌∙◌, ap, arith}
use Rattle.std.specs.declared.cmp.Ordering.{Ordering}
use Rattle.std.specs.declared.cmp.Ordering.TheVariants.{Less, Equal, Greater}
use Rattle.std.specs.Ordering.{ordering_index, ordering_reverse, eq_by_cmp, is_eq}
use Rattle.std.specs.Cmp.{Equal-is, tied_itself}
use Rattle.std.proofs.lemmas.Bool.Decides.{nat_tests}
use Rattle.geom.specs.declared.tile.TileKey.{TileKey}
use Rattle.geom.specs.KeyOrder.{key_cmp}
use Rattle.geom.proofs.KeyOrders.{key_total, key_ties}
use Rattle.geom.proofs.KeyLists.{one_key}

-- a key ties with itself alone
pub tied : (k l : TileKey) → eq_by_cmp key_cmp k l ≡ true → k ≡ l
tied k l h = key_ties k l ((Equal-is (key_cmp k l)).0 h)

pub ties_itself : (k : TileKey) → key_cmp k k ≡ Equal
ties_itself k = tied_itself key_total k

pub tie : (k l : TileKey) → k ≡ l → eq_by_cmp key_cmp k l ≡ true
tie k l e = ap (eq_by_cmp key_cmp k) (sym e) ∙ ap is_eq (ties_itself k)

-- a key below another is above it the other way round
pub flips : (k l : TileKey) → key_cmp k l ≡ Less → key_cmp l k ≡ Greater
flips k l h = key_total.antisymm l k ∙ ap ordering_reverse h

pub flips_back : (k l : TileKey) → key_cmp k l ≡ Greater → key_cmp l k ≡ Less
flips_back k l h = key_total.antisymm l k ∙ ap ordering_reverse h

-- a key below another is another
pub apart : (k l : TileKey) → key_cmp k l ≡ Less → k ≡ l → ⊥
apart k l h e = let t : key_cmp k l ≡ Equal = ap (key_cmp k) (sym e) ∙ ties_itself k in cc

pub tied_back : (k l : TileKey) → key_cmp k l ≡ Equal → key_cmp l k ≡ Equal
tied_back k l h = key_total.antisymm l k ∙ ap ordering_reverse h

-- keys whose fields are the same one by one are one key
pub one_by_fields : (k q : TileKey) → ((k.layer == q.layer) && ((k.x == q.x) && ((k.y == q.y) && (k.stamp == q.stamp)))) ≡ true → k ≡ q
one_by_fields k q h = one_key k q (grind (arith, nat_tests))

-- what a test of an order tells
pub told_less : (o : Ordering) → (ordering_index o == 0) ≡ true → o ≡ Less
told_less Less e = refl
told_less Equal e = absurd cc
told_less Greater e = absurd cc
