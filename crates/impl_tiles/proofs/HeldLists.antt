-- Lists of held keys in their order, cut at a key.
use Rattle.std.proofs.Common.{◌≡◌, Bool, true, false, not, ◌&&◌, T, List, [], ◌∷◌, ◌++◌, map, Some, None, refl, ap}
use Rattle.std.specs.declared.cmp.Ordering.TheVariants.{Less}
use Rattle.std.specs.Ordering.{eq_by_cmp}
use Rattle.std.specs.FinMap.{find, put, is_sorted}
use Rattle.std.specs.FinMap.Entries.{where_key, below_all}
use Rattle.geom.specs.declared.tile.TileKey.{TileKey}
use Rattle.geom.specs.KeyOrder.{key_cmp}
use Rattle.impl_tiles.specs.declared.held.KeyedPlace.{KeyedPlace}
use Rattle.impl_tiles.specs.inner.TileTables.{Before, After, Rises}
use Rattle.geom.proofs.KeyOrders.{key_total}
use Rattle.impl_tiles.proofs.StoreKeyOrders.{ties_itself, flips}

-- what is above a key is above each key below that
pub after_more : (k l : TileKey) (hs : List KeyedPlace) → key_cmp k l ≡ Less → After l hs → After k hs
after_more k l [] p a = tt
after_more k l (h ∷ hs) p a = (key_total.trans k l h.key p a.0, after_more k l hs p a.1)

pub after_append : (k : TileKey) (front back : List KeyedPlace) → After k front → After k back → After k (front ++ back)
after_append k [] back a b = b
after_append k (h ∷ front) back a b = (a.0, after_append k front back a.1 b)

pub after_parts : (k : TileKey) (front back : List KeyedPlace) → After k (front ++ back) → After k front × After k back
after_parts k [] back a = (tt, a)
after_parts k (h ∷ front) back a = let later = after_parts k front back a.1 in ((a.0, later.0), later.1)

-- in a list that rises, what stands before a key is below it, and what stands after it is above it
pub split_before : (front back : List KeyedPlace) (one : KeyedPlace) → Rises (front ++ one ∷ back) → Before one.key front
split_before [] back one r = tt
split_before (h ∷ front) back one r = ((after_parts h.key front (one ∷ back) r.0).1.0, split_before front back one r.1)

pub split_after : (front back : List KeyedPlace) (one : KeyedPlace) → Rises (front ++ one ∷ back) → After one.key back
split_after [] back one r = r.0
split_after (h ∷ front) back one r = split_after front back one r.1

-- a key may be taken out, and may be put between what is below and what is above it
pub rises_without : (front back : List KeyedPlace) (one : KeyedPlace) → Rises (front ++ one ∷ back) → Rises (front ++ back)
rises_without [] back one r = r.1
rises_without (h ∷ front) back one r =
    let parts = after_parts h.key front (one ∷ back) r.0 in
    (after_append h.key front back parts.0 parts.1.1, rises_without front back one r.1)

pub rises_with : (front back : List KeyedPlace) (one : KeyedPlace) → Before one.key front → After one.key back → Rises (front ++ back) → Rises (front ++ one ∷ back)
rises_with [] back one b a r = (a, r)
rises_with (h ∷ front) back one b a r =
    let parts = after_parts h.key front back r.0 in
    (after_append h.key front (one ∷ back) parts.0 (b.0, parts.1), rises_with front back one b.1 a r.1)

module _ {X : Type 0} (v : KeyedPlace → X) where
  abbrev pub row : KeyedPlace → TileKey × X
  row h = (h.key, v h)

  below_rows : (k : TileKey) (hs : List KeyedPlace) → After k hs → T (below_all key_cmp k (map row hs))
  below_rows k [] a = tt
  below_rows k (h ∷ hs) a = rw a.0 (below_rows k hs a.1)

  pub sorted_rows : (hs : List KeyedPlace) → Rises hs → T (is_sorted key_cmp (map row hs))
  sorted_rows [] r = tt
  sorted_rows (h ∷ hs) r = both (below_all key_cmp h.key (map row hs)) (is_sorted key_cmp (map row hs)) (below_rows h.key hs r.0) (sorted_rows hs r.1)
    where
      both : (a b : Bool) → T a → T b → T (a && b)
      both true b p q = q
      both false b p q = p

  -- a key is not found among those that are all below or all above it
  pub find_after : (k : TileKey) (hs : List KeyedPlace) → After k hs → find key_cmp k (map row hs) ≡ None
  find_after k [] a = refl
  find_after k (h ∷ hs) a = rw a.0 (find_after k hs a.1)

  pub find_before : (k : TileKey) (hs : List KeyedPlace) (rest : List (TileKey × X)) → Before k hs → find key_cmp k (map row hs ++ rest) ≡ find key_cmp k rest
  find_before k [] rest b = refl
  find_before k (h ∷ hs) rest b = rw (flips h.key k b.0) (find_before k hs rest b.1)

  pub find_here : (k : TileKey) (x : X) (rest : List (TileKey × X)) → find key_cmp k ((k, x) ∷ rest) ≡ Some x
  find_here k x rest = rw (ties_itself k) refl

  -- a key that is put where it stands, or where it would go
  pub put_before : (k : TileKey) (x : X) (hs : List KeyedPlace) (rest : List (TileKey × X)) → Before k hs → put key_cmp k x (map row hs ++ rest) ≡ map row hs ++ put key_cmp k x rest
  put_before k x [] rest b = refl
  put_before k x (h ∷ hs) rest b = rw (flips h.key k b.0) (ap (λ es. row h ∷ es) (put_before k x hs rest b.1))

  pub put_after : (k : TileKey) (x : X) (hs : List KeyedPlace) → After k hs → put key_cmp k x (map row hs) ≡ (k, x) ∷ map row hs
  put_after k x [] a = refl
  put_after k x (h ∷ hs) a = rw a.0 refl

  pub put_here : (k : TileKey) (x y : X) (rest : List (TileKey × X)) → put key_cmp k x ((k, y) ∷ rest) ≡ (k, x) ∷ rest
  put_here k x y rest = rw (ties_itself k) refl

  -- the rows of the other keys
  pub others_before : (k : TileKey) (hs : List KeyedPlace) (rest : List (TileKey × X)) → Before k hs → where_key key_cmp (λ x. not (eq_by_cmp key_cmp k x)) (map row hs ++ rest) ≡ map row hs ++ where_key key_cmp (λ x. not (eq_by_cmp key_cmp k x)) rest
  others_before k [] rest b = refl
  others_before k (h ∷ hs) rest b = rw (flips h.key k b.0) (ap (λ es. row h ∷ es) (others_before k hs rest b.1))

  pub others_after : (k : TileKey) (hs : List KeyedPlace) → After k hs → where_key key_cmp (λ x. not (eq_by_cmp key_cmp k x)) (map row hs) ≡ map row hs
  others_after k [] a = refl
  others_after k (h ∷ hs) a = rw a.0 (ap (λ es. row h ∷ es) (others_after k hs a.1))
