-- Rows of held keys as the slab changes at one place.
use Rattle.std.proofs.Common.{◌≡◌, ◌≢◌, ℕ, Bool, true, false, not, List, [], ◌∷◌, ◌++◌, Option, Some, None, option_map, cond, refl, sym, ◌∙◌, ap, T}
use Rattle.std.proofs.lemmas.List.{map-append}
use Rattle.std.specs.Option.{option_and_then}
use Rattle.std.specs.Ordering.{eq_by_cmp}
use Rattle.std.specs.FinMap.{find, put, is_sorted, from_sorted, insert, remove, get-from_sorted, get-insert, get-remove, same_map}
use Rattle.std.specs.FinMap.Entries.{where_key, find-put, find-where_key, is_sorted-put, is_sorted-where_key}
use Rattle.std.specs.Cmp.{eq_by_cmp_equiv}
use Rattle.geom.specs.declared.tile.TileKey.{TileKey}
use Rattle.geom.specs.KeyOrder.{key_cmp}
use Rattle.tile_raster.specs.Images.{Image}
use Rattle.impl_tiles.specs.declared.held.KeyedPlace.{KeyedPlace}
use Rattle.impl_tiles.specs.declared.held.Tile.{Tile}
use Rattle.impl_tiles.specs.inner.TileTables.{shown, rows, Before, After, AreKept}
use Rattle.geom.proofs.KeyOrders.{key_total, key_ties}
use Rattle.impl_tiles.proofs.StoreKeyOrders.{ties_itself, apart}
use Rattle.impl_tiles.proofs.HeldLists.{row, put_before, put_after, put_here, others_before, others_after, find_before, find_after, find_here}

-- a map after a put, and after a key is taken out
pub from_sorted_put : {X : Type 0} (k : TileKey) (x : X) (es : List (TileKey × X)) → T (is_sorted key_cmp es) → from_sorted {R = key_cmp} (put key_cmp k x es) ≡ insert (from_sorted es) k x
from_sorted_put k x es up = same_map key_total key_ties _ _ (λ q.
    get-from_sorted key_cmp _ q (is_sorted-put key_cmp key_total k x es up) ∙ find-put key_cmp key_total q k x es
    ∙ sym (get-insert key_total (from_sorted es) k x q ∙ ap (cond (eq_by_cmp key_cmp q k) (Some x)) (get-from_sorted key_cmp es q up)))

-- none of these keys has this place
abbrev pub Away : ℕ → List KeyedPlace → Type 0
Away p [] = Unit {0}
Away p (h ∷ hs) = (h.place ≢ p) × Away p hs

pub kept_append : (g : ℕ → Option Tile) (front back : List KeyedPlace) → AreKept g front → AreKept g back → AreKept g (front ++ back)
kept_append g [] back a b = b
kept_append g (h ∷ front) back a b = (a.0, kept_append g front back a.1 b)

pub kept_parts : (g : ℕ → Option Tile) (front back : List KeyedPlace) → AreKept g (front ++ back) → AreKept g front × AreKept g back
kept_parts g [] back k = (tt, k)
kept_parts g (h ∷ front) back k = let later = kept_parts g front back k.1 in ((k.0, later.0), later.1)

-- the key of the tile at a place
abbrev key_at : (ℕ → Option Tile) → ℕ → Option TileKey
key_at g p = option_map (λ t. t.key) (g p)

-- an empty place is of no key, and a place is of one key
pub away_vacant : (g : ℕ → Option Tile) (p : ℕ) (hs : List KeyedPlace) → g p ≡ None → AreKept g hs → Away p hs
away_vacant g p [] v k = tt
away_vacant g p (h ∷ hs) v k = (λ e. let n : key_at g p ≡ Some h.key = ap (key_at g) (sym e) ∙ k.0 in let m : key_at g p ≡ None = ap (option_map (λ t. t.key)) v in cc, away_vacant g p hs v k.1)

pub away_before : (g : ℕ → Option Tile) (p : ℕ) (k : TileKey) (hs : List KeyedPlace) → key_at g p ≡ Some k → Before k hs → AreKept g hs → Away p hs
away_before g p k [] is b kept = tt
away_before g p k (h ∷ hs) is b kept = (λ e. let n : key_at g p ≡ Some h.key = ap (key_at g) (sym e) ∙ kept.0 in apart h.key k b.0 (cc), away_before g p k hs is b.1 kept.1)

pub away_after : (g : ℕ → Option Tile) (p : ℕ) (k : TileKey) (hs : List KeyedPlace) → key_at g p ≡ Some k → After k hs → AreKept g hs → Away p hs
away_after g p k [] is a kept = tt
away_after g p k (h ∷ hs) is a kept = (λ e. let n : key_at g p ≡ Some h.key = ap (key_at g) (sym e) ∙ kept.0 in apart k h.key a.0 (cc), away_after g p k hs is a.1 kept.1)

-- the rows of keys that do not have the place at which the slab changes
module _ (g new : ℕ → Option Tile) (p : ℕ) (others : (q : ℕ) → q ≢ p → new q ≡ g q) where
  pub same_rows : (hs : List KeyedPlace) → Away p hs → rows new hs ≡ rows g hs
  same_rows [] a = refl
  same_rows (h ∷ hs) a = λ i. (h.key, option_and_then shown (others h.place a.0 i)) ∷ same_rows hs a.1 i

  pub same_kept : (hs : List KeyedPlace) → Away p hs → AreKept g hs → AreKept new hs
  same_kept [] a k = tt
  same_kept (h ∷ hs) a k = (ap (option_map (λ t. t.key)) (others h.place a.0) ∙ k.0, same_kept hs a.1 k.1)

-- what a held key shows
abbrev pub image_at : (ℕ → Option Tile) → KeyedPlace → Option Image
image_at g h = option_and_then shown (g h.place)

rows_cut : (g : ℕ → Option Tile) (front rest : List KeyedPlace) → rows g (front ++ rest) ≡ rows g front ++ rows g rest
rows_cut g front rest = map-append (row (image_at g)) front rest

abbrev is_other : TileKey → TileKey → Bool
is_other k x = not (eq_by_cmp key_cmp k x)

others_here : (k : TileKey) (x : Option Image) (rest : List (TileKey × Option Image)) → where_key key_cmp (is_other k) ((k, x) ∷ rest) ≡ where_key key_cmp (is_other k) rest
others_here k x rest = rw (ties_itself k) refl

-- one key, and those before and after it
module _ (g new : ℕ → Option Tile) (front back : List KeyedPlace) (one : KeyedPlace) (others : (q : ℕ) → q ≢ one.place → new q ≡ g q)
    (before : Before one.key front) (after : After one.key back) where
  both_sides : Away one.place front → Away one.place back → (x : Option Image)
      → rows new front ++ (one.key, x) ∷ rows new back ≡ rows g front ++ (one.key, x) ∷ rows g back
  both_sides a b x = λ i. same_rows g new one.place others front a i ++ (one.key, x) ∷ same_rows g new one.place others back b i

  -- a key that comes to an empty place
  pub rows_put : g one.place ≡ None → AreKept g (front ++ back)
      → rows new (front ++ one ∷ back) ≡ put key_cmp one.key (image_at new one) (rows g (front ++ back))
  rows_put vacant kept =
      let parts = kept_parts g front back kept in
      rows_cut new front (one ∷ back)
      ∙ both_sides (away_vacant g one.place front vacant parts.0) (away_vacant g one.place back vacant parts.1) (image_at new one)
      ∙ ap (λ es. rows g front ++ es) (sym (put_after (image_at g) one.key (image_at new one) back after))
      ∙ sym (put_before (image_at g) one.key (image_at new one) front (rows g back) before)
      ∙ ap (put key_cmp one.key (image_at new one)) (sym (rows_cut g front back))

  pub kept_put : g one.place ≡ None → option_map (λ t. t.key) (new one.place) ≡ Some one.key → AreKept g (front ++ back) → AreKept new (front ++ one ∷ back)
  kept_put vacant here kept =
      let parts = kept_parts g front back kept in
      kept_append new front (one ∷ back)
      (same_kept g new one.place others front (away_vacant g one.place front vacant parts.0) parts.0)
      (here, same_kept g new one.place others back (away_vacant g one.place back vacant parts.1) parts.1)

  -- the places of the other keys
  others_away : AreKept g (front ++ one ∷ back) → Away one.place front × Away one.place back
  others_away kept =
      let parts = kept_parts g front (one ∷ back) kept in
      (away_before g one.place one.key front parts.1.0 before parts.0, away_after g one.place one.key back parts.1.0 after parts.1.1)

  -- a key whose tile changes
  pub rows_set : AreKept g (front ++ one ∷ back)
      → rows new (front ++ one ∷ back) ≡ put key_cmp one.key (image_at new one) (rows g (front ++ one ∷ back))
  rows_set kept =
      let away = others_away kept in
      rows_cut new front (one ∷ back)
      ∙ both_sides away.0 away.1 (image_at new one)
      ∙ ap (λ es. rows g front ++ es) (sym (put_here (image_at g) one.key (image_at new one) (image_at g one) (rows g back)))
      ∙ sym (put_before (image_at g) one.key (image_at new one) front (rows g (one ∷ back)) before)
      ∙ ap (put key_cmp one.key (image_at new one)) (sym (rows_cut g front (one ∷ back)))

  pub kept_set : option_map (λ t. t.key) (new one.place) ≡ Some one.key → AreKept g (front ++ one ∷ back) → AreKept new (front ++ one ∷ back)
  kept_set here kept =
      let parts = kept_parts g front (one ∷ back) kept in
      let away = others_away kept in
      kept_append new front (one ∷ back)
      (same_kept g new one.place others front away.0 parts.0)
      (here, same_kept g new one.place others back away.1 parts.1.1)

  -- a key that is taken out
  pub rows_drop : AreKept g (front ++ one ∷ back)
      → rows new (front ++ back) ≡ where_key key_cmp (is_other one.key) (rows g (front ++ one ∷ back))
  rows_drop kept =
      let away = others_away kept in
      rows_cut new front back
      ∙ (λ i. same_rows g new one.place others front away.0 i ++ same_rows g new one.place others back away.1 i)
      ∙ ap (λ es. rows g front ++ es) (sym (others_here one.key (image_at g one) (rows g back) ∙ others_after (image_at g) one.key back after))
      ∙ sym (others_before (image_at g) one.key front (rows g (one ∷ back)) before)
      ∙ ap (where_key key_cmp (is_other one.key)) (sym (rows_cut g front (one ∷ back)))

  pub kept_drop : AreKept g (front ++ one ∷ back) → AreKept new (front ++ back)
  kept_drop kept =
      let parts = kept_parts g front (one ∷ back) kept in
      let away = others_away kept in
      kept_append new front back
      (same_kept g new one.place others front away.0 parts.0)
      (same_kept g new one.place others back away.1 parts.1.1)

-- a key that does not stand among these is not found
pub found_gap : (g : ℕ → Option Tile) (k : TileKey) (front back : List KeyedPlace) → Before k front → After k back → find key_cmp k (rows g (front ++ back)) ≡ None
found_gap g k front back b a =
    ap (find key_cmp k) (rows_cut g front back) ∙ find_before (image_at g) k front (rows g back) b ∙ find_after (image_at g) k back a

-- a key that stands among these is found with what it shows
pub found_here : (g : ℕ → Option Tile) (front back : List KeyedPlace) (one : KeyedPlace) → Before one.key front
    → find key_cmp one.key (rows g (front ++ one ∷ back)) ≡ Some (image_at g one)
found_here g front back one b =
    ap (find key_cmp one.key) (rows_cut g front (one ∷ back)) ∙ find_before (image_at g) one.key front (rows g (one ∷ back)) b
    ∙ find_here (image_at g) one.key (image_at g one) (rows g back)

pub from_sorted_drop : {X : Type 0} (k : TileKey) (es : List (TileKey × X)) → T (is_sorted key_cmp es) → from_sorted {R = key_cmp} (where_key key_cmp (λ x. not (eq_by_cmp key_cmp k x)) es) ≡ remove (from_sorted es) k
from_sorted_drop k es up = same_map key_total key_ties _ _ (λ q.
    get-from_sorted key_cmp _ q (is_sorted-where_key key_cmp (λ x. not (eq_by_cmp key_cmp k x)) es up)
    ∙ find-where_key key_cmp (λ x. not (eq_by_cmp key_cmp k x)) q (λ x t. ap (λ (z : TileKey). not (eq_by_cmp key_cmp k z)) (sym (key_ties q x t))) es
    ∙ turned k q (find key_cmp q es)
    ∙ sym (get-remove key_total (from_sorted es) k q ∙ ap (cond (eq_by_cmp key_cmp q k) None) (get-from_sorted key_cmp es q up)))
  where
    flat : {A : Type 0} (b : Bool) (x y : A) → cond (not b) x y ≡ cond b y x
    flat true x y = refl
    flat false x y = refl

    turned : {A : Type 0} (k q : TileKey) (x : Option A) → cond (not (eq_by_cmp key_cmp k q)) x None ≡ cond (eq_by_cmp key_cmp q k) None x
    turned k q x = flat (eq_by_cmp key_cmp k q) x None ∙ ap (λ b. cond b None x) ((eq_by_cmp_equiv key_total).symm k q)
