-- What the steps of a tile table make of what it holds.
use Rattle.std.proofs.Common.{◌≡◌, ℕ, suc, ◌+◌, ◌<◌, List, [], ◌∷◌, ◌++◌, length, take, drop, Option, Some, None, OnSome, is_some, Bool, false, cond, get_or, Bor, option_map, option_copied, true, refl, sym, ◌∙◌, ap, subst, T, arith}
use Rattle.std.proofs.lemmas.List.{take-append-drop, length-map, get_or-drop}
use Rattle.std.proofs.lemmas.List.Edits.{length-insert, length-remove}
use Rattle.std.specs.List.{insert, remove}
use Rattle.std.specs.Option.{option_and_then}
use Rattle.std.specs.Ordering.{eq_by_cmp}
use Rattle.std.specs.FinMap as fin
use Rattle.std.specs.FinMap.{from_sorted, entries-from_sorted, get-from_sorted, get-empty, len-entries, same_map, is_sorted}
use Rattle.slab.specs.Slab.{Slab, get, slab_len, Updates}
use Rattle.geom.specs.declared.tile.TileKey.{TileKey}
use Rattle.geom.specs.KeyOrder.{key_cmp}
use Rattle.tile_raster.specs.Images.{Image}
use Rattle.impl_tiles.specs.declared.held.KeyedPlace.{KeyedPlace}
use Rattle.impl_tiles.specs.declared.held.Tile.{Tile}
use Rattle.impl_tiles.specs.inner.TileTables.{shown, rows, Before, After, Rises, AreKept, HasTileOf, StandsAt, IsGapFor, IsTileTable}
use Rattle.geom.proofs.KeyOrders.{key_total, key_ties}
use Rattle.impl_tiles.proofs.StoreKeyOrders.{tied}
use Rattle.impl_tiles.proofs.HeldLists.{sorted_rows, rises_with, rises_without}
use Rattle.impl_tiles.proofs.SlabRows.{from_sorted_put, from_sorted_drop, image_at, rows_put, kept_put, rows_set, kept_set, rows_drop, kept_drop, found_gap, found_here, kept_parts}

-- the map of what is held
abbrev pub held_map : Slab Tile → List KeyedPlace → fin.FinMap key_cmp (Option Image)
held_map tiles held = from_sorted (rows (get tiles) held)

pub from_nothing : {X : Type 0} → from_sorted {X = X} {R = key_cmp} [] ≡ fin.empty
from_nothing = same_map key_total key_ties _ _ (λ q. get-from_sorted key_cmp [] q tt ∙ sym (get-empty key_cmp q))

pub sorted : (tiles : Slab Tile) (held : List KeyedPlace) → Rises held → T (is_sorted key_cmp (rows (get tiles) held))
sorted tiles held r = sorted_rows (image_at (get tiles)) held r

pub len_held : (tiles : Slab Tile) (held : List KeyedPlace) → Rises held → fin.len (held_map tiles held) ≡ length held
len_held tiles held r =
    len-entries (held_map tiles held) ∙ ap length (entries-from_sorted key_cmp (rows (get tiles) held) (sorted tiles held r)) ∙ length-map held (λ h. (h.key, image_at (get tiles) h))

-- what is found at an index, and at a gap
pub found_at : (tiles : Slab Tile) (held : List KeyedPlace) (key : TileKey) (at : ℕ) (here : StandsAt held key at) → Rises held
    → fin.get (held_map tiles held) key ≡ Some (option_and_then shown (get tiles here.one.place))
found_at tiles held key at here r =
    let whole : held ≡ take at held ++ here.one ∷ drop (suc at) held = sym (take-append-drop at held) ∙ ap (λ l. take at held ++ l) here.here in
    let before = subst (λ k. Before k (take at held)) (sym here.is_key) here.before in
    get-from_sorted key_cmp (rows (get tiles) held) key (sorted tiles held r)
    ∙ ap (λ l. fin.find key_cmp key (rows (get tiles) l)) whole
    ∙ ap (λ k. fin.find key_cmp k (rows (get tiles) (take at held ++ here.one ∷ drop (suc at) held))) (sym here.is_key)
    ∙ found_here (get tiles) (take at held) (drop (suc at) held) here.one before

pub not_found : (tiles : Slab Tile) (held : List KeyedPlace) (key : TileKey) (at : ℕ) → IsGapFor held key at → Rises held → fin.get (held_map tiles held) key ≡ None
not_found tiles held key at gap r =
    get-from_sorted key_cmp (rows (get tiles) held) key (sorted tiles held r)
    ∙ ap (λ l. fin.find key_cmp key (rows (get tiles) l)) (sym (take-append-drop at held))
    ∙ found_gap (get tiles) key (take at held) (drop at held) gap.before gap.after

-- a key comes to an empty place
pub put : (old new : Slab Tile) (held : List KeyedPlace) (at : ℕ) (one : KeyedPlace) (tile : Tile)
    → IsTileTable old held → IsGapFor held one.key at → length held < 4294967295
    → get old one.place ≡ None → Updates old new one.place (Some tile) → slab_len new ≡ slab_len old + 1 → tile.key ≡ one.key
    → IsTileTable new (insert held at one) × (held_map new (insert held at one) ≡ fin.insert (held_map old held) one.key (shown tile))
put old new held at one tile table gap few vacant up one_more is_key =
    let front : List KeyedPlace = take at held in
    let back : List KeyedPlace = drop at held in
    let whole : front ++ back ≡ held = take-append-drop at held in
    let rises = subst Rises (sym whole) table.rises in
    let kept = subst (AreKept (get old)) (sym whole) table.kept in
    let here : option_map (λ (t : Tile). t.key) (get new one.place) ≡ Some one.key = ap (option_map (λ (t : Tile). t.key)) up.changed ∙ ap (λ k. Some k) is_key in
    let list : rows (get new) (insert held at one) ≡ fin.put key_cmp one.key (image_at (get new) one) (rows (get old) (front ++ back)) =
    rows_put (get old) (get new) front back one up.others gap.before gap.after vacant kept in (
      record {
        rises = rises_with front back one gap.before gap.after rises;
        kept = kept_put (get old) (get new) front back one up.others gap.before gap.after vacant here kept;
        counted = omega (arith, one_more, table.counted, length-insert held at one gap.in_range);
        few = omega (arith, length-insert held at one gap.in_range);
      },
      ap (from_sorted {R = key_cmp}) list
          ∙ from_sorted_put one.key (image_at (get new) one) (rows (get old) (front ++ back)) (sorted old (front ++ back) rises)
          ∙ ap (λ l. fin.insert (held_map old l) one.key (image_at (get new) one)) whole
          ∙ ap (λ x. fin.insert (held_map old held) one.key (option_and_then shown x)) up.changed,
    )

module _ (old new : Slab Tile) (held : List KeyedPlace) (key : TileKey) (at : ℕ) (table : IsTileTable old held) (here : StandsAt held key at) where
  whole : take at held ++ here.one ∷ drop (suc at) held ≡ held
  whole = ap (λ l. take at held ++ l) (sym here.here) ∙ take-append-drop at held

  rises : Rises (take at held ++ here.one ∷ drop (suc at) held)
  rises = subst Rises (sym whole) table.rises

  kept : AreKept (get old) (take at held ++ here.one ∷ drop (suc at) held)
  kept = subst (AreKept (get old)) (sym whole) table.kept

  before : Before here.one.key (take at held)
  before = subst (λ k. Before k (take at held)) (sym here.is_key) here.before

  after : After here.one.key (drop (suc at) held)
  after = subst (λ k. After k (drop (suc at) held)) (sym here.is_key) here.after

  -- the tile of a key changes
  pub set : (tile : Tile) → Updates old new here.one.place (Some tile) → slab_len new ≡ slab_len old → tile.key ≡ key
      → IsTileTable new held × (held_map new held ≡ fin.insert (held_map old held) key (shown tile))
  set tile up as_many is_key =
      let front : List KeyedPlace = take at held in
      let back : List KeyedPlace = drop (suc at) held in
      let one = here.one in
      let named : option_map (λ (t : Tile). t.key) (get new one.place) ≡ Some one.key = ap (option_map (λ (t : Tile). t.key)) up.changed ∙ ap (λ k. Some k) (is_key ∙ sym here.is_key) in
      let list = rows_set (get old) (get new) front back one up.others before after kept in (
        record {
          rises = table.rises;
          kept = subst (AreKept (get new)) whole (kept_set (get old) (get new) front back one up.others before after named kept);
          counted = as_many ∙ table.counted;
          few = table.few;
        },
        ap (held_map new) (sym whole)
            ∙ ap (from_sorted {R = key_cmp}) list
            ∙ from_sorted_put one.key (image_at (get new) one) (rows (get old) (front ++ one ∷ back)) (sorted old (front ++ one ∷ back) rises)
            ∙ ap (λ l. fin.insert (held_map old l) one.key (image_at (get new) one)) whole
            ∙ ap (λ x. fin.insert (held_map old held) one.key (option_and_then shown x)) up.changed
            ∙ ap (λ k. fin.insert (held_map old held) k (shown tile)) here.is_key,
      )

  -- a key is taken out, and its place is empty
  pub drop_one : Updates old new here.one.place None → slab_len new + 1 ≡ slab_len old
      → IsTileTable new (remove held at) × (held_map new (remove held at) ≡ fin.remove (held_map old held) key)
  drop_one up one_less =
      let front : List KeyedPlace = take at held in
      let back : List KeyedPlace = drop (suc at) held in
      let one = here.one in
      let list = rows_drop (get old) (get new) front back one up.others before after kept in (
        record {
          rises = rises_without front back one rises;
          kept = kept_drop (get old) (get new) front back one up.others before after kept;
          counted = omega (arith, one_less, table.counted, length-remove held at here.in_range);
          few = omega (arith, table.few, length-remove held at here.in_range);
        },
        ap (from_sorted {R = key_cmp}) list
            ∙ from_sorted_drop one.key (rows (get old) (front ++ one ∷ back)) (sorted old (front ++ one ∷ back) rises)
            ∙ ap (λ l. fin.remove (held_map old l) one.key) whole
            ∙ ap (λ k. fin.remove (held_map old held) k) here.is_key,
      )

-- the element at the index of a key
pub one_is : (held : List KeyedPlace) (key : TileKey) (at : ℕ) (here : StandsAt held key at) (d : KeyedPlace) → get_or held at d ≡ here.one
one_is held key at here d = sym (get_or-drop at held 0 d ∙ ap (λ n. get_or held n d) (omega arith)) ∙ ap (λ l. get_or l 0 d) here.here

-- its place has its tile
pub tile_at : (tiles : Slab Tile) (held : List KeyedPlace) (key : TileKey) (at : ℕ) → IsTileTable tiles held → (here : StandsAt held key at) → HasTileOf (get tiles) here.one.place key
tile_at tiles held key at table here =
    let whole : held ≡ take at held ++ here.one ∷ drop (suc at) held = sym (take-append-drop at held) ∙ ap (λ l. take at held ++ l) here.here in
    (kept_parts (get tiles) (take at held) (here.one ∷ drop (suc at) held) (subst (AreKept (get tiles)) whole table.kept)).1.0 ∙ ap (λ k. Some k) here.is_key

-- a tile that is looked up shows the image of its place
pub gotten : (r : Option (Bor Tile)) (x : Option Tile) (key : TileKey) → option_copied r ≡ x → option_map (λ t. t.key) x ≡ Some key
    → option_map (λ t. shown t.now) r ≡ Some (option_and_then shown x)
gotten None None key is has = cc
gotten None (Some y) key is has = cc
gotten (Some y) None key is has = cc
gotten (Some y) (Some z) key is has = let e : y.now ≡ z = cc in ap (λ t. Some (shown t)) e

-- an insert that succeeds
pub inserted : (b : Bool) (xs ys zs : List KeyedPlace) → zs ≡ cond b xs ys → b ≡ true → zs ≡ xs
inserted true xs ys zs is e = is
inserted false xs ys zs is e = cc

-- to take out a key that is not there changes nothing
pub remove_absent : {X : Type 0} (m : fin.FinMap key_cmp X) (key : TileKey) → fin.get m key ≡ None → m ≡ fin.remove m key
remove_absent m key none = same_map key_total key_ties _ _ (λ q. missing (eq_by_cmp key_cmp q key) q refl ∙ sym (fin.get-remove key_total m key q))
  where
    missing : (b : Bool) (q : TileKey) → eq_by_cmp key_cmp q key ≡ b → fin.get m q ≡ cond b None (fin.get m q)
    missing true q e = ap (fin.get m) (tied q key e) ∙ none
    missing false q e = refl

pub not_none : {X : Type 0} (o : Option X) → o ≡ None → is_some o ≡ true → ⊥
not_none None e h = cc
not_none (Some x) e h = cc

-- the tile of a key that is held is there
pub tile_there : (tiles : Slab Tile) (place : ℕ) (key : TileKey) → HasTileOf (get tiles) place key → is_some (get tiles place) ≡ true
tile_there tiles place key has = some_key (get tiles place) key has
  where
    some_key : (t : Option Tile) (key : TileKey) → option_map (λ (t : Tile). t.key) t ≡ Some key → is_some t ≡ true
    some_key None key has = cc
    some_key (Some t) key has = refl

-- a removal that finds a tile leaves one less
pub one_less : (r : Option Tile) (old new : Slab Tile) → is_some r ≡ true → OnSome r (slab_len new + 1 ≡ slab_len old) → slab_len new + 1 ≡ slab_len old
one_less None old new there less = cc
one_less (Some t) old new there less = less
