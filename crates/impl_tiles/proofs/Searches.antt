-- What a binary search finds among held keys in their order.
use Rattle.std.proofs.Common.{◌≡◌, ℕ, zero, suc, ◌+◌, ◌<◌, ◌≤◌, false, List, [], ◌∷◌, ◌++◌, length, take, drop, get_or, Result, Ok, Err, IfOk, IfErr, sym, ◌∙◌, ap, subst, arith}
use Rattle.std.proofs.lemmas.List.{take-append-drop}
use Rattle.std.proofs.Math.Seq.{drop-cons}
use Rattle.std.specs.declared.cmp.Ordering.TheVariants.{Less, Equal, Greater}
use Rattle.std.specs.Ordering.{is_lt}
use Rattle.std.specs.List.Sorted.{IsSearchInRange, IsBinarySearchResult, IsSortedBy}
use Rattle.std.proofs.lemmas.List.Sorted.{searchable_from_sorted}
use Rattle.geom.specs.declared.tile.TileKey.{TileKey}
use Rattle.geom.specs.KeyOrder.{key_cmp}
use Rattle.impl_tiles.specs.declared.held.KeyedPlace.{KeyedPlace}
use Rattle.impl_tiles.specs.inner.TileTables.{Before, After, Rises, StandsAt, IsGapFor}
use Rattle.geom.proofs.KeyOrders.{key_total, key_ties}
use Rattle.impl_tiles.proofs.StoreKeyOrders.{ties_itself, flips, flips_back}
use Rattle.impl_tiles.proofs.HeldLists.{after_more, split_before, split_after}

-- no key is below the one before it
next_after : (k : TileKey) (hs : List KeyedPlace) (d : KeyedPlace) → After k hs → 0 < length hs → is_lt (key_cmp (get_or hs 0 d).key k) ≡ false
next_after k [] d a lt = absurd (omega arith)
next_after k (h ∷ hs) d a lt = ap is_lt (flips k h.key a.0)

sorted : (hs : List KeyedPlace) → Rises hs → IsSortedBy (λ a b. is_lt (key_cmp a.key b.key)) hs
sorted [] r k d low lt = absurd (omega arith)
sorted (h ∷ hs) r zero d low lt = next_after h.key hs d r.0 (omega arith)
sorted (h ∷ hs) r (suc k) d low lt = subst (λ n. is_lt (key_cmp (get_or (h ∷ hs) n d).key (get_or hs k d).key) ≡ false) {x = suc (k + 1)} (omega arith) (sorted hs r.1 k d (omega arith) (omega arith))

all_before : (k : TileKey) (hs : List KeyedPlace) (at : ℕ) → at ≤ length hs → ((i : ℕ) (d : KeyedPlace) → i < at → key_cmp (get_or hs i d).key k ≡ Less) → Before k (take at hs)
all_before k hs zero le below = tt
all_before k [] (suc at) le below = tt
all_before k (h ∷ hs) (suc at) le below = (below 0 h (omega arith), all_before k hs at (omega arith) (λ i d lt. below (suc i) d (omega arith)))

all_after : (k : TileKey) (hs : List KeyedPlace) (at : ℕ) → ((i : ℕ) (d : KeyedPlace) → at ≤ i → i < length hs → key_cmp (get_or hs i d).key k ≡ Greater) → After k (drop at hs)
all_after k [] zero above = tt
all_after k [] (suc at) above = tt
all_after k (h ∷ hs) zero above = (flips_back h.key k (above 0 h (omega arith) (omega arith)), all_after k hs zero (λ i d le lt. above (suc i) d (omega arith) (omega arith)))
all_after k (h ∷ hs) (suc at) above = all_after k hs at (λ i d le lt. above (suc i) d (omega arith) (omega arith))

found : (hs : List KeyedPlace) (key : TileKey) (at : ℕ) → Rises hs → at < length hs → ((d : KeyedPlace) → key_cmp (get_or hs at d).key key ≡ Equal) → StandsAt hs key at
found [] key at r lt is = absurd (omega arith)
found (h ∷ hs) key at r lt is =
    let one : KeyedPlace = get_or (h ∷ hs) at h in
    let here : drop at (h ∷ hs) ≡ one ∷ drop (suc at) (h ∷ hs) = drop-cons (h ∷ hs) at h lt in
    let same : one.key ≡ key = key_ties one.key key (is h) in
    let whole : h ∷ hs ≡ take at (h ∷ hs) ++ one ∷ drop (suc at) (h ∷ hs) = sym (take-append-drop at (h ∷ hs)) ∙ ap (λ l. take at (h ∷ hs) ++ l) here in
    let parted = subst Rises whole r in
    record {
      in_range = lt;
      one = one;
      here = here;
      is_key = same;
      before = subst (λ k. Before k (take at (h ∷ hs))) same (split_before (take at (h ∷ hs)) (drop (suc at) (h ∷ hs)) one parted);
      after = subst (λ k. After k (drop (suc at) (h ∷ hs))) same (split_after (take at (h ∷ hs)) (drop (suc at) (h ∷ hs)) one parted);
    }

-- a key that is seen at an index stands there
pub seen_at : (hs : List KeyedPlace) (key : TileKey) (at : ℕ) → Rises hs → at < length hs → ((d : KeyedPlace) → (get_or hs at d).key ≡ key) → StandsAt hs key at
seen_at hs key at r lt is = found hs key at r lt (λ d. ap (λ k. key_cmp k key) (is d) ∙ ties_itself key)

pub searched : (hs : List KeyedPlace) (key : TileKey) (r : Result ℕ ℕ) → Rises hs → IsSearchInRange r (length hs) → IsBinarySearchResult (λ h. key_cmp h.key key) hs r
    → record { found : IfOk r (StandsAt hs key); absent : IfErr r (IsGapFor hs key) }
searched hs key (Ok at) rises range result = record { found = found hs key at rises range result; absent = tt }
searched hs key (Err at) rises range result =
    let parted = result (searchable_from_sorted key_total (λ h. h.key) hs key (sorted hs rises)) in
    record {
      found = tt;
      absent = record {
        in_range = range;
        before = all_before key hs at range (λ i d lt. parted.0 i d (omega arith) lt);
        after = all_after key hs at parted.1;
      };
    }

at_after : (k : TileKey) (hs : List KeyedPlace) (at : ℕ) (d : KeyedPlace) → After k hs → at < length hs → key_cmp k (get_or hs at d).key ≡ Less
at_after k [] at d a lt = absurd (omega arith)
at_after k (h ∷ hs) zero d a lt = a.0
at_after k (h ∷ hs) (suc at) d a lt = at_after k hs at d a.1 (omega arith)

-- the key before an index tells of all before it
pub below_before : (hs : List KeyedPlace) (key : TileKey) (at : ℕ) → Rises hs → at < length hs → ((d : KeyedPlace) → key_cmp (get_or hs at d).key key ≡ Less) → Before key (take (suc at) hs)
below_before [] key at r lt is = absurd (omega arith)
below_before (h ∷ hs) key zero r lt is = (is h, tt)
below_before (h ∷ hs) key (suc at) r lt is =
    let later = below_before hs key at r.1 (omega arith) is in
    (key_total.trans h.key (get_or hs at h).key key (at_after h.key hs at h r.0 (omega arith)) (is h), later)

-- the key at an index tells of all from it on
pub above_from : (hs : List KeyedPlace) (key : TileKey) (at : ℕ) → Rises hs → ((d : KeyedPlace) → at < length hs → key_cmp key (get_or hs at d).key ≡ Less) → After key (drop at hs)
above_from [] key zero r is = tt
above_from [] key (suc at) r is = tt
above_from (h ∷ hs) key zero r is = let first = is h (omega arith) in (first, after_more key h.key hs first r.0)
above_from (h ∷ hs) key (suc at) r is = above_from hs key at r.1 (λ d lt. is d (omega arith))
