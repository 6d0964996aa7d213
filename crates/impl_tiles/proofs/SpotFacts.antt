-- Where a key stands among the keys of chunks.
use Rattle.std.proofs.Common.{◌≡◌, ℕ, zero, suc, ◌+◌, ◌<◌, ◌≤◌, false, List, [], ◌∷◌, ◌++◌, length, take, drop, All, refl, sym, ◌∙◌, ap, subst, arith}
use Rattle.std.proofs.lemmas.List.{append_assoc, length-append, length-drop, take-append-drop, take-append-le, drop-append-le, drop_all}
use Rattle.std.proofs.lemmas.List.Elements.{All-get_or}
use Rattle.std.specs.declared.cmp.Ordering.{Ordering}
use Rattle.std.specs.declared.cmp.Ordering.TheVariants.{Less, Equal, Greater}
use Rattle.std.specs.Ordering.{is_lt}
use Rattle.geom.specs.declared.tile.TileKey.{TileKey}
use Rattle.geom.specs.KeyOrder.{key_cmp}
use Rattle.impl_tiles.specs.declared.held.KeyedPlace.{KeyedPlace}
use Rattle.impl_tiles.specs.declared.held.Spot.{Spot}
use Rattle.impl_tiles.specs.inner.TileTables.{Before, After, Rises, StandsAt, IsGapFor}
use Rattle.impl_tiles.specs.inner.Chunked.{flat, index_of, HasKeyAt, HasGapAt, BeginsAbove, BeginsBy}
use Rattle.geom.proofs.KeyOrders.{key_total, key_ties}
use Rattle.impl_tiles.proofs.StoreKeyOrders.{flips_back}
use Rattle.impl_tiles.proofs.HeldLists.{after_more, after_append, after_parts, split_before, split_after}
use Rattle.impl_tiles.proofs.Flats.{before_chunk, chunk_at, after_chunk, parted, from_chunk, cut_at}

-- parts of a list that rises
pub rises_left : (front back : List KeyedPlace) → Rises (front ++ back) → Rises front
rises_left [] back r = tt
rises_left (h ∷ front) back r = ((after_parts h.key front back r.0).0, rises_left front back r.1)

pub rises_right : (front back : List KeyedPlace) → Rises (front ++ back) → Rises back
rises_right [] back r = r
rises_right (h ∷ front) back r = rises_right front back r.1

pub before_append : (k : TileKey) (front back : List KeyedPlace) → Before k front → Before k back → Before k (front ++ back)
before_append k [] back a b = b
before_append k (h ∷ front) back a b = (a.0, before_append k front back a.1 b)

pub before_parts : (k : TileKey) (front back : List KeyedPlace) → Before k (front ++ back) → Before k front × Before k back
before_parts k [] back b = (tt, b)
before_parts k (h ∷ front) back b = let later = before_parts k front back b.1 in ((b.0, later.0), later.1)

-- what is below a key is below each key above that
pub before_more : (k l : TileKey) (hs : List KeyedPlace) → key_cmp l k ≡ Less → Before l hs → Before k hs
before_more k l [] p b = tt
before_more k l (h ∷ hs) p b = (key_total.trans h.key l k b.0 p, before_more k l hs p b.1)

before_by : (k l : TileKey) (hs : List KeyedPlace) (o : Ordering) → key_cmp k l ≡ o → is_lt o ≡ false → Before l hs → Before k hs
before_by k l hs Less e not_less b = absurd cc
before_by k l hs Equal e not_less b = subst (λ q. Before q hs) (sym (key_ties k l e)) b
before_by k l hs Greater e not_less b = before_more k l hs (flips_back k l e) b

-- a chunk that begins above a key, and one that does not
above_from : (key : TileKey) (c back : List KeyedPlace) → 0 < length c → BeginsAbove key c → Rises (c ++ back) → After key (c ++ back)
above_from key [] back some above r = absurd (omega arith)
above_from key (h ∷ c) back some above r = (above, after_more key h.key (c ++ back) above r.0)

below_upto : (key : TileKey) (front c back : List KeyedPlace) → 0 < length c → BeginsBy key c → Rises (front ++ (c ++ back)) → Before key front
below_upto key front [] back some by r = absurd (omega arith)
below_upto key front (h ∷ c) back some by r = before_by key h.key front (key_cmp key h.key) refl by (split_before front (c ++ back) h r)

module _ (cs : List (List KeyedPlace)) (key : TileKey) (n : ℕ) (lt : n < length cs) (full : All (λ c. 0 < length c) cs) (r : Rises (flat cs)) where
  some : 0 < length (chunk_at cs n)
  some = All-get_or (λ c. 0 < length c) cs n [] lt full

  pub above_chunk : BeginsAbove key (chunk_at cs n) → After key (flat (drop n cs))
  above_chunk above =
      let back : Rises (flat (drop n cs)) = rises_right (before_chunk cs n) (flat (drop n cs)) (subst Rises (cut_at cs n) r) in
      let is = from_chunk cs n lt in
      subst (After key) (sym is) (above_from key (chunk_at cs n) (after_chunk cs n) some above (subst Rises is back))

  pub below_chunk : BeginsBy key (chunk_at cs n) → Before key (flat (take n cs))
  below_chunk by = below_upto key (before_chunk cs n) (chunk_at cs n) (after_chunk cs n) some by (subst Rises (parted cs n lt) r)

-- indexes past what stands before a chunk
take_past : (xs ys : List KeyedPlace) (n : ℕ) → take (length xs + n) (xs ++ ys) ≡ xs ++ take n ys
take_past [] ys n = ap (λ m. take m ys) {x = 0 + n} (omega arith)
take_past (x ∷ xs) ys n = ap (λ m. take m (x ∷ (xs ++ ys))) {x = suc (length xs) + n} {y = suc (length xs + n)} (omega arith) ∙ ap (λ l. x ∷ l) (take_past xs ys n)

drop_past : (xs ys : List KeyedPlace) (n : ℕ) → drop (length xs + n) (xs ++ ys) ≡ drop n ys
drop_past [] ys n = ap (λ m. drop m ys) {x = 0 + n} (omega arith)
drop_past (x ∷ xs) ys n = ap (λ m. drop m (x ∷ (xs ++ ys))) {x = suc (length xs) + n} {y = suc (length xs + n)} (omega arith) ∙ drop_past xs ys n

-- what stands in the middle of three lists stands in the whole
stands_in : (front own back : List KeyedPlace) (key : TileKey) (at : ℕ) → StandsAt own key at → Before key front → After key back → StandsAt (front ++ (own ++ back)) key (length front + at)
stands_in front own back key at s before after = record {
  in_range = omega (arith, s.in_range, length-append front (own ++ back), length-append own back);
  one = s.one;
  here =
      drop_past front (own ++ back) at
      ∙ drop-append-le at own back (omega (arith, s.in_range))
      ∙ ap (λ l. l ++ back) s.here
      ∙ ap (λ l. s.one ∷ l) (sym (later_part));
  is_key = s.is_key;
  before = subst (Before key) (sym (take_past front (own ++ back) at ∙ ap (λ l. front ++ l) (take-append-le at own back (omega (arith, s.in_range))))) (before_append key front (take at own) before s.before);
  after = subst (After key) (sym later_part) (after_append key (drop (suc at) own) back s.after after);
}
  where
    later_part : drop (suc (length front + at)) (front ++ (own ++ back)) ≡ drop (suc at) own ++ back
    later_part =
        ap (λ m. drop m (front ++ (own ++ back))) {x = suc (length front + at)} {y = length front + suc at} (omega arith)
        ∙ drop_past front (own ++ back) (suc at)
        ∙ drop-append-le (suc at) own back (omega (arith, s.in_range))

gap_in : (front own back : List KeyedPlace) (key : TileKey) (at : ℕ) → IsGapFor own key at → Before key front → After key back → IsGapFor (front ++ (own ++ back)) key (length front + at)
gap_in front own back key at g before after = record {
  in_range = omega (arith, g.in_range, length-append front (own ++ back), length-append own back);
  before = subst (Before key) (sym (take_past front (own ++ back) at ∙ ap (λ l. front ++ l) (take-append-le at own back g.in_range))) (before_append key front (take at own) before g.before);
  after = subst (After key) (sym (drop_past front (own ++ back) at ∙ drop-append-le at own back g.in_range)) (after_append key (drop at own) back g.after after);
}

module _ (cs : List (List KeyedPlace)) (key : TileKey) (s : Spot) (lt : s.chunk < length cs) where
  pub has_key : StandsAt (chunk_at cs s.chunk) key s.at → Before key (before_chunk cs s.chunk) → After key (after_chunk cs s.chunk) → HasKeyAt cs key s
  has_key stands before after = record {
    spot = record { chunk = lt; at = stands.in_range };
    stands = subst (λ l. StandsAt l key (index_of cs s)) (sym (parted cs s.chunk lt)) (stands_in (before_chunk cs s.chunk) (chunk_at cs s.chunk) (after_chunk cs s.chunk) key s.at stands before after);
  }

  pub has_gap : IsGapFor (chunk_at cs s.chunk) key s.at → Before key (before_chunk cs s.chunk) → After key (after_chunk cs s.chunk) → HasGapAt cs key s
  has_gap gap before after = record {
    gap = record { chunk = omega arith; at = gap.in_range; first = λ e. absurd (omega arith) };
    goes = subst (λ l. IsGapFor l key (index_of cs s)) (sym (parted cs s.chunk lt)) (gap_in (before_chunk cs s.chunk) (chunk_at cs s.chunk) (after_chunk cs s.chunk) key s.at gap before after);
  }

  -- a key in the chunk tells of the other chunks
  pub has_key_here : Rises (flat cs) → StandsAt (chunk_at cs s.chunk) key s.at → HasKeyAt cs key s
  has_key_here r stands =
      let own = chunk_at cs s.chunk in
      let front = before_chunk cs s.chunk in
      let back = after_chunk cs s.chunk in
      let cut : own ≡ take s.at own ++ stands.one ∷ drop (suc s.at) own = sym (take-append-drop s.at own) ∙ ap (λ l. take s.at own ++ l) stands.here in
      let whole : flat cs ≡ (front ++ take s.at own) ++ stands.one ∷ (drop (suc s.at) own ++ back) =
      parted cs s.chunk lt
      ∙ ap (λ l. front ++ (l ++ back)) cut
      ∙ ap (λ l. front ++ l) (append_assoc (take s.at own) (stands.one ∷ drop (suc s.at) own) back)
      ∙ sym (append_assoc front (take s.at own) (stands.one ∷ (drop (suc s.at) own ++ back))) in
      let rises = subst Rises whole r in
      let before = subst (λ k. Before k (front ++ take s.at own)) stands.is_key (split_before (front ++ take s.at own) (drop (suc s.at) own ++ back) stands.one rises) in
      let after = subst (λ k. After k (drop (suc s.at) own ++ back)) stands.is_key (split_after (front ++ take s.at own) (drop (suc s.at) own ++ back) stands.one rises) in
      has_key stands (before_parts key front (take s.at own) before).0 (after_parts key (drop (suc s.at) own) back after).1

-- the keys of a chunk that are seen beside a gap tell of the other chunks
before_front : (front own back : List KeyedPlace) (key : TileKey) (at : ℕ) → at < length own → Before key (take (suc at) own) → Rises (front ++ (own ++ back)) → Before key front
before_front front [] back key at lt b r = absurd (omega arith)
before_front front (h ∷ own) back key at lt b r = before_more key h.key front b.0 (split_before front (own ++ back) h r)

after_back : (front own back : List KeyedPlace) (key : TileKey) (at : ℕ) (one : KeyedPlace) (rest : List KeyedPlace) → drop at own ≡ one ∷ rest → key_cmp key one.key ≡ Less → Rises (front ++ (own ++ back)) → After key back
after_back front own back key at one rest here less r =
    let whole : front ++ (own ++ back) ≡ (front ++ take at own) ++ one ∷ (rest ++ back) =
    ap (λ l. front ++ (l ++ back)) (sym (take-append-drop at own) ∙ ap (λ l. take at own ++ l) here)
    ∙ ap (λ l. front ++ l) (append_assoc (take at own) (one ∷ rest) back)
    ∙ sym (append_assoc front (take at own) (one ∷ (rest ++ back))) in
    let after = split_after (front ++ take at own) (rest ++ back) one (subst Rises whole r) in
    after_more key one.key back less (after_parts one.key rest back after).1

-- no key stands before the first chunk, and none after the last one
pub nothing_before : (cs : List (List KeyedPlace)) (key : TileKey) (n : ℕ) → n ≡ 0 → Before key (before_chunk cs n)
nothing_before cs key n e = subst (λ m. Before key (flat (take m cs))) (sym e) tt

pub nothing_after : (cs : List (List KeyedPlace)) (key : TileKey) (n : ℕ) → length cs ≤ n → After key (flat (drop n cs))
nothing_after cs key n le = subst (λ l. After key (flat l)) (sym (drop_all n cs le)) tt

none_left : (xs : List KeyedPlace) (n : ℕ) → drop n xs ≡ [] → length xs ≤ n
none_left xs n e = let left = length-drop n xs in let none : length (drop n xs) ≡ 0 = ap length e in omega arith

first_index : (s : Spot) → s.chunk ≡ 0 → s.at ≡ 0 → index_of [] s ≡ 0
first_index s chunk at =
    let here : length (flat (take 0 [])) + s.at ≡ 0 = omega (arith, at) in
    ap (λ n. length (flat (take n [])) + s.at) chunk ∙ here

-- the keys of a chunk rise
pub rises_own : (cs : List (List KeyedPlace)) (n : ℕ) → n < length cs → Rises (flat cs) → Rises (chunk_at cs n)
rises_own cs n lt r = rises_left (chunk_at cs n) (after_chunk cs n) (rises_right (before_chunk cs n) (chunk_at cs n ++ after_chunk cs n) (subst Rises (parted cs n lt) r))

-- no key at all
pub no_chunks : (cs : List (List KeyedPlace)) (key : TileKey) (s : Spot) → length cs ≡ 0 → s.chunk ≡ 0 → s.at ≡ 0 → HasGapAt cs key s
no_chunks [] key s none chunk at = record {
  gap = record { chunk = omega arith; at = omega arith; first = λ e. chunk };
  goes = subst (λ n. IsGapFor [] key n) (sym (first_index s chunk at)) (record { in_range = omega arith; before = tt; after = tt });
}
no_chunks (c ∷ cs) key s none chunk at = absurd (omega (arith, none))

module _ (cs : List (List KeyedPlace)) (key : TileKey) (s : Spot) (lt : s.chunk < length cs) (r : Rises (flat cs)) (gap : IsGapFor (chunk_at cs s.chunk) key s.at) where
  rises : Rises (before_chunk cs s.chunk ++ (chunk_at cs s.chunk ++ after_chunk cs s.chunk))
  rises = subst Rises (parted cs s.chunk lt) r

  before_gap : (at : ℕ) → s.at ≡ at → (at ≡ 0 → s.chunk ≡ 0) → Before key (before_chunk cs s.chunk)
  before_gap zero e begin = nothing_before cs key s.chunk (begin refl)
  before_gap (suc at) e begin =
      before_front (before_chunk cs s.chunk) (chunk_at cs s.chunk) (after_chunk cs s.chunk) key at (omega (arith, gap.in_range))
      (subst (λ n. Before key (take n (chunk_at cs s.chunk))) e gap.before) rises

  after_gap : (rest : List KeyedPlace) → drop s.at (chunk_at cs s.chunk) ≡ rest → (length (chunk_at cs s.chunk) ≤ s.at → After key (after_chunk cs s.chunk)) → After key (after_chunk cs s.chunk)
  after_gap [] e end = end (none_left (chunk_at cs s.chunk) s.at e)
  after_gap (one ∷ rest) e end =
      after_back (before_chunk cs s.chunk) (chunk_at cs s.chunk) (after_chunk cs s.chunk) key s.at one rest e (subst (After key) e gap.after).0 rises

  pub has_gap_here : (s.at ≡ 0 → s.chunk ≡ 0) → (length (chunk_at cs s.chunk) ≤ s.at → After key (after_chunk cs s.chunk)) → HasGapAt cs key s
  has_gap_here begin end =
      has_gap cs key s lt gap (before_gap s.at refl begin) (after_gap (drop s.at (chunk_at cs s.chunk)) refl end)
