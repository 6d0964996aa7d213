-- The keys of chunks, one after another.
use Rattle.std.proofs.Common.{◌≡◌, ℕ, suc, Bool, true, false, cond, ◌+◌, ◌-◌, ◌<◌, ◌≤◌, List, [], ◌∷◌, ◌++◌, length, take, drop, get_or, set, All, append-nil, refl, sym, ◌∙◌, ap, arith}
use Rattle.std.proofs.lemmas.List.{append_assoc, length-append, take-append-drop, set_split, take_more, take_more_set, take-set-le, drop-set-lt, get_or_append_left, get_or-append-add, get_or-drop, length-take-le, length-drop, get_or_default}
use Rattle.std.proofs.lemmas.List.Elements.{All-append, All-cons, All-take, All-drop, All-same}
use Rattle.std.proofs.lemmas.List.Edits.{insert-append_left, insert-append_right, remove-append_left, remove-append_right, insert_end, length-insert}
use Rattle.std.proofs.Math.Seq.{drop-cons}
use Rattle.std.specs.List.{insert, remove}
use Rattle.impl_tiles.specs.declared.held.KeyedPlace.{KeyedPlace}
use Rattle.impl_tiles.specs.declared.held.Spot.{Spot}
use Rattle.impl_tiles.specs.inner.Chunked.{flat, index_of, IsSpot, IsGap, chunk_room}

pub flat_append : (cs ds : List (List KeyedPlace)) → flat (cs ++ ds) ≡ flat cs ++ flat ds
flat_append [] ds = refl
flat_append (c ∷ cs) ds = ap (λ l. c ++ l) (flat_append cs ds) ∙ sym (append_assoc c (flat cs) (flat ds))

-- the keys before a chunk, its own, and those after it
abbrev pub before_chunk : List (List KeyedPlace) → ℕ → List KeyedPlace
before_chunk cs n = flat (take n cs)

abbrev pub chunk_at : List (List KeyedPlace) → ℕ → List KeyedPlace
chunk_at cs n = get_or cs n []

abbrev pub after_chunk : List (List KeyedPlace) → ℕ → List KeyedPlace
after_chunk cs n = flat (drop (suc n) cs)

pub parted : (cs : List (List KeyedPlace)) (n : ℕ) → n < length cs → flat cs ≡ before_chunk cs n ++ (chunk_at cs n ++ after_chunk cs n)
parted cs n lt =
    ap flat (sym (take-append-drop n cs) ∙ ap (λ l. take n cs ++ l) (drop-cons cs n [] lt))
    ∙ flat_append (take n cs) (chunk_at cs n ∷ drop (suc n) cs)

-- the keys from a chunk on
pub from_chunk : (cs : List (List KeyedPlace)) (n : ℕ) → n < length cs → flat (drop n cs) ≡ chunk_at cs n ++ after_chunk cs n
from_chunk cs n lt = ap flat (drop-cons cs n [] lt)

-- all keys before a cut, and those from it on
pub cut_at : (cs : List (List KeyedPlace)) (n : ℕ) → flat cs ≡ before_chunk cs n ++ flat (drop n cs)
cut_at cs n = ap flat (sym (take-append-drop n cs)) ∙ flat_append (take n cs) (drop n cs)

-- another chunk in a chunk's place
pub flat_set : (cs : List (List KeyedPlace)) (n : ℕ) (c : List KeyedPlace) → n < length cs → flat (set cs n c) ≡ before_chunk cs n ++ (c ++ after_chunk cs n)
flat_set cs n c lt = ap flat (set_split cs n c lt) ∙ flat_append (take n cs) (c ∷ drop (suc n) cs)

inner_index : (a b : ℕ) → (a + b) - a ≡ b
inner_index a b = omega arith

module _ (cs : List (List KeyedPlace)) (s : Spot) (lt : s.chunk < length cs) where
  abbrev front : List KeyedPlace
  front = before_chunk cs s.chunk

  abbrev own : List KeyedPlace
  own = chunk_at cs s.chunk

  abbrev back : List KeyedPlace
  back = after_chunk cs s.chunk

  -- an edit in a chunk is one of all keys
  pub insert_at : (one : KeyedPlace) → s.at ≤ length own → insert (flat cs) (index_of cs s) one ≡ front ++ (insert own s.at one ++ back)
  insert_at one le =
      ap (λ l. insert l (index_of cs s) one) (parted cs s.chunk lt)
      ∙ insert-append_right front (own ++ back) (length front) (index_of cs s) one refl (omega arith)
      ∙ ap (λ n. front ++ insert (own ++ back) n one) (inner_index (length front) s.at)
      ∙ ap (λ l. front ++ l) (insert-append_left own back s.at one le)

  pub remove_at : s.at < length own → remove (flat cs) (index_of cs s) ≡ front ++ (remove own s.at ++ back)
  remove_at le =
      ap (λ l. remove l (index_of cs s)) (parted cs s.chunk lt)
      ∙ remove-append_right front (own ++ back) (length front) (index_of cs s) refl (omega arith)
      ∙ ap (λ n. front ++ remove (own ++ back) n) (inner_index (length front) s.at)
      ∙ ap (λ l. front ++ l) (remove-append_left own back s.at le)

  -- a key is put into its chunk
  pub inserted_in : (one : KeyedPlace) → s.at ≤ length own → flat (set cs s.chunk (insert own s.at one)) ≡ insert (flat cs) (index_of cs s) one
  inserted_in one le = flat_set cs s.chunk (insert own s.at one) lt ∙ sym (insert_at one le)

  -- a key is put after a chunk, as one of its own
  pub inserted_after : (one : KeyedPlace) → s.at ≡ length own → flat (insert cs (suc s.chunk) (one ∷ [])) ≡ insert (flat cs) (index_of cs s) one
  inserted_after one end =
      flat_append (take (suc s.chunk) cs) ((one ∷ []) ∷ drop (suc s.chunk) cs)
      ∙ ap (λ l. l ++ (one ∷ back)) upto
      ∙ append_assoc front own (one ∷ back)
      ∙ ap (λ l. front ++ l) (sym (append_assoc own (one ∷ []) back) ∙ ap (λ l. l ++ back) (sym ends))
      ∙ sym (insert_at one (omega (arith, end)))
    where
      upto : flat (take (suc s.chunk) cs) ≡ front ++ own
      upto =
          ap (λ n. flat (take n cs)) {x = suc s.chunk} {y = s.chunk + 1} (omega arith)
          ∙ ap flat (take_more cs s.chunk [] lt)
          ∙ flat_append (take s.chunk cs) (own ∷ [])
          ∙ ap (λ l. front ++ l) (append-nil own)

      ends : insert own s.at one ≡ own ++ one ∷ []
      ends = ap (λ n. insert own n one) end ∙ insert_end own one

  -- a chunk is parted at a key that is put at the end of its first part
  pub inserted_parting : (one : KeyedPlace) → s.at ≤ length own
      → flat (insert (set cs s.chunk (take s.at own ++ one ∷ [])) (suc s.chunk) (drop s.at own)) ≡ insert (flat cs) (index_of cs s) one
  inserted_parting one le =
      flat_append (take (suc s.chunk) all) (drop s.at own ∷ drop (suc s.chunk) all)
      ∙ (λ i. upto i ++ (drop s.at own ++ flat (rest i)))
      ∙ append_assoc front lower (drop s.at own ++ back)
      ∙ ap (λ l. front ++ l) (sym (append_assoc lower (drop s.at own) back) ∙ ap (λ l. l ++ back) (append_assoc (take s.at own) (one ∷ []) (drop s.at own)))
      ∙ sym (insert_at one le)
    where
      lower : List KeyedPlace
      lower = take s.at own ++ one ∷ []

      all : List (List KeyedPlace)
      all = set cs s.chunk lower

      upto : flat (take (suc s.chunk) all) ≡ front ++ lower
      upto =
          ap (λ n. flat (take n all)) {x = suc s.chunk} {y = s.chunk + 1} (omega arith)
          ∙ ap flat (take_more_set cs s.chunk lower lt)
          ∙ flat_append (take s.chunk cs) (lower ∷ [])
          ∙ ap (λ l. front ++ l) (append-nil lower)

      rest : drop (suc s.chunk) all ≡ drop (suc s.chunk) cs
      rest = drop-set-lt (suc s.chunk) cs s.chunk lower (omega arith)

  -- a key is taken out of its chunk
  pub removed_in : s.at < length own → flat (set cs s.chunk (remove own s.at)) ≡ remove (flat cs) (index_of cs s)
  removed_in le = flat_set cs s.chunk (remove own s.at) lt ∙ sym (remove_at le)

  -- and its chunk, too, which is then empty
  pub removed_with : s.at < length own → remove own s.at ≡ [] → flat (remove (set cs s.chunk (remove own s.at)) s.chunk) ≡ remove (flat cs) (index_of cs s)
  removed_with le none =
      flat_append (take s.chunk all) (drop (suc s.chunk) all)
      ∙ (λ i. flat (take-set-le s.chunk cs s.chunk (remove own s.at) (omega arith) i) ++ flat (drop-set-lt (suc s.chunk) cs s.chunk (remove own s.at) (omega arith) i))
      ∙ ap (λ l. front ++ (l ++ back)) (sym none)
      ∙ sym (remove_at le)
    where
      all : List (List KeyedPlace)
      all = set cs s.chunk (remove own s.at)

-- the first key makes the first chunk
pub inserted_first : (cs : List (List KeyedPlace)) (s : Spot) (one : KeyedPlace) → IsGap cs s → s.chunk ≡ length cs → flat (insert cs s.chunk (one ∷ [])) ≡ insert (flat cs) (index_of cs s) one
inserted_first [] s one gap end =
    let none : s.at ≡ 0 = omega (arith, gap.at) in
    let zero_at : s.chunk ≡ 0 = gap.first end in
    ap (λ n. flat (insert [] n (one ∷ []))) zero_at ∙ sym (λ i. insert (flat []) (length (flat (take (zero_at i) [])) + none i) one)
inserted_first (c ∷ cs) s one gap end = absurd (omega (arith, gap.first end, end))

-- the key that is read at a spot is the one that stands there
pub spot_is : (cs : List (List KeyedPlace)) (s : Spot) → IsSpot cs s → (one : KeyedPlace) {rest : List KeyedPlace} → drop (index_of cs s) (flat cs) ≡ one ∷ rest
    → (read : KeyedPlace) → read ≡ get_or (get_or cs s.chunk []) s.at read → read ≡ one
spot_is cs s spot one here read is =
    let front = before_chunk cs s.chunk in
    let own = chunk_at cs s.chunk in
    let back = after_chunk cs s.chunk in
    is
    ∙ sym (get_or_append_left own back read s.at spot.at)
    ∙ sym (get_or-append-add front (own ++ back) s.at read)
    ∙ ap (λ l. get_or l (index_of cs s) read) (sym (parted cs s.chunk spot.chunk))
    ∙ ap (λ n. get_or (flat cs) n read) {x = index_of cs s} {y = index_of cs s + 0} (omega arith)
    ∙ sym (get_or-drop (index_of cs s) (flat cs) 0 read)
    ∙ ap (λ l. get_or l 0 read) here

-- chunks of which none is empty
abbrev pub Full : List KeyedPlace → Type 0
Full c = 0 < length c

pub full_insert : (cs : List (List KeyedPlace)) (n : ℕ) (c : List KeyedPlace) → 0 < length c → All Full cs → All Full (insert cs n c)
full_insert cs n c some full = All-append Full (take n cs) (c ∷ drop n cs) (All-take Full n cs full) (All-cons Full c (drop n cs) some (All-drop Full n cs full))

pub full_remove : (cs : List (List KeyedPlace)) (n : ℕ) → All Full cs → All Full (remove cs n)
full_remove cs n full = All-append Full (take n cs) (drop (suc n) cs) (All-take Full n cs full) (All-drop Full (suc n) cs full)

-- all but one chunk are not empty, and that one is taken out
pub full_without : (cs : List (List KeyedPlace)) (n : ℕ) (c : List KeyedPlace) → All Full cs → All Full (remove (set cs n c) n)
full_without cs n c full =
    All-same Full (remove (set cs n c) n) (remove cs n)
    (λ i. take-set-le n cs n c (omega arith) i ++ drop-set-lt (suc n) cs n c (omega arith) i)
    (full_remove cs n full)

-- the two parts of a chunk that is parted
pub lower_part : (own : List KeyedPlace) (at : ℕ) (one : KeyedPlace) → at ≤ length own → insert (take at own) at one ≡ take at own ++ one ∷ []
lower_part own at one le = ap (λ n. insert (take at own) n one) (sym (length-take-le at own le)) ∙ insert_end (take at own) one

pub upper_full : (own : List KeyedPlace) (at : ℕ) → at < length own → 0 < length (drop at own)
upper_full own at lt = omega (arith, lt, length-drop at own)

pub lower_full : (own : List KeyedPlace) (at : ℕ) (one : KeyedPlace) → 0 < length (take at own ++ one ∷ [])
lower_full own at one = omega (arith, length-append (take at own) (one ∷ []))

pub inserted_full : (own : List KeyedPlace) (at : ℕ) (one : KeyedPlace) → at ≤ length own → 0 < length (insert own at one)
inserted_full own at one le = omega (arith, length-insert own at one le)

-- a chunk that is read is the one that stands there
pub chunk_is : (cs : List (List KeyedPlace)) (n : ℕ) (c : List KeyedPlace) → n < length cs → c ≡ get_or cs n c → c ≡ chunk_at cs n
chunk_is cs n c lt is = is ∙ get_or_default cs n c [] lt

pub insert_full : (xs : List KeyedPlace) (n : ℕ) (x : KeyedPlace) → 0 < length (insert xs n x)
insert_full xs n x = omega (arith, length-append (take n xs) (x ∷ drop n xs))

pub full_cond : (b : Bool) (xs ys zs : List (List KeyedPlace)) → zs ≡ cond b xs ys → All Full xs → All Full ys → All Full zs
full_cond true xs ys zs is p q = All-same Full zs xs is p
full_cond false xs ys zs is p q = All-same Full zs ys is q

pub room_one : (kept : Bool) (capacity chunks : ℕ) → chunk_room kept capacity chunks ≤ 1
room_one true capacity chunks = omega arith
room_one false capacity chunks = omega arith
