-- What the lanes of a vector hold after each step of the kernels.
use Rattle.std.specs.Prelude.{ℕ, ◌+◌, ◌-◌, ◌*◌, ◌/◌, ◌%◌, ◌^◌, ◌<◌, ◌≤◌, ◌≡◌, List, [], ◌∷◌, map, length, slice_index, replicate, bit_and, zero, suc}
use Rattle.std.proofs.Common.{arith, ◌∙◌, ap, sym, subst, inl, inr, refl}
use Rattle.std.specs.Simd.Lanes.{zip2, number_l, digits_l, chunk, put_chunk, Each1}
use Rattle.std.proofs.lemmas.Simd.{get_or_wider, get_or_narrower, Each1-from_get_or, Each1-get_or, get_or-zip2, length-zip2, get_or-replicate, length-chunk, get_or-chunk, get_or-put_chunk_at, get_or-put_chunk_below, get_or-put_chunk_above}
use Rattle.std.proofs.lemmas.Bool.{cases_lt}
use mir.Syntax.{w8, w16}
use mir.Val.{Fits}
use Rattle.std.proofs.lemmas.List.{get_or-map, length-map}
use Rattle.std.proofs.lemmas.Grind.{and_numeral}
use Rattle.pixel.specs.Colours.{Parts, times_255, above}
use Rattle.pixel.specs.Rows.{alpha_place, ArePremultiplied, IsLaid, IsFaded, IsFilled, component_of, AreOpaque}
use Rattle.pixel.proofs.Fills.{same_parts}
use Rattle.pixel.specs.LaneBytes.{IsBytes, AreParts}

-- the number of two neighbouring bytes
pair_number : (v : List ℕ) (i : ℕ) → i + 2 ≤ length v → number_l 256 (chunk i 2 v) ≡ slice_index v i + 256 * slice_index v (suc i)
pair_number [] i h = absurd (omega arith)
pair_number (x ∷ []) i h = absurd (omega arith)
pair_number (x ∷ y ∷ v) zero h = omega arith
pair_number (x ∷ y ∷ v) (suc i) h = pair_number (y ∷ v) i (omega arith)

-- a lane of sixteen bits is two neighbouring bytes
pair_lane : (v : List ℕ) (j : ℕ) → IsBytes v → j < 8
    → slice_index (digits_l 65536 8 (number_l 256 v)) j ≡ slice_index v (2 * j) + 256 * slice_index v (2 * j + 1)
pair_lane v j b lt =
    let next : suc (2 * j) ≡ 2 * j + 1 = omega arith in
    get_or_wider 256 2 65536 8 v j refl (Each1-from_get_or (λ x. x < 256) v 0 (λ i h. b.bytes i (omega arith))) lt
    ∙ pair_number v (2 * j) (omega arith)
    ∙ ap (λ (k : ℕ). slice_index v (2 * j) + 256 * slice_index v k) next

-- the upper byte of each lane
pub high_lane : (v : List ℕ) (j : ℕ) → IsBytes v → j < 8
    → slice_index (map (λ x. x / 256) (digits_l 65536 8 (number_l 256 v))) j ≡ slice_index v (2 * j + 1)
high_lane v j b lt =
    let low = b.bytes (2 * j) (omega arith) in
    let split : (slice_index v (2 * j) + 256 * slice_index v (2 * j + 1)) / 256 ≡ slice_index v (2 * j + 1) = omega arith in
    get_or-map (λ x. x / 256) (digits_l 65536 8 (number_l 256 v)) j 0 0 lt ∙ ap (λ (x : ℕ). x / 256) (pair_lane v j b lt) ∙ split

-- the lower byte of each lane
pub low_lane : (v : List ℕ) (j : ℕ) → IsBytes v → j < 8
    → slice_index (map (λ x. bit_and x 255) (digits_l 65536 8 (number_l 256 v))) j ≡ slice_index v (2 * j)
low_lane v j b lt =
    let low = b.bytes (2 * j) (omega arith) in
    let n = slice_index v (2 * j) + 256 * slice_index v (2 * j + 1) in
    let split : n % 256 ≡ slice_index v (2 * j) = omega arith in
    get_or-map (λ x. bit_and x 255) (digits_l 65536 8 (number_l 256 v)) j 0 0 lt
    ∙ ap (λ (x : ℕ). bit_and x 255) (pair_lane v j b lt)
    ∙ and_numeral n 254 refl
    ∙ split

-- lane `j` of an operation on two vectors of eight lanes
lane_of_two : (f : ℕ → ℕ → ℕ) (x y : List ℕ) (j : ℕ) → length x ≡ 8 → length y ≡ 8 → j < 8
    → slice_index (zip2 f x y) j ≡ f (slice_index x j) (slice_index y j)
lane_of_two f x y j lx ly lt = get_or-zip2 f x y j 0 0 0 (omega arith) (omega arith)

-- the rounded quotient by 255, by a product and a shift
quotient : (p : ℕ) → p ≤ 65025 → (p + 128) * 257 / 65536 ≡ (p + 127) / 255
quotient p le = omega arith

-- an operation on two vectors of eight lanes has eight
count_of_two : (f : ℕ → ℕ → ℕ) (x y : List ℕ) → length x ≡ 8 → length y ≡ 8 → length (zip2 f x y) ≡ 8
count_of_two f x y lx ly = length-zip2 f x y (omega arith) ∙ lx

-- lane `j` of an operation with one number
lane_of_splat : (f : ℕ → ℕ → ℕ) (x : List ℕ) (n j : ℕ) → length x ≡ 8 → j < 8 → slice_index (zip2 f x (replicate 8 n)) j ≡ f (slice_index x j) n
lane_of_splat f x n j lx lt = lane_of_two f x (replicate 8 n) j lx refl lt ∙ ap (f (slice_index x j)) (get_or-replicate 8 j n 0 lt)

-- a sum and a product of sixteen bits, and a shift to the right
abbrev pub sum_16 : ℕ → ℕ → ℕ
sum_16 a b = (a + b) % 65536

abbrev pub product_16 : ℕ → ℕ → ℕ
product_16 a b = (a * b) % 65536

abbrev pub shift_16 : ℕ → ℕ → ℕ
shift_16 a b = a / 2 ^ b

-- the products of two vectors, raised by half of 255
abbrev pub raised_lanes : List ℕ → List ℕ → List ℕ
raised_lanes x y = zip2 sum_16 (zip2 product_16 x y) (replicate 8 128)

pub raised_count : (x y : List ℕ) → length x ≡ 8 → length y ≡ 8 → length (raised_lanes x y) ≡ 8
raised_count x y lx ly = count_of_two sum_16 (zip2 product_16 x y) (replicate 8 128) (count_of_two product_16 x y lx ly) refl

-- the product of two bytes
product_bound : (a b : ℕ) → a < 256 → b < 256 → a * b ≤ 65025
product_bound a b p q = grind arith

raised_lane : (x y : List ℕ) (j : ℕ) → AreParts x → AreParts y → j < 8
    → slice_index (raised_lanes x y) j ≡ slice_index x j * slice_index y j + 128
raised_lane x y j p q lt =
    let low = product_bound (slice_index x j) (slice_index y j) (p.parts j lt) (q.parts j lt) in
    let fits : product_16 (slice_index x j) (slice_index y j) ≡ slice_index x j * slice_index y j = omega arith in
    let one = lane_of_two product_16 x y j p.count q.count lt in
    let two = lane_of_splat sum_16 (zip2 product_16 x y) 128 j (count_of_two product_16 x y p.count q.count) lt in
    let sum : sum_16 (slice_index x j * slice_index y j) 128 ≡ slice_index x j * slice_index y j + 128 = omega arith in
    two ∙ ap (λ (n : ℕ). sum_16 n 128) (one ∙ fits) ∙ sum

-- the product of two parts of 255 is one
pub product_part : (a b : ℕ) → a < 256 → b < 256 → times_255 a b < 256
product_part a b p q = let low = product_bound a b p q in omega arith

-- a lane of the products of two vectors of parts
pub product_lane : (x y half : List ℕ) (j : ℕ) → AreParts x → AreParts y → j < 8
    → slice_index half j ≡ slice_index (raised_lanes x y) j * 257 / 65536 → slice_index half j ≡ times_255 (slice_index x j) (slice_index y j)
product_lane x y half j p q lt is =
    let low : slice_index x j * slice_index y j ≤ 65025 = product_bound (slice_index x j) (slice_index y j) (p.parts j lt) (q.parts j lt) in
    is ∙ ap (λ (n : ℕ). n * 257 / 65536) (raised_lane x y j p q lt) ∙ quotient (slice_index x j * slice_index y j) low

-- ---- the upper halves of products of thirty-two bits

-- a product of thirty-two bits
abbrev pub product_32 : ℕ → ℕ → ℕ
product_32 a b = (a * b) % 4294967296

-- the same lanes at another width
abbrev pub cast_lanes : List ℕ → List ℕ
cast_lanes v = map (λ (a : ℕ). a) v

abbrev pub half_lanes : List ℕ → List ℕ
half_lanes v = zip2 shift_16 (zip2 product_32 (cast_lanes v) (replicate 8 257)) (replicate 8 16)

cast_count : (v : List ℕ) → length v ≡ 8 → length (cast_lanes v) ≡ 8
cast_count v long = length-map v (λ (a : ℕ). a) ∙ long

half_count : (v : List ℕ) → length v ≡ 8 → length (half_lanes v) ≡ 8
half_count v long =
    count_of_two shift_16 (zip2 product_32 (cast_lanes v) (replicate 8 257)) (replicate 8 16)
    (count_of_two product_32 (cast_lanes v) (replicate 8 257) (cast_count v long) refl) refl

-- a lane fits sixteen bits
fits_16 : (x : List ℕ) (j : ℕ) → Each1 (Fits w16) x → length x ≡ 8 → j < 8 → slice_index x j < 65536
fits_16 x j f lx lt = (Each1-get_or (Fits w16) x j 0 (omega arith) f).fits

half_lane : (v : List ℕ) (j : ℕ) → Each1 (Fits w16) v → length v ≡ 8 → j < 8 → slice_index (half_lanes v) j ≡ slice_index v j * 257 / 65536
half_lane v j fits long lt =
    let low = fits_16 v j fits long lt in
    let wide : slice_index (cast_lanes v) j ≡ slice_index v j = get_or-map (λ (a : ℕ). a) v j 0 0 (omega arith) in
    let product = lane_of_splat product_32 (cast_lanes v) 257 j (cast_count v long) lt in
    let half =
    lane_of_splat shift_16 (zip2 product_32 (cast_lanes v) (replicate 8 257)) 16 j
    (count_of_two product_32 (cast_lanes v) (replicate 8 257) (cast_count v long) refl) lt in
    let small : product_32 (slice_index v j) 257 ≡ slice_index v j * 257 = omega arith in
    half ∙ ap (λ (n : ℕ). shift_16 n 16) (product ∙ ap (λ (n : ℕ). product_32 n 257) wide ∙ small)

-- the same at the first width
pub cast_half : (v : List ℕ) (j : ℕ) → Each1 (Fits w16) v → length v ≡ 8 → j < 8
    → slice_index (cast_lanes (half_lanes v)) j ≡ slice_index v j * 257 / 65536
cast_half v j fits long lt = get_or-map (λ (a : ℕ). a) (half_lanes v) j 0 0 (omega (arith, half_count v long)) ∙ half_lane v j fits long lt

-- they fit sixteen bits again
pub halves_fit : (v : List ℕ) → Each1 (Fits w16) v → length v ≡ 8 → Each1 (Fits w16) (half_lanes v)
halves_fit v fits long =
    Each1-from_get_or (Fits w16) (half_lanes v) 0 (λ j h.
    let lt : j < 8 = omega (arith, half_count v long) in
    let low = fits_16 v j fits long lt in
    let lane = half_lane v j fits long lt in
    record { fits = omega arith })

-- ---- two vectors of parts as bytes

-- a sum of eight bits
abbrev pub sum_8 : ℕ → ℕ → ℕ
sum_8 a b = (a + b) % 256

-- the bytes of eight lanes
abbrev pub bytes_of_lanes : List ℕ → List ℕ
bytes_of_lanes v = digits_l 256 16 (number_l 65536 v)

-- the two bytes of each lane exchanged
abbrev pub swapped : List ℕ → List ℕ
swapped v =
    slice_index v 1 ∷ slice_index v 0 ∷ slice_index v 3 ∷ slice_index v 2 ∷ slice_index v 5 ∷ slice_index v 4 ∷ slice_index v 7 ∷ slice_index v 6
    ∷ slice_index v 9 ∷ slice_index v 8 ∷ slice_index v 11 ∷ slice_index v 10 ∷ slice_index v 13 ∷ slice_index v 12 ∷ slice_index v 15 ∷ slice_index v 14 ∷ []

swapped_even : (v : List ℕ) (j : ℕ) → j < 8 → slice_index (swapped v) (2 * j) ≡ slice_index v (2 * j + 1)
swapped_even v zero lt = refl
swapped_even v (suc zero) lt = refl
swapped_even v (suc (suc zero)) lt = refl
swapped_even v (suc (suc (suc zero))) lt = refl
swapped_even v (suc (suc (suc (suc zero)))) lt = refl
swapped_even v (suc (suc (suc (suc (suc zero))))) lt = refl
swapped_even v (suc (suc (suc (suc (suc (suc zero)))))) lt = refl
swapped_even v (suc (suc (suc (suc (suc (suc (suc zero))))))) lt = refl
swapped_even v (suc (suc (suc (suc (suc (suc (suc (suc j)))))))) lt = absurd (omega arith)

swapped_odd : (v : List ℕ) (j : ℕ) → j < 8 → slice_index (swapped v) (2 * j + 1) ≡ slice_index v (2 * j)
swapped_odd v zero lt = refl
swapped_odd v (suc zero) lt = refl
swapped_odd v (suc (suc zero)) lt = refl
swapped_odd v (suc (suc (suc zero))) lt = refl
swapped_odd v (suc (suc (suc (suc zero)))) lt = refl
swapped_odd v (suc (suc (suc (suc (suc zero))))) lt = refl
swapped_odd v (suc (suc (suc (suc (suc (suc zero)))))) lt = refl
swapped_odd v (suc (suc (suc (suc (suc (suc (suc zero))))))) lt = refl
swapped_odd v (suc (suc (suc (suc (suc (suc (suc (suc j)))))))) lt = absurd (omega arith)

-- the lower byte of a lane is the part, and the upper one 0
parts_fit : (v : List ℕ) → AreParts v → Each1 (λ x. x < 65536) v
parts_fit v p = Each1-from_get_or (λ x. x < 65536) v 0 (λ j h. let low = p.parts j (omega (arith, p.count)) in omega arith)

part_byte : (v : List ℕ) (j : ℕ) → AreParts v → j < 8 → slice_index (bytes_of_lanes v) (2 * j) ≡ slice_index v j
part_byte v j p lt =
    let place : 2 * j ≡ 2 * j + 0 = omega arith in
    let low = p.parts j lt in
    let part : slice_index v j / 1 % 256 ≡ slice_index v j = omega arith in
    ap (slice_index (bytes_of_lanes v)) place
    ∙ get_or_narrower 65536 2 256 16 v j 0 refl (parts_fit v p) (omega (arith, p.count)) (omega arith)
    ∙ part

no_byte : (v : List ℕ) (j : ℕ) → AreParts v → j < 8 → slice_index (bytes_of_lanes v) (2 * j + 1) ≡ 0
no_byte v j p lt =
    let low = p.parts j lt in
    let none : slice_index v j / 256 % 256 ≡ 0 = omega arith in
    get_or_narrower 65536 2 256 16 v j 1 refl (parts_fit v p) (omega (arith, p.count)) (omega arith) ∙ none

-- the bytes of the second beside those of the first
abbrev pub byte_lanes : List ℕ → List ℕ → List ℕ
byte_lanes low high = zip2 sum_8 (bytes_of_lanes low) (swapped (bytes_of_lanes high))

byte_lane : (low high : List ℕ) (i : ℕ) → i < 16
    → slice_index (byte_lanes low high) i ≡ sum_8 (slice_index (bytes_of_lanes low) i) (slice_index (swapped (bytes_of_lanes high)) i)
byte_lane low high i lt = get_or-zip2 sum_8 (bytes_of_lanes low) (swapped (bytes_of_lanes high)) i 0 0 0 lt lt

pub byte_even : (low high : List ℕ) (j : ℕ) → AreParts low → AreParts high → j < 8 → slice_index (byte_lanes low high) (2 * j) ≡ slice_index low j
byte_even low high j p q lt =
    let a = p.parts j lt in
    let whole : sum_8 (slice_index low j) 0 ≡ slice_index low j = omega arith in
    byte_lane low high (2 * j) (omega arith)
    ∙ ap (λ (n : ℕ). sum_8 n (slice_index (swapped (bytes_of_lanes high)) (2 * j))) (part_byte low j p lt)
    ∙ ap (sum_8 (slice_index low j)) (swapped_even (bytes_of_lanes high) j lt ∙ no_byte high j q lt)
    ∙ whole

pub byte_odd : (low high : List ℕ) (j : ℕ) → AreParts low → AreParts high → j < 8 → slice_index (byte_lanes low high) (2 * j + 1) ≡ slice_index high j
byte_odd low high j p q lt =
    let b = q.parts j lt in
    let whole : sum_8 0 (slice_index high j) ≡ slice_index high j = omega arith in
    byte_lane low high (2 * j + 1) (omega arith)
    ∙ ap (λ (n : ℕ). sum_8 n (slice_index (swapped (bytes_of_lanes high)) (2 * j + 1))) (no_byte low j p lt)
    ∙ ap (sum_8 0) (swapped_odd (bytes_of_lanes high) j lt ∙ part_byte high j q lt)
    ∙ whole

-- what holds of the bytes at even places and of those at odd places holds of all
pub by_halves : (P : ℕ → Type 0) → ((j : ℕ) → j < 8 → P (2 * j)) → ((j : ℕ) → j < 8 → P (2 * j + 1)) → (i : ℕ) → i < 16 → P i
by_halves P even odd i lt =
    elim (cases_lt (i % 2) 1) as (λ _. P i) [
      | inl low ↦ let e : 2 * (i / 2) ≡ i = omega arith in subst P e (even (i / 2) (omega arith))
      | inr high ↦ let e : 2 * (i / 2) + 1 ≡ i = omega arith in subst P e (odd (i / 2) (omega arith))
    ]

-- sixteen bytes of a row
pub loaded : (row : List ℕ) (at : ℕ) → at + 16 ≤ length row → ((i : ℕ) → Fits w8 (slice_index row i)) → IsBytes (chunk at 16 row)
loaded row at fit bytes = record {
  count = length-chunk at 16 row fit;
  bytes = λ i lt.
      let here = get_or-chunk at 16 row i 0 lt in
      let low : slice_index row (at + i) < 256 = (bytes (at + i)).fits in
      omega arith;
}

-- a part of 255 is no more than the whole
pub part_low : (d k : ℕ) → d < 256 → times_255 d k ≤ k
part_low d k lt = let low : d * k ≤ 255 * k = grind arith in omega arith

-- sixteen bytes of a row, each the source's and what shows through it
pub laid : (old source seen : List ℕ) (at : ℕ) → length old ≡ length source → at + 16 ≤ length source → at % 4 ≡ 0
    → ArePremultiplied source → ((i : ℕ) → Fits w8 (slice_index source i)) → length seen ≡ 16
    → ((i : ℕ) → i < 16
    → slice_index seen i ≡ times_255 (slice_index (chunk at 16 old) i) (255 - slice_index (chunk at 16 source) (alpha_place i)))
    → ((i : ℕ) → i < 16 → slice_index seen i ≤ 255 - slice_index (chunk at 16 source) (alpha_place i))
    → IsLaid at 16 source old (put_chunk at old (zip2 sum_8 (chunk at 16 source) seen))
laid old source seen at same fit whole ready os count lanes lows =
    let size : length (chunk at 16 source) ≡ 16 = length-chunk at 16 source fit in
    let new = zip2 sum_8 (chunk at 16 source) seen in
    let long : length new ≡ 16 = length-zip2 sum_8 (chunk at 16 source) seen (omega arith) ∙ size in
    record {
      inside = λ i from to.
          let j = i - at in
          let lt : j < 16 = omega arith in
          let place : at + j ≡ i = omega arith in
          let alpha : at + alpha_place j ≡ alpha_place i = omega arith in
          let there = get_or-put_chunk_at at old new j 0 (omega arith) (omega arith) in
          let lane = get_or-zip2 sum_8 (chunk at 16 source) seen j 0 0 0 (omega arith) (omega arith) in
          let above_here = get_or-chunk at 16 source j 0 lt ∙ ap (slice_index source) place in
          let alpha_here = get_or-chunk at 16 source (alpha_place j) 0 (omega arith) ∙ ap (slice_index source) alpha in
          let below_here = get_or-chunk at 16 old j 0 lt ∙ ap (slice_index old) place in
          let shows : slice_index seen j ≡ times_255 (slice_index old i) (255 - slice_index source (alpha_place i)) =
          lanes j lt
          ∙ ap (λ (d : ℕ). times_255 d (255 - slice_index (chunk at 16 source) (alpha_place j))) below_here
          ∙ ap (λ (a : ℕ). times_255 (slice_index old i) (255 - a)) alpha_here in
          let low = lows j lt in
          let under = ready i (omega arith) in
          let opaque : slice_index source (alpha_place i) < 256 = (os (alpha_place i)).fits in
          let fits : sum_8 (slice_index source i) (times_255 (slice_index old i) (255 - slice_index source (alpha_place i)))
          ≡ above (slice_index old i) (slice_index source i) (slice_index source (alpha_place i)) = omega arith in
          sym (ap (slice_index (put_chunk at old new)) place)
          ∙ there
          ∙ lane
          ∙ ap (λ (s : ℕ). sum_8 s (slice_index seen j)) above_here
          ∙ ap (sum_8 (slice_index source i)) shows
          ∙ fits;
      before = λ i lt. get_or-put_chunk_below at old new i 0 lt;
      behind = λ i le. get_or-put_chunk_above at old new i 0 (omega arith);
    }

-- sixteen bytes of a row, each that of an opaque source
pub copied : (old source : List ℕ) (at : ℕ) → length old ≡ length source → at + 16 ≤ length source → AreOpaque at 16 source
    → IsLaid at 16 source old (put_chunk at old (chunk at 16 source))
copied old source at same fit opaque =
    let size : length (chunk at 16 source) ≡ 16 = length-chunk at 16 source fit in
    record {
      inside = λ i from to.
          let j = i - at in
          let place : at + j ≡ i = omega arith in
          let none : above (slice_index old i) (slice_index source i) 255 ≡ slice_index source i = omega arith in
          sym (ap (slice_index (put_chunk at old (chunk at 16 source))) place)
          ∙ get_or-put_chunk_at at old (chunk at 16 source) j 0 (omega arith) (omega arith)
          ∙ get_or-chunk at 16 source j 0 (omega arith)
          ∙ ap (slice_index source) place
          ∙ sym none
          ∙ ap (λ (a : ℕ). above (slice_index old i) (slice_index source i) a) (sym (opaque i from to));
      before = λ i lt. get_or-put_chunk_below at old (chunk at 16 source) i 0 lt;
      behind = λ i le. get_or-put_chunk_above at old (chunk at 16 source) i 0 (omega arith);
    }

-- sixteen bytes of a row were faded
pub faded_lanes : (old new : List ℕ) (at opacity : ℕ) → at + 16 ≤ length old → length new ≡ 16
    → ((i : ℕ) → i < 16 → slice_index new i ≡ times_255 (slice_index (chunk at 16 old) i) opacity)
    → IsFaded at 16 opacity old (put_chunk at old new)
faded_lanes old new at opacity fit count lanes = record {
  inside = λ i from to.
      let j = i - at in
      let lt : j < 16 = omega arith in
      let place : at + j ≡ i = omega arith in
      sym (ap (slice_index (put_chunk at old new)) place)
      ∙ get_or-put_chunk_at at old new j 0 (omega arith) (omega arith)
      ∙ lanes j lt
      ∙ ap (λ (d : ℕ). times_255 d opacity) (get_or-chunk at 16 old j 0 lt ∙ ap (slice_index old) place);
  before = λ i lt. get_or-put_chunk_below at old new i 0 lt;
  behind = λ i le. get_or-put_chunk_above at old new i 0 (omega arith);
}

-- sixteen bytes of a row hold one colour in each pixel
pub filled_lanes : (c : Parts) (old new : List ℕ) (at : ℕ) → at + 16 ≤ length old → at % 4 ≡ 0 → length new ≡ 16
    → ((i : ℕ) → i < 16 → slice_index new i ≡ component_of c (i % 4))
    → IsFilled at 16 c old (put_chunk at old new)
filled_lanes c old new at fit whole count lanes = record {
  inside = λ i from to.
      let j = i - at in
      let lt : j < 16 = omega arith in
      let place : at + j ≡ i = omega arith in
      let same : j % 4 ≡ i % 4 = omega arith in
      sym (ap (slice_index (put_chunk at old new)) place)
      ∙ get_or-put_chunk_at at old new j 0 (omega arith) (omega arith)
      ∙ lanes j lt
      ∙ ap (component_of c) same;
  before = λ i lt. get_or-put_chunk_below at old new i 0 lt;
  behind = λ i le. get_or-put_chunk_above at old new i 0 (omega arith);
}

-- the bytes of the given number of pixels of one colour
abbrev pub repeated : ℕ → Parts → List ℕ
repeated zero c = []
repeated (suc n) c = c.r ∷ c.g ∷ c.b ∷ c.a ∷ repeated n c

repeated_at : (n : ℕ) (c : Parts) (i : ℕ) → i < 4 * n → slice_index (repeated n c) i ≡ component_of c (i % 4)
repeated_at zero c i lt = absurd (omega arith)
repeated_at (suc n) c zero lt = refl
repeated_at (suc n) c (suc zero) lt = refl
repeated_at (suc n) c (suc (suc zero)) lt = refl
repeated_at (suc n) c (suc (suc (suc zero))) lt = refl
repeated_at (suc n) c (suc (suc (suc (suc i)))) lt =
    let same : i % 4 ≡ suc (suc (suc (suc i))) % 4 = omega arith in
    repeated_at n c i (omega arith) ∙ ap (component_of c) same

-- four pixels of one colour
pub four_pixels : (c d : Parts) (i : ℕ) → d.r ≡ c.r → d.g ≡ c.g → d.b ≡ c.b → d.a ≡ c.a → i < 16
    → slice_index (repeated 4 d) i ≡ component_of c (i % 4)
four_pixels c d i r g b a lt = repeated_at 4 d i lt ∙ ap (λ (e : Parts). component_of e (i % 4)) (same_parts d c r g b a)
