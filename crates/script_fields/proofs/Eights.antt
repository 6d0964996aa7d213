-- Eight bytes at a time: their digits, and digits that are read, in the lanes of vectors.
use Rattle.std.proofs.Common.{◌≡◌, ℕ, zero, suc, ◌+◌, ◌-◌, ◌*◌, ◌/◌, ◌%◌, ◌^◌, ◌<◌, ◌≤◌, Bool, true, false, cond, ltb, eqb, ltb-false, eqb-true, List, [], ◌∷◌, ◌++◌, map, length, take, drop, Option, Some, None, option_map, slice_index, refl, sym, ap, subst, ◌∙◌, arith}
use Rattle.std.specs.Prelude.{replicate, bit_and}
use Rattle.std.specs.Simd.Lanes.{zip2, sel_l, top, chunk, pick_l, mask_l}
use mir.Syntax.{w8}
use mir.Val.{bits, hbits}
use Rattle.std.proofs.lemmas.Simd.{zip2_splat, zip2_of_maps, splat_is_map, zip2_splat_left, tops_compared, mask_l-mod, length-zip2, length-chunk, get_or-chunk, chunk-drop}
use Rattle.std.proofs.lemmas.Bool.Decides.{nat_tests}
use Rattle.std.proofs.lemmas.Grind.{and_numeral}
use Rattle.std.proofs.lemmas.List.{drop_more, get_or-map, length-map, get_or_append_left, get_or-append-add, append_assoc}
use Rattle.script_fields.specs.Hex.{digit_value, digit_of, byte_of, bytes_of, bytes_digits}
use Rattle.script_fields.specs.inner.Fronts.{after}
use Rattle.script_fields.specs.inner.Lanes.{lane_value, AreBytesAt}

-- ---- lanes

abbrev pub less_255 : ℕ → ℕ → ℕ
less_255 a b = cond (ltb a b) (2 ^ bits w8 - 1) 0

abbrev pub sum_8 : ℕ → ℕ → ℕ
sum_8 a b = (a + b) % 2 ^ bits w8

abbrev pub gap_8 : ℕ → ℕ → ℕ
gap_8 a b = (a + (2 ^ bits w8 - b)) % 2 ^ bits w8

-- a choice between two vectors that were computed lane by lane
chosen : (p : ℕ → Bool) (f g : ℕ → ℕ) (vs : List ℕ) → sel_l (map p vs) (map f vs) (map g vs) ≡ map (λ v. cond (p v) (f v) (g v)) vs
chosen p f g [] = refl
chosen p f g (v ∷ vs) = ap (λ (l : List ℕ). cond (p v) (f v) (g v) ∷ l) (chosen p f g vs)

-- which lanes are below a number
below : (n k : ℕ) (f : ℕ → ℕ) (vs : List ℕ) (xs : List ℕ) → length vs ≡ n → xs ≡ map f vs
    → map (top (hbits w8)) (zip2 less_255 xs (replicate n k)) ≡ map (λ v. ltb (f v) k) vs
below n k f vs xs size is =
    tops_compared w8 ltb xs (replicate n k) ∙ zip2_of_maps ltb f (λ (_ : ℕ). k) vs is (splat_is_map vs n k size)

abbrev pub numerals_of : List ℕ → List ℕ
numerals_of v = zip2 gap_8 v (replicate 16 48)

abbrev pub letters_of : List ℕ → List ℕ
letters_of v = zip2 gap_8 v (replicate 16 97)

-- the values of sixteen digits
pub value_lanes : (v : List ℕ) → length v ≡ 16
    → sel_l (map (top (hbits w8)) (zip2 less_255 (numerals_of v) (replicate 16 10))) (numerals_of v)
    (sel_l (map (top (hbits w8)) (zip2 less_255 (letters_of v) (replicate 16 6))) (zip2 sum_8 (letters_of v) (replicate 16 10)) (replicate 16 255))
    ≡ map lane_value v
value_lanes v size =
    let numeral : ℕ → ℕ = λ c. (c + 208) % 256 in
    let letter : ℕ → ℕ = λ c. (c + 159) % 256 in
    let numerals : numerals_of v ≡ map numeral v = zip2_splat gap_8 v 16 48 size in
    let letters : letters_of v ≡ map letter v = zip2_splat gap_8 v 16 97 size in
    let raised : zip2 sum_8 (letters_of v) (replicate 16 10) ≡ map (λ c. (letter c + 10) % 256) v =
    zip2_of_maps sum_8 letter (λ (_ : ℕ). 10) v letters (splat_is_map v 16 10 size) in
    let one = below 16 10 numeral v (numerals_of v) size numerals in
    let two = below 16 6 letter v (letters_of v) size letters in
    let none : replicate 16 255 ≡ map (λ (_ : ℕ). 255) v = splat_is_map v 16 255 size in
    let others = (λ i. sel_l (two i) (raised i) (none i)) ∙ chosen (λ c. ltb (letter c) 6) (λ c. (letter c + 10) % 256) (λ (_ : ℕ). 255) v in
    (λ i. sel_l (one i) (numerals i) (others i))
    ∙ chosen (λ c. ltb (numeral c) 10) numeral (λ c. cond (ltb (letter c) 6) ((letter c + 10) % 256) 255) v

-- a value below 16 is that of a digit
pub lane_known : (c : ℕ) → c < 256 → lane_value c < 16 → digit_value c ≡ Some (lane_value c)
unfolding digit_value
lane_known c fits low = grind (arith, nat_tests)

-- the byte of two digits whose values are known
byte_is : (a b x y : ℕ) → digit_value a ≡ Some x → digit_value b ≡ Some y → byte_of a b ≡ Some (16 * x + y)
unfolding byte_of
byte_is a b x y p q = rw (p, q) refl

module _ (text values : List ℕ) (at : ℕ) (fits : (i : ℕ) → slice_index text i < 256) (room : at + 16 ≤ length text)
    (are : values ≡ map lane_value (chunk at 16 text)) (low : (i : ℕ) → i < 16 → slice_index values i < 16) where
  known_at : (i p : ℕ) → i < 16 → at + i ≡ p → digit_value (slice_index text p) ≡ Some (slice_index values i)
  known_at i p lt e =
      let lane : slice_index values i ≡ lane_value (slice_index text p) =
      ap (λ (l : List ℕ). slice_index l i) are
      ∙ get_or-map lane_value (chunk at 16 text) i 0 0 (omega (arith, length-chunk at 16 text room))
      ∙ ap lane_value (get_or-chunk at 16 text i 0 lt ∙ ap (slice_index text) e) in
      lane_known (slice_index text p) (fits p) (omega (arith, lane, low i lt)) ∙ ap Some (sym lane)

  -- eight bytes whose halves are the values of sixteen digits
  pub eight_known : (bytes : List ℕ) → length bytes ≡ 8
      → ((j : ℕ) → j < 8 → slice_index bytes j ≡ 16 * slice_index values (2 * j) + slice_index values (2 * j + 1)) → AreBytesAt text at bytes
  eight_known bytes size joined = record {
    size = size;
    each = λ j lt.
        byte_is (slice_index text (at + 2 * j)) (slice_index text (at + 2 * j + 1)) (slice_index values (2 * j)) (slice_index values (2 * j + 1))
        (known_at (2 * j) (at + 2 * j) (omega arith) refl) (known_at (2 * j + 1) (at + 2 * j + 1) (omega arith) (omega arith))
        ∙ ap Some (sym (joined j lt));
  }

-- the digits of eight numbers below 16
pub digit_lanes : (v : List ℕ) → length v ≡ 8 → ((i : ℕ) → i < 8 → slice_index v i < 16)
    → sel_l (map (top (hbits w8)) (zip2 less_255 v (replicate 8 10))) (zip2 sum_8 v (replicate 8 48)) (zip2 sum_8 v (replicate 8 87)) ≡ map digit_of v
unfolding digit_of
digit_lanes v size low =
    let own : v ≡ map (λ n. n) v = same v in
    let one = below 8 10 (λ n. n) v v size own in
    let numerals = zip2_splat sum_8 v 8 48 size in
    let letters = zip2_splat sum_8 v 8 87 size in
    (λ i. sel_l (one i) (numerals i) (letters i))
    ∙ chosen (λ n. ltb n 10) (λ n. (n + 48) % 256) (λ n. (n + 87) % 256) v
    ∙ each v (λ i lt. low i (omega arith))
  where
    same : (xs : List ℕ) → xs ≡ map (λ n. n) xs
    same [] = refl
    same (x ∷ xs) = ap (λ (l : List ℕ). x ∷ l) (same xs)

    digit : (n : ℕ) → n < 16 → cond (ltb n 10) ((n + 48) % 256) ((n + 87) % 256) ≡ digit_of n
    digit n lt = grind (arith, nat_tests)

    each : (xs : List ℕ) → ((i : ℕ) → i < length xs → slice_index xs i < 16)
        → map (λ n. cond (ltb n 10) ((n + 48) % 256) ((n + 87) % 256)) xs ≡ map digit_of xs
    each [] h = refl
    each (x ∷ xs) h =
        let here = digit x (h 0 (omega arith)) in
        let rest = each xs (λ i lt. h (suc i) (omega arith)) in
        λ i. here i ∷ rest i

-- ---- tests and moves of lanes

bit_unset : (t : Bool) (n : ℕ) → cond t 1 0 + 2 * n ≡ 0 → (t ≡ false) × (n ≡ 0)
bit_unset true n e = absurd (omega arith)
bit_unset false n e = (refl, omega arith)

-- where no bit of a mask is set, no lane passes the test
none_set : (p : ℕ → Bool) (v : List ℕ) → mask_l (map p v) ≡ 0 → (i : ℕ) → i < length v → p (slice_index v i) ≡ false
none_set p [] e i lt = absurd (omega arith)
none_set p (x ∷ v) e zero lt = (bit_unset (p x) (mask_l (map p v)) e).0
none_set p (x ∷ v) e (suc i) lt = none_set p v (bit_unset (p x) (mask_l (map p v)) e).1 i (omega arith)

-- no lane is above 15
pub all_values : (v : List ℕ) → length v ≡ 16 → (eqb (mask_l (map (top (hbits w8)) (zip2 less_255 (replicate 16 15) v)) % 2 ^ 64) 0) ≡ true
    → (i : ℕ) → i < 16 → slice_index v i < 16
all_values v size e i lt =
    let tests = tops_compared w8 ltb (replicate 16 15) v ∙ zip2_splat_left ltb 15 16 v size in
    let small = mask_l-mod (map (λ x. ltb 15 x) v) 64 (omega (arith, size, length-map v (λ x. ltb 15 x))) in
    let zero = sym small ∙ ap (λ (ms : List Bool). mask_l ms % 2 ^ 64) (sym tests) ∙ eqb-true _ _ e in
    let none = none_set (λ x. ltb 15 x) v zero i (omega (arith, size)) in
    let le : slice_index v i ≤ 15 = ltb-false _ _ none in
    omega (arith, le)

abbrev pub product_8 : ℕ → ℕ → ℕ
product_8 a b = (a * b) % 2 ^ bits w8

abbrev pub evens : List ℕ
evens = 0 ∷ 2 ∷ 4 ∷ 6 ∷ 8 ∷ 10 ∷ 12 ∷ 14 ∷ []

abbrev pub odds : List ℕ
odds = 1 ∷ 3 ∷ 5 ∷ 7 ∷ 9 ∷ 11 ∷ 13 ∷ 15 ∷ []

join_two : (a b : ℕ) → a < 16 → b < 16 → ((a * 16) % 256 + b) % 256 ≡ 16 * a + b
join_two a b p q = omega (arith, p, q)

-- the bytes whose halves are sixteen numbers
pub joined_lane : (v : List ℕ) → ((i : ℕ) → i < 16 → slice_index v i < 16) → (j : ℕ) → j < 8
    → slice_index (zip2 sum_8 (zip2 product_8 (pick_l 0 v evens) (replicate 8 16)) (pick_l 0 v odds)) j ≡ 16 * slice_index v (2 * j) + slice_index v (2 * j + 1)
joined_lane v low zero lt = join_two (slice_index v 0) (slice_index v 1) (low 0 (omega arith)) (low 1 (omega arith))
joined_lane v low (suc zero) lt = join_two (slice_index v 2) (slice_index v 3) (low 2 (omega arith)) (low 3 (omega arith))
joined_lane v low (suc (suc zero)) lt = join_two (slice_index v 4) (slice_index v 5) (low 4 (omega arith)) (low 5 (omega arith))
joined_lane v low (suc (suc (suc zero))) lt = join_two (slice_index v 6) (slice_index v 7) (low 6 (omega arith)) (low 7 (omega arith))
joined_lane v low (suc (suc (suc (suc zero)))) lt = join_two (slice_index v 8) (slice_index v 9) (low 8 (omega arith)) (low 9 (omega arith))
joined_lane v low (suc (suc (suc (suc (suc zero))))) lt = join_two (slice_index v 10) (slice_index v 11) (low 10 (omega arith)) (low 11 (omega arith))
joined_lane v low (suc (suc (suc (suc (suc (suc zero)))))) lt = join_two (slice_index v 12) (slice_index v 13) (low 12 (omega arith)) (low 13 (omega arith))
joined_lane v low (suc (suc (suc (suc (suc (suc (suc zero))))))) lt = join_two (slice_index v 14) (slice_index v 15) (low 14 (omega arith)) (low 15 (omega arith))
joined_lane v low (suc (suc (suc (suc (suc (suc (suc (suc j)))))))) lt = absurd (omega arith)

-- the lanes of two vectors in turn
abbrev pub in_turn : List ℕ
in_turn = 0 ∷ 8 ∷ 1 ∷ 9 ∷ 2 ∷ 10 ∷ 3 ∷ 11 ∷ 4 ∷ 12 ∷ 5 ∷ 13 ∷ 6 ∷ 14 ∷ 7 ∷ 15 ∷ []

first_turn : (v : List ℕ) (j : ℕ) → j < 8 → slice_index (pick_l 0 v in_turn) (2 * j) ≡ slice_index v j
first_turn v zero lt = refl
first_turn v (suc zero) lt = refl
first_turn v (suc (suc zero)) lt = refl
first_turn v (suc (suc (suc zero))) lt = refl
first_turn v (suc (suc (suc (suc zero)))) lt = refl
first_turn v (suc (suc (suc (suc (suc zero))))) lt = refl
first_turn v (suc (suc (suc (suc (suc (suc zero)))))) lt = refl
first_turn v (suc (suc (suc (suc (suc (suc (suc zero))))))) lt = refl
first_turn v (suc (suc (suc (suc (suc (suc (suc (suc j)))))))) lt = absurd (omega arith)

second_turn : (v : List ℕ) (j : ℕ) → j < 8 → slice_index (pick_l 0 v in_turn) (2 * j + 1) ≡ slice_index v (8 + j)
second_turn v zero lt = refl
second_turn v (suc zero) lt = refl
second_turn v (suc (suc zero)) lt = refl
second_turn v (suc (suc (suc zero))) lt = refl
second_turn v (suc (suc (suc (suc zero)))) lt = refl
second_turn v (suc (suc (suc (suc (suc zero))))) lt = refl
second_turn v (suc (suc (suc (suc (suc (suc zero)))))) lt = refl
second_turn v (suc (suc (suc (suc (suc (suc (suc zero))))))) lt = refl
second_turn v (suc (suc (suc (suc (suc (suc (suc (suc j)))))))) lt = absurd (omega arith)

pub turned_high : (h l : List ℕ) (j : ℕ) → length h ≡ 8 → j < 8 → slice_index (pick_l 0 (h ++ l) in_turn) (2 * j) ≡ slice_index h j
turned_high h l j size lt = first_turn (h ++ l) j lt ∙ get_or_append_left h l 0 j (omega (arith, size))

pub turned_low : (h l : List ℕ) (j : ℕ) → length h ≡ 8 → j < 8 → slice_index (pick_l 0 (h ++ l) in_turn) (2 * j + 1) ≡ slice_index l j
turned_low h l j size lt =
    second_turn (h ++ l) j lt ∙ ap (λ (n : ℕ). slice_index (h ++ l) (n + j)) (sym size) ∙ get_or-append-add h l j 0

-- the upper halves of eight bytes
abbrev pub shift_8 : ℕ → ℕ → ℕ
shift_8 a b = a / 2 ^ b

module _ (v : List ℕ) (size : length v ≡ 8) where
  high_half : (i : ℕ) → i < 8 → slice_index (zip2 shift_8 v (replicate 8 4)) i ≡ slice_index v i / 16
  high_half i lt =
      ap (λ (l : List ℕ). slice_index l i) (zip2_splat shift_8 v 8 4 size) ∙ get_or-map (λ x. x / 16) v i 0 0 (omega (arith, size))

  low_half : (i : ℕ) → i < 8 → slice_index (zip2 bit_and v (replicate 8 15)) i ≡ slice_index v i % 16
  low_half i lt =
      ap (λ (l : List ℕ). slice_index l i) (zip2_splat bit_and v 8 15 size)
      ∙ get_or-map (λ x. bit_and x 15) v i 0 0 (omega (arith, size))
      ∙ and_numeral (slice_index v i) 14 refl

  pub high_fits : ((i : ℕ) → i < 8 → slice_index v i < 256)
      → (length (zip2 shift_8 v (replicate 8 4)) ≡ 8) × ((i : ℕ) → i < 8 → slice_index (zip2 shift_8 v (replicate 8 4)) i < 16)
  high_fits fits = (
    length-zip2 shift_8 v (replicate 8 4) size ∙ size,
    λ i lt. omega (arith, high_half i lt, fits i lt),
  )

  pub low_fits : (length (zip2 bit_and v (replicate 8 15)) ≡ 8) × ((i : ℕ) → i < 8 → slice_index (zip2 bit_and v (replicate 8 15)) i < 16)
  low_fits = (
    length-zip2 bit_and v (replicate 8 15) size ∙ size,
    λ i lt. omega (arith, low_half i lt),
  )

  module _ (h l : List ℕ) (high : h ≡ map digit_of (zip2 shift_8 v (replicate 8 4))) (low : l ≡ map digit_of (zip2 bit_and v (replicate 8 15))) where
    many : length h ≡ 8
    many =
        ap length high ∙ length-map (zip2 shift_8 v (replicate 8 4)) digit_of ∙ length-zip2 shift_8 v (replicate 8 4) size ∙ size

    pub high_turn : (j : ℕ) → j < 8 → slice_index (pick_l 0 (h ++ l) in_turn) (2 * j) ≡ digit_of (slice_index v j / 16)
    high_turn j lt =
        turned_high h l j many lt
        ∙ ap (λ (d : List ℕ). slice_index d j) high
        ∙ get_or-map digit_of (zip2 shift_8 v (replicate 8 4)) j 0 0 (omega (arith, length-zip2 shift_8 v (replicate 8 4) size, size))
        ∙ ap digit_of (high_half j lt)

    pub low_turn : (j : ℕ) → j < 8 → slice_index (pick_l 0 (h ++ l) in_turn) (2 * j + 1) ≡ digit_of (slice_index v j % 16)
    low_turn j lt =
        turned_low h l j many lt
        ∙ ap (λ (d : List ℕ). slice_index d j) low
        ∙ get_or-map digit_of (zip2 bit_and v (replicate 8 15)) j 0 0 (omega (arith, length-zip2 bit_and v (replicate 8 15) size, size))
        ∙ ap digit_of (low_half j lt)

-- eight bytes of a slice
pub eight_loaded : (bytes : List ℕ) (at : ℕ) → ((i : ℕ) → slice_index bytes i < 256) → at + 8 ≤ length bytes
    → (length (chunk at 8 bytes) ≡ 8) × ((i : ℕ) → i < 8 → slice_index (chunk at 8 bytes) i < 256)
eight_loaded bytes at fits room = (length-chunk at 8 bytes room, λ i lt. omega (arith, get_or-chunk at 8 bytes i 0 lt, fits (at + i)))

-- ---- lists

-- the bytes from two digits on
two_read : (text : List ℕ) (at p : ℕ) → at + 2 ≤ length text → byte_of (slice_index text at) (slice_index text (at + 1)) ≡ Some p
    → bytes_of (drop at text) ≡ option_map (λ bs. p ∷ bs) (bytes_of (drop (at + 2) text))
two_read text at p fit h =
    let one : drop at text ≡ slice_index text at ∷ drop (at + 1) text = drop_more text at 0 (omega arith) in
    let next : drop (at + 1) text ≡ slice_index text (at + 1) ∷ drop (at + 1 + 1) text = drop_more text (at + 1) 0 (omega arith) in
    let e : at + 1 + 1 ≡ at + 2 = omega arith in
    let both : drop at text ≡ slice_index text at ∷ slice_index text (at + 1) ∷ drop (at + 2) text =
    one ∙ ap (λ (xs : List ℕ). slice_index text at ∷ xs) (next ∙ ap (λ (n : ℕ). slice_index text (at + 1) ∷ drop n text) e) in
    ap bytes_of both ∙ rw h refl

-- one byte more in front of others
front_one : (front : List ℕ) (p : ℕ) (bs : List ℕ) → front ++ (p ∷ bs) ≡ (front ++ p ∷ []) ++ bs
front_one [] p bs = refl
front_one (x ∷ xs) p bs = ap (λ (l : List ℕ). x ∷ l) (front_one xs p bs)

front_none : (front : List ℕ) → front ++ [] ≡ front
front_none [] = refl
front_none (x ∷ xs) = ap (λ (l : List ℕ). x ∷ l) (front_none xs)

after_one : (front : List ℕ) (p : ℕ) (o : Option (List ℕ)) → after front (option_map (λ bs. p ∷ bs) o) ≡ after (front ++ p ∷ []) o
after_one front p (Some bs) = ap Some (front_one front p bs)
after_one front p None = refl

all_taken : (xs : List ℕ) → take (length xs) xs ≡ xs
all_taken [] = refl
all_taken (x ∷ xs) = ap (λ (l : List ℕ). x ∷ l) (all_taken xs)

-- the byte of the first two digits in front of those of the rest
pub one_read : (front text items : List ℕ) (b : ℕ) → 2 ≤ length text → byte_of (slice_index text 0) (slice_index text 1) ≡ Some b
    → items ≡ front ++ b ∷ [] → after items (bytes_of (take (length text - 2) (drop 2 text))) ≡ after front (bytes_of text)
one_read front [] items b two known is = absurd (omega arith)
one_read front (x ∷ []) items b two known is = absurd (omega arith)
one_read front (x ∷ y ∷ rest) items b two known is =
    let here : byte_of x y ≡ Some b = known in
    let count : length (x ∷ y ∷ rest) - 2 ≡ length rest = omega arith in
    let all : take (length (x ∷ y ∷ rest) - 2) rest ≡ rest = ap (λ (n : ℕ). take n rest) count ∙ all_taken rest in
    let read : bytes_of (x ∷ y ∷ rest) ≡ option_map (λ bs. b ∷ bs) (bytes_of rest) = rw here refl in
    (λ i. after (is i) (bytes_of (all i))) ∙ sym (after_one front b (bytes_of rest)) ∙ ap (after front) (sym read)

-- bytes more in front of those of the rest
more_read : (front text xs : List ℕ) (at end : ℕ) → at + 2 * length xs ≡ end → end ≤ length text
    → ((j : ℕ) → j < length xs → byte_of (slice_index text (at + 2 * j)) (slice_index text (at + 2 * j + 1)) ≡ Some (slice_index xs j))
    → after front (bytes_of (drop at text)) ≡ after (front ++ xs) (bytes_of (drop end text))
more_read front text [] at end e fit h =
    let same : at ≡ end = omega arith in
    let none = sym (front_none front) in
    λ i. after (none i) (bytes_of (drop (same i) text))
more_read front text (p ∷ xs) at end e fit h =
    let first : at + 2 * 0 ≡ at = omega arith in
    let known = subst (λ (n : ℕ). byte_of (slice_index text n) (slice_index text (n + 1)) ≡ Some p) first (h 0 (omega arith)) in
    ap (after front) (two_read text at p (omega arith) known)
    ∙ after_one front p (bytes_of (drop (at + 2) text))
    ∙ more_read (front ++ p ∷ []) text xs (at + 2) end (omega arith) fit
    (λ j lt.
    let there : at + 2 * suc j ≡ at + 2 + 2 * j = omega arith in
    subst (λ (n : ℕ). byte_of (slice_index text n) (slice_index text (n + 1)) ≡ Some (slice_index xs j)) there (h (suc j) (omega arith)))
    ∙ ap (λ (l : List ℕ). after l (bytes_of (drop end text))) (sym (front_one front p xs))

-- eight bytes more
pub eight_read : (front text bytes : List ℕ) (at : ℕ) → at + 16 ≤ length text → AreBytesAt text at bytes
    → after front (bytes_of (drop at text)) ≡ after (front ++ bytes) (bytes_of (drop (at + 16) text))
eight_read front text bytes at fit are =
    more_read front text bytes at (at + 16) (omega (arith, are.size)) fit (λ j lt. are.each j (omega (arith, are.size)))

-- ---- the digits of bytes

-- a list that has the digits of each byte in turn
digits_in_turn : (xs ds : List ℕ) → length ds ≡ 2 * length xs
    → ((j : ℕ) → j < length xs → (slice_index ds (2 * j) ≡ digit_of (slice_index xs j / 16)) × (slice_index ds (2 * j + 1) ≡ digit_of (slice_index xs j % 16)))
    → ds ≡ bytes_digits xs
digits_in_turn [] [] size h = refl
digits_in_turn [] (d ∷ ds) size h = absurd (omega arith)
digits_in_turn (x ∷ xs) [] size h = absurd (omega arith)
digits_in_turn (x ∷ xs) (d ∷ []) size h = absurd (omega arith)
digits_in_turn (x ∷ xs) (d ∷ e ∷ ds) size h =
    let one = h 0 (omega arith) in
    let rest =
    digits_in_turn xs ds (omega arith)
    (λ j lt.
    let both = h (suc j) (omega arith) in
    let even : 2 * suc j ≡ suc (suc (2 * j)) = omega arith in
    let odd : 2 * suc j + 1 ≡ suc (suc (2 * j + 1)) = omega arith in
    (sym (ap (slice_index (d ∷ e ∷ ds)) even) ∙ both.0, sym (ap (slice_index (d ∷ e ∷ ds)) odd) ∙ both.1)) in
    λ i. one.0 i ∷ one.1 i ∷ rest i

digits_joined : (xs ys : List ℕ) → bytes_digits (xs ++ ys) ≡ bytes_digits xs ++ bytes_digits ys
digits_joined [] ys = refl
digits_joined (x ∷ xs) ys = ap (λ (l : List ℕ). digit_of (x / 16) ∷ digit_of (x % 16) ∷ l) (digits_joined xs ys)

-- the digits of eight bytes before those of the rest
pub eight_written : (front bytes ds : List ℕ) (at : ℕ) → at + 8 ≤ length bytes → length ds ≡ 16
    → ((j : ℕ) → j < 8 → slice_index ds (2 * j) ≡ digit_of (slice_index (chunk at 8 bytes) j / 16))
    → ((j : ℕ) → j < 8 → slice_index ds (2 * j + 1) ≡ digit_of (slice_index (chunk at 8 bytes) j % 16))
    → (front ++ ds) ++ bytes_digits (drop (at + 8) bytes) ≡ front ++ bytes_digits (drop at bytes)
eight_written front bytes ds at fit size high low =
    let count = length-chunk at 8 bytes fit in
    let own = digits_in_turn (chunk at 8 bytes) ds (omega (arith, count, size)) (λ j lt. (high j (omega (arith, count)), low j (omega (arith, count)))) in
    append_assoc front ds (bytes_digits (drop (at + 8) bytes))
    ∙ ap (λ (l : List ℕ). front ++ (l ++ bytes_digits (drop (at + 8) bytes))) own
    ∙ ap (λ (l : List ℕ). front ++ l) (sym (digits_joined (chunk at 8 bytes) (drop (at + 8) bytes)) ∙ ap bytes_digits (sym (chunk-drop at 8 bytes)))
