-- Four pixels in a vector, laid over others and faded, and put into a surface.
use Rattle.std.specs.Prelude.{ℕ, ◌+◌, ◌-◌, ◌*◌, ◌<◌, ◌≤◌, ◌≡◌, List, length, slice_index}
use Rattle.std.proofs.Common.{arith, ◌∙◌, ap, sym, inl, inr}
use Rattle.std.specs.Simd.Lanes.{zip2, put_chunk}
use Rattle.std.proofs.lemmas.Simd.{get_or-zip2, get_or-put_chunk_at, get_or-put_chunk_below, get_or-put_chunk_above, length-put_chunk}
use Rattle.std.proofs.lemmas.Bool.{cases_lt}
use Rattle.pixel.specs.Colours.{Parts, above, times_255, scaled}
use Rattle.pixel.specs.Rows.{pixel, alpha_place, ArePremultiplied}
use Rattle.pixel.specs.LaneBytes.{IsBytes}
use Rattle.pixel.specs.Surfaces.{IsPart}
use Rattle.pixel.proofs.Fills.{same_parts}
use Rattle.pixel.proofs.LaneWise.{sum_8, part_low}

-- no lane of the sum passes a byte
pub laid_lane : (below over seen : List ℕ) → IsBytes over → ArePremultiplied over → length seen ≡ 16
    → ((i : ℕ) → i < 16 → slice_index seen i ≡ times_255 (slice_index below i) (255 - slice_index over (alpha_place i)))
    → ((i : ℕ) → i < 16 → slice_index seen i ≤ 255 - slice_index over (alpha_place i))
    → (i : ℕ) → i < 16 → slice_index (zip2 sum_8 over seen) i ≡ above (slice_index below i) (slice_index over i) (slice_index over (alpha_place i))
laid_lane below over seen bytes ready count lanes lows i lt =
    let size = bytes.count in
    let lane = get_or-zip2 sum_8 over seen i 0 0 0 (omega arith) (omega arith) in
    let shows = lanes i lt in
    let low = lows i lt in
    let under = ready i (omega arith) in
    let opaque = bytes.bytes (alpha_place i) (omega arith) in
    let fits : sum_8 (slice_index over i) (slice_index seen i) ≡ slice_index over i + slice_index seen i = omega arith in
    lane ∙ fits ∙ ap (λ (s : ℕ). slice_index over i + s) shows

-- a part of 255 of a greater number is no less
part_grows : (x y kept : ℕ) → x ≤ y → times_255 x kept ≤ times_255 y kept
part_grows x y kept le = let grows : x * kept ≤ y * kept = grind arith in omega arith

-- four premultiplied pixels over four others
pub laid_premultiplied : (below over new : List ℕ) → length over ≡ 16 → length below ≡ 16 → length new ≡ 16
    → ((i : ℕ) → i < 16 → slice_index new i ≡ above (slice_index below i) (slice_index over i) (slice_index over (alpha_place i)))
    → ArePremultiplied over → ArePremultiplied below → ArePremultiplied new
laid_premultiplied below over new lo lb ln lanes ready old i lt =
    let alpha : alpha_place (alpha_place i) ≡ alpha_place i = omega arith in
    let here = lanes i (omega arith) in
    let there = lanes (alpha_place i) (omega arith)
    ∙ ap (λ (a : ℕ). above (slice_index below (alpha_place i)) (slice_index over (alpha_place i)) a) (ap (slice_index over) alpha) in
    let low = ready i (omega arith) in
    let shows = part_grows (slice_index below i) (slice_index below (alpha_place i)) (255 - slice_index over (alpha_place i)) (old i (omega arith)) in
    omega arith

-- four premultiplied pixels faded
pub scaled_premultiplied : (old new : List ℕ) (opacity : ℕ) → length old ≡ 16 → length new ≡ 16
    → ((i : ℕ) → i < 16 → slice_index new i ≡ times_255 (slice_index old i) opacity) → ArePremultiplied old → ArePremultiplied new
scaled_premultiplied old new opacity lo ln lanes ready i lt =
    let here = lanes i (omega arith) in
    let there = lanes (alpha_place i) (omega arith) in
    let grows = part_grows (slice_index old i) (slice_index old (alpha_place i)) opacity (ready i (omega arith)) in
    omega arith

pub scaled_bytes : (old new : List ℕ) (opacity : ℕ) → IsBytes old → length new ≡ 16 → opacity < 256
    → ((i : ℕ) → i < 16 → slice_index new i ≡ times_255 (slice_index old i) opacity) → IsBytes new
scaled_bytes old new opacity bytes ln small lanes = record {
  count = ln;
  bytes = λ i lt.
      let here = lanes i lt in
      let low = part_low (slice_index old i) opacity (bytes.bytes i lt) in
      omega arith;
}

-- pixel `j` of what stands in place of four
pixel_put : (k j : ℕ) (old new : List ℕ) → j < 4 → 4 * (k + 4) ≤ length old → length new ≡ 16 → pixel (put_chunk (4 * k) old new) (k + j) ≡ pixel new j
pixel_put k j old new lt fit long =
    let whole = put_chunk (4 * k) old new in
    let e0 : 4 * (k + j) ≡ 4 * k + 4 * j = omega arith in
    let e1 : 4 * (k + j) + 1 ≡ 4 * k + (4 * j + 1) = omega arith in
    let e2 : 4 * (k + j) + 2 ≡ 4 * k + (4 * j + 2) = omega arith in
    let e3 : 4 * (k + j) + 3 ≡ 4 * k + (4 * j + 3) = omega arith in
    same_parts (pixel whole (k + j)) (pixel new j)
    (ap (slice_index whole) e0 ∙ get_or-put_chunk_at (4 * k) old new (4 * j) 0 (omega arith) (omega arith))
    (ap (slice_index whole) e1 ∙ get_or-put_chunk_at (4 * k) old new (4 * j + 1) 0 (omega arith) (omega arith))
    (ap (slice_index whole) e2 ∙ get_or-put_chunk_at (4 * k) old new (4 * j + 2) 0 (omega arith) (omega arith))
    (ap (slice_index whole) e3 ∙ get_or-put_chunk_at (4 * k) old new (4 * j + 3) 0 (omega arith) (omega arith))

-- a surface stays premultiplied where four pixels are replaced by premultiplied ones
put_premultiplied : (k : ℕ) (old new : List ℕ) → 4 * (k + 4) ≤ length old → length new ≡ 16 → ArePremultiplied old → ArePremultiplied new
    → ArePremultiplied (put_chunk (4 * k) old new)
put_premultiplied k old new fit long ready fresh i lt =
    let whole = put_chunk (4 * k) old new in
    let size : length whole ≡ length old = length-put_chunk (4 * k) old new in
    elim (cases_lt i (4 * k)) as (λ _. slice_index whole i ≤ slice_index whole (alpha_place i)) [
      | inl low ↦
          let here = get_or-put_chunk_below (4 * k) old new i 0 low in
          let there = get_or-put_chunk_below (4 * k) old new (alpha_place i) 0 (omega arith) in
          let was = ready i (omega arith) in
          omega arith
      | inr from ↦ elim (cases_lt i (4 * k + 16)) as (λ _. slice_index whole i ≤ slice_index whole (alpha_place i)) [
        | inl to ↦
            let j = i - 4 * k in
            let e : 4 * k + j ≡ i = omega arith in
            let f : 4 * k + alpha_place j ≡ alpha_place i = omega arith in
            let here = sym (ap (slice_index whole) e) ∙ get_or-put_chunk_at (4 * k) old new j 0 (omega arith) (omega arith) in
            let there = sym (ap (slice_index whole) f) ∙ get_or-put_chunk_at (4 * k) old new (alpha_place j) 0 (omega arith) (omega arith) in
            let inner = fresh j (omega arith) in
            omega arith
        | inr high ↦
            let here = get_or-put_chunk_above (4 * k) old new i 0 (omega arith) in
            let there = get_or-put_chunk_above (4 * k) old new (alpha_place i) 0 (omega arith) in
            let was = ready i (omega arith) in
            omega arith
      ]
    ]

-- four pixels of a surface were replaced by what `g` makes of them
pub four_made : (k : ℕ) (g : ℕ → Parts → Parts) (old new : List ℕ) → 4 * (k + 4) ≤ length old → length new ≡ 16
    → ((j : ℕ) → j < 4 → pixel new j ≡ g j (pixel old (k + j))) → (ArePremultiplied old → ArePremultiplied new)
    → IsPart k 4 g old (put_chunk (4 * k) old new)
four_made k g old new fit long each ready = record {
  inside = λ j lt. pixel_put k j old new lt fit long ∙ each j lt;
  before = λ i lt.
      same_parts (pixel (put_chunk (4 * k) old new) i) (pixel old i)
      (get_or-put_chunk_below (4 * k) old new (4 * i) 0 (omega arith))
      (get_or-put_chunk_below (4 * k) old new (4 * i + 1) 0 (omega arith))
      (get_or-put_chunk_below (4 * k) old new (4 * i + 2) 0 (omega arith))
      (get_or-put_chunk_below (4 * k) old new (4 * i + 3) 0 (omega arith));
  behind = λ i le.
      same_parts (pixel (put_chunk (4 * k) old new) i) (pixel old i)
      (get_or-put_chunk_above (4 * k) old new (4 * i) 0 (omega arith))
      (get_or-put_chunk_above (4 * k) old new (4 * i + 1) 0 (omega arith))
      (get_or-put_chunk_above (4 * k) old new (4 * i + 2) 0 (omega arith))
      (get_or-put_chunk_above (4 * k) old new (4 * i + 3) 0 (omega arith));
  premultiplied = λ was. put_premultiplied k old new fit long was (ready was);
}

-- a pixel of four that were faded
pub scaled_pixel : (old new : List ℕ) (opacity : ℕ) → ((i : ℕ) → i < 16 → slice_index new i ≡ times_255 (slice_index old i) opacity)
    → (j : ℕ) → j < 4 → pixel new j ≡ scaled (pixel old j) opacity
scaled_pixel old new opacity lanes j lt =
    same_parts (pixel new j) (scaled (pixel old j) opacity) (lanes (4 * j) (omega arith)) (lanes (4 * j + 1) (omega arith))
    (lanes (4 * j + 2) (omega arith)) (lanes (4 * j + 3) (omega arith))
