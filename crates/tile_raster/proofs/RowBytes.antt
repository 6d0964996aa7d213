-- The bytes and pixels of a part of a picture's bytes.
use Rattle.std.proofs.Common.{◌≡◌, ℕ, ◌<◌, ◌≤◌, ◌+◌, ◌*◌, min, List, length, take, drop, get_or, ◌∙◌, ap, arith}
use Rattle.std.proofs.lemmas.List.{length-take, get_or-take, get_or-drop}
use Rattle.pixel.specs.Rows.{pixel, alpha_place, ArePremultiplied}

-- bytes and pixels of a part
pub part_byte : (bytes : List ℕ) (s n k : ℕ) → k < n → get_or (take n (drop s bytes)) k 0 ≡ get_or bytes (s + k) 0
part_byte bytes s n k lt = get_or-take n (drop s bytes) k 0 lt ∙ get_or-drop s bytes k 0

part_at : (bytes : List ℕ) (s n k p : ℕ) → k < n → s + k ≡ p → get_or (take n (drop s bytes)) k 0 ≡ get_or bytes p 0
part_at bytes s n k p lt e = part_byte bytes s n k lt ∙ ap (λ i. get_or bytes i 0) e

pub pixel_part : (bytes : List ℕ) (m n x : ℕ) → x < n → pixel (take (4 * n) (drop (4 * m) bytes)) x ≡ pixel bytes (m + x)
pixel_part bytes m n x lt =
    let r = part_at bytes (4 * m) (4 * n) (4 * x) (4 * (m + x)) (omega arith) (omega arith) in
    let g = part_at bytes (4 * m) (4 * n) (4 * x + 1) (4 * (m + x) + 1) (omega arith) (omega arith) in
    let b = part_at bytes (4 * m) (4 * n) (4 * x + 2) (4 * (m + x) + 2) (omega arith) (omega arith) in
    let a = part_at bytes (4 * m) (4 * n) (4 * x + 3) (4 * (m + x) + 3) (omega arith) (omega arith) in
    λ i. record { r = r i; g = g i; b = b i; a = a i }

pub part_premultiplied : (bytes : List ℕ) (m n : ℕ) → 4 * m + 4 * n ≤ length bytes → ArePremultiplied bytes → ArePremultiplied (take (4 * n) (drop (4 * m) bytes))
part_premultiplied bytes m n le p i lt =
    let l : length (take (4 * n) (drop (4 * m) bytes)) ≡ min (4 * n) (length (drop (4 * m) bytes)) = length-take (4 * n) (drop (4 * m) bytes) in
    let k : i < 4 * n = omega arith in
    let e : get_or (take (4 * n) (drop (4 * m) bytes)) i 0 ≡ get_or bytes (4 * m + i) 0 = part_byte bytes (4 * m) (4 * n) i k in
    let f : get_or (take (4 * n) (drop (4 * m) bytes)) (alpha_place i) 0 ≡ get_or bytes (alpha_place (4 * m + i)) 0 =
    part_at bytes (4 * m) (4 * n) (alpha_place i) (alpha_place (4 * m + i)) (omega arith) (omega arith) in
    let q : get_or bytes (4 * m + i) 0 ≤ get_or bytes (alpha_place (4 * m + i)) 0 = p (4 * m + i) (omega arith) in
    omega arith
