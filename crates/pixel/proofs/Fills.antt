-- A row whose bytes are those of one colour in each pixel.
use Rattle.std.specs.Prelude.{ℕ, ◌+◌, ◌*◌, ◌/◌, ◌%◌, ◌<◌, ◌≤◌, ◌≡◌, List, length, slice_index}
use Rattle.std.proofs.Common.{arith, ◌∙◌, ap}
use Rattle.std.proofs.lemmas.Bool.Decides.{nat_tests}
use Rattle.pixel.specs.Colours.{Parts}
use Rattle.pixel.specs.Rows.{pixel, component_of, ArePremultiplied, alpha_place, IsFilled}

-- the colour of four components
abbrev parts : ℕ → ℕ → ℕ → ℕ → Parts
parts r g b a = record { r = r; g = g; b = b; a = a }

-- four equal components make equal colours
pub same_parts : (c d : Parts) → c.r ≡ d.r → c.g ≡ d.g → c.b ≡ d.b → c.a ≡ d.a → c ≡ d
same_parts c d r g b a =
    ap (λ (n : ℕ). parts n c.g c.b c.a) r ∙ ap (λ (n : ℕ). parts d.r n c.b c.a) g ∙ ap (λ (n : ℕ). parts d.r d.g n c.a) b
    ∙ ap (λ (n : ℕ). parts d.r d.g d.b n) a

-- byte `j` of pixel `k`
byte_of : (c : Parts) (n : ℕ) (old new : List ℕ) (k j : ℕ) → IsFilled 0 n c old new → 4 * k + j < n → j < 4
    → slice_index new (4 * k + j) ≡ component_of c j
byte_of c n old new k j f lt low =
    let place : (4 * k + j) % 4 ≡ j = omega arith in
    f.inside (4 * k + j) (omega arith) (omega arith) ∙ ap (component_of c) place

pub filled_pixel : (c : Parts) (n : ℕ) (old new : List ℕ) (k : ℕ) → IsFilled 0 n c old new → k < n / 4 → pixel new k ≡ c
filled_pixel c n old new k f lt =
    let place : (4 * k) % 4 ≡ 0 = omega arith in
    same_parts (pixel new k) c (f.inside (4 * k) (omega arith) (omega arith) ∙ ap (component_of c) place) (byte_of c n old new k 1 f (omega arith) (omega arith))
    (byte_of c n old new k 2 f (omega arith) (omega arith)) (byte_of c n old new k 3 f (omega arith) (omega arith))

-- no component exceeds alpha
part_low : (c : Parts) (j : ℕ) → c.r ≤ c.a → c.g ≤ c.a → c.b ≤ c.a → component_of c j ≤ c.a
part_low c j r g b = grind (arith, nat_tests)

pub filled_premultiplied : (c : Parts) (n : ℕ) (old new : List ℕ)
    → IsFilled 0 n c old new → n % 4 ≡ 0 → n ≡ length new → c.r ≤ c.a → c.g ≤ c.a → c.b ≤ c.a → ArePremultiplied new
filled_premultiplied c n old new f whole len r g b i lt =
    let here : slice_index new i ≡ component_of c (i % 4) = f.inside i (omega arith) (omega arith) in
    let alpha : slice_index new (alpha_place i) ≡ c.a = byte_of c n old new (i / 4) 3 f (omega arith) (omega arith) in
    let low = part_low c (i % 4) r g b in
    omega arith
