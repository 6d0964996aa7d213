-- The bytes of a pixel, wherever they stand.
use Rattle.std.proofs.Common.{◌≡◌, ℕ, ◌+◌, ◌*◌, ◌<◌, ◌≤◌, List, [], ◌∷◌, slice_index, length, take, drop, sym, ◌∙◌, ap, arith}
use Rattle.std.proofs.lemmas.Int.{clamps}
use Rattle.std.proofs.lemmas.List.{ext_get_or, length-take, length-take-le, length-drop, get_or-take, get_or-drop, drop_more}
use Rattle.std.proofs.lemmas.Grind.{common_steps}
use Rattle.pixel.specs.Colours.{Parts}
use Rattle.pixel.specs.Rows.{pixel}
use Rattle.viz_canvas.specs.Formats.{bytes_at}
use Rattle.viz_canvas.specs.inner.Packing.{IsRgb, IsBgra}

-- where byte `b` of pixel `k` stands: before all later pixels
pub before_pixel : (d i k b : ℕ) → i < k → b < d → d * i + b < d * k
before_pixel d i k b lt of = grind arith

pub pixel_end : (d i k : ℕ) → i < k → d * i + d ≤ d * k
pixel_end d i k lt = grind arith

pub pixels_sum : (d i k : ℕ) → d * (i + k) ≡ d * i + d * k
pixels_sum d i k = grind arith

pub in_order : (d i k : ℕ) → i ≤ k → d * i ≤ d * k
in_order d i k le = grind arith

-- a pixel within the list has all its bytes
pub all_there : (d : ℕ) (xs : List ℕ) (k : ℕ) → d * k + d ≤ length xs → length (bytes_at d xs k) ≡ d
unfolding bytes_at
all_there d xs k fit = length-take-le d (drop (d * k) xs) (omega (arith, length-drop (d * k) xs))

-- in lists of one length a place has as many bytes
pub as_many : (d : ℕ) (xs ys : List ℕ) (k : ℕ) → length xs ≡ length ys → length (bytes_at d xs k) ≡ length (bytes_at d ys k)
unfolding bytes_at
as_many d xs ys k e = grind (arith, common_steps)

byte_of : (d : ℕ) (xs : List ℕ) (k b : ℕ) → b < d → slice_index (bytes_at d xs k) b ≡ slice_index xs (d * k + b)
unfolding bytes_at
byte_of d xs k b lt = get_or-take d (drop (d * k) xs) b 0 lt ∙ get_or-drop (d * k) xs b 0

at_most : (d : ℕ) (xs : List ℕ) (k b : ℕ) → b < length (bytes_at d xs k) → b < d
unfolding bytes_at
at_most d xs k b lt = omega (arith, clamps, length-take d (drop (d * k) xs))

-- pixels of equal bytes
pub same_bytes : (d : ℕ) (xs ys : List ℕ) (i j : ℕ) → length (bytes_at d xs i) ≡ length (bytes_at d ys j)
    → ((b : ℕ) → b < d → slice_index xs (d * i + b) ≡ slice_index ys (d * j + b)) → bytes_at d xs i ≡ bytes_at d ys j
same_bytes d xs ys i j long same =
    ext_get_or 0 (bytes_at d xs i) (bytes_at d ys j) long
    (λ b lt. let of = at_most d xs i b lt in byte_of d xs i b of ∙ same b of ∙ sym (byte_of d ys j b of))

-- the bytes of a pixel in order
pub three_bytes : (xs : List ℕ) (k : ℕ) → 3 * k + 3 ≤ length xs
    → bytes_at 3 xs k ≡ slice_index xs (3 * k) ∷ slice_index xs (3 * k + 1) ∷ slice_index xs (3 * k + 2) ∷ []
unfolding bytes_at
three_bytes xs k fit =
    let last : 3 * k + 1 + 1 ≡ 3 * k + 2 = omega arith in
    ap (take 3)
    (drop_more xs (3 * k) 0 (omega arith)
    ∙ ap (λ (ys : List ℕ). slice_index xs (3 * k) ∷ ys)
    (drop_more xs (3 * k + 1) 0 (omega arith) ∙ ap (λ (ys : List ℕ). slice_index xs (3 * k + 1) ∷ ys) (ap (λ (n : ℕ). drop n xs) last ∙ drop_more xs (3 * k + 2) 0 (omega arith))))

pub four_bytes : (xs : List ℕ) (k : ℕ) → 4 * k + 4 ≤ length xs
    → bytes_at 4 xs k ≡ slice_index xs (4 * k) ∷ slice_index xs (4 * k + 1) ∷ slice_index xs (4 * k + 2) ∷ slice_index xs (4 * k + 3) ∷ []
unfolding bytes_at
four_bytes xs k fit =
    let second : 4 * k + 1 + 1 ≡ 4 * k + 2 = omega arith in
    let third : 4 * k + 2 + 1 ≡ 4 * k + 3 = omega arith in
    ap (take 4)
    (drop_more xs (4 * k) 0 (omega arith)
    ∙ ap (λ (ys : List ℕ). slice_index xs (4 * k) ∷ ys)
    (drop_more xs (4 * k + 1) 0 (omega arith) ∙ ap (λ (ys : List ℕ). slice_index xs (4 * k + 1) ∷ ys)
    (ap (λ (n : ℕ). drop n xs) second ∙ drop_more xs (4 * k + 2) 0 (omega arith)
    ∙ ap (λ (ys : List ℕ). slice_index xs (4 * k + 2) ∷ ys) (ap (λ (n : ℕ). drop n xs) third ∙ drop_more xs (4 * k + 3) 0 (omega arith)))))

-- those of a packed pixel are its colour's
pub rgb_bytes : (c : Parts) (k : ℕ) (xs : List ℕ) → 3 * k + 3 ≤ length xs → IsRgb c k xs → bytes_at 3 xs k ≡ c.r ∷ c.g ∷ c.b ∷ []
rgb_bytes c k xs fit is =
    three_bytes xs k fit
    ∙ ap (λ (r : ℕ). r ∷ slice_index xs (3 * k + 1) ∷ slice_index xs (3 * k + 2) ∷ []) is.red
    ∙ ap (λ (g : ℕ). c.r ∷ g ∷ slice_index xs (3 * k + 2) ∷ []) is.green
    ∙ ap (λ (b : ℕ). c.r ∷ c.g ∷ b ∷ []) is.blue

-- those of a pixel with alpha
pub rgba_bytes : (c : Parts) (k : ℕ) (xs : List ℕ) → 4 * k + 4 ≤ length xs → pixel xs k ≡ c → bytes_at 4 xs k ≡ c.r ∷ c.g ∷ c.b ∷ c.a ∷ []
rgba_bytes c k xs fit is = four_bytes xs k fit ∙ ap (λ (p : Parts). p.r ∷ p.g ∷ p.b ∷ p.a ∷ []) is

-- those of a pixel whose blue comes first
pub bgra_bytes : (c : Parts) (k : ℕ) (xs : List ℕ) → 4 * k + 4 ≤ length xs → IsBgra c k xs → bytes_at 4 xs k ≡ c.b ∷ c.g ∷ c.r ∷ c.a ∷ []
bgra_bytes c k xs fit is =
    four_bytes xs k fit
    ∙ ap (λ (b : ℕ). b ∷ slice_index xs (4 * k + 1) ∷ slice_index xs (4 * k + 2) ∷ slice_index xs (4 * k + 3) ∷ []) is.blue
    ∙ ap (λ (g : ℕ). c.b ∷ g ∷ slice_index xs (4 * k + 2) ∷ slice_index xs (4 * k + 3) ∷ []) is.green
    ∙ ap (λ (r : ℕ). c.b ∷ c.g ∷ r ∷ slice_index xs (4 * k + 3) ∷ []) is.red
    ∙ ap (λ (a : ℕ). c.b ∷ c.g ∷ c.r ∷ a ∷ []) is.alpha

-- pixels are no more than their bytes
pub no_more : (d n : ℕ) → 1 ≤ d → n ≤ d * n
no_more d n some = grind arith
