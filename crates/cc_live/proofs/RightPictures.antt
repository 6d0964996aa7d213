-- The pixels of a bitmap are a picture in the format's words.
use Rattle.std.proofs.Common.{◌≡◌, ℕ, suc, ◌-◌, ◌*◌, ◌<◌, ◌≤◌, List, [], ◌∷◌, length, get_or, true, refl, arith, subst, eq-eqb}
use Rattle.std.proofs.lemmas.Bool.Decides.{nat_tests}
use Rattle.pixel.specs.Colours.{is_colour}
use Rattle.pixel.specs.Rows.{alpha_place, ArePremultiplied}
use Rattle.geom.specs.declared.rect.Rect.{Rect}
use Rattle.page_display_list.specs.Bitmaps.{IsBitmap, near}
use Rattle.model_history.specs.Ranges.{are_pixels, is_picture}
use Rattle.model_history.proofs.BoolFacts.{and_both}

next_alpha : (i : ℕ) → alpha_place (suc (suc (suc (suc i)))) ≡ suc (suc (suc (suc (alpha_place i))))
next_alpha i = omega arith

pub colour_is : (r g b a : ℕ) → r ≤ a → g ≤ a → b ≤ a → a < 256 → is_colour (record { r = r; g = g; b = b; a = a }) ≡ true
colour_is r g b a p q s t = grind (arith, nat_tests)

later : (r g b a : ℕ) (rest : List ℕ) → ArePremultiplied (r ∷ g ∷ b ∷ a ∷ rest) → ArePremultiplied rest
later r g b a rest h = λ i lt.
    let P : ℕ → Type 0 = λ n. get_or rest i 0 ≤ get_or (r ∷ g ∷ b ∷ a ∷ rest) n 0 in
    subst P (next_alpha i) (h (suc (suc (suc (suc i)))) (omega arith))

right_pixels : (bytes : List ℕ) (n : ℕ) → length bytes ≡ 4 * n
    → ((i : ℕ) → i < length bytes → get_or bytes i 0 < 256) → ArePremultiplied bytes → are_pixels bytes ≡ true
right_pixels [] n len fits h = refl
right_pixels (r ∷ []) n len fits h = absurd (omega arith)
right_pixels (r ∷ g ∷ []) n len fits h = absurd (omega arith)
right_pixels (r ∷ g ∷ b ∷ []) n len fits h = absurd (omega arith)
right_pixels (r ∷ g ∷ b ∷ a ∷ rest) n len fits h =
    and_both _ _ (colour_is r g b a (h 0 (omega arith)) (h 1 (omega arith)) (h 2 (omega arith)) (fits 3 (omega arith)))
    (right_pixels rest (n - 1) (omega arith) (λ i lt. fits (suc (suc (suc (suc i)))) (omega arith)) (later r g b a rest h))

pub picture_is : (rect : Rect) (bytes : List ℕ) → ((i : ℕ) → i < length bytes → get_or bytes i 0 < 256)
    → IsBitmap (record { rect = rect; pixels = bytes }) → is_picture rect bytes ≡ true
unfolding is_picture
picture_is rect bytes fits h =
    and_both _ _ (and_both _ _ h.sides (eq-eqb _ _ h.size)) (right_pixels bytes (near rect.w * near rect.h) h.size fits h.premultiplied)
