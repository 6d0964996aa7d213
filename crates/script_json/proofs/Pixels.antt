-- Bytes as premultiplied pixels, four by four.
use Rattle.std.proofs.Common.{◌≡◌, ℕ, zero, suc, ◌+◌, ◌-◌, ◌*◌, ◌/◌, ◌<◌, ◌≤◌, List, [], ◌∷◌, length, get_or, Bool, true, false, ◌&&◌, refl, arith, ap, subst, sym, ◌∙◌, eq-eqb, ◌==◌, Some, None}
use Rattle.std.proofs.lemmas.Bool.Decides.{nat_tests}
use Rattle.pixel.specs.Colours.{is_colour}
use Rattle.pixel.specs.Rows.{pixel, alpha_place, ArePremultiplied}
use Rattle.geom.specs.declared.rect.Rect.{Rect}
use Rattle.page_display_list.specs.Bitmaps.{IsBitmap, near, byte_count}
use Rattle.page_display_list.specs.Causes.{IsBitmapCause}
use Rattle.page_display_list.specs.declared.bitmap.BitmapCause.{BitmapCause}
use Rattle.page_display_list.specs.declared.bitmap.BitmapCause.TheVariants.{Side, Length, Pixel}
use Rattle.page_display_list.specs.declared.item.Item.{Item}
use Rattle.page_display_list.specs.declared.item.Item.TheVariants as item
use Rattle.model_history.specs.Ranges.{are_pixels, is_picture}
use Rattle.script_json.specs.ItemReading.{if_picture}

next_alpha : (i : ℕ) → alpha_place (suc (suc (suc (suc i)))) ≡ suc (suc (suc (suc (alpha_place i))))
next_alpha i = omega arith

colour_is : (r g b a : ℕ) → r ≤ a → g ≤ a → b ≤ a → a < 256 → is_colour (record { r = r; g = g; b = b; a = a }) ≡ true
colour_is r g b a p q s t = grind (arith, nat_tests)

both : (a b : Bool) → a ≡ true → b ≡ true → (a && b) ≡ true
both a b p q = rw p q

later : (r g b a : ℕ) (rest : List ℕ) → ArePremultiplied (r ∷ g ∷ b ∷ a ∷ rest) → ArePremultiplied rest
later r g b a rest h = λ i lt.
    let P : ℕ → Type 0 = λ n. get_or rest i 0 ≤ get_or (r ∷ g ∷ b ∷ a ∷ rest) n 0 in
    subst P (next_alpha i) (h (suc (suc (suc (suc i)))) (omega arith))

pub right_pixels : (bytes : List ℕ) (n : ℕ) → length bytes ≡ 4 * n
    → ((i : ℕ) → i < length bytes → get_or bytes i 0 < 256) → ArePremultiplied bytes → are_pixels bytes ≡ true
right_pixels [] n len fits h = refl
right_pixels (r ∷ []) n len fits h = absurd (omega arith)
right_pixels (r ∷ g ∷ []) n len fits h = absurd (omega arith)
right_pixels (r ∷ g ∷ b ∷ []) n len fits h = absurd (omega arith)
right_pixels (r ∷ g ∷ b ∷ a ∷ rest) n len fits h =
    both _ _ (colour_is r g b a (h 0 (omega arith)) (h 1 (omega arith)) (h 2 (omega arith)) (fits 3 (omega arith)))
    (right_pixels rest (n - 1) (omega arith) (λ i lt. fits (suc (suc (suc (suc i)))) (omega arith)) (later r g b a rest h))

first_false : (a b : Bool) → a ≡ false → (a && b) ≡ false
first_false a b p = rw p refl

second_false : (a b : Bool) → b ≡ false → (a && b) ≡ false
second_false true b p = p
second_false false b p = refl

next_component : (r g b a : ℕ) (rest : List ℕ) (k j : ℕ) → get_or (r ∷ g ∷ b ∷ a ∷ rest) (4 * suc k + j) 0 ≡ get_or rest (4 * k + j) 0
next_component r g b a rest k j =
    let e : 4 * suc k + j ≡ suc (suc (suc (suc (4 * k + j)))) = omega arith in
    ap (λ n. get_or (r ∷ g ∷ b ∷ a ∷ rest) n 0) e

next_first : (r g b a : ℕ) (rest : List ℕ) (k : ℕ) → get_or (r ∷ g ∷ b ∷ a ∷ rest) (4 * suc k) 0 ≡ get_or rest (4 * k) 0
next_first r g b a rest k =
    let e : 4 * suc k ≡ suc (suc (suc (suc (4 * k)))) = omega arith in
    ap (λ n. get_or (r ∷ g ∷ b ∷ a ∷ rest) n 0) e

next_pixel : (r g b a : ℕ) (rest : List ℕ) (k : ℕ) → pixel (r ∷ g ∷ b ∷ a ∷ rest) (suc k) ≡ pixel rest k
next_pixel r g b a rest k =
    rw (next_first r g b a rest k) (rw (next_component r g b a rest k 1) (rw (next_component r g b a rest k 2) (rw (next_component r g b a rest k 3) refl)))

pub wrong_pixels : (bytes : List ℕ) (k : ℕ) → k < length bytes / 4 → is_colour (pixel bytes k) ≡ false → are_pixels bytes ≡ false
wrong_pixels [] k lt wrong = absurd (omega arith)
wrong_pixels (r ∷ []) k lt wrong = refl
wrong_pixels (r ∷ g ∷ []) k lt wrong = refl
wrong_pixels (r ∷ g ∷ b ∷ []) k lt wrong = refl
wrong_pixels (r ∷ g ∷ b ∷ a ∷ rest) zero lt wrong = first_false _ _ wrong
wrong_pixels (r ∷ g ∷ b ∷ a ∷ rest) (suc k) lt wrong =
    second_false _ _ (wrong_pixels rest k (omega arith) (sym (ap is_colour (next_pixel r g b a rest k)) ∙ wrong))

pub picture_is : (rect : Rect) (bytes : List ℕ) → ((i : ℕ) → i < length bytes → get_or bytes i 0 < 256)
    → IsBitmap (record { rect = rect; pixels = bytes }) → is_picture rect bytes ≡ true
unfolding is_picture
picture_is rect bytes fits h =
    both _ _ (both _ _ h.sides (eq-eqb _ _ h.size)) (right_pixels bytes (near rect.w * near rect.h) h.size fits h.premultiplied)

pub picture_is_not : (rect : Rect) (bytes : List ℕ) (cause : BitmapCause) → IsBitmapCause rect bytes cause → is_picture rect bytes ≡ false
unfolding is_picture
picture_is_not rect bytes Side h = first_false _ _ (first_false _ _ h)
picture_is_not rect bytes (Length given wanted) h =
    let e : (length bytes == byte_count rect.w rect.h) ≡ false = grind (arith, nat_tests) in
    first_false _ _ (second_false _ _ e)
picture_is_not rect bytes (Pixel place) h = second_false _ _ (wrong_pixels bytes place h.2.inside h.2.wrong)

-- the bitmap of bytes that stand elsewhere too
pub shared_picture : (rect : Rect) (bytes shared : List ℕ) (i : Item) → ((k : ℕ) → k < length bytes → get_or bytes k 0 < 256) → shared ≡ bytes
    → i ≡ item.Bitmap (record { rect = rect; pixels = shared }) → IsBitmap (record { rect = rect; pixels = shared }) → Some i ≡ if_picture rect bytes
shared_picture rect bytes shared i fits same is sound =
    let here : IsBitmap (record { rect = rect; pixels = bytes }) = subst (λ (l : List ℕ). IsBitmap (record { rect = rect; pixels = l })) same sound in
    ap Some (is ∙ ap (λ (l : List ℕ). item.Bitmap (record { rect = rect; pixels = l })) same) ∙ rw (picture_is rect bytes fits here) refl

-- bytes that stand elsewhere too and are no bitmap
pub no_shared_picture : (rect : Rect) (bytes shared : List ℕ) (cause : BitmapCause) → shared ≡ bytes → IsBitmapCause rect shared cause → None ≡ if_picture rect bytes
no_shared_picture rect bytes shared cause same bad =
    rw (picture_is_not rect bytes cause (subst (λ (l : List ℕ). IsBitmapCause rect l cause) same bad)) refl
