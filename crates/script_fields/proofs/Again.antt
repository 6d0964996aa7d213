-- What is printed reads back: each form of the value that represents something gives it again.
use Rattle.std.proofs.Common.{◌≡◌, ℕ, suc, ◌+◌, ◌*◌, ◌/◌, ◌%◌, ◌<◌, ◌^◌, List, [], ◌∷◌, Bool, true, false, ◌&&◌, ◌==◌, nat_le, nat_lt, ℤ, pos, negsuc, int_le, Some, length, lit<, refl, ap, ◌∙◌, arith}
use Rattle.std.proofs.lemmas.Bool.Decides.{nat_tests}
use Rattle.geom.specs.declared.rect.Rect.{Rect}
use Rattle.pixel.specs.Colours.{Parts, is_colour}
use Rattle.serde_json.specs.Data.{Data, array, Items}
use Rattle.serde_json.specs.Events.{items_len}
use Rattle.serde_json.specs.View.{items_of}
use Rattle.script_fields.specs.Hex.{digit_value, digit_of, byte_of, if_colour, colour_of_six, colour_of_eight, six_digits}
use Rattle.script_fields.specs.Forms.{number_form, int_form, opaque_form, colour_form, corner_at, corners_of, rect_form, side_at, first_sides, sides_form, list_form}
use Rattle.script_fields.specs.Values.{number_data, int_data, opaque_data, colour_data, rect_data, sides_data}

pub left : (a b : Bool) → (a && b) ≡ true → a ≡ true
left true b h = refl
left false b h = h

pub right : (a b : Bool) → (a && b) ≡ true → b ≡ true
right true b h = h
right false b h = absurd (grind arith)

pub both : (a b : Bool) → a ≡ true → b ≡ true → (a && b) ≡ true
both a b p q = rw p q

digit_again : (n : ℕ) → n < 16 → digit_value (digit_of n) ≡ Some n
unfolding digit_value digit_of
digit_again n h = grind (arith, nat_tests)

pub byte_again : (b : ℕ) → b < 256 → byte_of (digit_of (b / 16)) (digit_of (b % 16)) ≡ Some b
unfolding byte_of
byte_again b h =
    let e : 16 * (b / 16) + b % 16 ≡ b = omega arith in
    rw (digit_again (b / 16) (omega arith)) (rw (digit_again (b % 16) (omega arith)) (ap Some e))

pub record AreBytes (c : Parts) : Type 0 where
  pub r : c.r < 256
  pub g : c.g < 256
  pub b : c.b < 256
  pub a : c.a < 256

pub colour_bytes : (c : Parts) → is_colour c ≡ true → AreBytes c
colour_bytes c h =
    let ha : nat_le c.a 255 ≡ true = right (nat_le c.r c.a && nat_le c.g c.a && nat_le c.b c.a) (nat_le c.a 255) h in
    let rgb : (nat_le c.r c.a && nat_le c.g c.a && nat_le c.b c.a) ≡ true = left (nat_le c.r c.a && nat_le c.g c.a && nat_le c.b c.a) (nat_le c.a 255) h in
    let hb : nat_le c.b c.a ≡ true = right (nat_le c.r c.a && nat_le c.g c.a) (nat_le c.b c.a) rgb in
    let rg : (nat_le c.r c.a && nat_le c.g c.a) ≡ true = left (nat_le c.r c.a && nat_le c.g c.a) (nat_le c.b c.a) rgb in
    let hg : nat_le c.g c.a ≡ true = right (nat_le c.r c.a) (nat_le c.g c.a) rg in
    let hr : nat_le c.r c.a ≡ true = left (nat_le c.r c.a) (nat_le c.g c.a) rg in
    record { r = grind (arith, nat_tests); g = grind (arith, nat_tests); b = grind (arith, nat_tests); a = grind (arith, nat_tests) }

pub colour_again : (c : Parts) → is_colour c ≡ true → colour_form (colour_data c) ≡ Some c
unfolding colour_form colour_data colour_of_eight
colour_again c h =
    let k = colour_bytes c h in
    rw (byte_again c.r k.r) (rw (byte_again c.g k.g) (rw (byte_again c.b k.b) (rw (byte_again c.a k.a) (rw h refl))))

opaque_parts : (r g b a : ℕ) → 255 ≡ a → is_colour (record { r = r; g = g; b = b; a = a }) ≡ true
    → colour_of_six (six_digits (record { r = r; g = g; b = b; a = a })) ≡ Some (record { r = r; g = g; b = b; a = a })
unfolding colour_of_six
opaque_parts r g b a e h =
    let k = colour_bytes (record { r = r; g = g; b = b; a = a }) h in
    let whole : if_colour (record { r = r; g = g; b = b; a = a }) ≡ Some (record { r = r; g = g; b = b; a = a }) = rw h refl in
    rw (byte_again r k.r) (rw (byte_again g k.g) (rw (byte_again b k.b) (ap (λ (n : ℕ). if_colour (record { r = r; g = g; b = b; a = n })) e ∙ whole)))

pub opaque_again : (c : Parts) → (is_colour c && (c.a == 255)) ≡ true → opaque_form (opaque_data c) ≡ Some c
unfolding opaque_form opaque_data
opaque_again c h =
    let t : (c.a == 255) ≡ true = right (is_colour c) (c.a == 255) h in
    let e : 255 ≡ c.a = grind (arith, nat_tests) in
    opaque_parts c.r c.g c.b c.a e (left _ _ h)

pub number_again : (low high n : ℕ) → (nat_le low n && nat_le n high) ≡ true → number_form low high (number_data n) ≡ Some n
unfolding number_form number_data
number_again low high n h = rw h refl

pub int_again : (low : ℤ) (high : ℕ) (z : ℤ) → high < 2 ^ 63 → (int_le low z && int_le z (pos high)) ≡ true
    → int_form low (pos high) (int_data z) ≡ Some z
unfolding int_form int_data
int_again low high (pos n) s h =
    let t : nat_le n high ≡ true = right (int_le low (pos n)) (nat_le n high) h in
    let u : nat_lt n (2 ^ 63) ≡ true = grind (arith, nat_tests) in
    rw u (rw h refl)
int_again low high (negsuc n) s h = rw h refl

-- a signed number of 32 bits
abbrev pub is_signed : ℤ → Bool
is_signed z = int_le (negsuc 2147483647) z && int_le z (pos 2147483647)

-- a rect of signed numbers of 32 bits
abbrev pub is_rect : Rect → Bool
is_rect r = is_signed r.x && is_signed r.y && is_signed r.w && is_signed r.h

pub signed_again : (z : ℤ) → is_signed z ≡ true → int_form (negsuc 2147483647) (pos 2147483647) (int_data z) ≡ Some z
signed_again z h = int_again (negsuc 2147483647) 2147483647 z (lit< tt) h

pub rect_again : (r : Rect) → is_rect r ≡ true → rect_form (rect_data r) ≡ Some r
unfolding rect_form rect_data corners_of corner_at
rect_again r all =
    let h = right _ _ all in
    let w = right _ _ (left _ _ all) in
    let y = right _ _ (left _ _ (left _ _ all)) in
    let x = left _ _ (left _ _ (left _ _ all)) in
    rw (signed_again r.x x) (rw (signed_again r.y y) (rw (signed_again r.w w) (rw (signed_again r.h h) refl)))

pub sides_again : (most w h : ℕ) → (nat_le 1 w && nat_le w most) ≡ true → (nat_le 1 h && nat_le h most) ≡ true
    → sides_form most (sides_data w h) ≡ Some (record { w = w; h = h })
unfolding sides_form sides_data first_sides side_at
sides_again most w h p q = rw (number_again 1 most w p) (rw (number_again 1 most h q) refl)

pub list_again : (most : ℕ) (ds : Items) → nat_le (items_len ds) most ≡ true → list_form most (array ds) ≡ Some ds
unfolding list_form
list_again most ds h = rw h refl

pub items_len-items_of : (ds : List Data) → items_len (items_of ds) ≡ length ds
items_len-items_of [] = refl
items_len-items_of (d ∷ ds) = ap suc (items_len-items_of ds)
