-- Bytes and colours as hexadecimal digits in lower case.
use Rattle.std.specs.Prelude.{ℕ, ◌+◌, ◌-◌, ◌*◌, ◌/◌, ◌%◌, List, [], ◌∷◌, ◌++◌, ◌&&◌, nat_le, nat_lt, Option, Some, None, option_map, option_and_then, if◌then◌else◌}
use Rattle.std.specs.List.{flat_map}
use Rattle.pixel.specs.Colours.{Parts, is_colour}

-- the value of a digit `0` to `9` or `a` to `f`, and the byte of two
unfoldable pub digit_value : ℕ → Option ℕ
digit_value c = if nat_le 48 c && nat_le c 57 then Some (c - 48) else (if nat_le 97 c && nat_le c 102 then Some (c - 87) else None)

unfoldable pub byte_of : ℕ → ℕ → Option ℕ
byte_of high low = option_and_then (λ h. option_map (λ l. 16 * h + l) (digit_value low)) (digit_value high)

-- the bytes of a text of digits, two digits a byte; none if a character is no digit or the last one stands alone
abbrev pub bytes_of : List ℕ → Option (List ℕ)
bytes_of [] = Some []
bytes_of (x ∷ []) = None
bytes_of (x ∷ y ∷ rest) = option_and_then (λ b. option_map (λ bs. b ∷ bs) (bytes_of rest)) (byte_of x y)

-- the colour of these components, if they are premultiplied
abbrev pub if_colour : Parts → Option Parts
if_colour c = if is_colour c then Some c else None

-- the colour of eight digits: red, green, blue, alpha; the opaque colour of six: red, green, blue
unfoldable pub colour_of_eight : List ℕ → Option Parts
colour_of_eight (a ∷ b ∷ c ∷ d ∷ e ∷ f ∷ g ∷ h ∷ []) =
    option_and_then (λ red. option_and_then (λ green. option_and_then (λ blue. option_and_then (λ alpha.
    if_colour (record { r = red; g = green; b = blue; a = alpha })) (byte_of g h)) (byte_of e f)) (byte_of c d)) (byte_of a b)
colour_of_eight _ = None

unfoldable pub colour_of_six : List ℕ → Option Parts
colour_of_six (a ∷ b ∷ c ∷ d ∷ e ∷ f ∷ []) =
    option_and_then (λ red. option_and_then (λ green. option_and_then (λ blue.
    if_colour (record { r = red; g = green; b = blue; a = 255 })) (byte_of e f)) (byte_of c d)) (byte_of a b)
colour_of_six _ = None

-- the digit of a number below 16
unfoldable pub digit_of : ℕ → ℕ
digit_of n = if nat_lt n 10 then 48 + n else 87 + n

-- the two digits of a byte
abbrev pub byte_digits : ℕ → List ℕ
byte_digits n = digit_of (n / 16) ∷ digit_of (n % 16) ∷ []

-- the digits of bytes, two a byte
abbrev pub bytes_digits : List ℕ → List ℕ
bytes_digits bytes = flat_map byte_digits bytes

-- the six digits of a colour's red, green and blue
abbrev pub six_digits : Parts → List ℕ
six_digits c = byte_digits c.r ++ byte_digits c.g ++ byte_digits c.b

-- the eight digits of a colour
abbrev pub eight_digits : Parts → List ℕ
eight_digits c = six_digits c ++ byte_digits c.a
