-- A digit needs no escape between quotes, and an integer has one text.
use Rattle.std.proofs.Common.{◌≡◌, ℕ, suc, ℤ, pos, negsuc, ◌/◌, ◌%◌, ◌<◌, ◌≤◌, List, [], ◌∷◌, length, slice_index, refl, ap, arith}
use Rattle.std.proofs.lemmas.Bool.Decides.{nat_tests}
use Rattle.std.specs.Fmt.{signed_decimal}
use Rattle.json.specs.Print.{escape_byte, escape}
use Rattle.json.proofs.Printed.Strings.{escape_byte_plain}
use Rattle.serde_json.specs.Written.{compact_text}
use Rattle.script_fields.specs.Hex.{digit_of, byte_digits, bytes_digits}
use Rattle.script_fields.specs.Values.{int_data}

digit_low : (n : ℕ) → n < 16 → 48 ≤ digit_of n
unfolding digit_of
digit_low n lt = grind (arith, nat_tests)

no_backslash : (n : ℕ) → n < 16 → digit_of n ≡ 92 → ⊥
unfolding digit_of
no_backslash n lt = grind (arith, nat_tests)

digit_plain : (n : ℕ) → n < 16 → escape_byte (digit_of n) ≡ digit_of n ∷ []
digit_plain n lt =
    let low = digit_low n lt in
    escape_byte_plain (digit_of n) (λ e. omega (arith, low)) (no_backslash n lt) (omega (arith, low))

pub byte_plain : (b : ℕ) → b < 256 → escape (byte_digits b) ≡ byte_digits b
byte_plain b small = rw (digit_plain (b / 16) (omega (arith, small))) (rw (digit_plain (b % 16) (omega arith)) refl)

pub bytes_plain : (bytes : List ℕ) → ((i : ℕ) → i < length bytes → slice_index bytes i < 256) → escape (bytes_digits bytes) ≡ bytes_digits bytes
bytes_plain [] fits = refl
bytes_plain (b ∷ rest) fits =
    let low : b < 256 = fits 0 (omega arith) in
    rw (digit_plain (b / 16) (omega (arith, low))) (rw (digit_plain (b % 16) (omega arith))
    (ap (λ (text : List ℕ). digit_of (b / 16) ∷ digit_of (b % 16) ∷ text) (bytes_plain rest (λ i lt. fits (suc i) (omega arith)))))

pub int_text : (z : ℤ) → compact_text (int_data z) ≡ signed_decimal z
unfolding int_data
int_text (pos n) = refl
int_text (negsuc n) = refl
