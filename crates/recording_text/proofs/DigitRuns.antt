-- A number's text reads back as that number.
use Rattle.std.proofs.Common.{◌≡◌, ℕ, suc, ◌+◌, ◌-◌, ◌*◌, ◌/◌, ◌%◌, ◌<◌, ◌≤◌, true, false, List, [], ◌∷◌, ◌++◌, refl, ap, ◌∙◌, append_assoc, arith, Some}
use Rattle.std.specs.Prelude.{Bool, ℤ, pos, negsuc, decimal, FitsSigned, nat_le, nat_lt, ◌==◌}
use Rattle.std.specs.Int.{w64}
use Rattle.std.specs.Char.{is_ascii_digit}
use Rattle.std.specs.Fmt.{signed_decimal}
use Rattle.std.proofs.lemmas.Bool.Decides.{nat_tests}
use Rattle.std.proofs.lemmas.Fmt.{decimal_by_steps}
use Rattle.recording_text.specs.Numbers.{numbers, signed, before}

-- the sign and the size of a number
abbrev pub is_negative : ℤ → Bool
is_negative (pos n) = false
is_negative (negsuc n) = true

abbrev pub size_of : ℤ → ℕ
size_of (pos n) = n
size_of (negsuc n) = suc n

digit : (d : ℕ) → d < 10 → is_ascii_digit (48 + d) ≡ true
digit d small = grind (arith, nat_tests)

short : (n : ℕ) → n ≤ 922337203685477580 → nat_le n 922337203685477580 ≡ true
short n few = grind (arith, nat_tests)

-- a digit after others
digit_more : (b : Bool) (n d : ℕ) (x : List ℕ) → d < 10 → n ≤ 922337203685477580 → numbers b n ((48 + d) ∷ x) ≡ numbers b (n * 10 + d) x
unfolding numbers
digit_more b n d x small few =
    let value : n * 10 + ((48 + d) - 48) ≡ n * 10 + d = omega arith in
    rw (digit d small) (rw (short n few) (ap (λ (k : ℕ). numbers b k x) value))

-- the digits of a number are read as that number
pub digits : (b : Bool) (n : ℕ) (x : List ℕ) → n ≤ 9223372036854775808 → numbers b 0 (decimal n ++ x) ≡ numbers b n x
digits b n x few = decimal_by_steps (λ m ds. m ≤ 9223372036854775808 → (y : List ℕ) → numbers b 0 (ds ++ y) ≡ numbers b m y)
    (λ m l fits y. let value : 0 * 10 + m ≡ m = omega arith in digit_more b 0 m y l (omega arith) ∙ ap (λ (k : ℕ). numbers b k y) value)
    (λ m ds l h fits y.
    let front : numbers b 0 ((ds ++ ((48 + m % 10) ∷ [])) ++ y) ≡ numbers b 0 (ds ++ ((48 + m % 10) ∷ y)) = ap (λ (z : List ℕ). numbers b 0 z) (append_assoc ds ((48 + m % 10) ∷ []) y) in
    let most : numbers b 0 (ds ++ ((48 + m % 10) ∷ y)) ≡ numbers b (m / 10) ((48 + m % 10) ∷ y) = h (omega arith) ((48 + m % 10) ∷ y) in
    let last : numbers b (m / 10) ((48 + m % 10) ∷ y) ≡ numbers b (m / 10 * 10 + m % 10) y = digit_more b (m / 10) (m % 10) y (omega arith) (omega arith) in
    let value : m / 10 * 10 + m % 10 ≡ m = omega arith in
    front ∙ most ∙ last ∙ ap (λ (k : ℕ). numbers b k y) value)
    n (omega arith) few x

-- a number is read with its sign
pub number : (z : ℤ) (x : List ℕ) → FitsSigned w64 z → numbers false 0 (signed_decimal z ++ x) ≡ numbers (is_negative z) (size_of z) x
unfolding numbers
number (pos n) x fits = digits false n x (omega arith)
number (negsuc n) x fits = digits true (suc n) x (omega arith)

-- its sign and its size make it again
signed_again : (z : ℤ) → FitsSigned w64 z → signed (is_negative z) (size_of z) ≡ Some z
signed_again (pos n) fits = let few : nat_lt n 9223372036854775808 ≡ true = grind (arith, nat_tests) in rw few refl
signed_again (negsuc n) fits = let few : nat_lt n 9223372036854775808 ≡ true = grind (arith, nat_tests) in rw few refl

-- a byte that stands between numbers
abbrev pub IsSeparator : ℕ → Type 0
IsSeparator c = (is_ascii_digit c ≡ false) × ((c == 45) ≡ false) × ((c == 10) ≡ false)

-- the number ends at such a byte
pub at_separator : (c : ℕ) (z : ℤ) (x : List ℕ) → IsSeparator c → FitsSigned w64 z → numbers (is_negative z) (size_of z) (c ∷ x) ≡ before (Some z) (numbers false 0 x)
unfolding numbers
at_separator c z x apart fits = rw apart.0 (rw apart.1 (rw apart.2 (rw (signed_again z fits) refl)))

-- the last number ends at the newline
pub at_newline : (z : ℤ) (r : List ℕ) → FitsSigned w64 z → numbers (is_negative z) (size_of z) (10 ∷ r) ≡ Some (z ∷ [])
unfolding numbers
at_newline z r fits = rw (signed_again z fits) refl
