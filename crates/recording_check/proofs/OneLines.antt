-- The canonical text of a script is one line.
use Rattle.std.proofs.Common.{◌≡◌, ℕ, zero, suc, ◌+◌, true, false, List, [], ◌∷◌, ◌++◌, refl, arith, ◌/◌, ◌%◌}
use Rattle.std.specs.Prelude.{Bool, cond, ◌==◌, ◌||◌, nat_lt, if◌then◌else◌, pos, negsuc}
use Rattle.std.specs.Fmt.{decimal, digit_glyph, digits_onto, digits}
use Rattle.std.specs.Char.{digit_char}
use Rattle.std.proofs.lemmas.Bool.Decides.{nat_tests}
use Rattle.json.specs.Print.{escape_letter, escape_byte, escape, quoted}
use Rattle.serde_json.specs.Data.{Num, unsigned, negative, float, Data, null, boolean, number, string, array, object, Items, no_items, item, Members, no_members, member}
use Rattle.serde_json.specs.Written.{number_text, comma_if, compact_text, items_text, members_text}
use Rattle.model_history.specs.Scripts.{ScriptModel}
use Rattle.script_json.specs.ScriptValue.{parts_data}
use Rattle.script_json.specs.Recordings.{script_text}
use Rattle.recording_check.specs.Openings.{IsOneLine}

joined : (a b : List ℕ) → IsOneLine a → IsOneLine b → IsOneLine (a ++ b)
joined [] b one two = two
joined (c ∷ a) b one two = (one.0, joined a b one.1 two)

either : (b : Bool) (xs ys : List ℕ) → IsOneLine xs → IsOneLine ys → IsOneLine (if b then xs else ys)
either true xs ys one two = one
either false xs ys one two = two

-- no digit is a newline
glyph_in : (b : Bool) (d : ℕ) → ((if b then 48 + d else 87 + d) == 10) ≡ false
glyph_in true d = grind (arith, nat_tests)
glyph_in false d = grind (arith, nat_tests)

digits_line : (k base n : ℕ) (acc : List ℕ) → IsOneLine acc → IsOneLine (digits_onto k base false n acc)
digits_line zero base n acc one = one
digits_line (suc k) base n acc one =
    let digit : (digit_glyph false (n % base) == 10) ≡ false = glyph_in (nat_lt (n % base) 10) (n % base) in
    either (n / base == 0) _ _ (digit, one) (digits_line k base (n / base) (digit_glyph false (n % base) ∷ acc) (digit, one))

decimal_line : (n : ℕ) → IsOneLine (decimal n)
unfolding digits
decimal_line n = digits_line 64 10 n [] tt

number_line : (n : Num) → IsOneLine (number_text n)
number_line (unsigned n) = decimal_line n
number_line (negative (pos n)) = decimal_line n
number_line (negative (negsuc n)) = (refl, decimal_line (suc n))
number_line (float x) = tt

-- no byte stands in a string as a newline
letter_in : (a b c d e f : Bool) (x : ℕ) → (a ≡ true → (x == 10) ≡ false) → (cond a x (cond b 98 (cond c 102 (cond d 110 (cond e 114 (cond f 116 0))))) == 10) ≡ false
letter_in true b c d e f x h = h refl
letter_in false true c d e f x h = refl
letter_in false false true d e f x h = refl
letter_in false false false true e f x h = refl
letter_in false false false false true f x h = refl
letter_in false false false false false true x h = refl
letter_in false false false false false false x h = refl

quote_is_no_newline : (x : ℕ) → ((x == 34) || (x == 92)) ≡ true → (x == 10) ≡ false
quote_is_no_newline x is = grind (arith, nat_tests)

letter : (x : ℕ) → (escape_letter x == 10) ≡ false
letter x = letter_in ((x == 34) || (x == 92)) (x == 8) (x == 12) (x == 10) (x == 13) (x == 9) x (quote_is_no_newline x)

char_is_no_newline : (d : ℕ) → (digit_char d == 10) ≡ false
char_is_no_newline d = grind (arith, nat_tests)

plain_in : (b : Bool) (x : ℕ) → nat_lt x 32 ≡ b → IsOneLine (cond b (92 ∷ 117 ∷ 48 ∷ 48 ∷ digit_char (x / 16) ∷ digit_char (x % 16) ∷ []) (x ∷ []))
plain_in true x is = (refl, (refl, (refl, (refl, (char_is_no_newline (x / 16), (char_is_no_newline (x % 16), tt))))))
plain_in false x is = let above : (x == 10) ≡ false = grind (arith, nat_tests) in (above, tt)

escaped_in : (b : Bool) (x : ℕ) → IsOneLine (cond b (92 ∷ escape_letter x ∷ []) (cond (nat_lt x 32) (92 ∷ 117 ∷ 48 ∷ 48 ∷ digit_char (x / 16) ∷ digit_char (x % 16) ∷ []) (x ∷ [])))
escaped_in true x = (refl, (letter x, tt))
escaped_in false x = plain_in (nat_lt x 32) x refl

byte_line : (x : ℕ) → IsOneLine (escape_byte x)
unfolding escape_byte
byte_line x = escaped_in (nat_lt 0 (escape_letter x)) x

escape_line : (s : List ℕ) → IsOneLine (escape s)
escape_line [] = tt
escape_line (x ∷ s) = joined (escape_byte x) (escape s) (byte_line x) (escape_line s)

quoted_line : (s : List ℕ) → IsOneLine (quoted s)
quoted_line s = (refl, joined (escape s) (34 ∷ []) (escape_line s) (refl, tt))

comma_line : (later : Bool) → IsOneLine (comma_if later)
comma_line true = (refl, tt)
comma_line false = tt

mutual
  value_line : (d : Data) → IsOneLine (compact_text d)
  value_line null = (refl, (refl, (refl, (refl, tt))))
  value_line (boolean true) = (refl, (refl, (refl, (refl, tt))))
  value_line (boolean false) = (refl, (refl, (refl, (refl, (refl, tt)))))
  value_line (number n) = number_line n
  value_line (string s) = quoted_line s
  value_line (array ds) = (refl, items_line false ds)
  value_line (object ms) = (refl, members_line false ms)

  items_line : (later : Bool) (ds : Items) → IsOneLine (items_text later ds)
  items_line later no_items = (refl, tt)
  items_line later (item d ds) = joined (comma_if later) (compact_text d ++ items_text true ds) (comma_line later) (joined (compact_text d) (items_text true ds) (value_line d) (items_line true ds))

  members_line : (later : Bool) (ms : Members) → IsOneLine (members_text later ms)
  members_line later no_members = (refl, tt)
  members_line later (member k d ms) =
      joined (comma_if later) (quoted k ++ 58 ∷ (compact_text d ++ members_text true ms)) (comma_line later)
      (joined (quoted k) (58 ∷ (compact_text d ++ members_text true ms)) (quoted_line k) (refl, joined (compact_text d) (members_text true ms) (value_line d) (members_line true ms)))

pub script_is_one_line : (s : ScriptModel) → IsOneLine (script_text s)
script_is_one_line s = value_line (parts_data s)
