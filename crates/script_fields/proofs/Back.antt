-- What a form answers tells the value: it is the one that is printed for it.
use Rattle.std.proofs.Common.{◌≡◌, ℕ, ◌+◌, ◌-◌, ◌*◌, ◌/◌, ◌%◌, ◌<◌, ◌≤◌, ◌^◌, List, [], ◌∷◌, Bool, true, false, ◌&&◌, ◌==◌, nat_le, nat_lt, ℤ, pos, negsuc, int_le, Option, Some, None, Result, Ok, Err, IfOk, IfSome, option_and_then, if◌then◌else◌, refl, ap, ◌∙◌, arith}
use Rattle.std.proofs.lemmas.Bool.Decides.{nat_tests}
use Rattle.std.specs.Prelude.{⊤}
use Rattle.pixel.specs.Colours.{is_colour}
use Rattle.serde_json.specs.Data.{Data, number, unsigned, negative, string, array, Items, item, no_items}
use Rattle.serde_json.specs.Events.{items_len}
use Rattle.serde_json.specs.Find.{get, as_object, as_i64}
use Rattle.script_fields.specs.declared.fault.FieldFault.{FieldFault}
use Rattle.script_fields.specs.Hex.{digit_value, digit_of, byte_of, bytes_of, colour_of_six, colour_of_eight, six_digits, eight_digits, bytes_digits}
use Rattle.script_fields.specs.Forms.{number_form, int_form, opaque_form, colour_form, bytes_form, corner_at, corners_of, rect_form, side_at, first_sides, sides_form, list_form}
use Rattle.script_fields.specs.Fields.{field_at, number_at, whole_at, int_at, signed_at, opaque_at, colour_at, rect_at, sides_at, list_at, member_count, no_more_members}
use Rattle.script_fields.specs.Faults.{fault}
use Rattle.script_fields.specs.Values.{number_data, int_data, opaque_data, colour_data, bytes_data, rect_data, sides_data}
use Rattle.script_fields.proofs.Again.{left, right}
use Rattle.script_fields.proofs.Fits.{and_some, map_some, or_fault_ok}
use Rattle.script_fields.specs.Canonical.{IsCanonical, AreCanonical}
use Rattle.script_fields.proofs.Orders.{get_canonical}

pub weaker : {A : Type 0} (o : Option A) (P Q : A → Type 0) → IfSome o P → ((x : A) → P x → Q x) → IfSome o Q
weaker (Some x) P Q h k = k x h
weaker None P Q h k = tt

pub if_true : {A : Type 0} (b : Bool) (x : A) (P : A → Type 0) → P x → IfSome (if b then Some x else None) P
if_true true x P h = h
if_true false x P h = tt

only_if : {A : Type 0} (b : Bool) (o : Option A) (P : A → Type 0) → (b ≡ true → IfSome o P) → IfSome (if b then o else None) P
only_if true o P k = k refl
only_if false o P k = tt

-- ---- digits

either_if : {A : Type 0} (b : Bool) (x : A) (rest : Option A) (P : A → Type 0) → (b ≡ true → P x) → IfSome rest P → IfSome (if b then Some x else rest) P
either_if true x rest P k h = k refl
either_if false x rest P k h = h

decimal_digit : (c : ℕ) → (nat_le 48 c && nat_le c 57) ≡ true → (c - 48 < 16) × (digit_of (c - 48) ≡ c)
unfolding digit_of
decimal_digit c e =
    let low : nat_le 48 c ≡ true = left _ _ e in
    let high : nat_le c 57 ≡ true = right (nat_le 48 c) (nat_le c 57) e in
    let from : 48 ≤ c = grind (arith, nat_tests) in
    let to : c ≤ 57 = grind (arith, nat_tests) in
    (omega (arith, from, to), grind (arith, nat_tests))

letter_digit : (c : ℕ) → (nat_le 97 c && nat_le c 102) ≡ true → (c - 87 < 16) × (digit_of (c - 87) ≡ c)
unfolding digit_of
letter_digit c e =
    let low : nat_le 97 c ≡ true = left _ _ e in
    let high : nat_le c 102 ≡ true = right (nat_le 97 c) (nat_le c 102) e in
    let from : 97 ≤ c = grind (arith, nat_tests) in
    let to : c ≤ 102 = grind (arith, nat_tests) in
    (omega (arith, from, to), grind (arith, nat_tests))

digit_back : (c : ℕ) → IfSome (digit_value c) (λ v. (v < 16) × (digit_of v ≡ c))
unfolding digit_value
digit_back c =
    either_if (nat_le 48 c && nat_le c 57) (c - 48) _ _ (decimal_digit c)
    (either_if (nat_le 97 c && nat_le c 102) (c - 87) _ _ (letter_digit c) tt)

-- two characters are the digits of a byte
abbrev Digits : ℕ → ℕ → ℕ → Type 0
Digits a b n = (digit_of (n / 16) ≡ a) × (digit_of (n % 16) ≡ b)

byte_parts : (a b h l : ℕ) → h < 16 → digit_of h ≡ a → l < 16 → digit_of l ≡ b → Digits a b (16 * h + l)
byte_parts a b h l hh p ll q =
    let high : (16 * h + l) / 16 ≡ h = omega arith in
    let low : (16 * h + l) % 16 ≡ l = omega arith in
    (ap digit_of high ∙ p, ap digit_of low ∙ q)

byte_back : (a b : ℕ) → IfSome (byte_of a b) (Digits a b)
unfolding byte_of
byte_back a b =
    and_some (digit_value a) _ (λ v. (v < 16) × (digit_of v ≡ a)) _ (digit_back a) (λ h p.
    map_some (digit_value b) _ (λ v. (v < 16) × (digit_of v ≡ b)) _ (digit_back b) (λ l q. byte_parts a b h l p.0 p.1 q.0 q.1))

bytes_back : (s : List ℕ) → IfSome (bytes_of s) (λ bs. s ≡ bytes_digits bs)
bytes_back [] = refl
bytes_back (x ∷ []) = tt
bytes_back (x ∷ y ∷ rest) =
    and_some (byte_of x y) _ (Digits x y) _ (byte_back x y) (λ b p.
    map_some (bytes_of rest) _ (λ bs. rest ≡ bytes_digits bs) _ (bytes_back rest) (λ bs q.
    rw p.0 (rw p.1 (ap (λ (l : List ℕ). x ∷ y ∷ l) q))))

eight_back : (s : List ℕ) → IfSome (colour_of_eight s) (λ c. s ≡ eight_digits c)
unfolding colour_of_eight
eight_back (a ∷ b ∷ c ∷ d ∷ e ∷ f ∷ g ∷ h ∷ []) =
    and_some (byte_of a b) _ (Digits a b) _ (byte_back a b) (λ red p.
    and_some (byte_of c d) _ (Digits c d) _ (byte_back c d) (λ green q.
    and_some (byte_of e f) _ (Digits e f) _ (byte_back e f) (λ blue r.
    and_some (byte_of g h) _ (Digits g h) _ (byte_back g h) (λ alpha t.
    if_true (is_colour (record { r = red; g = green; b = blue; a = alpha })) (record { r = red; g = green; b = blue; a = alpha }) _
    (rw p.0 (rw p.1 (rw q.0 (rw q.1 (rw r.0 (rw r.1 (rw t.0 (rw t.1 refl))))))))))))
eight_back _ = tt

six_back : (s : List ℕ) → IfSome (colour_of_six s) (λ c. s ≡ six_digits c)
unfolding colour_of_six
six_back (a ∷ b ∷ c ∷ d ∷ e ∷ f ∷ []) =
    and_some (byte_of a b) _ (Digits a b) _ (byte_back a b) (λ red p.
    and_some (byte_of c d) _ (Digits c d) _ (byte_back c d) (λ green q.
    and_some (byte_of e f) _ (Digits e f) _ (byte_back e f) (λ blue r.
    if_true (is_colour (record { r = red; g = green; b = blue; a = 255 })) (record { r = red; g = green; b = blue; a = 255 }) _
    (rw p.0 (rw p.1 (rw q.0 (rw q.1 (rw r.0 (rw r.1 refl)))))))))
six_back _ = tt

-- ---- forms

number_back : (low high : ℕ) (d : Data) → IfSome (number_form low high d) (λ n. d ≡ number_data n)
unfolding number_form number_data
number_back low high (number (unsigned n)) = if_true (nat_le low n && nat_le n high) n _ refl
number_back low high _ = tt

int_back : (low high : ℤ) (d : Data) → IsCanonical d → IfSome (int_form low high d) (λ z. d ≡ int_data z)
unfolding int_form int_data
int_back low high (number (unsigned n)) h =
    and_some (as_i64 (unsigned n)) _ (λ z. z ≡ pos n) _ (if_true (nat_lt n (2 ^ 63)) (pos n) _ refl) (λ z e.
    if_true (int_le low z && int_le z high) z _ (rw e refl))
int_back low high (number (negative (pos n))) h = absurd h
int_back low high (number (negative (negsuc n))) h = if_true (int_le low (negsuc n) && int_le (negsuc n) high) (negsuc n) _ refl
int_back low high _ h = tt

pub colour_back : (d : Data) → IfSome (colour_form d) (λ c. d ≡ colour_data c)
unfolding colour_form colour_data
colour_back (string s) = weaker (colour_of_eight s) _ _ (eight_back s) (λ c e. ap string e)
colour_back _ = tt

opaque_back : (d : Data) → IfSome (opaque_form d) (λ c. d ≡ opaque_data c)
unfolding opaque_form opaque_data
opaque_back (string s) = weaker (colour_of_six s) _ _ (six_back s) (λ c e. ap string e)
opaque_back _ = tt

pub bytes_form_back : (d : Data) → IfSome (bytes_form d) (λ bs. d ≡ bytes_data bs)
unfolding bytes_form bytes_data
bytes_form_back (string s) = weaker (bytes_of s) _ _ (bytes_back s) (λ bs e. ap string e)
bytes_form_back _ = tt

-- a number of 32 bits with a sign
abbrev corner : Data → Option ℤ
corner d = int_form (negsuc 2147483647) (pos 2147483647) d

corner_back : (d : Data) → IsCanonical d → IfSome (corner d) (λ z. d ≡ int_data z)
corner_back d h = int_back (negsuc 2147483647) (pos 2147483647) d h

four_back : (ds : Items) → AreCanonical ds → (items_len ds == 4) ≡ true → IfSome (corners_of (array ds)) (λ r. array ds ≡ rect_data r)
unfolding rect_data corners_of corner_at
four_back (item x (item y (item w (item h no_items)))) n four =
    and_some (corner x) _ (λ z. x ≡ int_data z) _ (corner_back x n.0) (λ a p.
    and_some (corner y) _ (λ z. y ≡ int_data z) _ (corner_back y n.1.0) (λ b q.
    and_some (corner w) _ (λ z. w ≡ int_data z) _ (corner_back w n.1.1.0) (λ c r.
    map_some (corner h) _ (λ z. h ≡ int_data z) _ (corner_back h n.1.1.1.0) (λ e s.
    rw p (rw q (rw r (rw s refl)))))))
four_back (item x (item y (item w (item h (item more ds))))) n four = absurd (grind (arith, nat_tests))
four_back (item x (item y (item w no_items))) n four = absurd (grind (arith, nat_tests))
four_back (item x (item y no_items)) n four = absurd (grind (arith, nat_tests))
four_back (item x no_items) n four = absurd (grind (arith, nat_tests))
four_back no_items n four = absurd (grind (arith, nat_tests))

rect_back : (d : Data) → IsCanonical d → IfSome (rect_form d) (λ r. d ≡ rect_data r)
unfolding rect_form
rect_back (array ds) n = only_if (items_len ds == 4) (corners_of (array ds)) _ (λ four. four_back ds n four)
rect_back _ n = tt

two_back : (most : ℕ) (ds : Items) → (items_len ds == 2) ≡ true → IfSome (first_sides most (array ds)) (λ s. array ds ≡ sides_data s.w s.h)
unfolding sides_data first_sides side_at
two_back most (item w (item h no_items)) two =
    and_some (number_form 1 most w) _ (λ n. w ≡ number_data n) _ (number_back 1 most w) (λ a p.
    map_some (number_form 1 most h) _ (λ n. h ≡ number_data n) _ (number_back 1 most h) (λ b q.
    rw p (rw q refl)))
two_back most (item w (item h (item more ds))) two = absurd (grind (arith, nat_tests))
two_back most (item w no_items) two = absurd (grind (arith, nat_tests))
two_back most no_items two = absurd (grind (arith, nat_tests))

sides_back : (most : ℕ) (d : Data) → IfSome (sides_form most d) (λ s. d ≡ sides_data s.w s.h)
unfolding sides_form
sides_back most (array ds) = only_if (items_len ds == 2) (first_sides most (array ds)) _ (λ two. two_back most ds two)
sides_back most _ = tt

list_back : (most : ℕ) (d : Data) → IfSome (list_form most d) (λ ds. d ≡ array ds)
unfolding list_form
list_back most (array ds) = if_true (nat_le (items_len ds) most) ds (λ x. array ds ≡ array x) refl
list_back most _ = tt

-- ---- fields

under : {A : Type 0} (o : Option Data) (form : Data → Option A) (f : A → Data) → IfSome o IsCanonical → ((e : Data) → IsCanonical e → IfSome (form e) (λ x. e ≡ f x))
    → IfSome (option_and_then form o) (λ x. o ≡ Some (f x))
under (Some e) form f n k = weaker (form e) (λ x. e ≡ f x) _ (k e n) (λ x p. ap Some p)
under None form f n k = tt

field_found : {A : Type 0} (form : Data → Option A) (f : A → Data) (key : List ℕ) (field : ℕ) (d : Data) → IsCanonical d
    → ((e : Data) → IsCanonical e → IfSome (form e) (λ x. e ≡ f x)) → IfOk (field_at form key field d) (λ x. get key d ≡ Some (f x))
field_found form f key field d n k = or_fault_ok field (option_and_then form (get key d)) _ (under (get key d) form f (get_canonical key d n) k)

pub number_found : (key : List ℕ) (low high field : ℕ) (d : Data) → IsCanonical d → IfOk (number_at key low high field d) (λ n. get key d ≡ Some (number_data n))
unfolding number_at
number_found key low high field d n = field_found (number_form low high) number_data key field d n (λ e m. number_back low high e)

pub whole_found : (key : List ℕ) (field : ℕ) (d : Data) → IsCanonical d → IfOk (whole_at key field d) (λ n. get key d ≡ Some (number_data n))
unfolding whole_at
whole_found key field d n = number_found key 0 4294967295 field d n

pub int_found : (key : List ℕ) (low high : ℤ) (field : ℕ) (d : Data) → IsCanonical d → IfOk (int_at key low high field d) (λ z. get key d ≡ Some (int_data z))
unfolding int_at
int_found key low high field d n = field_found (int_form low high) int_data key field d n (λ e m. int_back low high e m)

pub signed_found : (key : List ℕ) (field : ℕ) (d : Data) → IsCanonical d → IfOk (signed_at key field d) (λ z. get key d ≡ Some (int_data z))
unfolding signed_at
signed_found key field d n = int_found key (negsuc 2147483647) (pos 2147483647) field d n

pub opaque_found : (key : List ℕ) (field : ℕ) (d : Data) → IsCanonical d → IfOk (opaque_at key field d) (λ c. get key d ≡ Some (opaque_data c))
unfolding opaque_at
opaque_found key field d n = field_found opaque_form opaque_data key field d n (λ e m. opaque_back e)

pub colour_found : (key : List ℕ) (field : ℕ) (d : Data) → IsCanonical d → IfOk (colour_at key field d) (λ c. get key d ≡ Some (colour_data c))
unfolding colour_at
colour_found key field d n = field_found colour_form colour_data key field d n (λ e m. colour_back e)

pub rect_found : (key : List ℕ) (field : ℕ) (d : Data) → IsCanonical d → IfOk (rect_at key field d) (λ r. get key d ≡ Some (rect_data r))
unfolding rect_at
rect_found key field d n = field_found rect_form rect_data key field d n rect_back

pub sides_found : (key : List ℕ) (most field : ℕ) (d : Data) → IsCanonical d → IfOk (sides_at key most field d) (λ s. get key d ≡ Some (sides_data s.w s.h))
unfolding sides_at
sides_found key most field d n = field_found (sides_form most) (λ s. sides_data s.w s.h) key field d n (λ e m. sides_back most e)

pub list_found : (key : List ℕ) (most field : ℕ) (d : Data) → IsCanonical d → IfOk (list_at key most field d) (λ ds. get key d ≡ Some (array ds))
unfolding list_at
list_found key most field d n = field_found (list_form most) array key field d n (λ e m. list_back most e)

-- no further member, or the fault of one
abbrev no_further : Bool → Result ⊤ FieldFault
no_further b = if b then Ok tt else Err (fault 99)

further_is : (b : Bool) (P : Type 0) → (b ≡ true → P) → IfOk (no_further b) (λ u. P)
further_is true P k = k refl
further_is false P k = tt

within : (n fields : ℕ) → nat_le n fields ≡ true → n ≤ fields
within n fields e = grind (arith, nat_tests)

-- no more members than were found
pub few_members : (fields : ℕ) (d : Data) → IfOk (no_more_members fields d) (λ u. member_count (as_object d) ≤ fields)
unfolding no_more_members
few_members fields d = further_is (nat_le (member_count (as_object d)) fields) _ (within (member_count (as_object d)) fields)
