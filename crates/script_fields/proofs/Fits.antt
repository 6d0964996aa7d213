-- What a form answers is in its range.
use Rattle.std.proofs.Common.{◌≡◌, ℕ, List, [], ◌∷◌, Bool, true, false, ◌&&◌, ◌==◌, nat_le, ℤ, pos, negsuc, int_le, Option, Some, None, Result, Ok, Err, IfOk, IfSome, option_map, option_and_then, if◌then◌else◌, eq-eqb, refl}
use Rattle.pixel.specs.Colours.{Parts, is_colour}
use Rattle.serde_json.specs.Data.{Data, Items}
use Rattle.serde_json.specs.Events.{items_len}
use Rattle.serde_json.specs.Find.{get, as_str, as_number, as_u64, as_i64, as_array, at}
use Rattle.script_fields.specs.declared.forms.Sides.{Sides}
use Rattle.script_fields.specs.Faults.{◌>>=◌, or_fault}
use Rattle.script_fields.specs.Hex.{byte_of, if_colour, colour_of_six, colour_of_eight}
use Rattle.script_fields.specs.Forms.{number_form, int_form, opaque_form, colour_form, corner_at, corners_of, rect_form, side_at, first_sides, sides_form, list_form}
use Rattle.script_fields.specs.Fields.{field_at, number_at, whole_at, int_at, signed_at, opaque_at, colour_at, rect_at, sides_at, list_at}
use Rattle.script_fields.proofs.Again.{is_signed, is_rect, both}

pub then_ok : {A B E : Type 0} (r : Result A E) (f : A → Result B E) (P : A → Type 0) (Q : B → Type 0)
    → IfOk r P → ((x : A) → P x → IfOk (f x) Q) → IfOk (r >>= f) Q
then_ok (Ok x) f P Q h k = k x h
then_ok (Err e) f P Q h k = tt

pub then_some : {A B : Type 0} (o : Option A) (f : A → Option B) (Q : B → Type 0)
    → ((x : A) → IfSome (f x) Q) → IfSome (option_and_then f o) Q
then_some (Some x) f Q k = k x
then_some None f Q k = tt

pub and_some : {A B : Type 0} (o : Option A) (f : A → Option B) (P : A → Type 0) (Q : B → Type 0)
    → IfSome o P → ((x : A) → P x → IfSome (f x) Q) → IfSome (option_and_then f o) Q
and_some (Some x) f P Q h k = k x h
and_some None f P Q h k = tt

pub map_some : {A B : Type 0} (o : Option A) (f : A → B) (P : A → Type 0) (Q : B → Type 0)
    → IfSome o P → ((x : A) → P x → Q (f x)) → IfSome (option_map f o) Q
map_some (Some x) f P Q h k = k x h
map_some None f P Q h k = tt

pub or_fault_ok : {A : Type 0} (field : ℕ) (o : Option A) (P : A → Type 0) → IfSome o P → IfOk (or_fault field o) P
or_fault_ok field (Some x) P h = h
or_fault_ok field None P h = tt

field_ok : {A : Type 0} (form : Data → Option A) (key : List ℕ) (field : ℕ) (d : Data) (P : A → Type 0)
    → ((e : Data) → IfSome (form e) P) → IfOk (field_at form key field d) P
field_ok form key field d P h = or_fault_ok field _ P (then_some (get key d) form P h)

within_fits : (low high n : ℕ) → IfSome (if nat_le low n && nat_le n high then Some n else None) (λ m. (nat_le low m && nat_le m high) ≡ true)
within_fits low high n = elim (nat_le low n && nat_le n high) as (λ b. (nat_le low n && nat_le n high) ≡ b → IfSome (if b then Some n else None) (λ m. (nat_le low m && nat_le m high) ≡ true)) [ true ↦ λ e. e | false ↦ λ e. tt ] refl

int_within_fits : (low high z : ℤ) → IfSome (if int_le low z && int_le z high then Some z else None) (λ m. (int_le low m && int_le m high) ≡ true)
int_within_fits low high z = elim (int_le low z && int_le z high) as (λ b. (int_le low z && int_le z high) ≡ b → IfSome (if b then Some z else None) (λ m. (int_le low m && int_le m high) ≡ true)) [ true ↦ λ e. e | false ↦ λ e. tt ] refl

number_form_fits : (low high : ℕ) (d : Data) → IfSome (number_form low high d) (λ n. (nat_le low n && nat_le n high) ≡ true)
unfolding number_form
number_form_fits low high d = then_some (option_and_then as_u64 (as_number d)) _ _ (λ n. within_fits low high n)

int_form_fits : (low high : ℤ) (d : Data) → IfSome (int_form low high d) (λ z. (int_le low z && int_le z high) ≡ true)
unfolding int_form
int_form_fits low high d = then_some (option_and_then as_i64 (as_number d)) _ _ (λ z. int_within_fits low high z)

if_colour_fits : (c : Parts) → IfSome (if_colour c) (λ p. is_colour p ≡ true)
if_colour_fits c = elim (is_colour c) as (λ b. is_colour c ≡ b → IfSome (if b then Some c else None) (λ p. is_colour p ≡ true)) [ true ↦ λ e. e | false ↦ λ e. tt ] refl

eight_fits : (s : List ℕ) → IfSome (colour_of_eight s) (λ p. is_colour p ≡ true)
unfolding colour_of_eight
eight_fits (a ∷ b ∷ c ∷ d ∷ e ∷ f ∷ g ∷ h ∷ []) =
    then_some (byte_of a b) _ _ (λ red. then_some (byte_of c d) _ _ (λ green. then_some (byte_of e f) _ _ (λ blue.
    then_some (byte_of g h) _ _ (λ alpha. if_colour_fits (record { r = red; g = green; b = blue; a = alpha })))))
eight_fits _ = tt

opaque_is : (c : Parts) → c.a ≡ 255 → IfSome (if_colour c) (λ p. (is_colour p && (p.a == 255)) ≡ true)
opaque_is c a = elim (is_colour c) as (λ b. is_colour c ≡ b → IfSome (if b then Some c else None) (λ p. (is_colour p && (p.a == 255)) ≡ true))
    [ true ↦ λ e. both _ _ e (eq-eqb _ _ a) | false ↦ λ e. tt ] refl

six_fits : (s : List ℕ) → IfSome (colour_of_six s) (λ p. (is_colour p && (p.a == 255)) ≡ true)
unfolding colour_of_six
six_fits (a ∷ b ∷ c ∷ d ∷ e ∷ f ∷ []) =
    then_some (byte_of a b) _ _ (λ red. then_some (byte_of c d) _ _ (λ green. then_some (byte_of e f) _ _ (λ blue.
    opaque_is (record { r = red; g = green; b = blue; a = 255 }) refl)))
six_fits _ = tt

if_some : {A : Type 0} (b : Bool) (o : Option A) (P : A → Type 0) → IfSome o P → IfSome (if b then o else None) P
if_some true o P h = h
if_some false o P h = tt

corner_fits : (i : ℕ) (d : Data) → IfSome (corner_at i d) (λ z. is_signed z ≡ true)
unfolding corner_at
corner_fits i d = then_some (at i d) (int_form (negsuc 2147483647) (pos 2147483647)) _ (λ e. int_form_fits (negsuc 2147483647) (pos 2147483647) e)

corners_fit : (d : Data) → IfSome (corners_of d) (λ r. is_rect r ≡ true)
unfolding corners_of
corners_fit d =
    and_some (corner_at 0 d) _ (λ z. is_signed z ≡ true) _ (corner_fits 0 d) (λ x hx.
    and_some (corner_at 1 d) _ (λ z. is_signed z ≡ true) _ (corner_fits 1 d) (λ y hy.
    and_some (corner_at 2 d) _ (λ z. is_signed z ≡ true) _ (corner_fits 2 d) (λ w hw.
    map_some (corner_at 3 d) _ (λ z. is_signed z ≡ true) _ (corner_fits 3 d) (λ h hh.
    both _ _ (both _ _ (both _ _ hx hy) hw) hh))))

rect_form_fits : (d : Data) → IfSome (rect_form d) (λ r. is_rect r ≡ true)
unfolding rect_form
rect_form_fits d = then_some (as_array d) _ _ (λ ds. if_some (items_len ds == 4) (corners_of d) (λ r. is_rect r ≡ true) (corners_fit d))

-- sides from 1 to a number
pub record SidesFit (most : ℕ) (s : Sides) : Type 0 where
  pub w : (nat_le 1 s.w && nat_le s.w most) ≡ true
  pub h : (nat_le 1 s.h && nat_le s.h most) ≡ true

side_fits : (i most : ℕ) (d : Data) → IfSome (side_at i most d) (λ n. (nat_le 1 n && nat_le n most) ≡ true)
unfolding side_at
side_fits i most d = then_some (at i d) (number_form 1 most) _ (λ e. number_form_fits 1 most e)

first_sides_fit : (most : ℕ) (d : Data) → IfSome (first_sides most d) (SidesFit most)
unfolding first_sides
first_sides_fit most d =
    and_some (side_at 0 most d) _ (λ n. (nat_le 1 n && nat_le n most) ≡ true) _ (side_fits 0 most d) (λ w hw.
    map_some (side_at 1 most d) _ (λ n. (nat_le 1 n && nat_le n most) ≡ true) _ (side_fits 1 most d) (λ h hh.
    record { w = hw; h = hh }))

sides_form_fits : (most : ℕ) (d : Data) → IfSome (sides_form most d) (SidesFit most)
unfolding sides_form
sides_form_fits most d = then_some (as_array d) _ _ (λ ds. if_some (items_len ds == 2) (first_sides most d) (SidesFit most) (first_sides_fit most d))

short_fits : (most : ℕ) (ds : Items) → IfSome (if nat_le (items_len ds) most then Some ds else None) (λ es. nat_le (items_len es) most ≡ true)
short_fits most ds = elim (nat_le (items_len ds) most) as (λ b. nat_le (items_len ds) most ≡ b → IfSome (if b then Some ds else None) (λ es. nat_le (items_len es) most ≡ true))
    [ true ↦ λ e. e | false ↦ λ e. tt ] refl

-- ---- fields

pub number_fits : (key : List ℕ) (low high field : ℕ) (d : Data) → IfOk (number_at key low high field d) (λ n. (nat_le low n && nat_le n high) ≡ true)
unfolding number_at
number_fits key low high field d = field_ok (number_form low high) key field d (λ n. (nat_le low n && nat_le n high) ≡ true) (number_form_fits low high)

pub whole_fits : (key : List ℕ) (field : ℕ) (d : Data) → IfOk (whole_at key field d) (λ n. (nat_le 0 n && nat_le n 4294967295) ≡ true)
unfolding whole_at
whole_fits key field d = number_fits key 0 4294967295 field d

pub int_fits : (key : List ℕ) (low high : ℤ) (field : ℕ) (d : Data) → IfOk (int_at key low high field d) (λ z. (int_le low z && int_le z high) ≡ true)
unfolding int_at
int_fits key low high field d = field_ok (int_form low high) key field d (λ z. (int_le low z && int_le z high) ≡ true) (int_form_fits low high)

pub signed_fits : (key : List ℕ) (field : ℕ) (d : Data) → IfOk (signed_at key field d) (λ z. is_signed z ≡ true)
unfolding signed_at
signed_fits key field d = int_fits key (negsuc 2147483647) (pos 2147483647) field d

pub colour_form_fits : (d : Data) → IfSome (colour_form d) (λ p. is_colour p ≡ true)
unfolding colour_form
colour_form_fits d = then_some (as_str d) colour_of_eight _ eight_fits

opaque_form_fits : (d : Data) → IfSome (opaque_form d) (λ p. (is_colour p && (p.a == 255)) ≡ true)
unfolding opaque_form
opaque_form_fits d = then_some (as_str d) colour_of_six _ six_fits

list_form_fits : (most : ℕ) (d : Data) → IfSome (list_form most d) (λ es. nat_le (items_len es) most ≡ true)
unfolding list_form
list_form_fits most d = then_some (as_array d) _ _ (short_fits most)

pub colour_fits : (key : List ℕ) (field : ℕ) (d : Data) → IfOk (colour_at key field d) (λ p. is_colour p ≡ true)
unfolding colour_at
colour_fits key field d = field_ok (colour_form) key field d (λ p. is_colour p ≡ true) colour_form_fits

pub opaque_fits : (key : List ℕ) (field : ℕ) (d : Data) → IfOk (opaque_at key field d) (λ p. (is_colour p && (p.a == 255)) ≡ true)
unfolding opaque_at
opaque_fits key field d = field_ok (opaque_form) key field d (λ p. (is_colour p && (p.a == 255)) ≡ true) opaque_form_fits

pub rect_fits : (key : List ℕ) (field : ℕ) (d : Data) → IfOk (rect_at key field d) (λ r. is_rect r ≡ true)
unfolding rect_at
rect_fits key field d = field_ok (rect_form) key field d (λ r. is_rect r ≡ true) rect_form_fits

pub sides_fits : (key : List ℕ) (most field : ℕ) (d : Data) → IfOk (sides_at key most field d) (SidesFit most)
unfolding sides_at
sides_fits key most field d = field_ok (sides_form most) key field d (SidesFit most) (sides_form_fits most)

pub list_fits : (key : List ℕ) (most field : ℕ) (d : Data) → IfOk (list_at key most field d) (λ es. nat_le (items_len es) most ≡ true)
unfolding list_at
list_fits key most field d = field_ok (list_form most) key field d (λ es. nat_le (items_len es) most ≡ true) (list_form_fits most)

pub then_any : {A B E : Type 0} (r : Result A E) (f : A → Result B E) (Q : B → Type 0) → ((x : A) → IfOk (f x) Q) → IfOk (r >>= f) Q
then_any (Ok x) f Q k = k x
then_any (Err e) f Q k = tt
