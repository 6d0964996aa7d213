-- The fields of an object: what is printed reads back, what is read is in the ranges, and is what the object has.
use Rattle.std.proofs.Common.{◌≡◌, ℕ, ◌+◌, ◌≤◌, List, [], ◌∷◌, Bool, true, false, ◌&&◌, Option, Some, None, Result, Ok, Err, IfOk, IfSome, codes, if◌then◌else◌, refl, sym, ap, ◌∙◌}
use Rattle.std.specs.Prelude.{⊤}
use Rattle.geom.specs.declared.rect.Rect.{Rect}
use Rattle.page_display_list.specs.declared.item.Item.{Item}
use Rattle.page_display_list.specs.declared.item.Item.TheVariants as kind
use Rattle.page_display_list.specs.Content.{rect_of_item}
use Rattle.model_history.specs.Ranges.{is_rect, item_in_range, is_picture, fits, all_fit}
use Rattle.serde_json.specs.Data.{Data}
use Rattle.serde_json.specs.Find.{get, as_object}
use Rattle.script_fields.specs.Canonical.{IsCanonical}
use Rattle.script_fields.specs.declared.fault.FieldFault.{FieldFault}
use Rattle.script_fields.specs.Fields.{whole_at, number_at, signed_at, int_at, rect_at, colour_at, no_more_members, member_count}
use Rattle.script_fields.specs.Forms.{colour_form, bytes_form}
use Rattle.script_fields.specs.Values.{rect_data, colour_data, bytes_data}
use Rattle.script_fields.proofs.Again.{left, right, both, number_again, signed_again, rect_again, colour_again}
use Rattle.script_fields.proofs.Fits.{then_ok, then_any, and_some, map_some, or_fault_ok, whole_fits, signed_fits, rect_fits, colour_fits}
use Rattle.script_fields.proofs.Back.{if_true, whole_found, signed_found, rect_found, colour_found, colour_back, bytes_form_back, few_members}
use Rattle.script_json.specs.ItemReading.{if_picture, pixels_form, paint_of, paint_at}
use Rattle.page_layers.specs.FieldForms as form
use Rattle.script_json.specs.FieldLists.{value_at, numbers, made_at, data_of}
use Rattle.script_json.proofs.ItemLaws.{paint_fits}
use Rattle.page_layers.specs.FieldForms.{Form, Field, Held, Row, Maker, made}

-- ---- items

-- what was painted: a rect of the colour, or a bitmap of the pixels
abbrev Painted : Option Data → Option Data → Rect → Item → Type 0
Painted colour pixels rect (kind.Rect r c) = (r ≡ rect) × (colour ≡ Some (colour_data c))
Painted colour pixels rect (kind.Bitmap p) = (p.rect ≡ rect) × (pixels ≡ Some (bytes_data p.pixels))

paint_back : (rect : Rect) (colour pixels : Option Data) → IfSome (paint_of rect colour pixels) (Painted colour pixels rect)
unfolding pixels_form
paint_back rect (Some colour) None = map_some (colour_form colour) (kind.Rect rect) (λ c. colour ≡ colour_data c) _ (colour_back colour) (λ c e. (refl, ap Some e))
paint_back rect None (Some pixels) =
    and_some (bytes_form pixels) (if_picture rect) (λ bs. pixels ≡ bytes_data bs) _ (bytes_form_back pixels) (λ bs e.
    if_true (is_picture rect bs) (kind.Bitmap (record { rect = rect; pixels = bs })) _ (refl, ap Some e))
paint_back rect None None = tt
paint_back rect (Some colour) (Some pixels) = tt

paint_found : (rect : Rect) (field : ℕ) (d : Data) → IfOk (paint_at rect field d) (Painted (get (codes "colour") d) (get (codes "pixels") d) rect)
unfolding paint_at
paint_found rect field d = or_fault_ok field (paint_of rect (get (codes "colour") d) (get (codes "pixels") d)) _ (paint_back rect (get (codes "colour") d) (get (codes "pixels") d))

-- an object has what is painted in an item
abbrev pub HasPainted : Item → Data → Type 0
HasPainted (kind.Rect r c) d = get (codes "colour") d ≡ Some (colour_data c)
HasPainted (kind.Bitmap p) d = get (codes "pixels") d ≡ Some (bytes_data p.pixels)

-- an object has the member that a field has beside its own
abbrev pub HasPaint : (f : Form) → Held f → Data → Type 0
HasPaint form.item i d = HasPainted i d
HasPaint form.whole v d = ⊤
HasPaint form.signed v d = ⊤
HasPaint form.rect v d = ⊤
HasPaint form.colour v d = ⊤

has_item : (i : Item) (r : Rect) (key : List ℕ) (d : Data) → get key d ≡ Some (rect_data r) → Painted (get (codes "colour") d) (get (codes "pixels") d) r i
    → (get key d ≡ Some (rect_data (rect_of_item i))) × HasPainted i d
has_item (kind.Rect r c) rect key d has p = (has ∙ ap (λ (x : Rect). Some (rect_data x)) (sym p.0), p.1)
has_item (kind.Bitmap b) rect key d has p = (has ∙ ap (λ (x : Rect). Some (rect_data x)) (sym p.0), p.1)

-- ---- one field

ok_then : {A E : Type 0} (r : Result A E) (P Q : A → Type 0) → IfOk r P → ((x : A) → P x → Q x) → IfOk r Q
ok_then (Ok x) P Q h k = k x h
ok_then (Err e) P Q h k = tt

-- a field with one member
abbrev pub is_plain : Form → Bool
is_plain form.item = false
is_plain _ = true

value_again : (f : Form) (v : Held f) (key : List ℕ) (n : ℕ) (d : Data) → is_plain f ≡ true → fits f v ≡ true → get key d ≡ Some (data_of f v) → value_at f key n d ≡ Ok v
unfolding whole_at number_at signed_at int_at rect_at colour_at
value_again form.whole v key n d plain ok has = rw has (rw (number_again 0 4294967295 v ok) refl)
value_again form.signed v key n d plain ok has = rw has (rw (signed_again v ok) refl)
value_again form.rect v key n d plain ok has = rw has (rw (rect_again v ok) refl)
value_again form.colour v key n d plain ok has = rw has (rw (colour_again v ok) refl)
value_again form.item v key n d plain ok has = absurd (cc)

value_fits : (f : Form) (key : List ℕ) (n : ℕ) (d : Data) → IfOk (value_at f key n d) (λ v. fits f v ≡ true)
value_fits form.whole key n d = whole_fits key n d
value_fits form.signed key n d = signed_fits key n d
value_fits form.rect key n d = rect_fits key n d
value_fits form.colour key n d = colour_fits key n d
value_fits form.item key n d =
    then_ok (rect_at key n d) (λ r. paint_at r (n + 1) d) (λ r. is_rect r ≡ true) (λ i. item_in_range i ≡ true) (rect_fits key n d) (λ r h. paint_fits r (n + 1) d h)

-- the member of a field, where it has no other
plain_found : {A : Type 0} (r : Result A FieldFault) (P : A → Type 0) → IfOk r P → IfOk r (λ v. P v × ⊤)
plain_found (Ok x) P h = (h, tt)
plain_found (Err e) P h = tt

value_found : (f : Form) (key : List ℕ) (n : ℕ) (d : Data) → IsCanonical d → IfOk (value_at f key n d) (λ v. (get key d ≡ Some (data_of f v)) × HasPaint f v d)
value_found form.whole key n d is = plain_found (whole_at key n d) _ (whole_found key n d is)
value_found form.signed key n d is = plain_found (signed_at key n d) _ (signed_found key n d is)
value_found form.rect key n d is = plain_found (rect_at key n d) _ (rect_found key n d is)
value_found form.colour key n d is = plain_found (colour_at key n d) _ (colour_found key n d is)
value_found form.item key n d is =
    then_ok (rect_at key n d) (λ r. paint_at r (n + 1) d) (λ r. get key d ≡ Some (rect_data r)) _ (rect_found key n d is) (λ r has.
    ok_then (paint_at r (n + 1) d) _ _ (paint_found r (n + 1) d) (λ i p. has_item i r key d has p))

-- ---- all fields

-- no field has a second member
abbrev pub are_plain : List Field → Bool
are_plain [] = true
are_plain (f ∷ fs) = is_plain f.form && are_plain fs

-- an object has these values, each in the member of its name
abbrev pub HasRow : (fs : List Field) → Row fs → Data → Type 0
HasRow [] row d = ⊤
HasRow (f ∷ fs) row d = (get f.name d ≡ Some (data_of f.form row.0)) × HasRow fs row.1 d

-- an object has these values, in all their members
abbrev pub HasAll : (fs : List Field) → Row fs → Data → Type 0
HasAll [] row d = ⊤
HasAll (f ∷ fs) row d = (get f.name d ≡ Some (data_of f.form row.0)) × HasPaint f.form row.0 d × HasAll fs row.1 d

-- the number after those of the fields
abbrev pub after : List Field → ℕ → ℕ
after [] n = n
after (f ∷ fs) n = after fs (n + numbers f.form)

pub fit_first : (so_far : Bool) (fs : List Field) (row : Row fs) → all_fit so_far fs row ≡ true → so_far ≡ true
fit_first so_far [] row h = h
fit_first so_far (f ∷ fs) row h = left so_far (fits f.form row.0) (fit_first (so_far && fits f.form row.0) fs row.1 h)

pub made_again : {A : Type 0} (so_far : Bool) (fs : List Field) (make : Maker A fs) (row : Row fs) (n : ℕ) (d : Data)
    → are_plain fs ≡ true → all_fit so_far fs row ≡ true → HasRow fs row d → no_more_members (after fs n) d ≡ Ok tt → made_at fs make n d ≡ Ok (made fs make row)
made_again so_far [] make row n d plain ok has ends = rw ends refl
made_again so_far (f ∷ fs) make row n d plain ok has ends =
    rw (value_again f.form row.0 f.name n d (left _ _ plain) (right so_far (fits f.form row.0) (fit_first (so_far && fits f.form row.0) fs row.1 ok)) has.0)
    (made_again (so_far && fits f.form row.0) fs (make row.0) row.1 (n + numbers f.form) d (right _ _ plain) ok has.1 ends)

pub made_fits : {A : Type 0} (so_far : Bool) (fs : List Field) (make : Maker A fs) (n : ℕ) (d : Data) (Q : A → Type 0) → so_far ≡ true
    → ((row : Row fs) → all_fit so_far fs row ≡ true → Q (made fs make row)) → IfOk (made_at fs make n d) Q
made_fits so_far [] make n d Q ok k = then_any (no_more_members n d) _ Q (λ u. k tt ok)
made_fits so_far (f ∷ fs) make n d Q ok k =
    then_ok (value_at f.form f.name n d) _ (λ v. fits f.form v ≡ true) Q (value_fits f.form f.name n d) (λ v h.
    made_fits (so_far && fits f.form v) fs (make v) (n + numbers f.form) d Q (both _ _ ok h) (λ row all. k (v, row) all))

pub made_found : {A : Type 0} (fs : List Field) (make : Maker A fs) (n : ℕ) (d : Data) (Q : A → Type 0) → IsCanonical d
    → ((row : Row fs) → HasAll fs row d → member_count (as_object d) ≤ after fs n → Q (made fs make row)) → IfOk (made_at fs make n d) Q
made_found [] make n d Q is k = then_ok (no_more_members n d) _ (λ u. member_count (as_object d) ≤ n) Q (few_members n d) (λ u few. k tt tt few)
made_found (f ∷ fs) make n d Q is k =
    then_ok (value_at f.form f.name n d) _ (λ v. (get f.name d ≡ Some (data_of f.form v)) × HasPaint f.form v d) Q (value_found f.form f.name n d is) (λ v h.
    made_found fs (make v) (n + numbers f.form) d Q is (λ row has few. k (v, row) (h.0, h.1, has) few))
