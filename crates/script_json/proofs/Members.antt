-- The members of a command that is printed: each is found, they rise, and they print.
use Rattle.std.proofs.Common.{◌≡◌, ℕ, suc, max, ◌≤◌, ◌<◌, List, [], ◌∷◌, Bool, true, false, not, ◌&&◌, Some, Ordering, Less, Equal, Greater, nat_cmp, is_eq, codes, bytes_eq, refl, sym, ap, ◌∙◌, subst, arith}
use Rattle.std.specs.Prelude.{⊤}
use Rattle.std.specs.Cmp.Lexicographic.{slice_cmp}
use Rattle.std.specs.Ordering.{match_ordering}
use Rattle.std.proofs.lemmas.Bool.{and_parts}
use Rattle.std.proofs.lemmas.Int.{clamps}
use Rattle.std.proofs.lemmas.Map.Text.{is_eq-slice_cmp}
use Rattle.std.proofs.lemmas.Slice.Eq.{bytes_eq-Decides}
use Rattle.page_display_list.specs.declared.item.Item.{Item}
use Rattle.page_display_list.specs.declared.item.Item.TheVariants as kind
use Rattle.serde_json.specs.Data.{Data, object, Members, no_members, member, put, depth, members_depth}
use Rattle.serde_json.specs.Events.{members_len}
use Rattle.serde_json.specs.Find.{get, get_member, as_object}
use Rattle.serde_json.proofs.Views.{get_member-put, get_member-put_other}
use Rattle.script_fields.specs.Canonical.{IsCanonical}
use Rattle.script_fields.specs.Fields.{member_count}
use Rattle.script_fields.proofs.Orders.{Has, is_rising, object_is}
use Rattle.page_layers.specs.FieldForms as form
use Rattle.script_json.specs.FieldLists.{data_of, put_painted, put_paint, with_members}
use Rattle.page_layers.specs.declared.command.Op.{Op}
use Rattle.page_layers.specs.declared.command.Op.TheVariants as op
use Rattle.page_layers.specs.CommandFields.{fields}
use Rattle.script_json.specs.CommandValues.{op_members}
use Rattle.script_json.proofs.Rows.{is_plain, are_plain, HasRow, HasPainted, HasPaint, HasAll, after}
use Rattle.script_json.proofs.ValuesReadBack.{Prints, PrintsValues, are_names}
use Rattle.page_layers.specs.FieldForms.{Form, Field, Held, Row}

-- ---- names

-- a name that no field has
abbrev pub is_new : List ℕ → List Field → Bool
is_new k [] = true
is_new k (f ∷ fs) = not (bytes_eq f.name k) && is_new k fs

-- no two fields have one name
abbrev pub are_distinct : List Field → Bool
are_distinct [] = true
are_distinct (f ∷ fs) = is_new f.name fs && are_distinct fs

differ : (k l : List ℕ) → not (bytes_eq k l) ≡ true → k ≡ l → ⊥
differ k l other same = let e : bytes_eq k l ≡ true = (bytes_eq-Decides k l).1 same in absurd (cc)

-- ---- the object of values has them

plain_paint : (f : Form) (v : Held f) (ms : Members) → is_plain f ≡ true → put_paint f v ms ≡ ms
plain_paint form.whole v ms plain = refl
plain_paint form.signed v ms plain = refl
plain_paint form.rect v ms plain = refl
plain_paint form.colour v ms plain = refl
plain_paint form.item v ms plain = absurd (cc)

-- with a member more under another name
has_more : (k : List ℕ) (v : Data) (fs : List Field) (row : Row fs) (ms : Members) → is_new k fs ≡ true → HasRow fs row (object ms) → HasRow fs row (object (put k v ms))
has_more k v [] row ms new has = tt
has_more k v (f ∷ fs) row ms new has =
    let p = and_parts (not (bytes_eq f.name k)) (is_new k fs) new in
    (get_member-put_other f.name k v ms (differ f.name k p.0) ∙ has.0, has_more k v fs row.1 ms p.1 has.1)

pub has_row : (fs : List Field) (row : Row fs) (ms : Members) → are_plain fs ≡ true → are_distinct fs ≡ true → HasRow fs row (object (with_members fs row ms))
has_row [] row ms plain d = tt
has_row (f ∷ fs) row ms plain d =
    let p = and_parts (is_new f.name fs) (are_distinct fs) d in
    let q = and_parts (is_plain f.form) (are_plain fs) plain in
    let rest = put_paint f.form row.0 (with_members fs row.1 ms) in
    let same : rest ≡ with_members fs row.1 ms = plain_paint f.form row.0 (with_members fs row.1 ms) q.0 in
    let has : HasRow fs row.1 (object rest) = subst (λ (x : Members). HasRow fs row.1 (object x)) (sym same) (has_row fs row.1 ms q.1 p.1) in
    (get_member-put f.name (data_of f.form row.0) rest, has_more f.name (data_of f.form row.0) fs row.1 rest p.0 has)

-- ---- an object that has values has the members of their object

same_name : (k l : List ℕ) → slice_cmp nat_cmp k l ≡ Equal → k ≡ l
same_name k l e = (bytes_eq-Decides k l).0 (sym (is_eq-slice_cmp k l) ∙ ap is_eq e)

has_put_at : (o : Ordering) (k l : List ℕ) (v e : Data) (ms : Members) (d : Data) → slice_cmp nat_cmp k l ≡ o → get k d ≡ Some v → Has (member l e ms) d → Has (put k v ms) d
    → Has (match_ordering o (member k v (member l e ms)) (member l v ms) (member l e (put k v ms))) d
has_put_at Less k l v e ms d o is has rest = (is, has)
has_put_at Equal k l v e ms d o is has rest = (subst (λ (x : List ℕ). get x d ≡ Some v) (same_name k l o) is, has.1)
has_put_at Greater k l v e ms d o is has rest = (has.0, rest)

has_put : (k : List ℕ) (v : Data) (ms : Members) (d : Data) → get k d ≡ Some v → Has ms d → Has (put k v ms) d
has_put k v no_members d is has = (is, tt)
has_put k v (member l e ms) d is has = has_put_at (slice_cmp nat_cmp k l) k l v e ms d refl is has (has_put k v ms d is has.1)

has_painted : (i : Item) (ms : Members) (d : Data) → HasPainted i d → Has ms d → Has (put_painted i ms) d
has_painted (kind.Rect r c) ms d is has = has_put (codes "colour") _ ms d is has
has_painted (kind.Bitmap p) ms d is has = has_put (codes "pixels") _ ms d is has

has_paint : (f : Form) (v : Held f) (ms : Members) (d : Data) → HasPaint f v d → Has ms d → Has (put_paint f v ms) d
has_paint form.item v ms d is has = has_painted v ms d is has
has_paint form.whole v ms d is has = has
has_paint form.signed v ms d is has = has
has_paint form.rect v ms d is has = has
has_paint form.colour v ms d is has = has

pub has_members : (fs : List Field) (row : Row fs) (ms : Members) (d : Data) → HasAll fs row d → Has ms d → Has (with_members fs row ms) d
has_members [] row ms d has more = more
has_members (f ∷ fs) row ms d has more =
    has_put f.name (data_of f.form row.0) _ d has.0 (has_paint f.form row.0 (with_members fs row.1 ms) d has.1 (has_members fs row.1 ms d has.2 more))

-- an object that has these members and no more is this one
pub is_object : (ms : Members) (d : Data) → IsCanonical d → is_rising ms ≡ true → 0 < members_len ms → member_count (as_object d) ≤ members_len ms → Has ms d → d ≡ object ms
is_object no_members d n p some few has = absurd (omega (arith, some))
is_object (member k v ms) d n p some few has = object_is k v ms d n p few has

-- ---- values print, and do not nest deep

prints_at : (o : Ordering) (k l : List ℕ) (v e : Data) (ms : Members) → Prints v → PrintsValues (member l e ms) → PrintsValues (put k v ms)
    → PrintsValues (match_ordering o (member k v (member l e ms)) (member l v ms) (member l e (put k v ms)))
prints_at Less k l v e ms is all rest = (is, all)
prints_at Equal k l v e ms is all rest = (is, all.1)
prints_at Greater k l v e ms is all rest = (all.0, rest)

pub prints_put : (k : List ℕ) (v : Data) (ms : Members) → Prints v → PrintsValues ms → PrintsValues (put k v ms)
prints_put k v no_members is all = (is, tt)
prints_put k v (member l e ms) is all = prints_at (slice_cmp nat_cmp k l) k l v e ms is all (prints_put k v ms is all.1)

depth_at : (o : Ordering) (k l : List ℕ) (v e : Data) (ms : Members) (n : ℕ) → depth v ≤ n → members_depth (member l e ms) ≤ n → members_depth (put k v ms) ≤ n
    → members_depth (match_ordering o (member k v (member l e ms)) (member l v ms) (member l e (put k v ms))) ≤ n
depth_at Less k l v e ms n is all rest = omega (arith, clamps, is, all)
depth_at Equal k l v e ms n is all rest = omega (arith, clamps, is, all)
depth_at Greater k l v e ms n is all rest = omega (arith, clamps, is, all, rest)

rest_depth : (l : List ℕ) (e : Data) (ms : Members) (n : ℕ) → members_depth (member l e ms) ≤ n → members_depth ms ≤ n
rest_depth l e ms n all = omega (arith, clamps, all)

pub depth_put : (k : List ℕ) (v : Data) (ms : Members) (n : ℕ) → depth v ≤ n → members_depth ms ≤ n → members_depth (put k v ms) ≤ n
depth_put k v no_members n is all = omega (arith, clamps, is)
depth_put k v (member l e ms) n is all = depth_at (slice_cmp nat_cmp k l) k l v e ms n is all (depth_put k v ms n is (rest_depth l e ms n all))

-- ---- the members of a command

-- they rise, there are as many as fields and one more for each item, and their names are ASCII
pub record HasShape (ms : Members) (n : ℕ) : Type 0 where
  pub rising : is_rising ms ≡ true
  pub count : members_len ms ≡ n
  pub names : are_names ms ≡ true

inserted : (layer place : ℕ) (i : Item) → HasShape (op_members op.InsertItem (layer, (place, (i, tt)))) 5
inserted layer place (kind.Rect r c) = record { rising = refl; count = refl; names = refl }
inserted layer place (kind.Bitmap p) = record { rising = refl; count = refl; names = refl }

replaced : (layer place : ℕ) (i : Item) → HasShape (op_members op.ReplaceItem (layer, (place, (i, tt)))) 5
replaced layer place (kind.Rect r c) = record { rising = refl; count = refl; names = refl }
replaced layer place (kind.Bitmap p) = record { rising = refl; count = refl; names = refl }

pub shape : (o : Op) (row : Row (fields o)) → HasShape (op_members o row) (after (fields o) 1)
shape op.InsertItem row = inserted row.0 row.1.0 row.1.1.0
shape op.ReplaceItem row = replaced row.0 row.1.0 row.1.1.0
shape _ row = record { rising = refl; count = refl; names = refl }
