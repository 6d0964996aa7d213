-- Commands and main frames: a canonical value that reads as one is the one that is printed for it.
use Rattle.std.proofs.Common.{◌≡◌, ℕ, ◌+◌, ◌≤◌, ◌<◌, List, [], ◌∷◌, map, true, false, Option, Some, None, Result, Ok, Err, IfOk, IfSome, option_and_then, codes, bytes_eq, if◌then◌else◌, refl, sym, ap, ap₂, ◌∙◌, subst, lit<}
use Rattle.std.proofs.lemmas.Slice.Eq.{bytes_eq-Decides}
use Rattle.serde_json.specs.Data.{Data, string, array, object, Items, no_items, item}
use Rattle.serde_json.specs.Find.{get, as_str, as_array, as_object}
use Rattle.serde_json.specs.View.{items_of}
use Rattle.script_fields.specs.Canonical.{IsCanonical, AreCanonical}
use Rattle.script_fields.specs.Faults.{or_fault}
use Rattle.script_fields.specs.Fields.{object_at, member_count}
use Rattle.script_fields.proofs.Fits.{then_ok, then_any, and_some, or_fault_ok}
use Rattle.script_fields.proofs.Back.{weaker, if_true}
use Rattle.script_json.specs.declared.fault.ShapeFault.{ShapeFault}
use Rattle.page_layers.specs.declared.command.Op.{Op}
use Rattle.page_layers.specs.declared.command.Op.TheVariants as op
use Rattle.script_json.specs.Faults.{placed, before_rest}
use Rattle.script_json.specs.Ops.{op_at}
use Rattle.std.specs.Option.{option_or}
use Rattle.page_layers.specs.CommandFields.{op_name, node_ops, layer_ops, fields, make, first_named, node_op_named, layer_op_named, op_named}
use Rattle.script_json.specs.CommandReading.{fields_at, command_at, commands_at, frame_at, frames_at}
use Rattle.script_json.specs.CommandValues.{op_members, command_data, frame_data}
use Rattle.script_json.proofs.CommandLaws.{placed_ok}
use Rattle.script_json.proofs.Rows.{after, made_found}
use Rattle.script_json.proofs.Members.{shape, has_members, is_object}
use Rattle.model_history.specs.Ranges.{is_of_version}
use Rattle.page_layers.specs.FieldForms.{Row, made}

-- ---- the name

-- a text that is compared with a name first, and with others then
pub when : {A : Type 0} (s name : List ℕ) (x : A) (rest : Option A) (P : A → Type 0) → (s ≡ name → P x) → IfSome rest P → IfSome (if bytes_eq s name then Some x else rest) P
when s name x rest P k h =
    elim (bytes_eq s name) as (λ b. bytes_eq s name ≡ b → IfSome (if b then Some x else rest) P)
    [ true ↦ λ e. k ((bytes_eq-Decides s name).0 e) | false ↦ λ e. h ] refl

named_back : (os : List Op) (s : List ℕ) → IfSome (first_named os s) (λ o. s ≡ op_name o)
named_back [] s = tt
named_back (o ∷ os) s = when s (op_name o) o (first_named os s) _ (λ e. e) (named_back os s)

first_back : (first later : Option Op) (P : Op → Type 0) → IfSome first P → IfSome later P → IfSome (option_or first later) P
first_back (Some op) later P is_first is_later = is_first
first_back None later P is_first is_later = is_later

op_back : (s : List ℕ) → IfSome (op_named s) (λ o. s ≡ op_name o)
unfolding op_named node_op_named layer_op_named
op_back s = first_back (node_op_named s) (layer_op_named s) _ (named_back node_ops s) (named_back layer_ops s)

op_under : (x : Option Data) → IfSome (option_and_then op_named (option_and_then as_str x)) (λ o. x ≡ Some (string (op_name o)))
op_under (Some (string s)) = weaker (op_named s) _ _ (op_back s) (λ o e. ap (λ (l : List ℕ). Some (string l)) e)
op_under _ = tt

op_found : (version : ℕ) (d : Data) → IfOk (op_at version d) (λ o. get (codes "op") d ≡ Some (string (op_name o)))
unfolding op_at
op_found version d =
    or_fault_ok 0 (option_and_then (λ o. if is_of_version version o then Some o else None) (option_and_then op_named (option_and_then as_str (get (codes "op") d)))) _
    (and_some (option_and_then op_named (option_and_then as_str (get (codes "op") d))) (λ o. if is_of_version version o then Some o else None) (λ o. get (codes "op") d ≡ Some (string (op_name o))) _
    (op_under (get (codes "op") d)) (λ o h. if_true (is_of_version version o) o _ h))

-- ---- commands and main frames

data_made : (o : Op) (row : Row (fields o)) → command_data (made (fields o) (make o) row) ≡ object (op_members o row)
unfolding command_data
data_made op.AddTransform row = refl
data_made _ row = refl

some_fields : (o : Op) → 0 < after (fields o) 1
some_fields op.AddTransform = lit< tt
some_fields _ = lit< tt

fields_only : (o : Op) (d : Data) → IsCanonical d → get (codes "op") d ≡ Some (string (op_name o)) → IfOk (fields_at o d) (λ c. d ≡ command_data c)
unfolding fields_at
fields_only o d is named =
    made_found (fields o) (make o) 1 d (λ c. d ≡ command_data c) is (λ row has few.
    let s = shape o row in
    is_object (op_members o row) d is s.rising (subst (λ (n : ℕ). 0 < n) (sym s.count) (some_fields o))
    (subst (λ (n : ℕ). member_count (as_object d) ≤ n) (sym s.count) few) (has_members (fields o) row _ d has (named, tt))
    ∙ sym (data_made o row))

command_only : (version : ℕ) (d : Data) → IsCanonical d → IfOk (command_at version d) (λ c. d ≡ command_data c)
unfolding command_at
command_only version d n =
    then_any (object_at d) _ _ (λ u.
    then_ok (op_at version d) _ (λ o. get (codes "op") d ≡ Some (string (op_name o))) _ (op_found version d) (λ o h. fields_only o d n h))

-- an element before others
pub rest_only : {A : Type 0} (f : A → Data) (first : Result A ShapeFault) (rest : Result (List A) ShapeFault) (d : Data) (ds : Items)
    → IfOk first (λ x. d ≡ f x) → IfOk rest (λ xs. ds ≡ items_of (map f xs)) → IfOk (before_rest first rest) (λ xs. item d ds ≡ items_of (map f xs))
rest_only f (Err e) rest d ds h k = tt
rest_only f (Ok x) (Err e) d ds h k = tt
rest_only f (Ok x) (Ok xs) d ds h k = ap₂ item h k

commands_only : (version list index : ℕ) (ds : Items) → AreCanonical ds → IfOk (commands_at version list index ds) (λ cs. ds ≡ items_of (map command_data cs))
commands_only version list index no_items n = refl
commands_only version list index (item d ds) n =
    rest_only command_data (placed list index (command_at version d)) (commands_at version list (index + 1) ds) d ds
    (placed_ok list index (command_at version d) _ (command_only version d n.0)) (commands_only version list (index + 1) ds n.1)

array_back : (d : Data) → IfSome (as_array d) (λ ds. d ≡ array ds)
array_back (array ds) = refl
array_back _ = tt

pub ok_weaker : {A E : Type 0} (r : Result A E) (P Q : A → Type 0) → IfOk r P → ((x : A) → P x → Q x) → IfOk r Q
ok_weaker (Ok x) P Q h k = k x h
ok_weaker (Err e) P Q h k = tt

frame_only : (version list : ℕ) (d : Data) → IsCanonical d → IfOk (frame_at version list d) (λ cs. d ≡ frame_data cs)
unfolding frame_at frame_data
frame_only version list d n =
    then_ok (placed list 0 (or_fault 98 (as_array d))) _ (λ ds. d ≡ array ds) _ (placed_ok list 0 (or_fault 98 (as_array d)) _ (or_fault_ok 98 (as_array d) _ (array_back d))) (λ ds h.
    ok_weaker (commands_at version list 0 ds) _ _ (commands_only version list 0 ds (subst IsCanonical h n)) (λ cs e. h ∙ ap array e))

pub frames_only : (version list : ℕ) (ds : Items) → AreCanonical ds → IfOk (frames_at version list ds) (λ main. ds ≡ items_of (map frame_data main))
frames_only version list no_items n = refl
frames_only version list (item d ds) n =
    rest_only frame_data (frame_at version list d) (frames_at version (list + 1) ds) d ds (frame_only version list d n.0) (frames_only version (list + 1) ds n.1)
