-- Commands and main frames: what is printed reads back, and what is read is in the ranges.
use Rattle.std.proofs.Common.{◌≡◌, ℕ, suc, ◌+◌, List, [], ◌∷◌, length, map, Bool, true, false, ◌==◌, Some, None, Result, Ok, Err, IfOk, IfSome, option_and_then, codes, if◌then◌else◌, refl, sym, ap, ◌∙◌}
use Rattle.std.specs.List.{list_all}
use Rattle.serde_json.specs.Data.{Data, Items, no_items, item}
use Rattle.serde_json.specs.Events.{items_len}
use Rattle.serde_json.specs.Find.{as_array, as_str, get}
use Rattle.serde_json.specs.View.{items_of}
use Rattle.page_display_list.specs.declared.item.Item.{Item}
use Rattle.page_display_list.specs.declared.item.Item.TheVariants as kind
use Rattle.page_layers.specs.declared.command.Command.{Command}
use Rattle.page_layers.specs.declared.command.Command.TheVariants.{AddTransform, InsertItem, ReplaceItem, SetView}
use Rattle.model_history.specs.Ranges.{command_in_range, is_of_version, all_fit}
use Rattle.script_fields.specs.declared.fault.FieldFault.{FieldFault}
use Rattle.script_fields.specs.Faults.{or_fault}
use Rattle.script_fields.specs.Fields.{object_at, no_more_members}
use Rattle.script_fields.proofs.Again.{left, right, both}
use Rattle.script_fields.proofs.Fits.{then_ok, then_any, then_some, or_fault_ok}
use Rattle.script_json.specs.declared.fault.ShapeFault.{ShapeFault}
use Rattle.page_layers.specs.declared.command.Op.{Op}
use Rattle.page_layers.specs.declared.command.Op.TheVariants as op
use Rattle.script_json.specs.Faults.{placed, before_rest}
use Rattle.script_json.specs.Ops.{op_at}
use Rattle.page_layers.specs.CommandFields.{fields, make, op_of, values_of, op_named, node_op_named, layer_op_named}
use Rattle.script_json.specs.CommandReading.{fields_at, command_at, commands_at, frame_at, frames_at}
use Rattle.script_json.specs.CommandValues.{command_data, frame_data}
use Rattle.script_json.proofs.ItemLaws.{item_again}
use Rattle.script_json.proofs.Rows.{are_plain, after, fit_first, made_again, made_fits}
use Rattle.script_json.proofs.Members.{are_distinct, has_row}
use Rattle.page_layers.specs.FieldForms.{Row, made}

-- ---- the list of fields

-- a command without an item
abbrev is_plain_command : Command → Bool
is_plain_command (InsertItem c) = false
is_plain_command (ReplaceItem c) = false
is_plain_command _ = true

distinct : (o : Op) → are_distinct (fields o) ≡ true
distinct op.AddTransform = refl
distinct _ = refl

plain : (c : Command) → is_plain_command c ≡ true → are_plain (fields (op_of c)) ≡ true
plain (InsertItem c) h = absurd (cc)
plain (ReplaceItem c) h = absurd (cc)
plain _ h = refl

-- the command of a command's values is the command
same_command : (c : Command) → made (fields (op_of c)) (make (op_of c)) (values_of c) ≡ c
same_command (AddTransform c) = refl
same_command _ = refl

-- its values are in the ranges of their forms
pub fit_values : (version : ℕ) (c : Command) → command_in_range version c ≡ all_fit (is_of_version version (op_of c)) (fields (op_of c)) (values_of c)
fit_values version (AddTransform c) = refl
fit_values version _ = refl

fit_made : (version : ℕ) (o : Op) (row : Row (fields o)) → command_in_range version (made (fields o) (make o) row) ≡ all_fit (is_of_version version o) (fields o) row
fit_made version op.AddTransform row = refl
fit_made version _ row = refl

-- an object has no member but the fields and `op`
ends : (c : Command) → is_plain_command c ≡ true → no_more_members (after (fields (op_of c)) 1) (command_data c) ≡ Ok tt
unfolding no_more_members command_data
ends (InsertItem c) h = absurd (cc)
ends (ReplaceItem c) h = absurd (cc)
ends _ h = refl

-- its name is read first
begins_item : (version : ℕ) (layer place : ℕ) (i : Item) → command_at version (command_data (InsertItem (record { layer = layer; at = place; item = i }))) ≡ fields_at op.InsertItem (command_data (InsertItem (record { layer = layer; at = place; item = i })))
unfolding command_at object_at op_at op_named node_op_named layer_op_named command_data
begins_item version layer place (kind.Rect rect colour) = refl
begins_item version layer place (kind.Bitmap picture) = refl

begins_other : (version : ℕ) (layer place : ℕ) (i : Item) → command_at version (command_data (ReplaceItem (record { layer = layer; at = place; item = i }))) ≡ fields_at op.ReplaceItem (command_data (ReplaceItem (record { layer = layer; at = place; item = i })))
unfolding command_at object_at op_at op_named node_op_named layer_op_named command_data
begins_other version layer place (kind.Rect rect colour) = refl
begins_other version layer place (kind.Bitmap picture) = refl

begins : (version : ℕ) (c : Command) → is_of_version version (op_of c) ≡ true → command_at version (command_data c) ≡ fields_at (op_of c) (command_data c)
unfolding command_at object_at op_at op_named node_op_named layer_op_named command_data
begins version (InsertItem c) of_version = begins_item version c.layer c.at c.item
begins version (ReplaceItem c) of_version = begins_other version c.layer c.at c.item
begins version (SetView c) of_version =
    let is_two : (version == 2) ≡ true = of_version in
    rw is_two refl
begins version _ of_version = refl

-- ---- what is printed reads back

plain_again : (version : ℕ) (c : Command) → is_plain_command c ≡ true → command_in_range version c ≡ true → fields_at (op_of c) (command_data c) ≡ Ok c
unfolding fields_at command_data
plain_again version c is_plain all =
    made_again (is_of_version version (op_of c)) (fields (op_of c)) (make (op_of c)) (values_of c) 1 (command_data c)
    (plain c is_plain) (sym (fit_values version c) ∙ all) (has_row (fields (op_of c)) (values_of c) _ (plain c is_plain) (distinct (op_of c))) (ends c is_plain)
    ∙ ap Ok (same_command c)

fields_again : (version : ℕ) (c : Command) → command_in_range version c ≡ true → fields_at (op_of c) (command_data c) ≡ Ok c
fields_again version (InsertItem c) all = item_again true c.layer c.at c.item all
fields_again version (ReplaceItem c) all = item_again false c.layer c.at c.item all
fields_again version c all = plain_again version c refl all

pub command_again : (version : ℕ) (c : Command) → command_in_range version c ≡ true → command_at version (command_data c) ≡ Ok c
command_again version c all =
    begins version c (fit_first (is_of_version version (op_of c)) (fields (op_of c)) (values_of c) (sym (fit_values version c) ∙ all)) ∙ fields_again version c all

commands_again : (version list index : ℕ) (cs : List Command) → list_all (command_in_range version) cs ≡ true
    → commands_at version list index (items_of (map command_data cs)) ≡ Ok cs
commands_again version list index [] all = refl
commands_again version list index (c ∷ cs) all =
    let first = left _ _ all in
    let others = right _ _ all in
    rw (command_again version c first) (rw (commands_again version list (index + 1) cs others) refl)

frame_again : (version list : ℕ) (cs : List Command) → list_all (command_in_range version) cs ≡ true
    → frame_at version list (frame_data cs) ≡ Ok cs
unfolding frame_at frame_data
frame_again version list cs all = commands_again version list 0 cs all

pub frames_again : (version list : ℕ) (main : List (List Command)) → list_all (list_all (command_in_range version)) main ≡ true
    → frames_at version list (items_of (map frame_data main)) ≡ Ok main
frames_again version list [] all = refl
frames_again version list (cs ∷ main) all =
    let first = left _ _ all in
    let others = right _ _ all in
    rw (frame_again version list cs first) (rw (frames_again version (list + 1) main others) refl)

-- ---- what is read is in the ranges

fields_fits : (version : ℕ) (o : Op) → is_of_version version o ≡ true → (d : Data) → IfOk (fields_at o d) (λ c. command_in_range version c ≡ true)
unfolding fields_at
fields_fits version o of_version d =
    made_fits (is_of_version version o) (fields o) (make o) 1 d (λ c. command_in_range version c ≡ true) of_version (λ row h. fit_made version o row ∙ h)

of_version_fits : (version : ℕ) (o : Op) → IfSome (if is_of_version version o then Some o else None) (λ p. is_of_version version p ≡ true)
of_version_fits version o =
    elim (is_of_version version o) as (λ b. is_of_version version o ≡ b → IfSome (if b then Some o else None) (λ p. is_of_version version p ≡ true))
    [ true ↦ λ e. e | false ↦ λ e. tt ] refl

op_fits : (version : ℕ) (d : Data) → IfOk (op_at version d) (λ o. is_of_version version o ≡ true)
unfolding op_at
op_fits version d =
    or_fault_ok 0 (option_and_then (λ o. if is_of_version version o then Some o else None) (option_and_then op_named (option_and_then as_str (get (codes "op") d)))) (λ o. is_of_version version o ≡ true)
    (then_some (option_and_then op_named (option_and_then as_str (get (codes "op") d))) (λ o. if is_of_version version o then Some o else None) _ (λ o. of_version_fits version o))

command_fits : (version : ℕ) (d : Data) → IfOk (command_at version d) (λ c. command_in_range version c ≡ true)
unfolding command_at
command_fits version d =
    then_any (object_at d) _ _ (λ u.
    then_ok (op_at version d) _ (λ o. is_of_version version o ≡ true) _ (op_fits version d) (λ o of_version.
    fields_fits version o of_version d))

pub placed_ok : {A : Type 0} (list index : ℕ) (r : Result A FieldFault) (P : A → Type 0) → IfOk r P → IfOk (placed list index r) P
placed_ok list index (Ok x) P h = h
placed_ok list index (Err e) P h = tt

-- an element in its range before others in theirs, and one more of them
rest_fits : {A : Type 0} (first : Result A ShapeFault) (rest : Result (List A) ShapeFault) (n : ℕ) (test : A → Bool)
    → IfOk first (λ x. test x ≡ true)
    → IfOk rest (λ xs. (list_all test xs ≡ true) × (length xs ≡ n))
    → IfOk (before_rest first rest) (λ xs. (list_all test xs ≡ true) × (length xs ≡ suc n))
rest_fits (Err e) rest n test h k = tt
rest_fits (Ok x) (Err e) n test h k = tt
rest_fits (Ok x) (Ok xs) n test h k = (both _ _ h k.0, ap suc k.1)

commands_fits : (version list index : ℕ) (ds : Items)
    → IfOk (commands_at version list index ds) (λ cs. (list_all (command_in_range version) cs ≡ true) × (length cs ≡ items_len ds))
commands_fits version list index no_items = (refl, refl)
commands_fits version list index (item d ds) =
    rest_fits (placed list index (command_at version d)) (commands_at version list (index + 1) ds) (items_len ds) (command_in_range version)
    (placed_ok list index (command_at version d) _ (command_fits version d)) (commands_fits version list (index + 1) ds)

ok_weaker : {A E : Type 0} (r : Result A E) (P Q : A → Type 0) → IfOk r P → ((x : A) → P x → Q x) → IfOk r Q
ok_weaker (Ok x) P Q h k = k x h
ok_weaker (Err e) P Q h k = tt

frame_fits : (version list : ℕ) (d : Data) → IfOk (frame_at version list d) (λ cs. list_all (command_in_range version) cs ≡ true)
unfolding frame_at
frame_fits version list d =
    then_any (placed list 0 (or_fault 98 (as_array d))) _ _ (λ ds.
    ok_weaker (commands_at version list 0 ds) _ _ (commands_fits version list 0 ds) (λ cs h. h.0))

pub frames_fits : (version list : ℕ) (ds : Items)
    → IfOk (frames_at version list ds) (λ main. (list_all (list_all (command_in_range version)) main ≡ true) × (length main ≡ items_len ds))
frames_fits version list no_items = (refl, refl)
frames_fits version list (item d ds) =
    rest_fits (frame_at version list d) (frames_at version (list + 1) ds) (items_len ds) (list_all (command_in_range version))
    (frame_fits version list d) (frames_fits version (list + 1) ds)
