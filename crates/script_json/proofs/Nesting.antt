-- The value of a script nests at most 5 deep, and so no deeper than a text that is read.
use Rattle.std.proofs.Common.{ℕ, suc, ◌≤◌, ℤ, List, [], ◌∷◌, map, codes, lit≤, arith}
use Rattle.std.proofs.lemmas.Int.{clamps}
use Rattle.serde_json.specs.Data.{Data, string, array, Members, no_members, member, depth, items_depth, members_depth}
use Rattle.serde_json.specs.View.{items_of}
use Rattle.page_display_list.specs.declared.item.Item.{Item}
use Rattle.page_display_list.specs.declared.item.Item.TheVariants as kind
use Rattle.page_layers.specs.declared.command.Command.{Command}
use Rattle.model_history.specs.declared.input.Input.{Input}
use Rattle.model_history.specs.declared.input.Input.TheVariants.{Scroll, Wheel, Draw, Await, Settle}
use Rattle.model_history.specs.Scripts.{ScriptModel}
use Rattle.script_fields.specs.Values.{number_data, int_data, opaque_data, colour_data, bytes_data, rect_data, sides_data}
use Rattle.page_layers.specs.FieldForms as form
use Rattle.script_json.specs.FieldLists.{data_of, put_painted, put_paint, with_members}
use Rattle.page_layers.specs.CommandFields.{op_name, fields, op_of, values_of}
use Rattle.script_json.specs.CommandValues.{op_members, command_data, frame_data}
use Rattle.script_json.proofs.Members.{depth_put}
use Rattle.script_json.specs.InputValues.{scroll_data, wheel_data, draw_data, await_data, settle_data, input_data}
use Rattle.script_json.specs.ScriptValue.{main_data, inputs_data, parts_data}
use Rattle.page_layers.specs.FieldForms.{Form, Field, Held, Row}

nests_value : (f : Form) (v : Held f) → depth (data_of f v) ≤ 1
unfolding number_data int_data rect_data colour_data
nests_value form.whole v = lit≤ tt
nests_value form.signed v = lit≤ tt
nests_value form.rect v = lit≤ tt
nests_value form.colour v = lit≤ tt
nests_value form.item v = lit≤ tt

nests_painted : (i : Item) (ms : Members) → members_depth ms ≤ 1 → members_depth (put_painted i ms) ≤ 1
unfolding colour_data bytes_data
nests_painted (kind.Rect r c) ms h = depth_put (codes "colour") (colour_data c) ms 1 (lit≤ tt) h
nests_painted (kind.Bitmap p) ms h = depth_put (codes "pixels") (bytes_data p.pixels) ms 1 (lit≤ tt) h

nests_paint : (f : Form) (v : Held f) (ms : Members) → members_depth ms ≤ 1 → members_depth (put_paint f v ms) ≤ 1
nests_paint form.item v ms h = nests_painted v ms h
nests_paint form.whole v ms h = h
nests_paint form.signed v ms h = h
nests_paint form.rect v ms h = h
nests_paint form.colour v ms h = h

nests_row : (fs : List Field) (row : Row fs) (ms : Members) → members_depth ms ≤ 1 → members_depth (with_members fs row ms) ≤ 1
nests_row [] row ms h = h
nests_row (f ∷ fs) row ms h =
    depth_put f.name (data_of f.form row.0) (put_paint f.form row.0 (with_members fs row.1 ms)) 1 (nests_value f.form row.0)
    (nests_paint f.form row.0 (with_members fs row.1 ms) (nests_row fs row.1 ms h))

nests_command : (c : Command) → depth (command_data c) ≤ 2
unfolding command_data
nests_command c =
    let members : members_depth (op_members (op_of c) (values_of c)) ≤ 1 = nests_row (fields (op_of c)) (values_of c) (member (codes "op") (string (op_name (op_of c))) no_members) (lit≤ tt) in
    omega (arith, members)

nests_list : {X : Type 0} (f : X → Data) (n : ℕ) → ((x : X) → depth (f x) ≤ n) → (xs : List X) → items_depth (items_of (map f xs)) ≤ n
nests_list f n h [] = omega arith
nests_list f n h (x ∷ xs) = omega (arith, clamps, h x, nests_list f n h xs)

nests_array : {X : Type 0} (f : X → Data) (n : ℕ) → ((x : X) → depth (f x) ≤ n) → (xs : List X) → depth (array (items_of (map f xs))) ≤ suc n
nests_array f n h xs = omega (arith, nests_list f n h xs)

nests_frame : (cs : List Command) → depth (frame_data cs) ≤ 3
unfolding frame_data
nests_frame cs = nests_array command_data 2 nests_command cs

nests_main : (main : List (List Command)) → depth (main_data main) ≤ 4
unfolding main_data
nests_main main = nests_array frame_data 3 nests_frame main

nests_scroll : (scroller : ℕ) (dx dy : ℤ) → depth (scroll_data scroller dx dy) ≤ 2
unfolding scroll_data number_data int_data
nests_scroll scroller dx dy = lit≤ tt

nests_wheel : (x y : ℕ) (dx dy : ℤ) → depth (wheel_data x y dx dy) ≤ 2
unfolding wheel_data number_data int_data
nests_wheel x y dx dy = lit≤ tt

nests_input : (x : Input) → depth (input_data x) ≤ 2
unfolding draw_data await_data settle_data number_data
nests_input (Scroll scroller dx dy) = nests_scroll scroller dx dy
nests_input (Wheel x y dx dy) = nests_wheel x y dx dy
nests_input Draw = lit≤ tt
nests_input (Await frame) = lit≤ tt
nests_input Settle = lit≤ tt

nests_inputs : (xs : List Input) → depth (inputs_data xs) ≤ 3
unfolding inputs_data
nests_inputs xs = nests_array input_data 2 nests_input xs

pub nests_parts : (s : ScriptModel) → depth (parts_data s) ≤ 127
unfolding parts_data number_data opaque_data sides_data
nests_parts s = omega (arith, clamps, nests_main s.main, nests_inputs s.inputs)
