-- Inputs and scripts: a canonical value that reads as one is the one that is printed for it.
use Rattle.std.proofs.Common.{◌≡◌, ℕ, ◌+◌, ◌≤◌, pos, negsuc, List, length, map, Option, Some, Result, Ok, IfOk, IfSome, option_and_then, codes, refl, ap, ◌∙◌, subst}
use Rattle.serde_json.specs.Data.{Data, string, array, Items, no_items, item}
use Rattle.serde_json.specs.Find.{get, as_str, as_object}
use Rattle.serde_json.specs.View.{items_of}
use Rattle.model_history.specs.Ranges.{longest_side}
use Rattle.model_history.specs.Scripts.{ScriptModel}
use Rattle.script_fields.specs.Canonical.{IsCanonical, AreCanonical}
use Rattle.script_fields.specs.Fields.{object_at, number_at, sides_at, opaque_at, list_at, member_count, no_more_members}
use Rattle.script_fields.specs.Values.{number_data, int_data, opaque_data, sides_data}
use Rattle.script_fields.proofs.Fits.{then_ok, then_any, or_fault_ok}
use Rattle.script_fields.proofs.Orders.{object_is, canonical_found}
use Rattle.script_fields.proofs.Back.{weaker, int_found, number_found, opaque_found, sides_found, list_found, few_members}
use Rattle.script_json.specs.declared.fault.ShapeFault.{ShapeFault}
use Rattle.script_json.specs.declared.head.Head.{Head}
use Rattle.script_json.specs.declared.op.InputOp.{InputOp}
use Rattle.script_json.specs.declared.op.InputOp.TheVariants as op
use Rattle.script_json.specs.Faults.{placed}
use Rattle.script_json.specs.InputReading.{input_named, input_op_at, amount_at, below, input_fields_at, input_at, draws_after, inputs_at}
use Rattle.script_json.specs.InputValues.{scroll_data, wheel_data, draw_data, await_data, settle_data, input_data}
use Rattle.script_json.specs.CommandReading.{frames_at}
use Rattle.script_json.specs.CommandValues.{frame_data}
use Rattle.script_json.specs.Reading.{priority_named, priority_at, head_at, ScriptLists, lists_at, parts_at}
use Rattle.script_json.specs.ScriptValue.{priority_name, main_data, inputs_data, parts_data}
use Rattle.script_json.proofs.CommandLaws.{placed_ok}
use Rattle.script_json.proofs.CommandsBack.{when, rest_only, frames_only}

-- ---- inputs

-- the name of an input
abbrev input_name : InputOp → List ℕ
input_name op.Scroll = codes "scroll"
input_name op.Wheel = codes "wheel"
input_name op.Draw = codes "draw"
input_name op.Await = codes "await"
input_name op.Settle = codes "settle"

input_back : (s : List ℕ) → IfSome (input_named s) (λ o. s ≡ input_name o)
unfolding input_named
input_back s =
    when s (codes "scroll") _ _ _ (λ e. e) (
    when s (codes "wheel") _ _ _ (λ e. e) (
    when s (codes "draw") _ _ _ (λ e. e) (
    when s (codes "await") _ _ _ (λ e. e) (
    when s (codes "settle") _ _ _ (λ e. e) (
    tt)))))

input_under : (x : Option Data) → IfSome (option_and_then input_named (option_and_then as_str x)) (λ o. x ≡ Some (string (input_name o)))
input_under (Some (string s)) = weaker (input_named s) _ _ (input_back s) (λ o e. ap (λ (l : List ℕ). Some (string l)) e)
input_under _ = tt

input_op_found : (d : Data) → IfOk (input_op_at d) (λ o. get (codes "op") d ≡ Some (string (input_name o)))
unfolding input_op_at
input_op_found d = or_fault_ok 0 (option_and_then input_named (option_and_then as_str (get (codes "op") d))) _ (input_under (get (codes "op") d))

amount_found : (key : List ℕ) (field : ℕ) (d : Data) → IsCanonical d → IfOk (amount_at key field d) (λ z. get key d ≡ Some (int_data z))
unfolding amount_at
amount_found key field d n = int_found key (negsuc 1048575) (pos 1048576) field d n

scroll_only : (frames draws : ℕ) (d : Data) → IsCanonical d → get (codes "op") d ≡ Some (string (codes "scroll")) → IfOk (input_fields_at frames draws op.Scroll d) (λ c. d ≡ input_data c)
unfolding input_fields_at scroll_data
scroll_only frames draws d n named =
    then_ok (number_at (codes "scroller") 1 65535 1 d) _ (λ v. get (codes "scroller") d ≡ Some (number_data v)) _ (number_found (codes "scroller") 1 65535 1 d n) (λ scroller has_scroller.
    then_ok (amount_at (codes "dx") 2 d) _ (λ v. get (codes "dx") d ≡ Some (int_data v)) _ (amount_found (codes "dx") 2 d n) (λ dx has_dx.
    then_ok (amount_at (codes "dy") 3 d) _ (λ v. get (codes "dy") d ≡ Some (int_data v)) _ (amount_found (codes "dy") 3 d n) (λ dy has_dy.
    then_ok (no_more_members 4 d) _ (λ u. member_count (as_object d) ≤ 4) _ (few_members 4 d) (λ u few.
    object_is _ _ _ d n refl few (has_dx, (has_dy, (named, (has_scroller, tt))))))))

wheel_only : (frames draws : ℕ) (d : Data) → IsCanonical d → get (codes "op") d ≡ Some (string (codes "wheel")) → IfOk (input_fields_at frames draws op.Wheel d) (λ c. d ≡ input_data c)
unfolding input_fields_at wheel_data
wheel_only frames draws d n named =
    then_ok (number_at (codes "x") 0 2047 1 d) _ (λ v. get (codes "x") d ≡ Some (number_data v)) _ (number_found (codes "x") 0 2047 1 d n) (λ x has_x.
    then_ok (number_at (codes "y") 0 2047 2 d) _ (λ v. get (codes "y") d ≡ Some (number_data v)) _ (number_found (codes "y") 0 2047 2 d n) (λ y has_y.
    then_ok (amount_at (codes "dx") 3 d) _ (λ v. get (codes "dx") d ≡ Some (int_data v)) _ (amount_found (codes "dx") 3 d n) (λ dx has_dx.
    then_ok (amount_at (codes "dy") 4 d) _ (λ v. get (codes "dy") d ≡ Some (int_data v)) _ (amount_found (codes "dy") 4 d n) (λ dy has_dy.
    then_ok (no_more_members 5 d) _ (λ u. member_count (as_object d) ≤ 5) _ (few_members 5 d) (λ u few.
    object_is _ _ _ d n refl few (has_dx, (has_dy, (named, (has_x, (has_y, tt))))))))))

draw_only : (frames draws : ℕ) (d : Data) → IsCanonical d → get (codes "op") d ≡ Some (string (codes "draw")) → IfOk (input_fields_at frames draws op.Draw d) (λ c. d ≡ input_data c)
unfolding input_fields_at draw_data
draw_only frames draws d n named =
    then_any (below 4096 0 draws) _ _ (λ v.
    then_ok (no_more_members 1 d) _ (λ u. member_count (as_object d) ≤ 1) _ (few_members 1 d) (λ u few.
    object_is _ _ _ d n refl few (named, tt)))

await_only : (frames draws : ℕ) (d : Data) → IsCanonical d → get (codes "op") d ≡ Some (string (codes "await")) → IfOk (input_fields_at frames draws op.Await d) (λ c. d ≡ input_data c)
unfolding input_fields_at await_data
await_only frames draws d n named =
    then_ok (number_at (codes "frame") 0 4294967295 1 d) _ (λ v. get (codes "frame") d ≡ Some (number_data v)) _ (number_found (codes "frame") 0 4294967295 1 d n) (λ m has_frame.
    then_any (below frames 1 m) _ _ (λ v.
    then_ok (no_more_members 2 d) _ (λ u. member_count (as_object d) ≤ 2) _ (few_members 2 d) (λ u few.
    object_is _ _ _ d n refl few (has_frame, (named, tt)))))

settle_only : (frames draws : ℕ) (d : Data) → IsCanonical d → get (codes "op") d ≡ Some (string (codes "settle")) → IfOk (input_fields_at frames draws op.Settle d) (λ c. d ≡ input_data c)
unfolding input_fields_at settle_data
settle_only frames draws d n named =
    then_ok (no_more_members 1 d) _ (λ u. member_count (as_object d) ≤ 1) _ (few_members 1 d) (λ u few.
    object_is _ _ _ d n refl few (named, tt))

input_fields_only : (frames draws : ℕ) (o : InputOp) (d : Data) → IsCanonical d → get (codes "op") d ≡ Some (string (input_name o)) → IfOk (input_fields_at frames draws o d) (λ c. d ≡ input_data c)
input_fields_only frames draws op.Scroll d n h = scroll_only frames draws d n h
input_fields_only frames draws op.Wheel d n h = wheel_only frames draws d n h
input_fields_only frames draws op.Draw d n h = draw_only frames draws d n h
input_fields_only frames draws op.Await d n h = await_only frames draws d n h
input_fields_only frames draws op.Settle d n h = settle_only frames draws d n h

input_only : (frames draws : ℕ) (d : Data) → IsCanonical d → IfOk (input_at frames draws d) (λ c. d ≡ input_data c)
unfolding input_at
input_only frames draws d n =
    then_any (object_at d) _ _ (λ u.
    then_ok (input_op_at d) _ (λ o. get (codes "op") d ≡ Some (string (input_name o))) _ (input_op_found d) (λ o h. input_fields_only frames draws o d n h))

inputs_only : (frames draws index : ℕ) (ds : Items) → AreCanonical ds → IfOk (inputs_at frames draws index ds) (λ xs. ds ≡ items_of (map input_data xs))
inputs_only frames draws index no_items n = refl
inputs_only frames draws index (item d ds) n =
    then_ok (placed 1 index (input_at frames draws d)) _ (λ c. d ≡ input_data c) _ (placed_ok 1 index (input_at frames draws d) _ (input_only frames draws d n.0)) (λ x h.
    rest_only input_data (Ok x) (inputs_at frames (draws_after draws x) (index + 1) ds) d ds h (inputs_only frames (draws_after draws x) (index + 1) ds n.1))

-- ---- scripts

priority_back : (s : List ℕ) → IfSome (priority_named s) (λ p. s ≡ priority_name p)
unfolding priority_named
priority_back s =
    when s (codes "same") _ _ _ (λ e. e) (
    when s (codes "smooth") _ _ _ (λ e. e) (
    when s (codes "new") _ _ _ (λ e. e) (
    tt)))

priority_under : (x : Option Data) → IfSome (option_and_then priority_named (option_and_then as_str x)) (λ p. x ≡ Some (string (priority_name p)))
priority_under (Some (string s)) = weaker (priority_named s) _ _ (priority_back s) (λ p e. ap (λ (l : List ℕ). Some (string l)) e)
priority_under _ = tt

priority_found : (field : ℕ) (d : Data) → IfOk (priority_at field d) (λ p. get (codes "priority") d ≡ Some (string (priority_name p)))
unfolding priority_at
priority_found field d = or_fault_ok field (option_and_then priority_named (option_and_then as_str (get (codes "priority") d))) _ (priority_under (get (codes "priority") d))

-- the members that the head of a script was read from
record HasHead (d : Data) (h : Head) : Type 0 where
  version : get (codes "version") d ≡ Some (number_data h.version)
  viewport : get (codes "viewport") d ≡ Some (sides_data h.viewport.w h.viewport.h)
  tile : get (codes "tile") d ≡ Some (number_data h.tile)
  background : get (codes "background") d ≡ Some (opaque_data h.background)
  budget : get (codes "budget") d ≡ Some (number_data h.budget)
  raster_per_frame : get (codes "raster_per_frame") d ≡ Some (number_data h.raster_per_frame)
  soon : get (codes "soon") d ≡ Some (number_data h.soon)
  eventually : get (codes "eventually") d ≡ Some (number_data h.eventually)
  priority : get (codes "priority") d ≡ Some (string (priority_name h.priority))

head_found : (d : Data) → IsCanonical d → IfOk (head_at d) (HasHead d)
unfolding head_at
head_found d n =
    then_any (object_at d) _ _ (λ u.
    then_ok (number_at (codes "version") 1 2 1 d) _ (λ v. get (codes "version") d ≡ Some (number_data v)) _ (number_found (codes "version") 1 2 1 d n) (λ version h0.
    then_ok (sides_at (codes "viewport") (longest_side version) 2 d) _ (λ v. get (codes "viewport") d ≡ Some (sides_data v.w v.h)) _ (sides_found (codes "viewport") (longest_side version) 2 d n) (λ viewport h1.
    then_ok (number_at (codes "tile") 16 256 3 d) _ (λ v. get (codes "tile") d ≡ Some (number_data v)) _ (number_found (codes "tile") 16 256 3 d n) (λ tile h2.
    then_ok (opaque_at (codes "background") 4 d) _ (λ v. get (codes "background") d ≡ Some (opaque_data v)) _ (opaque_found (codes "background") 4 d n) (λ background h3.
    then_ok (number_at (codes "budget") 0 4096 5 d) _ (λ v. get (codes "budget") d ≡ Some (number_data v)) _ (number_found (codes "budget") 0 4096 5 d n) (λ budget h4.
    then_ok (number_at (codes "raster_per_frame") 0 4096 6 d) _ (λ v. get (codes "raster_per_frame") d ≡ Some (number_data v)) _ (number_found (codes "raster_per_frame") 0 4096 6 d n) (λ raster_per_frame h5.
    then_ok (number_at (codes "soon") 0 512 7 d) _ (λ v. get (codes "soon") d ≡ Some (number_data v)) _ (number_found (codes "soon") 0 512 7 d n) (λ soon h6.
    then_ok (number_at (codes "eventually") soon 512 8 d) _ (λ v. get (codes "eventually") d ≡ Some (number_data v)) _ (number_found (codes "eventually") soon 512 8 d n) (λ eventually h7.
    then_ok (priority_at 9 d) _ (λ v. get (codes "priority") d ≡ Some (string (priority_name v))) _ (priority_found 9 d) (λ priority h8.
    record { version = h0; viewport = h1; tile = h2; background = h3; budget = h4; raster_per_frame = h5; soon = h6; eventually = h7; priority = h8 }))))))))))

-- the lists of a script, and no more members
record HasLists (d : Data) (l : ScriptLists) : Type 0 where
  main : get (codes "main") d ≡ Some (array l.main)
  inputs : get (codes "inputs") d ≡ Some (array l.inputs)
  few : member_count (as_object d) ≤ 11

lists_found : (d : Data) → IsCanonical d → IfOk (lists_at d) (HasLists d)
unfolding lists_at
lists_found d n =
    then_ok (list_at (codes "main") 4096 10 d) _ (λ ds. get (codes "main") d ≡ Some (array ds)) _ (list_found (codes "main") 4096 10 d n) (λ main h0.
    then_ok (list_at (codes "inputs") 65536 11 d) _ (λ ds. get (codes "inputs") d ≡ Some (array ds)) _ (list_found (codes "inputs") 65536 11 d n) (λ inputs h1.
    then_ok (no_more_members 11 d) _ (λ u. member_count (as_object d) ≤ 11) _ (few_members 11 d) (λ u few.
    record { main = h0; inputs = h1; few = few })))

-- a list under a name whose elements are known
list_is : (key : List ℕ) (d : Data) (ds es : Items) → get key d ≡ Some (array ds) → ds ≡ es → get key d ≡ Some (array es)
list_is key d ds es h e = h ∙ ap (λ (l : Items). Some (array l)) e

parts_only : (d : Data) → IsCanonical d → IfOk (parts_at d) (λ s. d ≡ parts_data s)
unfolding parts_at parts_data main_data inputs_data
parts_only d n =
    then_ok (placed 0 0 (head_at d)) _ (HasHead d) _ (placed_ok 0 0 (head_at d) _ (head_found d n)) (λ head h.
    then_ok (placed 0 0 (lists_at d)) _ (HasLists d) _ (placed_ok 0 0 (lists_at d) _ (lists_found d n)) (λ lists l.
    then_ok (frames_at head.version 2 lists.main) _ (λ main. lists.main ≡ items_of (map frame_data main)) _
    (frames_only head.version 2 lists.main (canonical_found (codes "main") d (array lists.main) n l.main)) (λ main m.
    then_ok (inputs_at (length main) 0 0 lists.inputs) _ (λ inputs. lists.inputs ≡ items_of (map input_data inputs)) _
    (inputs_only (length main) 0 0 lists.inputs (canonical_found (codes "inputs") d (array lists.inputs) n l.inputs)) (λ inputs i.
    object_is _ _ _ d n refl l.few (h.background, (h.budget, (h.eventually, (list_is (codes "inputs") d lists.inputs _ l.inputs i, (list_is (codes "main") d lists.main _ l.main m, (h.priority, (h.raster_per_frame, (h.soon, (h.tile, (h.version, (h.viewport, tt)))))))))))))))

-- a script has one canonical value
pub one_value_of : (d : Data) (s : ScriptModel) → IsCanonical d → parts_at d ≡ Ok s → d ≡ parts_data s
one_value_of d s n e = subst (λ (r : Result ScriptModel ShapeFault). IfOk r (λ t. d ≡ parts_data t)) e (parts_only d n)
