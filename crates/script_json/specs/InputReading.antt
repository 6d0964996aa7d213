-- The inputs of a script.
use Rattle.std.specs.Prelude.{ℕ, ◌+◌, ℤ, pos, neg_ℤ, List, [], codes, nat_lt, Option, Some, None, option_and_then, Result, Ok, Err, ⊤, if◌then◌else◌}
use Rattle.std.specs.Str.{bytes_eq}
use Rattle.serde_json.specs.Data.{Data, Items, no_items, item}
use Rattle.serde_json.specs.Find.{get, as_str}
use Rattle.geom.specs.Limits.{max_id, max_draws, max_scroll}
use Rattle.model_history.specs.declared.input.Input.{Input}
use Rattle.model_history.specs.declared.input.Input.TheVariants.{Scroll, Wheel, Draw, Await, Settle}
use Rattle.script_fields.specs.declared.fault.FieldFault.{FieldFault}
use Rattle.script_fields.specs.Faults.{◌>>=◌, fault, or_fault}
use Rattle.script_fields.specs.Fields.{number_at, int_at, object_at, if_no_more}
use Rattle.script_json.specs.declared.fault.ShapeFault.{ShapeFault}
use Rattle.script_json.specs.declared.op.InputOp.{InputOp}
use Rattle.script_json.specs.declared.op.InputOp.TheVariants as op
use Rattle.script_json.specs.Faults.{placed, before_rest}

-- the input of this name; the one that a member `op` names, or a fault of field 0 if there is none
unfoldable pub input_named : List ℕ → Option InputOp
input_named s =
    if bytes_eq s (codes "scroll") then Some op.Scroll else
    (if bytes_eq s (codes "wheel") then Some op.Wheel else
    (if bytes_eq s (codes "draw") then Some op.Draw else
    (if bytes_eq s (codes "await") then Some op.Await else
    (if bytes_eq s (codes "settle") then Some op.Settle else None))))

unfoldable pub input_op_at : Data → Result InputOp FieldFault
input_op_at d = or_fault 0 (option_and_then input_named (option_and_then as_str (get (codes "op") d)))

-- one axis of a scroll or a wheel: at most 2^20 either way
unfoldable pub amount_at : List ℕ → ℕ → Data → Result ℤ FieldFault
amount_at key field d = int_at key (neg_ℤ (pos max_scroll)) (pos max_scroll) field d

-- a number that is not below `most` is a fault of the field
abbrev pub below : ℕ → ℕ → ℕ → Result ⊤ FieldFault
below most field n = if nat_lt n most then Ok tt else Err (fault field)

-- the fields of the input of this name, in their order, then further fields; after the given number of draws, in a script of the given number of main frames
unfoldable pub input_fields_at : ℕ → ℕ → InputOp → Data → Result Input FieldFault
input_fields_at frames draws op.Scroll d = do
  scroller ← number_at (codes "scroller") 1 max_id 1 d
  dx ← amount_at (codes "dx") 2 d
  dy ← amount_at (codes "dy") 3 d
  if_no_more 4 d (Scroll scroller dx dy)
input_fields_at frames draws op.Wheel d = do
  x ← number_at (codes "x") 0 2047 1 d
  y ← number_at (codes "y") 0 2047 2 d
  dx ← amount_at (codes "dx") 3 d
  dy ← amount_at (codes "dy") 4 d
  if_no_more 5 d (Wheel x y dx dy)
input_fields_at frames draws op.Draw d = do
  _ ← below max_draws 0 draws
  if_no_more 1 d Draw
input_fields_at frames draws op.Await d = do
  frame ← number_at (codes "frame") 0 4294967295 1 d
  _ ← below frames 1 frame
  if_no_more 2 d (Await frame)
input_fields_at frames draws op.Settle d = if_no_more 1 d Settle

-- an input: an object, its name, its fields; in a script of the given number of main frames, after the given number of draws
unfoldable pub input_at : ℕ → ℕ → Data → Result Input FieldFault
input_at frames draws d = do
  _ ← object_at d
  name ← input_op_at d
  input_fields_at frames draws name d

-- how many draws there are after this input; the inputs from the one at `index` on, after the given number of draws
abbrev pub draws_after : ℕ → Input → ℕ
draws_after draws Draw = draws + 1
draws_after draws _ = draws

abbrev pub inputs_at : ℕ → ℕ → ℕ → Items → Result (List Input) ShapeFault
inputs_at frames draws index no_items = Ok []
inputs_at frames draws index (item d ds) =
    placed 1 index (input_at frames draws d) >>= λ x. before_rest (Ok x) (inputs_at frames (draws_after draws x) (index + 1) ds)
