-- Inputs: what is printed reads back, and what is read is in the ranges.
use Rattle.std.proofs.Common.{◌≡◌, ℕ, suc, ◌+◌, ◌<◌, ◌≤◌, ℤ, pos, negsuc, List, [], ◌∷◌, length, map, true, false, nat_lt, Result, Ok, Err, IfOk, codes, lit<, if◌then◌else◌, refl, ap, arith}
use Rattle.std.proofs.lemmas.Bool.Decides.{nat_tests}
use Rattle.std.specs.List.{list_all}
use Rattle.serde_json.specs.Data.{Data, Items, no_items, item}
use Rattle.serde_json.specs.Events.{items_len}
use Rattle.serde_json.specs.View.{items_of}
use Rattle.model_history.specs.declared.input.Input.{Input}
use Rattle.model_history.specs.declared.input.Input.TheVariants.{Scroll, Wheel, Draw, Await, Settle}
use Rattle.model_history.specs.Ranges.{in_range, is_u32, is_amount, input_in_range, draw_count}
use Rattle.script_fields.specs.Faults.{fault}
use Rattle.script_fields.specs.Fields.{object_at, no_more_members, number_at, int_at}
use Rattle.script_fields.proofs.Again.{left, right, both, number_again, int_again}
use Rattle.script_fields.proofs.Fits.{then_ok, then_any, number_fits, int_fits}
use Rattle.script_json.specs.declared.fault.ShapeFault.{ShapeFault}
use Rattle.script_json.specs.declared.op.InputOp.{InputOp}
use Rattle.script_json.specs.declared.op.InputOp.TheVariants as op
use Rattle.script_json.specs.Faults.{placed, before_rest}
use Rattle.script_json.specs.InputReading.{input_named, input_op_at, amount_at, below, input_fields_at, input_at, draws_after, inputs_at}
use Rattle.script_json.specs.InputValues.{scroll_data, wheel_data, draw_data, await_data, settle_data, input_data}
use Rattle.script_json.proofs.CommandLaws.{placed_ok}

-- ---- what is printed reads back

scroll_again : (frames draws scroller : ℕ) (dx dy : ℤ) → input_in_range frames (Scroll scroller dx dy) ≡ true
    → input_at frames draws (scroll_data scroller dx dy) ≡ Ok (Scroll scroller dx dy)
unfolding input_at object_at input_op_at input_named input_fields_at scroll_data no_more_members number_at amount_at int_at
scroll_again frames draws scroller dx dy all =
    let h0 = left _ _ (left _ _ all) in
    let h1 = right _ _ (left _ _ all) in
    let h2 = right _ _ all in
    rw (number_again 1 65535 scroller h0)
    (rw (int_again (negsuc 1048575) 1048576 dx (lit< tt) h1)
    (rw (int_again (negsuc 1048575) 1048576 dy (lit< tt) h2) refl))

wheel_again : (frames draws x y : ℕ) (dx dy : ℤ) → input_in_range frames (Wheel x y dx dy) ≡ true
    → input_at frames draws (wheel_data x y dx dy) ≡ Ok (Wheel x y dx dy)
unfolding input_at object_at input_op_at input_named input_fields_at wheel_data no_more_members number_at amount_at int_at
wheel_again frames draws x y dx dy all =
    let h0 = left _ _ (left _ _ (left _ _ all)) in
    let h1 = right _ _ (left _ _ (left _ _ all)) in
    let h2 = right _ _ (left _ _ all) in
    let h3 = right _ _ all in
    rw (number_again 0 2047 x h0)
    (rw (number_again 0 2047 y h1)
    (rw (int_again (negsuc 1048575) 1048576 dx (lit< tt) h2)
    (rw (int_again (negsuc 1048575) 1048576 dy (lit< tt) h3) refl)))

draw_again : (frames draws : ℕ) → draws < 4096 → input_at frames draws draw_data ≡ Ok Draw
unfolding input_at object_at input_op_at input_named input_fields_at draw_data no_more_members
draw_again frames draws few =
    let e : nat_lt draws 4096 ≡ true = grind (arith, nat_tests) in
    rw e refl

await_again : (frames draws frame : ℕ) → input_in_range frames (Await frame) ≡ true
    → input_at frames draws (await_data frame) ≡ Ok (Await frame)
unfolding input_at object_at input_op_at input_named input_fields_at await_data no_more_members number_at
await_again frames draws frame all =
    let h0 = left (is_u32 frame) (nat_lt frame frames) all in
    let h1 : nat_lt frame frames ≡ true = right (is_u32 frame) (nat_lt frame frames) all in
    rw (number_again 0 4294967295 frame h0) (rw h1 refl)

settle_again : (frames draws : ℕ) → input_at frames draws settle_data ≡ Ok Settle
unfolding input_at object_at input_op_at input_named input_fields_at settle_data no_more_members
settle_again frames draws = refl

pub inputs_again : (frames draws index : ℕ) (xs : List Input) → list_all (input_in_range frames) xs ≡ true → draws + draw_count xs ≤ 4096
    → inputs_at frames draws index (items_of (map input_data xs)) ≡ Ok xs
inputs_again frames draws index [] all few = refl
inputs_again frames draws index (Scroll scroller dx dy ∷ xs) all few =
    let first = left _ _ all in
    let others = right _ _ all in
    rw (scroll_again frames draws scroller dx dy first)
    (rw (inputs_again frames draws (index + 1) xs others few) refl)
inputs_again frames draws index (Wheel x y dx dy ∷ xs) all few =
    let first = left _ _ all in
    let others = right _ _ all in
    rw (wheel_again frames draws x y dx dy first)
    (rw (inputs_again frames draws (index + 1) xs others few) refl)
inputs_again frames draws index (Draw ∷ xs) all few =
    rw (draw_again frames draws (omega arith))
    (rw (inputs_again frames (draws + 1) (index + 1) xs all (omega arith)) refl)
inputs_again frames draws index (Await frame ∷ xs) all few =
    let first = left _ _ all in
    let others = right _ _ all in
    rw (await_again frames draws frame first)
    (rw (inputs_again frames draws (index + 1) xs others few) refl)
inputs_again frames draws index (Settle ∷ xs) all few =
    rw (settle_again frames draws)
    (rw (inputs_again frames draws (index + 1) xs all few) refl)

-- ---- what is read is in the ranges

-- an input in its range that leaves at most 4096 draws
pub record Fits (frames draws : ℕ) (x : Input) : Type 0 where
  pub in_range : input_in_range frames x ≡ true
  pub few : draws_after draws x ≤ 4096

amount_fits : (key : List ℕ) (field : ℕ) (d : Data) → IfOk (amount_at key field d) (λ z. is_amount z ≡ true)
unfolding amount_at
amount_fits key field d = int_fits key (negsuc 1048575) (pos 1048576) field d

scroll_fits : (frames draws : ℕ) (d : Data) → draws ≤ 4096 → IfOk (input_fields_at frames draws op.Scroll d) (Fits frames draws)
unfolding input_fields_at
scroll_fits frames draws d few =
    then_ok (number_at (codes "scroller") 1 65535 1 d) _ (λ n. in_range 1 65535 n ≡ true) _ (number_fits (codes "scroller") 1 65535 1 d) (λ scroller h0.
    then_ok (amount_at (codes "dx") 2 d) _ (λ z. is_amount z ≡ true) _ (amount_fits (codes "dx") 2 d) (λ dx h1.
    then_ok (amount_at (codes "dy") 3 d) _ (λ z. is_amount z ≡ true) _ (amount_fits (codes "dy") 3 d) (λ dy h2.
    then_any (no_more_members 4 d) _ _ (λ u. record { in_range = both _ _ (both _ _ h0 h1) h2; few = few }))))

wheel_fits : (frames draws : ℕ) (d : Data) → draws ≤ 4096 → IfOk (input_fields_at frames draws op.Wheel d) (Fits frames draws)
unfolding input_fields_at
wheel_fits frames draws d few =
    then_ok (number_at (codes "x") 0 2047 1 d) _ (λ n. in_range 0 2047 n ≡ true) _ (number_fits (codes "x") 0 2047 1 d) (λ x h0.
    then_ok (number_at (codes "y") 0 2047 2 d) _ (λ n. in_range 0 2047 n ≡ true) _ (number_fits (codes "y") 0 2047 2 d) (λ y h1.
    then_ok (amount_at (codes "dx") 3 d) _ (λ z. is_amount z ≡ true) _ (amount_fits (codes "dx") 3 d) (λ dx h2.
    then_ok (amount_at (codes "dy") 4 d) _ (λ z. is_amount z ≡ true) _ (amount_fits (codes "dy") 4 d) (λ dy h3.
    then_any (no_more_members 5 d) _ _ (λ u. record { in_range = both _ _ (both _ _ (both _ _ h0 h1) h2) h3; few = few })))))

below_fits : (most field n : ℕ) → IfOk (below most field n) (λ u. nat_lt n most ≡ true)
below_fits most field n =
    elim (nat_lt n most) as (λ b. nat_lt n most ≡ b → IfOk (if b then Ok tt else Err (fault field)) (λ u. nat_lt n most ≡ true))
    [ true ↦ λ e. e | false ↦ λ e. tt ] refl

draw_fits : (frames draws : ℕ) (d : Data) → IfOk (input_fields_at frames draws op.Draw d) (Fits frames draws)
unfolding input_fields_at
draw_fits frames draws d =
    then_ok (below 4096 0 draws) _ (λ u. nat_lt draws 4096 ≡ true) _ (below_fits 4096 0 draws) (λ u h.
    then_any (no_more_members 1 d) _ _ (λ v. record { in_range = refl; few = grind (arith, nat_tests) }))

await_fits : (frames draws : ℕ) (d : Data) → draws ≤ 4096 → IfOk (input_fields_at frames draws op.Await d) (Fits frames draws)
unfolding input_fields_at
await_fits frames draws d few =
    then_ok (number_at (codes "frame") 0 4294967295 1 d) _ (λ n. is_u32 n ≡ true) _ (number_fits (codes "frame") 0 4294967295 1 d) (λ n h0.
    then_ok (below frames 1 n) _ (λ u. nat_lt n frames ≡ true) _ (below_fits frames 1 n) (λ u h1.
    then_any (no_more_members 2 d) _ _ (λ v. record { in_range = both _ _ h0 h1; few = few })))

settle_fits : (frames draws : ℕ) (d : Data) → draws ≤ 4096 → IfOk (input_fields_at frames draws op.Settle d) (Fits frames draws)
unfolding input_fields_at
settle_fits frames draws d few = then_any (no_more_members 1 d) _ _ (λ u. record { in_range = refl; few = few })

input_fields_fits : (frames draws : ℕ) (o : InputOp) (d : Data) → draws ≤ 4096 → IfOk (input_fields_at frames draws o d) (Fits frames draws)
input_fields_fits frames draws op.Scroll d few = scroll_fits frames draws d few
input_fields_fits frames draws op.Wheel d few = wheel_fits frames draws d few
input_fields_fits frames draws op.Draw d few = draw_fits frames draws d
input_fields_fits frames draws op.Await d few = await_fits frames draws d few
input_fields_fits frames draws op.Settle d few = settle_fits frames draws d few

input_fits : (frames draws : ℕ) (d : Data) → draws ≤ 4096 → IfOk (input_at frames draws d) (Fits frames draws)
unfolding input_at
input_fits frames draws d few =
    then_any (object_at d) _ _ (λ u. then_any (input_op_at d) _ _ (λ o. input_fields_fits frames draws o d few))

-- inputs in their ranges, with at most 4096 draws after the given number
pub record AllFit (frames draws n : ℕ) (xs : List Input) : Type 0 where
  pub in_range : list_all (input_in_range frames) xs ≡ true
  pub few : draws + draw_count xs ≤ 4096
  pub count : length xs ≡ n

more_fits : (frames draws n : ℕ) (x : Input) (xs : List Input) → Fits frames draws x → AllFit frames (draws_after draws x) n xs
    → AllFit frames draws (suc n) (x ∷ xs)
more_fits frames draws n (Scroll scroller dx dy) xs h k = record { in_range = both _ _ h.in_range k.in_range; few = k.few; count = ap suc k.count }
more_fits frames draws n (Wheel x y dx dy) xs h k = record { in_range = both _ _ h.in_range k.in_range; few = k.few; count = ap suc k.count }
more_fits frames draws n Draw xs h k = record { in_range = both _ _ h.in_range k.in_range; few = omega (arith, k.few); count = ap suc k.count }
more_fits frames draws n (Await frame) xs h k = record { in_range = both _ _ h.in_range k.in_range; few = k.few; count = ap suc k.count }
more_fits frames draws n Settle xs h k = record { in_range = both _ _ h.in_range k.in_range; few = k.few; count = ap suc k.count }

rest_fits : (frames draws n : ℕ) (x : Input) (rest : Result (List Input) ShapeFault) → Fits frames draws x
    → IfOk rest (AllFit frames (draws_after draws x) n) → IfOk (before_rest (Ok x) rest) (AllFit frames draws (suc n))
rest_fits frames draws n x (Ok xs) h k = more_fits frames draws n x xs h k
rest_fits frames draws n x (Err e) h k = tt

pub inputs_fits : (frames draws index : ℕ) (ds : Items) → draws ≤ 4096
    → IfOk (inputs_at frames draws index ds) (AllFit frames draws (items_len ds))
inputs_fits frames draws index no_items few = record { in_range = refl; few = omega arith; count = refl }
inputs_fits frames draws index (item d ds) few =
    then_ok (placed 1 index (input_at frames draws d)) _ (Fits frames draws) _
    (placed_ok 1 index (input_at frames draws d) _ (input_fits frames draws d few)) (λ x h.
    rest_fits frames draws (items_len ds) x (inputs_at frames (draws_after draws x) (index + 1) ds) h
    (inputs_fits frames (draws_after draws x) (index + 1) ds h.few))
