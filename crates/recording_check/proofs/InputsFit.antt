-- The inputs of a playable script: how many there are, and which scrollers and amounts they name.
use Rattle.std.proofs.Common.{◌≡◌, ℕ, zero, suc, ◌<◌, ◌≤◌, ◌&&◌, Bool, true, Some, List, [], ◌∷◌, length, subst, arith}
use Rattle.std.specs.Prelude.{ℤ, pos, neg_ℤ, ◌^◌, slice_get, nat_le, int_le}
use Rattle.std.specs.List.{list_all}
use Rattle.std.proofs.lemmas.Bool.Decides.{nat_tests}
use Rattle.std.proofs.lemmas.Int.{ints}
use Rattle.model_history.specs.declared.input.Input.{Input}
use Rattle.model_history.specs.declared.input.Input.TheVariants as input
use Rattle.model_history.specs.Accepted.{IsPlayable}
use Rattle.model_history.specs.Ranges.{in_range, input_in_range, is_amount}
use Rattle.model_history.specs.Scripts.{ScriptModel}
use Rattle.model_history.proofs.BoolFacts.{and_left, and_right}
use Rattle.recording_check.proofs.MovesFit.{IsAmount}

-- an input of a list stands before its end, and passes what all pass
input_at : (p : Input → Bool) (xs : List Input) (i : ℕ) (x : Input) → list_all p xs ≡ true → slice_get xs i ≡ Some x → (i < length xs) × (p x ≡ true)
input_at p [] i x all e = absurd cc
input_at p (y ∷ ys) zero x all e = let same : y ≡ x = cc in (omega arith, subst (λ (z : Input). p z ≡ true) same (and_left (p y) (list_all p ys) all))
input_at p (y ∷ ys) (suc i) x all e = let r = input_at p ys i x (and_right (p y) (list_all p ys) all) e in (omega (arith, r.0), r.1)

at_most : (n m : ℕ) → nat_le n m ≡ true → n ≤ m
at_most n m e = grind (arith, nat_tests, e)

-- an input that is there can be counted in 32 bits, and its numbers are in their ranges
pub input_there : (s : ScriptModel) → IsPlayable s → (i : ℕ) (x : Input) → slice_get s.inputs i ≡ Some x → (i < 2 ^ 32) × (input_in_range (length s.main) x ≡ true)
input_there s playable i x e =
    let r = input_at (input_in_range (length s.main)) s.inputs i x playable.inputs e in
    let few = playable.few_inputs in
    (omega (arith, r.0, few), r.1)

ranged : (low high n : ℕ) → in_range low high n ≡ true → n ≤ high
ranged low high n t = at_most n high (and_right (nat_le low n) (nat_le n high) t)

amount_is : (z : ℤ) → is_amount z ≡ true → IsAmount z
amount_is z t =
    let low = and_left (int_le (neg_ℤ (pos 1048576)) z) (int_le z (pos 1048576)) t in
    let high = and_right (int_le (neg_ℤ (pos 1048576)) z) (int_le z (pos 1048576)) t in
    record { low = grind (arith, ints, low); high = grind (arith, ints, high) }

pub scroll_ranges : (frames sc : ℕ) (dx dy : ℤ) → input_in_range frames (input.Scroll sc dx dy) ≡ true → (sc ≤ 65535) × IsAmount dx × IsAmount dy
scroll_ranges frames sc dx dy t =
    let a = in_range 1 65535 sc in
    let b = is_amount dx in
    let c = is_amount dy in
    let two : a && b ≡ true = and_left (a && b) c t in
    (ranged 1 65535 sc (and_left a b two), amount_is dx (and_right a b two), amount_is dy (and_right (a && b) c t))

pub wheel_ranges : (frames x y : ℕ) (dx dy : ℤ) → input_in_range frames (input.Wheel x y dx dy) ≡ true → IsAmount dx × IsAmount dy
wheel_ranges frames x y dx dy t =
    let a = in_range 0 2047 x in
    let b = in_range 0 2047 y in
    let c = is_amount dx in
    let d = is_amount dy in
    let three : a && b && c ≡ true = and_left (a && b && c) d t in
    (amount_is dx (and_right (a && b) c three), amount_is dy (and_right (a && b && c) d t))
