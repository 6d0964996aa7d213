-- A script that is asked for its picture is one that the format can say.
use Rattle.std.proofs.Common.{◌≡◌, ℕ, zero, suc, ◌<◌, ◌≤◌, ◌^◌, nat_lt, true, ◌&&◌, List, [], ◌∷◌, length, refl, ap, sym, ◌∙◌, arith}
use Rattle.std.specs.Prelude.{nat_le, Bool}
use Rattle.std.proofs.lemmas.Bool.Decides.{nat_tests}
use Rattle.std.proofs.lemmas.List.{length-map}
use Rattle.model_history.specs.declared.input.Input.{Input}
use Rattle.model_history.specs.declared.script_parts.ScriptParts.{ScriptParts}
use Rattle.model_history.specs.Accepted.{IsAccepted}
use Rattle.model_history.specs.Ranges.{is_in_ranges, head_in_range, main_in_range, inputs_in_range}
use Rattle.model_history.specs.Scripts.{ScriptModel, script_of}
use Rattle.model_history.proofs.BoolFacts.{and_left, and_right, and_both}
use Rattle.model_history.proofs.Ranged.{has_few_frames}
use Rattle.player_uses.specs.Shots.{shot_inputs, with_inputs, with_shot}

-- inputs that ask for a picture are in their ranges
asked_inputs : (frames : ℕ) (inputs : List Input) → frames ≤ 4096 → inputs_in_range frames inputs ≡ true → inputs_in_range frames (shot_inputs frames inputs) ≡ true
asked_inputs frames (i ∷ is) few fits = fits
asked_inputs zero [] few fits = refl
asked_inputs (suc last) [] few fits =
    let least : nat_le 0 last ≡ true = grind (arith, nat_tests) in
    let small : nat_le last 4294967295 ≡ true = grind (arith, nat_tests) in
    let below : nat_lt last (suc last) ≡ true = grind (arith, nat_tests) in
    rw least (rw small (rw below refl))

pub asked_fits : (s : ScriptModel) → is_in_ranges s ≡ true → is_in_ranges (with_shot s) ≡ true
unfolding is_in_ranges
asked_fits s fits =
    let head : Bool = head_in_range s && main_in_range s.version s.main in
    let inputs : Bool = inputs_in_range (length s.main) s.inputs in
    and_both head (inputs_in_range (length s.main) (shot_inputs (length s.main) s.inputs)) (and_left head inputs fits)
    (asked_inputs (length s.main) s.inputs (has_few_frames s fits) (and_right head inputs fits))

-- ---- parts

-- there are as many main frames as the parts have
frames_of : (p : ScriptParts) → length (script_of p).main ≡ length p.main.items
frames_of p = length-map p.main.items (λ frame. frame.items)

pub count_fits : (p : ScriptParts) (n : ℕ) → is_in_ranges (script_of p) ≡ true → n ≡ length p.main.items → n < 2 ^ 32
count_fits p n fits is =
    let few : length (script_of p).main ≤ 4096 = has_few_frames (script_of p) fits in
    omega (arith, few, frames_of p, is)

-- the parts with the inputs that were asked for
pub asked_parts : (p : ScriptParts) (n : ℕ) (inputs : List Input) → n ≡ length p.main.items → inputs ≡ shot_inputs n p.inputs.items → with_inputs inputs (script_of p) ≡ with_shot (script_of p)
asked_parts p n inputs is asked =
    ap (λ (xs : List Input). with_inputs xs (script_of p)) (asked ∙ ap (λ (k : ℕ). shot_inputs k p.inputs.items) (is ∙ sym (frames_of p)))

-- a script is accepted where it is asked for its picture
pub said_accepted : (s : ScriptModel) → is_in_ranges s ≡ true → IsAccepted (with_shot s) → IsAccepted s
said_accepted s fits accepted = record { ranges = fits; commands = accepted.commands }
