-- All numbers of a made script are in their ranges.
use Rattle.std.proofs.Common.{◌≡◌, ℕ, zero, suc, ◌+◌, ◌/◌, ◌%◌, ◌^◌, ◌==◌, ◌<◌, ◌≤◌, pos, negsuc, ◌-ℤ◌, Bool, true, false, cond, ◌&&◌, nat_le, nat_lt, int_le, List, [], ◌∷◌, ◌++◌, length, refl, ◌∙◌, ap, arith}
use Rattle.std.specs.List.{list_all}
use Rattle.std.proofs.lemmas.Bool.Decides.{nat_tests}
use Rattle.std.proofs.lemmas.Int.{ints}
use Rattle.std.proofs.lemmas.Nat.{mod_below}
use Rattle.tile_priority.specs.declared.tree_priority.TreePriority.{TreePriority}
use Rattle.page_layers.specs.declared.command.Command.{Command}
use Rattle.page_layers.specs.declared.command.Command.TheVariants as command
use Rattle.model_history.specs.declared.input.Input.{Input}
use Rattle.model_history.specs.declared.input.Input.TheVariants as input
use Rattle.model_history.specs.Ranges.{is_u32, is_signed, is_amount, item_in_range, command_in_range, input_in_range, draw_count, is_in_ranges, are_short}
use Rattle.model_history.proofs.BoolFacts.{and_left}
use Rattle.script_generator.specs.Draws.{after_draws, given, drawn}
use Rattle.script_generator.specs.Generated.{drawn_item, page_commands, inserts, later_frame, later_frames, is_empty_frame, frame_draws, after_frames, drawn_input, input_draws, drawn_inputs, frames, script_after}

is_le : (a b : ℕ) → a ≤ b → nat_le a b ≡ true
is_le a b l = grind (arith, nat_tests)

both : (a b : Bool) → a ≡ true → b ≡ true → a && b ≡ true
both a b p q = λ i. p i && q i

-- a drawn number is below its count
pub below : (x n k : ℕ) → 0 < k → drawn x n k < k
unfolding given
below x n k l = mod_below (after_draws x (suc n) / 2 ^ 33) k l

fits : (n : ℕ) → n ≤ 4294967295 → is_u32 n ≡ true
fits n l = both (nat_le 0 n) (nat_le n 4294967295) (is_le 0 n (omega arith)) (is_le n 4294967295 l)

signed : (n : ℕ) → n ≤ 100000 → is_signed (pos n) ≡ true
signed n l = is_le n 2147483647 (omega (arith, l))

byte : (x n : ℕ) → nat_le (drawn x n 256) 255 ≡ true
byte x n = let l = below x n 256 (omega arith) in is_le (drawn x n 256) 255 (omega (arith, l))

-- ---- commands

item_fits : (x : ℕ) → item_in_range (drawn_item x) ≡ true
unfolding drawn_item
item_fits x =
    let a = below x 0 240 (omega arith) in
    let b = below x 1 2160 (omega arith) in
    let c = below x 2 60 (omega arith) in
    let d = below x 3 60 (omega arith) in
    let p = signed (drawn x 0 240) (omega (arith, a)) in
    let q = signed (drawn x 1 2160) (omega (arith, b)) in
    let r = signed (8 + drawn x 2 60) (omega (arith, c)) in
    let t = signed (8 + drawn x 3 60) (omega (arith, d)) in
    λ i. (p i && q i && r i && t i) && (byte x 4 i && byte x 5 i && byte x 6 i && true)

insert_fits : (x at : ℕ) → at ≤ 4294967295 → command_in_range 1 (command.InsertItem (record { layer = 1; at = at; item = (drawn_item x) })) ≡ true
insert_fits x at l = let p = fits at l in let q = item_fits x in λ i. true && p i && q i

inserts_fit : (x at n : ℕ) → at + n ≤ 4294967295 → list_all (command_in_range 1) (inserts x at n) ≡ true
unfolding inserts
inserts_fit x at zero l = refl
inserts_fit x at (suc n) l =
    both (command_in_range 1 (command.InsertItem (record { layer = 1; at = at; item = (drawn_item x) }))) (list_all (command_in_range 1) (inserts (after_draws x 7) (suc at) n))
    (insert_fits x at (omega (arith, l))) (inserts_fit (after_draws x 7) (suc at) n (omega (arith, l)))

later_fits : (k x : ℕ) → list_all (command_in_range 1) (later_frame k x) ≡ true
unfolding later_frame
later_fits k x = by_kind (is_empty_frame k) (k % 2 == 1)
  where
    at_fits : is_u32 (drawn x 0 200) ≡ true
    at_fits = let l = below x 0 200 (omega arith) in fits (drawn x 0 200) (omega (arith, l))

    by_fits : is_signed (pos (drawn x 0 40)) ≡ true
    by_fits = let l = below x 0 40 (omega arith) in signed (drawn x 0 40) (omega (arith, l))

    by_kind : (b c : Bool) → list_all (command_in_range 1) (cond b [] (cond c (command.ReplaceItem (record { layer = 1; at = (drawn x 0 200); item = (drawn_item (after_draws x 1)) }) ∷ []) (command.ScrollBy (record { id = 1; dx = (pos 0); dy = (pos (drawn x 0 40)) }) ∷ []))) ≡ true
    by_kind true c = refl
    by_kind false true = let q = item_fits (after_draws x 1) in λ i. (true && at_fits i && q i) && true
    by_kind false false = λ i. (true && true && by_fits i) && true

later_frames_fit : (x k n : ℕ) → list_all (list_all (command_in_range 1)) (later_frames x k n) ≡ true
unfolding later_frames
later_frames_fit x k zero = refl
later_frames_fit x k (suc n) =
    both (list_all (command_in_range 1) (later_frame k x)) (list_all (list_all (command_in_range 1)) (later_frames (after_draws x (frame_draws k)) (suc k) n))
    (later_fits k x) (later_frames_fit (after_draws x (frame_draws k)) (suc k) n)

later_count : (x k n : ℕ) → length (later_frames x k n) ≡ n
unfolding later_frames
later_count x k zero = refl
later_count x k (suc n) = ap suc (later_count (after_draws x (frame_draws k)) (suc k) n)

-- ---- inputs

amount_fits : (n : ℕ) → n < 401 → is_amount (pos n -ℤ pos 200) ≡ true
amount_fits n l =
    let low : int_le (negsuc 1048575) (pos n -ℤ pos 200) ≡ true = grind (arith, ints) in
    let high : int_le (pos n -ℤ pos 200) (pos 1048576) ≡ true = grind (arith, ints) in
    both (int_le (negsuc 1048575) (pos n -ℤ pos 200)) (int_le (pos n -ℤ pos 200) (pos 1048576)) low high

input_fits : (x : ℕ) → input_in_range 21 (drawn_input x) ≡ true
unfolding drawn_input
input_fits x = by_kind (drawn x 0 4 == 0)
  where
    by_kind : (b : Bool) → input_in_range 21 (cond b (input.Scroll 1 (pos 0) (pos (drawn x 1 401) -ℤ pos 200)) input.Draw) ≡ true
    by_kind true = let p = amount_fits (drawn x 1 401) (below x 1 401 (omega arith)) in λ i. true && true && p i
    by_kind false = refl

abbrev with_end : List Input → List Input
with_end is = is ++ input.Settle ∷ input.Draw ∷ []

inputs_fit : (x n : ℕ) → list_all (input_in_range 21) (with_end (drawn_inputs x n)) ≡ true
unfolding drawn_inputs
inputs_fit x zero = refl
inputs_fit x (suc n) =
    both (input_in_range 21 (drawn_input x)) (list_all (input_in_range 21) (with_end (drawn_inputs (after_draws x (input_draws x)) n))) (input_fits x) (inputs_fit (after_draws x (input_draws x)) n)

input_count : (x n : ℕ) → length (with_end (drawn_inputs x n)) ≡ suc (suc n)
unfolding drawn_inputs
input_count x zero = refl
input_count x (suc n) = ap suc (input_count (after_draws x (input_draws x)) n)

one_draw : (x : ℕ) (is : List Input) → draw_count (drawn_input x ∷ is) ≤ suc (draw_count is)
unfolding drawn_input
one_draw x is = by_kind (drawn x 0 4 == 0)
  where
    by_kind : (b : Bool) → draw_count (cond b (input.Scroll 1 (pos 0) (pos (drawn x 1 401) -ℤ pos 200)) input.Draw ∷ is) ≤ suc (draw_count is)
    by_kind true = omega arith
    by_kind false = omega arith

few_draws : (x n : ℕ) → draw_count (with_end (drawn_inputs x n)) ≤ suc n
unfolding drawn_inputs
few_draws x zero = omega arith
few_draws x (suc n) =
    let rest = few_draws (after_draws x (input_draws x)) n in
    let one = one_draw x (with_end (drawn_inputs (after_draws x (input_draws x)) n)) in
    omega (arith, rest, one)

-- ---- the whole

pub in_ranges : (p : TreePriority) (x : ℕ) → is_in_ranges (script_after p x) ≡ true
unfolding is_in_ranges
in_ranges p x =
    let y = after_frames (after_draws x 1400) 1 20 in
    let z = after_draws x 1400 in
    let few : length (later_frames z 1 20) ≡ 20 = later_count z 1 20 in
    let count : length (with_end (drawn_inputs y 200)) ≡ 202 = input_count y 200 in
    let draws = few_draws y 200 in
    let a : nat_le (suc (length (later_frames z 1 20))) 4096 ≡ true = ap (λ (n : ℕ). nat_le (suc n) 4096) few in
    let b = inserts_fit x 0 200 (omega arith) in
    let c = later_frames_fit z 1 20 in
    let d : nat_le (suc (length (with_end (drawn_inputs y 200)))) 65536 ≡ true = ap (λ (n : ℕ). nat_le (suc n) 65536) count in
    let e : input_in_range (suc (length (later_frames z 1 20))) (input.Await 0) ≡ true = ap (λ (n : ℕ). input_in_range (suc n) (input.Await 0)) few in
    let f : list_all (input_in_range (suc (length (later_frames z 1 20)))) (with_end (drawn_inputs y 200)) ≡ true = ap (λ (n : ℕ). list_all (input_in_range (suc n)) (with_end (drawn_inputs y 200))) few ∙ inputs_fit y 200 in
    let g = is_le (draw_count (with_end (drawn_inputs y 200))) 4096 (omega (arith, draws)) in
    λ i. true && (a i && (b i && c i)) && (d i && (e i && f i) && g i)

-- no frame has 2^32 commands
inserts_count : (x at n : ℕ) → length (inserts x at n) ≡ n
unfolding inserts
inserts_count x at zero = refl
inserts_count x at (suc n) = ap suc (inserts_count (after_draws x 7) (suc at) n)

abbrev is_short : List Command → Bool
is_short frame = are_short (frame ∷ [])

one_short : (k x : ℕ) → is_short (later_frame k x) ≡ true
unfolding later_frame
one_short k x = by_kind (is_empty_frame k) (k % 2 == 1)
  where
    by_kind : (b c : Bool) → is_short (cond b [] (cond c (command.ReplaceItem (record { layer = 1; at = (drawn x 0 200); item = (drawn_item (after_draws x 1)) }) ∷ []) (command.ScrollBy (record { id = 1; dx = (pos 0); dy = (pos (drawn x 0 40)) }) ∷ []))) ≡ true
    by_kind true c = refl
    by_kind false true = refl
    by_kind false false = refl

later_short : (x k n : ℕ) → are_short (later_frames x k n) ≡ true
unfolding later_frames
later_short x k zero = refl
later_short x k (suc n) =
    let one = one_short k x in
    let rest = later_short (after_draws x (frame_draws k)) (suc k) n in
    both (nat_lt (length (later_frame k x)) 4294967296) (are_short (later_frames (after_draws x (frame_draws k)) (suc k) n)) (and_left (nat_lt (length (later_frame k x)) 4294967296) true one) rest

pub short : (x : ℕ) → are_short (frames x) ≡ true
short x =
    let count : length (inserts x 0 200) ≡ 200 = inserts_count x 0 200 in
    let first : nat_lt (length (page_commands ++ inserts x 0 200)) 4294967296 ≡ true = ap (λ (n : ℕ). nat_lt (suc (suc (suc (suc (suc (suc (suc n))))))) 4294967296) count in
    both (nat_lt (length (page_commands ++ inserts x 0 200)) 4294967296) (are_short (later_frames (after_draws x 1400) 1 20)) first (later_short (after_draws x 1400) 1 20)
