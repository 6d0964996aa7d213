-- What the ranges of a script's numbers say of its view and its lists, and that an accepted script can be played.
use Rattle.std.proofs.Common.{◌≡◌, ℕ, zero, suc, ◌≤◌, ◌<◌, ◌-◌, ◌^◌, List, [], ◌∷◌, Bool, true, false, ◌&&◌, nat_le, nat_lt, length, get_or, refl, arith}
use Rattle.std.proofs.lemmas.Bool.Decides.{nat_tests}
use Rattle.page_layers.specs.declared.command.Command.{Command}
use Rattle.page_layers.specs.Pages.{IsView}
use Rattle.model_history.specs.Scripts.{ScriptModel}
use Rattle.model_history.specs.Ranges.{in_range, longest_side, head_in_range, is_in_ranges, are_short}
use Rattle.model_history.specs.Accepted.{IsAccepted, IsPlayable}

left : (a b : Bool) → (a && b) ≡ true → a ≡ true
left true b h = refl
left false b h = h

right : (a b : Bool) → (a && b) ≡ true → b ≡ true
right true b h = h
right false b h = absurd (grind arith)

at_least : (low high n : ℕ) → in_range low high n ≡ true → low ≤ n
at_least low high n h = let e : nat_le low n ≡ true = left (nat_le low n) (nat_le n high) h in grind (arith, nat_tests)

at_most : (low high n : ℕ) → in_range low high n ≡ true → n ≤ high
at_most low high n h = let e : nat_le n high ≡ true = right (nat_le low n) (nat_le n high) h in grind (arith, nat_tests)

longest : (version : ℕ) → longest_side version ≤ 2048
longest version = grind (arith, nat_tests)

under : (n side : ℕ) → n ≤ side → side ≤ 2048 → n ≤ 2048
under n side h most = omega arith

-- the view of a script whose head is in its ranges
pub has_view : (s : ScriptModel) → head_in_range s ≡ true → IsView (record { w = s.viewport_w; h = s.viewport_h; tile = s.tile })
has_view s head =
    let h7 = left _ _ head in
    let h6 = left _ _ h7 in
    let h5 = left _ _ h6 in
    let h4 = left _ _ h5 in
    let h3 = left _ _ h4 in
    let h2 = left _ _ h3 in
    let h1 = left _ _ h2 in
    let most = longest s.version in
    let w : s.viewport_w ≤ longest_side s.version = at_most 1 (longest_side s.version) s.viewport_w (right _ _ h1) in
    let h : s.viewport_h ≤ longest_side s.version = at_most 1 (longest_side s.version) s.viewport_h (right _ _ h2) in
    record {
      w_low = at_least 1 (longest_side s.version) s.viewport_w (right _ _ h1);
      w_high = under s.viewport_w (longest_side s.version) w most;
      h_low = at_least 1 (longest_side s.version) s.viewport_h (right _ _ h2);
      h_high = under s.viewport_h (longest_side s.version) h most;
      tile_low = at_least 16 256 s.tile (right _ _ h3);
      tile_high = at_most 16 256 s.tile (right _ _ h3);
    }

pub has_head : (s : ScriptModel) → is_in_ranges s ≡ true → head_in_range s ≡ true
unfolding is_in_ranges
has_head s all = left _ _ (left _ _ all)

few : (n : ℕ) → nat_le n 4096 ≡ true → n ≤ 4096
few n h = grind (arith, nat_tests)

-- it has at most 4096 main frames
pub has_few_frames : (s : ScriptModel) → is_in_ranges s ≡ true → length s.main ≤ 4096
unfolding is_in_ranges
has_few_frames s all =
    few (length s.main) (left (nat_le (length s.main) 4096) _ (right _ _ (left _ _ all)))

few_enough : (n most : ℕ) → nat_le n most ≡ true → most ≤ 65536 → n < 2 ^ 32 - 1
few_enough n most h l = let e : n ≤ most = grind (arith, nat_tests) in omega (arith, e, l)

-- a script that the format can say can be played
pub playable : (s : ScriptModel) → IsAccepted s → IsPlayable s
unfolding is_in_ranges
playable s is =
    let frames : 4096 ≤ 65536 = omega arith in
    let all : 65536 ≤ 65536 = omega arith in
    let main = right _ _ (left _ _ is.ranges) in
    let inputs = left _ _ (right _ _ is.ranges) in
    record {
      head = has_head s is.ranges;
      few_frames = few_enough (length s.main) 4096 (left _ _ main) frames;
      few_inputs = few_enough (length s.inputs) 65536 (left _ _ inputs) all;
      inputs = right _ _ inputs;
      commands = is.commands;
    }

-- each main frame of short ones is short
pub frame_is_short : (frames : List (List Command)) (i : ℕ) (d : List Command) → i < length frames → are_short frames ≡ true → length (get_or frames i d) < 4294967296
frame_is_short [] i d lt h = absurd (omega arith)
frame_is_short (f ∷ fs) zero d lt h = let e : nat_lt (length f) 4294967296 ≡ true = left _ (are_short fs) h in grind (arith, nat_tests)
frame_is_short (f ∷ fs) (suc i) d lt h = frame_is_short fs i d (omega arith) (right _ _ h)
