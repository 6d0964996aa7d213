-- A script that grows stays in the format's ranges, and is accepted.
use Rattle.std.proofs.Common.{◌≡◌, ℕ, zero, suc, ◌+◌, ◌≤◌, nat_lt, nat_le, Bool, true, false, ◌&&◌, List, [], ◌∷◌, ◌++◌, length, slice_index_or, refl, sym, ◌∙◌, ap, subst, arith}
use Rattle.std.specs.List.{list_all}
use Rattle.std.proofs.lemmas.Bool.Decides.{nat_tests}
use Rattle.page_layers.specs.declared.command.Command.{Command}
use Rattle.page_layers.specs.declared.moves.Move.{Move}
use Rattle.page_layers.specs.Pages.{Page}
use Rattle.page_layers.specs.Effects.{commanded}
use Rattle.model_history.specs.declared.input.Input.{Input}
use Rattle.model_history.specs.declared.input.Input.TheVariants.{Scroll, Wheel, Draw, Await, Settle}
use Rattle.model_history.specs.Scripts.{ScriptModel}
use Rattle.model_history.specs.Frames.{blank, page, page_before, commands_of}
use Rattle.model_history.specs.Ranges.{is_u32, input_in_range, head_in_range, main_in_range, inputs_in_range, command_in_range, is_in_ranges, are_short}
use Rattle.model_history.specs.Accepted.{TakesAll, TakesFrames, IsAccepted}
use Rattle.model_history.specs.Growth.{with_input, with_main_frame, with_last, with_commands}
use Rattle.model_history.proofs.BoolFacts.{and_left, and_right, and_both}
use Rattle.model_history.proofs.GrownSteps.{as_many}
use Rattle.model_history.proofs.PageFacts.{takes_values, page_before_values}

-- ---- lists with one element more

and_assoc : (a b c : Bool) → (a && (b && c)) ≡ ((a && b) && c)
and_assoc true b c = refl
and_assoc false b c = refl

and_true : (a : Bool) → (a && true) ≡ a
and_true true = refl
and_true false = refl

pub all_and_last : {A : Type 0} (f : A → Bool) (xs : List A) (x : A) → list_all f (xs ++ x ∷ []) ≡ (list_all f xs && f x)
all_and_last f [] x = and_true (f x)
all_and_last f (y ∷ xs) x = ap (λ b. f y && b) (all_and_last f xs x) ∙ and_assoc (f y) (list_all f xs) (f x)

-- ---- ranges

-- an input stays in its ranges with one main frame more
still_fits : (n m : ℕ) → n ≤ m → (x : Input) → input_in_range n x ≡ true → input_in_range m x ≡ true
still_fits n m l (Scroll scroller dx dy) t = t
still_fits n m l (Wheel x y dx dy) t = t
still_fits n m l Draw t = t
still_fits n m l (Await frame) t = and_both (is_u32 frame) (nat_lt frame m) (and_left (is_u32 frame) (nat_lt frame n) t) (further frame n m l (and_right (is_u32 frame) (nat_lt frame n) t))
  where
    further : (k n m : ℕ) → n ≤ m → nat_lt k n ≡ true → nat_lt k m ≡ true
    further k n m l t = grind (arith, nat_tests, l, t)
still_fits n m l Settle t = t

pub all_fit_still : (n m : ℕ) → n ≤ m → (xs : List Input) → list_all (input_in_range n) xs ≡ true → list_all (input_in_range m) xs ≡ true
all_fit_still n m l [] t = refl
all_fit_still n m l (x ∷ xs) t = and_both (input_in_range m x) (list_all (input_in_range m) xs) (still_fits n m l x (and_left (input_in_range n x) (list_all (input_in_range n) xs) t)) (all_fit_still n m l xs (and_right (input_in_range n x) (list_all (input_in_range n) xs) t))

-- ---- main frames of which the last has other commands

each_still : (test : List Command → Bool) (cs : List Command) (fs : List (List Command)) → list_all test fs ≡ true → test cs ≡ true → list_all test (with_last cs fs) ≡ true
each_still test cs [] all own = refl
each_still test cs (f ∷ []) all own = and_both (test cs) true own refl
each_still test cs (f ∷ g ∷ fs) all own = and_both _ _ (and_left (test f) (list_all test (g ∷ fs)) all) (each_still test cs (g ∷ fs) (and_right (test f) (list_all test (g ∷ fs)) all) own)

commands_fit : (s : ScriptModel) (cs : List Command) → is_in_ranges s ≡ true → list_all (command_in_range s.version) cs ≡ true → is_in_ranges (with_commands s cs) ≡ true
unfolding is_in_ranges
commands_fit s cs t fit =
    let all = list_all (command_in_range s.version) in
    let start : head_in_range s && main_in_range s.version s.main ≡ true = and_left (head_in_range s && main_in_range s.version s.main) (inputs_in_range (length s.main) s.inputs) t in
    let own : inputs_in_range (length s.main) s.inputs ≡ true = and_right (head_in_range s && main_in_range s.version s.main) (inputs_in_range (length s.main) s.inputs) t in
    let frames : main_in_range s.version s.main ≡ true = and_right (head_in_range s) (main_in_range s.version s.main) start in
    let count : nat_le (length (with_last cs s.main)) 4096 ≡ true = ap (λ n. nat_le n 4096) (as_many cs s.main) ∙ and_left (nat_le (length s.main) 4096) (list_all all s.main) frames in
    let each : list_all all (with_last cs s.main) ≡ true = each_still all cs s.main (and_right (nat_le (length s.main) 4096) (list_all all s.main) frames) fit in
    and_both _ _ (and_both _ _ (and_left (head_in_range s) (main_in_range s.version s.main) start) (and_both _ _ count each)) (ap (λ n. inputs_in_range n s.inputs) (as_many cs s.main) ∙ own)

-- the page after the first of these main frames, in the given number
abbrev pub after_first : ℕ → List (List Command) → Page → Page
after_first zero fs p = p
after_first (suc k) fs p = commanded (slice_index_or fs k []) (after_first k fs p)

first_then : (k : ℕ) (f : List Command) (fs : List (List Command)) (p : Page) → after_first (suc k) (f ∷ fs) p ≡ after_first k fs (commanded f p)
first_then zero f fs p = refl
first_then (suc k) f fs p = ap (commanded (slice_index_or fs k [])) (first_then k f fs p)

pub unpulled : (s : ScriptModel) (k : ℕ) → page s (λ _. []) k ≡ after_first k s.main (blank s)
unpulled s zero = refl
unpulled s (suc k) = ap (commanded (commands_of s k)) (unpulled s k)

pub last_taken : (cs : List Command) (fs : List (List Command)) (p : Page) (k : ℕ) → suc k ≡ length fs → TakesFrames p fs → TakesAll (after_first k fs p) cs → TakesFrames p (with_last cs fs)
last_taken cs [] p k e t a = tt
last_taken cs (f ∷ []) p zero e t a = (a, tt)
last_taken cs (f ∷ []) p (suc k) e t a = absurd (omega (arith, e))
last_taken cs (f ∷ g ∷ fs) p zero e t a = absurd (omega (arith, e))
last_taken cs (f ∷ g ∷ fs) p (suc k) e t a = (t.0, last_taken cs (g ∷ fs) (commanded f p) k (omega (arith, e)) t.1 (subst (λ (q : Page). TakesAll q cs) (first_then k f (g ∷ fs) p) a))

-- ---- what is accepted

pub accepted_input : (s : ScriptModel) (x : Input) → IsAccepted s → is_in_ranges (with_input s x) ≡ true → IsAccepted (with_input s x)
accepted_input s x a t = record { ranges = t; commands = a.commands }

pub one_frame_more : (fs : List (List Command)) (p : Page) → TakesFrames p fs → TakesFrames p (fs ++ [] ∷ [])
one_frame_more [] p t = (tt, tt)
one_frame_more (f ∷ fs) p t = (t.0, one_frame_more fs (commanded f p) t.1)

pub accepted_main_frame : (s : ScriptModel) → IsAccepted s → is_in_ranges (with_main_frame s) ≡ true → IsAccepted (with_main_frame s)
accepted_main_frame s a t = record { ranges = t; commands = one_frame_more s.main (blank s) a.commands }

pub accepted_commands : (s : ScriptModel) (ps : ℕ → List Move) (k : ℕ) (cs : List Command) → IsAccepted s → suc k ≡ length s.main → list_all (command_in_range s.version) cs ≡ true → TakesAll (page_before s ps k) cs → IsAccepted (with_commands s cs)
accepted_commands s ps k cs a last fit taken =
    let without : TakesAll (page s (λ _. []) k) cs = subst (λ (p : Page). TakesAll p cs) (sym (page_before_values s (λ _. []) ps k)) (takes_values cs (page_before s ps k) (page_before s (λ _. []) k).values taken) in
    record { ranges = commands_fit s cs a.ranges fit; commands = last_taken cs s.main (blank s) k last a.commands (subst (λ (p : Page). TakesAll p cs) (unpulled s k) without) }

pub short_commands : (s : ScriptModel) (cs : List Command) → are_short s.main ≡ true → nat_lt (length cs) 4294967296 ≡ true → are_short (with_commands s cs).main ≡ true
short_commands s cs short own = each_still (λ frame. nat_lt (length frame) 4294967296) cs s.main short own
