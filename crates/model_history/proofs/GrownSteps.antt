-- The three ways in which a script is told while it is played: what a past has read stays as it was.
use Rattle.std.proofs.Common.{◌≡◌, ℕ, zero, suc, ◌<◌, ◌≤◌, ◌-◌, true, List, [], ◌∷◌, ◌++◌, length, map, take, slice_get, slice_index_or, refl, sym, ◌∙◌, ap, arith}
use Rattle.model_states.specs.Kinds.{is_sent}
use Rattle.page_layers.specs.declared.command.Command.{Command}
use Rattle.model_history.specs.declared.input.Input.{Input}
use Rattle.model_history.specs.declared.history.Entry.{Entry}
use Rattle.model_history.specs.Scripts.{ScriptModel}
use Rattle.model_history.specs.EventFields.{answers}
use Rattle.model_history.specs.Scans.{counted}
use Rattle.model_history.specs.Legal.{sched, Legal}
use Rattle.model_history.specs.Growth.{with_last, ReadsAlike}
use Rattle.model_history.proofs.AnsweredFrames.{answered_course}
use Rattle.model_history.proofs.RangeBounds.{sent_few}
use Rattle.model_history.proofs.UsedInputs.{uses_few}

-- ---- a list with more elements after the others

get_before : {A : Type 0} (xs ys : List A) (i : ℕ) → i < length xs → slice_get (xs ++ ys) i ≡ slice_get xs i
get_before [] ys i l = absurd (omega (arith, l))
get_before (x ∷ xs) ys zero l = refl
get_before (x ∷ xs) ys (suc i) l = get_before xs ys i (omega (arith, l))

or_before : {A : Type 0} (xs ys : List A) (i : ℕ) (d : A) → i < length xs → slice_index_or (xs ++ ys) i d ≡ slice_index_or xs i d
or_before [] ys i d l = absurd (omega (arith, l))
or_before (x ∷ xs) ys zero d l = refl
or_before (x ∷ xs) ys (suc i) d l = or_before xs ys i d (omega (arith, l))

pub one_longer : {A : Type 0} (xs : List A) (x : A) → length (xs ++ x ∷ []) ≡ suc (length xs)
one_longer [] x = refl
one_longer (y ∷ xs) x = ap suc (one_longer xs x)

-- ---- main frames of which the last has other commands

pub as_many : (cs : List Command) (fs : List (List Command)) → length (with_last cs fs) ≡ length fs
as_many cs [] = refl
as_many cs (f ∷ []) = refl
as_many cs (f ∷ g ∷ fs) = ap suc (as_many cs (g ∷ fs))

others_stay : (cs : List Command) (fs : List (List Command)) (k : ℕ) → suc k < length fs → slice_index_or (with_last cs fs) k [] ≡ slice_index_or fs k []
others_stay cs [] k l = refl
others_stay cs (f ∷ []) k l = absurd (omega (arith, l))
others_stay cs (f ∷ g ∷ fs) zero l = refl
others_stay cs (f ∷ g ∷ fs) (suc k) l = others_stay cs (g ∷ fs) k (omega (arith, l))

-- where another stands in place of the last
last_of : {A : Type 0} (f : A → List Command) (xs : List A) (n : ℕ) (y : A) → length xs ≡ suc n → map f (take n xs ++ y ∷ []) ≡ with_last (f y) (map f xs)
last_of f [] n y e = absurd (omega (arith, e))
last_of f (x ∷ []) zero y e = refl
last_of f (x ∷ []) (suc n) y e = absurd (omega (arith, e))
last_of f (x ∷ z ∷ xs) zero y e = absurd (omega (arith, e))
last_of f (x ∷ z ∷ xs) (suc n) y e = ap (λ (zs : List (List Command)). f x ∷ zs) (last_of f (z ∷ xs) n y (omega (arith, e)))

pub last_told : {A : Type 0} (f : A → List Command) (xs : List A) (y : A) → 1 ≤ length xs → map f (take (length xs - 1) xs ++ y ∷ []) ≡ with_last (f y) (map f xs)
last_told f xs y l = last_of f xs (length xs - 1) y (omega (arith, l))

-- ---- what a past has read

-- one input more is one that was not used
pub reads_input : (s : ScriptModel) (n : ℕ) (h : List Entry) (x : Input) → Legal s n h → ReadsAlike s h s.main (s.inputs ++ x ∷ [])
reads_input s n h x l =
    let few = uses_few s n h l in
    record {
      answered = λ k b. refl;
      sent = sent_few s n h l;
      used = λ i b. get_before s.inputs (x ∷ []) i (omega (arith, few, b));
    }

-- one main frame more is one that was not sent
pub reads_main_frame : (s : ScriptModel) (n : ℕ) (h : List Entry) → Legal s n h → ReadsAlike s h (s.main ++ [] ∷ []) s.inputs
reads_main_frame s n h l =
    let few = (answered_course s n h l).few in
    let sent = sent_few s n h l in
    let one : length (s.main ++ [] ∷ []) ≡ suc (length s.main) = one_longer s.main [] in
    record {
      answered = λ k b. or_before s.main ([] ∷ []) k [] (omega (arith, few, sent, b));
      sent = omega (arith, sent, one);
      used = λ i b. refl;
    }

-- the commands of the last main frame are not read before its answer
pub reads_commands : (s : ScriptModel) (n : ℕ) (h : List Entry) (cs : List Command) → Legal s n h → counted answers h < length s.main → ReadsAlike s h (with_last cs s.main) s.inputs
reads_commands s n h cs l few =
    let sent = sent_few s n h l in
    let same : length (with_last cs s.main) ≡ length s.main = as_many cs s.main in
    record {
      answered = λ k b. others_stay cs s.main k (omega (arith, few, b));
      sent = omega (arith, sent, same);
      used = λ i b. refl;
    }

-- a main frame that waits for its answer is one that is not answered
pub one_waits : (s : ScriptModel) (n : ℕ) (h : List Entry) → Legal s n h → is_sent (sched h).main_state ≡ true → counted answers h < length s.main
one_waits s n h l t =
    let one = (answered_course s n h l).all_but_one t in
    let sent = sent_few s n h l in
    omega (arith, one, sent)
