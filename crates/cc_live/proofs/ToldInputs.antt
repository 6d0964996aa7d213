-- Lists with one more, and the range of an input that a host tells.
use Rattle.std.proofs.Common.{◌≡◌, ℕ, suc, Bool, true, List, [], ◌∷◌, ◌++◌, length, Some, None, slice_get, refl, ap}
use Rattle.std.specs.List.{list_all}
use Rattle.model_history.specs.declared.input.Input.{Input}
use Rattle.model_history.specs.declared.input.Input.TheVariants as input
use Rattle.model_history.specs.Ranges.{input_in_range}
use Rattle.model_history.proofs.BoolFacts.{and_left, and_right, and_both}
use Rattle.cc_live.specs.Calls.{is_for_host}

-- ---- lists

pub longer : {A : Type 0} (xs : List A) (x : A) → length (xs ++ x ∷ []) ≡ suc (length xs)
longer [] x = refl
longer (y ∷ xs) x = ap suc (longer xs x)

pub none_at_end : {A : Type 0} (xs : List A) → slice_get xs (length xs) ≡ None
none_at_end [] = refl
none_at_end (y ∷ xs) = none_at_end xs

pub last_one : {A : Type 0} (xs : List A) (x : A) → slice_get (xs ++ x ∷ []) (length xs) ≡ Some x
last_one [] x = refl
last_one (y ∷ xs) x = last_one xs x

pub all_with : {A : Type 0} (f : A → Bool) (xs : List A) (x : A) → list_all f xs ≡ true → f x ≡ true → list_all f (xs ++ x ∷ []) ≡ true
all_with f [] x a h = and_both (f x) true h refl
all_with f (y ∷ xs) x a h = and_both (f y) (list_all f (xs ++ x ∷ [])) (and_left (f y) (list_all f xs) a) (all_with f xs x (and_right (f y) (list_all f xs) a) h)

-- ---- the range of an input does not depend on the main frames, if a host tells it

pub in_any_range : (n : ℕ) (x : Input) → is_for_host x ≡ true → input_in_range 0 x ≡ true → input_in_range n x ≡ true
in_any_range n (input.Await f) h r = cc
in_any_range n input.Settle h r = cc
in_any_range n (input.Scroll sc dx dy) h r = r
in_any_range n (input.Wheel x y dx dy) h r = r
in_any_range n input.Draw h r = r
