-- Words on histories and on lists of numbers.
use Rattle.std.specs.Prelude.{ℕ, ◌+◌, ◌==◌, Bool, true, false, List, [], ◌∷◌, length, filter, drop}

-- the entries of one actor in a history, in order
abbrev pub entries_by : {E : Type 0} → ℕ → List (ℕ × E) → List (ℕ × E)
entries_by n log = filter (λ e. e.0 == n) log

-- what the history has beyond what was seen of it
abbrev pub gained : {E : Type 0} → List (ℕ × E) → List (ℕ × E) → List (ℕ × E)
gained seen history = drop (length seen) history

-- 1 for a test that holds, and 0 otherwise
abbrev pub one_if : Bool → ℕ
one_if true = 1
one_if false = 0

-- how often k stands in the list
abbrev pub times : ℕ → List ℕ → ℕ
times k [] = 0
times k (n ∷ ns) = one_if (n == k) + times k ns
