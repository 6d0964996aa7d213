-- Numbers drawn one after another: a linear congruential generator with Knuth's constants.
use Rattle.std.specs.Prelude.{ℕ, zero, suc, ◌+◌, ◌*◌, ◌/◌, ◌%◌, ◌^◌}

-- the number that the generator keeps, after one draw
unfoldable pub next : ℕ → ℕ
next x = (x * 6364136223846793005 + 1442695040888963407) % (2 ^ 64)

-- after the given number of draws
unfoldable pub after_draws : ℕ → ℕ → ℕ
after_draws x zero = x
after_draws x (suc n) = after_draws (next x) n

-- what the generator gives once it keeps this number: one of 0 to k - 1
unfoldable pub given : ℕ → ℕ → ℕ
given x k = (x / 2 ^ 33) % k

-- what draw n, counted from 0, gives of k numbers
abbrev pub drawn : ℕ → ℕ → ℕ → ℕ
drawn x n k = given (after_draws x (suc n)) k
