-- Runs of columns, of which only how far they reach is kept.
use Rattle.std.specs.Prelude.{◌≡◌, ◌<◌, ◌≤◌, ◌⊎◌, ℕ, Bool, true, List, slice_index}

-- the columns that pass a test are those of some runs; for each column the column after the last is kept of the longest run that begins there, or 0
pub record Reach (reach : List ℕ) (wide : ℕ) (test : ℕ → Bool) : Type 0 where
  pub found : (x : ℕ) → x < wide → test x ≡ true → (k : ℕ) × (k ≤ x) × (x < slice_index reach k)
  pub right : (x k : ℕ) → x < wide → k ≤ x → x < slice_index reach k → test x ≡ true

-- the farthest that runs reach which begin in the first columns
pub record IsFarthest (reach : List ℕ) (columns far : ℕ) : Type 0 where
  pub bound : (k : ℕ) → k < columns → slice_index reach k ≤ far
  pub some : (far ≡ 0) ⊎ ((k : ℕ) × (k < columns) × (far ≡ slice_index reach k))
