-- Bytes that were copied to another place of the same list.
use Rattle.std.specs.Prelude.{◌≡◌, ℕ, ◌+◌, ◌<◌, ◌≤◌, List, slice_index}

-- the given number of bytes from `to` on are those that stood from `from` on, and the others are what they were
pub record AreCopied (from to len : ℕ) (old new : List ℕ) : Type 0 where
  pub inside : (i : ℕ) → i < len → slice_index new (to + i) ≡ slice_index old (from + i)
  pub before : (i : ℕ) → i < to → slice_index new i ≡ slice_index old i
  pub after : (i : ℕ) → to + len ≤ i → slice_index new i ≡ slice_index old i
