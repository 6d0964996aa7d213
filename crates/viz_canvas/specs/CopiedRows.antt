-- Rows of pixels that were copied to other rows.
use Rattle.std.specs.Prelude.{ℕ, ◌+◌, ◌-◌, cond, ◌&&◌, nat_le, nat_lt}

-- the row whose pixels row `y` has once `count` rows from row `from` on were copied to row `to` and those below
unfoldable pub row_before : ℕ → ℕ → ℕ → ℕ → ℕ
row_before from to count y = cond (nat_le to y && nat_lt y (to + count)) (from + (y - to)) y
