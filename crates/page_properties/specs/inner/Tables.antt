-- Tables of what was found of nodes.
use Rattle.std.specs.Prelude.{ℕ, ◌≡◌, List, length}
use Rattle.std.specs.List.{All}

-- a table of 256 entries, each of an id and what `f` says of it
pub record IsTable {V : Type 0} (f : ℕ → V) (table : List (ℕ × V)) : Type 0 where
  pub room : length table ≡ 256
  pub known : All (λ e. e.1 ≡ f e.0) table
