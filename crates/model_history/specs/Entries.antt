-- What a history holds.
use Rattle.std.specs.Prelude.{ℕ, List}
use Rattle.model_history.specs.declared.history.Entry.{Entry}

-- the entries, the oldest first, and how many more there is room for
pub record Record : Type 0 where
  pub entries : List Entry
  pub spare : ℕ
