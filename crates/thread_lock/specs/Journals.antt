-- What a journal holds.
use Rattle.std.specs.Prelude.{ℕ, List, map}

-- A title, and numbers in the order in which they were written, each beside the actor that wrote it
pub record Pages : Type 0 where
  pub title : ℕ
  pub notes : List (ℕ × ℕ)

-- these numbers as one actor writes them
abbrev pub notes_of : ℕ → List ℕ → List (ℕ × ℕ)
notes_of actor numbers = map (λ number. (actor, number)) numbers
