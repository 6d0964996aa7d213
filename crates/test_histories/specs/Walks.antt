-- Where a walk through a history stops.
use Rattle.std.specs.Prelude.{◌≡◌, ℕ, true, Bool, false, List, ◌∷◌, ◌++◌, length, reverse, Option, Some, None}
use Rattle.model_history.specs.declared.history.Entry.{Entry}
use Rattle.model_history.specs.Scripts.{ScriptModel}
use Rattle.model_history.specs.Legal.{IsLegal, Next}
use Rattle.impl_log.specs.Runs.{Run, past, with_entry}

-- the entries before this place are a legal history, and the entry there may not come after them
pub record WalkStopsAt (s : ScriptModel) (workers : ℕ) (history : List Entry) (place : ℕ) : Type 0 where
  pub before : List Entry
  pub entry : Entry
  pub later : List Entry
  pub is : history ≡ before ++ entry ∷ later
  pub at : length before ≡ place
  pub legal : IsLegal s workers before
  pub stops : Next s workers (reverse before) entry → ⊥

-- the place of the first entry of a history that may not come; none if the history is legal
abbrev pub EndsAt : ScriptModel → ℕ → List Entry → Option ℕ → Type 0
EndsAt s workers history None = IsLegal s workers history
EndsAt s workers history (Some place) = WalkStopsAt s workers history place

-- the entry was entered; or it may not come
abbrev pub WalkTakes : Run → Entry → Run → Bool → Type 0
WalkTakes old e new true = new ≡ with_entry old e.actor e.event
WalkTakes old e new false = Next old.script old.workers (past old) e → ⊥
