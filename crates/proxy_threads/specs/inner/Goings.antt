-- Turns of the compositor that went on so far.
use Rattle.std.specs.Prelude.{◌≡◌, ◌≤◌, ℕ, List, ◌++◌, length, take, Option, Some}
use Rattle.std.specs.Io.KnownBytes.{Appends}
use mathlib.Core.List.{IsPrefix}
use Rattle.atomic_table.specs.Seated.{TableId}
use Rattle.model_history.specs.declared.event.Event.{Event}
use Rattle.impl_core.specs.Origins.{Origin}
use Rattle.proxy_threads.specs.Seats.{Seat}
use Rattle.proxy_threads.specs.Writing.{MayTurn, part}

-- it is the same pass, which has seen no less, and the sink gained the part for what was written since
pub record Going (id : TableId) (p q : Seat) (written after : ℕ) (old new : Option (List ℕ)) : Type 0 where
  pub lock : q.lock ≡ p.lock
  pub actor : q.actor ≡ p.actor
  pub stem : q.stem ≡ p.stem
  pub most : q.most ≡ p.most
  pub taken : p.taken ≤ q.taken
  pub seen : IsPrefix p.seen q.seen
  pub few : written ≤ length p.seen
  pub may : MayTurn id after q
  pub gained : List (ℕ × Event)
  pub split : take written p.seen ++ gained ≡ take after q.seen
  pub wrote : (o : Origin) → q.stem ≡ Some o → Appends old new (part o.script (take written p.seen) gained)

-- the same if the pass is there before and after
abbrev pub Goes : TableId → Option Seat → Option Seat → ℕ → ℕ → Option (List ℕ) → Option (List ℕ) → Type 0
Goes id (Some p) (Some q) written after old new = Going id p q written after old new
Goes id _ _ written after old new = ⊥
