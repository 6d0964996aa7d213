-- Words for the laws on legal pasts: what may come, and what holds of each entry.
use Rattle.std.specs.Prelude.{◌≡◌, ◌⊎◌, ℕ, Bool, true, false, ◌||◌, List, [], ◌∷◌}
use Rattle.model_states.specs.declared.kind.Kind.{Kind}
use Rattle.model_states.specs.declared.kind.Kind.TheVariants as kind
use Rattle.model_history.specs.declared.event.Event.{Event}
use Rattle.model_history.specs.declared.event.Event.TheVariants as event
use Rattle.model_history.specs.declared.history.Entry.{Entry}
use Rattle.model_history.specs.Scripts.{ScriptModel}
use Rattle.model_history.specs.EventFields.{kind_of}
use Rattle.model_history.specs.Legal.{Next}

-- each entry, with the past before it, meets this
abbrev pub AtEach : (List Entry → Entry → Type 0) → List Entry → Type 0
AtEach P [] = Unit {0}
AtEach P (e ∷ h) = AtEach P h × P h e

-- an event of this kind may come
abbrev pub MayCome : ScriptModel → ℕ → List Entry → Kind → Type 0
MayCome s workers h k = (e : Entry) × (kind_of e.event ≡ k) × Next s workers h e

-- the one or the other, and not both
abbrev pub OneOf : Type 0 → Type 0 → Type 0
OneOf A B = (A × (B → ⊥)) ⊎ (B × (A → ⊥))

-- the kinds whose event each actor has for itself: a worker's start and end of a tile, and anybody's stop
abbrev pub is_by_actor : Kind → Bool
is_by_actor kind.Start = true
is_by_actor kind.Done = true
is_by_actor kind.Stop = true
is_by_actor _ = false

abbrev pub is_stop : Event → Bool
is_stop (event.Stop a) = true
is_stop _ = false

-- a stop stands
abbrev pub has_stopped : List Entry → Bool
has_stopped [] = false
has_stopped (e ∷ h) = is_stop e.event || has_stopped h
