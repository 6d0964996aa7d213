-- Looking through a past: a list of entries, the newest first.
--
-- In a past `e ∷ h` the list h is what came before e. A history that callers see has the oldest entry first; its past is the reverse of it.
use Rattle.std.specs.Prelude.{ℕ, zero, suc, ◌==◌, Bool, false, ◌||◌, List, [], ◌∷◌, filter, Option, Some, None}
use Rattle.std.specs.Option.{option_or}
use Rattle.geom.specs.declared.tile.TileKey.{TileKey}
use Rattle.model_history.specs.declared.event.Event.{Event}
use Rattle.model_history.specs.declared.history.Entry.{Entry}
use Rattle.model_history.specs.EventFields.{held_after, is_last}

-- whether it is this number; whether an event of the history names it in this field
abbrev pub names : Option ℕ → ℕ → Bool
names None n = false
names (Some m) n = m == n

abbrev pub was_named : (Event → Option ℕ) → List Entry → ℕ → Bool
was_named f [] n = false
was_named f (e ∷ h) n = names (f e.event) n || was_named f h n

-- what the newest such event names
abbrev pub newest : (Event → Option ℕ) → List Entry → Option ℕ
newest f [] = None
newest f (e ∷ h) = option_or (f e.event) (newest f h)

-- how many such events there are; each adds one
abbrev pub one_more : Option ℕ → ℕ → ℕ
one_more None n = n
one_more (Some m) n = suc n

abbrev pub counted : (Event → Option ℕ) → List Entry → ℕ
counted f [] = zero
counted f (e ∷ h) = one_more (f e.event) (counted f h)

-- the tile that a worker is making
abbrev pub held : ℕ → List Entry → Option TileKey
held w [] = None
held w (e ∷ h) = held_after e.event w (held w h)

-- an end or a stop stands
abbrev pub has_ended : List Entry → Bool
has_ended [] = false
has_ended (e ∷ h) = is_last e.event || has_ended h

-- the entries of one actor
abbrev pub own_entries : List Entry → ℕ → List Entry
own_entries h a = filter (λ e. e.actor == a) h
