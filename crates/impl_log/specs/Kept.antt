-- Which entries of a run may be forgotten, and what a history is of which some were.
use Rattle.std.specs.Prelude.{ℕ, List, [], ◌∷◌, length, Option, Some, None}
use Rattle.model_history.specs.declared.history.Entry.{Entry}
use Rattle.model_history.specs.declared.event.Event.{Event}
use Rattle.model_history.specs.declared.event.Event.TheVariants as event
use Rattle.model_history.specs.EventFields.{uses}

-- all entries, forgotten ones too, the oldest first; how many of the oldest were forgotten; and how many more there is room for
pub record KeptEntries : Type 0 where
  pub entries : List Entry
  pub first : ℕ
  pub spare : ℕ

-- the milestones of a run: each input that is used, by its place, and each impl frame that is begun for no draw, whose number says nothing
abbrev pub milestones : Event → Option ℕ
milestones event.BeginPlain = Some 0
milestones e = uses e

-- if the newest event of a past is a milestone, what came before it, and else what came before an earlier one
abbrev pub before_milestone : Option ℕ → List Entry → List Entry → List Entry
before_milestone None h earlier = earlier
before_milestone (Some i) h earlier = h

-- what came before the newest milestone of a past; nothing if there is none
abbrev pub before_newest : List Entry → List Entry
before_newest [] = []
before_newest (e ∷ h) = before_milestone (milestones e.event) h (before_newest h)

-- how many of the oldest entries of a past may be forgotten: those that came before the milestone before the newest one
abbrev pub forgettable : List Entry → ℕ
forgettable h = length (before_newest (before_newest h))
