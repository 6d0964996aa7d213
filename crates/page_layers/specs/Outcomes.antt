-- What applying a command promises.
use Rattle.std.specs.Prelude.{ℤ, ◌≡◌, Bool, ◌⊎◌, map, List, [], ◌∷◌, Option, None, Some, Result, Ok, Err}
use Rattle.region.specs.declared.change.LayerChange.{LayerChange}
use Rattle.region.specs.Lists.{Changed}
use Rattle.region.specs.Points.{covered}
use Rattle.page_properties.specs.Nesting.{AreNested}
use Rattle.page_layers.specs.declared.fault.EditFault.{EditFault}
use Rattle.page_layers.specs.declared.fault.EditFault.TheVariants as kind
use Rattle.page_layers.specs.declared.fault.EditError.{EditError}
use Rattle.page_layers.specs.declared.fault.EditError.TheVariants as error
use Rattle.page_layers.specs.declared.command.Command.{Command}
use Rattle.page_layers.specs.Pages.{Page}
use Rattle.page_layers.specs.Refusals.{test_of}
use Rattle.page_layers.specs.Effects.{Change, page_after_command, layer_change_of, retiles}

-- a listed change is this one: its region covers exactly what the rects cover
pub record IsChange (change : Change) (c : LayerChange) : Type 0 where
  pub layer : c.layer ≡ change.layer
  pub whole : c.whole ≡ change.whole
  pub points : (x y : ℤ) → covered c.region x y ≡ covered change.rects x y

-- the list holds exactly this change
abbrev pub HoldsOnly : Option Change → List LayerChange → Type 0
HoldsOnly None [] = Unit {0}
HoldsOnly None (c ∷ cs) = ⊥
HoldsOnly (Some change) [] = ⊥
HoldsOnly (Some change) (c ∷ []) = IsChange change c
HoldsOnly (Some change) (c ∷ d ∷ ds) = ⊥

-- what is said to have changed is this change, and whether the page was retiled
pub record ListsChange (change : Option Change) (tiles : Bool) (c : Changed) : Type 0 where
  pub holds : HoldsOnly change c.list
  pub retiled : c.retiled ≡ tiles

-- the layers of each effect, with those of the effects below it, stand together: no other layer stands between two of them
abbrev pub StandTogether : Page → Type 0
StandTogether p = AreNested p.props.effects (map (λ l. l.effect) p.layers)

-- a page takes a command: it passes its tests, and the layers stand together after it
pub record Accepts (p : Page) (c : Command) : Type 0 where
  pub passes : test_of p c ≡ Ok tt
  pub together : StandTogether (page_after_command p c)

-- a page refuses a command with the fault of least number that applies: its first test that fails, else that its layers would not stand together
abbrev pub Refuses : Page → Command → EditFault → Type 0
Refuses p c fault = (test_of p c ≡ Err fault) ⊎ ((test_of p c ≡ Ok tt) × (fault ≡ kind.NotNested) × ¬ StandTogether (page_after_command p c))

-- a command was applied to a page exactly, with exactly its changes; or it was refused with this fault, and the page is as it was; or memory ran out, and the page is as it was
abbrev pub Outcome : Page → Command → Page → Result Changed EditError → Type 0
Outcome old c new (Ok changes) = Accepts old c × (new ≡ page_after_command old c) × ListsChange (layer_change_of old c) (retiles old c) changes
Outcome old c new (Err (error.Refused fault)) = Refuses old c fault × (new ≡ old)
Outcome old c new (Err (error.Memory e)) = new ≡ old
