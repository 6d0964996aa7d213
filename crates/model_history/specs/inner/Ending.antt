-- What each step of ending a main frame promises.
use Rattle.std.specs.Prelude.{◌≡◌, ◌⊎◌, ℕ, ◌-ℤ◌, Bool, not, ◌||◌, List, Result, Ok, Err, ⊤}
use Rattle.std.specs.Ordering.{int_eq}
use Rattle.region.specs.Lists.{Changed}
use Rattle.model_states.specs.Bounds.{IsBoundedNumber}
use Rattle.page_layers.specs.declared.command.Command.{Command}
use Rattle.page_layers.specs.declared.fault.EditError.{EditError}
use Rattle.page_layers.specs.declared.fault.EditError.TheVariants as error
use Rattle.page_layers.specs.Pages.{Page}
use Rattle.page_layers.specs.Effects.{page_after_command, layer_change_of, retiles}
use Rattle.page_layers.specs.Outcomes.{Accepts, Refuses, ListsChange}
use Rattle.page_layers.specs.declared.moves.Move.{Move}
use Rattle.page_layers.specs.Axes.{across, down, amount_in}
use Rattle.page_layers.specs.Scrollers.{main_value}
use Rattle.model_history.specs.Stamps.{with_command}
use Rattle.model_history.specs.SameChanges.{SameChanges}

-- what commands changed, with a command more, which acts on this page
abbrev pub with_next : Page → Command → Changed → Changed
with_next p c done = record { list = with_command p c done.list; retiled = done.retiled || retiles p c }

-- what a command lists was noted after what was noted before: if that was right, so is this
abbrev pub Noted : Command → Changed → Changed → Changed → Type 0
Noted c listed old new = (p : Page) (done : Changed) → ListsChange (layer_change_of p c) (retiles p c) listed → SameChanges old done → SameChanges new (with_next p c done)

-- a command was applied and noted; or it was refused, and the page is as it was; or memory ran out, before the command was applied or when it was noted
abbrev pub TookCommand : Page → Command → Changed → Page → Changed → Result ⊤ EditError → Type 0
TookCommand p c old q new (Ok done) = Accepts p c × (q ≡ page_after_command p c) × ((before : Changed) → SameChanges old before → SameChanges new (with_next p c before))
TookCommand p c old q new (Err (error.Refused fault)) = Refuses p c fault × (q ≡ p)
TookCommand p c old q new (Err (error.Memory e)) = (q ≡ p) ⊎ (q ≡ page_after_command p c)

-- the move is what the pulls have for a scroller
pub record IsPullOf (sc : ℕ) (ms : List Move) (m : Move) : Type 0 where
  pub across : m.dx ≡ amount_in sc across ms
  pub down : m.dy ≡ amount_in sc down ms
  pub bounded_across : IsBoundedNumber m.dx
  pub bounded_down : IsBoundedNumber m.dy

-- the main value of a scroller changed by more or less than its pull, if the first page became the second
abbrev pub is_moved : Page → Page → List Move → ℕ → Bool
is_moved p q ms sc =
    not (int_eq (main_value q sc across -ℤ main_value p sc across) (amount_in sc across ms))
    || not (int_eq (main_value q sc down -ℤ main_value p sc down) (amount_in sc down ms))
