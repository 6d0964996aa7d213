-- What an applied command that passed its test promises.
use Rattle.std.specs.Prelude.{◌≡◌, Bool, true, false, Result, Ok, Err}
use Rattle.region.specs.Lists.{Changed}
use Rattle.page_layers.specs.declared.fault.EditError.{EditError}
use Rattle.page_layers.specs.declared.fault.EditError.TheVariants as error
use Rattle.page_layers.specs.declared.command.Command.{Command}
use Rattle.page_layers.specs.declared.command.Command.TheVariants as command
use Rattle.page_layers.specs.Pages.{Page}
use Rattle.page_layers.specs.Refusals.{test_of}
use Rattle.page_layers.specs.Effects.{page_after_command, layer_change_of, retiles}
use Rattle.page_layers.specs.Outcomes.{ListsChange, Outcome}

-- only these commands may part the layers of an effect
abbrev pub may_part : Command → Bool
may_part (command.AddLayer c) = true
may_part (command.MoveLayer c) = true
may_part _ = false

-- the same, but for layers that would not stand together: for the commands that cannot part them
abbrev pub Tested : Page → Command → Page → Result Changed EditError → Type 0
Tested old c new (Ok changes) = (test_of old c ≡ Ok tt) × (new ≡ page_after_command old c) × ListsChange (layer_change_of old c) (retiles old c) changes
Tested old c new (Err (error.Refused fault)) = (test_of old c ≡ Err fault) × (new ≡ old)
Tested old c new (Err (error.Memory e)) = new ≡ old

-- what the method of a command promises
abbrev pub Promised : Page → Command → Page → Result Changed EditError → Type 0
Promised old (command.AddLayer c) new r = Outcome old (command.AddLayer c) new r
Promised old (command.MoveLayer c) new r = Outcome old (command.MoveLayer c) new r
Promised old c new r = Tested old c new r
