-- What applying the main frames of a script promises, command by command.
use Rattle.std.specs.Prelude.{◌≡◌, ℕ, List, Result, Ok, Err, ⊤}
use Rattle.page_layers.specs.declared.command.Command.{Command}
use Rattle.page_layers.specs.Pages.{Page}
use Rattle.page_layers.specs.Effects.{page_after_command, commanded}
use Rattle.page_layers.specs.Outcomes.{Accepts, Refuses}
use Rattle.model_history.specs.declared.script_error.ScriptError.{ScriptError}
use Rattle.model_history.specs.declared.script_error.ScriptError.TheVariants as error
use Rattle.model_history.specs.Accepted.{TakesAll, TakesFrames}
use Rattle.model_history.specs.Judging.{RefusedIn, RefusedAt, framed}

-- the command at place n of frame k was applied to a page, which took it; or it was refused; or memory ran out
abbrev pub AppliedCommand : Page → ℕ → ℕ → Command → Page → Result ⊤ ScriptError → Type 0
AppliedCommand old k n c new (Ok done) = Accepts old c × (new ≡ page_after_command old c)
AppliedCommand old k n c new (Err (error.Command frame command fault)) = (frame ≡ k) × (command ≡ n) × Refuses old c fault
AppliedCommand old k n c new (Err (error.Memory e)) = ⊤

-- the commands of frame k were applied to a page, which took all of them; or this one is the first that was refused; or memory ran out
abbrev pub AppliedFrame : Page → ℕ → List Command → Page → Result ⊤ ScriptError → Type 0
AppliedFrame old k commands new (Ok done) = TakesAll old commands × (new ≡ commanded commands old)
AppliedFrame old k commands new (Err (error.Command frame n fault)) = (frame ≡ k) × RefusedIn old commands n fault
AppliedFrame old k commands new (Err (error.Memory e)) = ⊤

-- the main frames were applied to a page, which took all of them; or this command is the first that was refused; or memory ran out
abbrev pub Applied : Page → List (List Command) → Page → Result ⊤ ScriptError → Type 0
Applied old frames new (Ok done) = TakesFrames old frames × (new ≡ framed frames old)
Applied old frames new (Err (error.Command k n fault)) = RefusedAt old frames k n fault
Applied old frames new (Err (error.Memory e)) = ⊤
