-- Which command of a script is refused first, when its commands are applied in order from the blank page on, without pulls.
use Rattle.std.specs.Prelude.{◌≡◌, ℕ, zero, suc, List, [], ◌∷◌, Result, Ok, Err, ⊤}
use Rattle.page_layers.specs.declared.command.Command.{Command}
use Rattle.page_layers.specs.declared.fault.EditFault.{EditFault}
use Rattle.page_layers.specs.Pages.{Page}
use Rattle.page_layers.specs.Effects.{page_after_command, commanded}
use Rattle.page_layers.specs.Outcomes.{Accepts, Refuses}
use Rattle.model_history.specs.declared.script_error.ScriptError.{ScriptError}
use Rattle.model_history.specs.declared.script_error.ScriptError.TheVariants as error
use Rattle.model_history.specs.Scripts.{ScriptModel}
use Rattle.model_history.specs.Frames.{blank}
use Rattle.model_history.specs.Accepted.{TakesAll, IsAccepted}

-- the page takes the commands before place n one after another, and refuses the one there with this fault
abbrev pub RefusedIn : Page → List Command → ℕ → EditFault → Type 0
RefusedIn p [] n fault = ⊥
RefusedIn p (c ∷ cs) zero fault = Refuses p c fault
RefusedIn p (c ∷ cs) (suc n) fault = Accepts p c × RefusedIn (page_after_command p c) cs n fault

-- the page takes the main frames before frame k one after another, and refuses that one's command at place n with this fault
abbrev pub RefusedAt : Page → List (List Command) → ℕ → ℕ → EditFault → Type 0
RefusedAt p [] k n fault = ⊥
RefusedAt p (f ∷ fs) zero n fault = RefusedIn p f n fault
RefusedAt p (f ∷ fs) (suc k) n fault = TakesAll p f × RefusedAt (commanded f p) fs k n fault

-- the page after these main frames, none of which is told a scroll of the compositor side
abbrev pub framed : List (List Command) → Page → Page
framed [] p = p
framed (f ∷ fs) p = framed fs (commanded f p)

-- what is said of a script whose numbers are in their ranges: it is this one, and accepted; or this command is the first that is refused; or memory ran out
abbrev pub Judged : ScriptModel → Result ScriptModel ScriptError → Type 0
Judged s (Ok script) = (script ≡ s) × IsAccepted s
Judged s (Err (error.Command k n fault)) = RefusedAt (blank s) s.main k n fault
Judged s (Err (error.Memory e)) = ⊤
