-- What ending a main frame promises.
use Rattle.std.specs.Prelude.{◌≡◌, ℕ, suc, Bool, List, [], ◌∷◌, take, Result, Ok, Err}
use Rattle.std.specs.declared.alloc.AllocError.{AllocError}
use Rattle.region.specs.Lists.{Changed}
use Rattle.model_states.specs.Bounds.{IsBoundedNumber}
use Rattle.page_layers.specs.declared.command.Command.{Command}
use Rattle.page_layers.specs.declared.fault.EditError.{EditError}
use Rattle.page_layers.specs.declared.fault.EditError.TheVariants as error
use Rattle.page_layers.specs.Pages.{Page}
use Rattle.page_layers.specs.Effects.{page_after_pulls, commanded}
use Rattle.page_layers.specs.declared.moves.Move.{Move}
use Rattle.model_history.specs.Scripts.{ScriptModel}
use Rattle.model_history.specs.Frames.{commands_of, page, changes}
use Rattle.model_history.specs.Accepted.{TakesAll}
use Rattle.model_history.specs.Judging.{RefusedIn}
use Rattle.model_history.specs.Stamps.{changed_by, unchanged}
use Rattle.model_history.specs.SameChanges.{SameChanges}

-- both parts of each pull are below 2^58 in absolute value
abbrev pub AreBounded : List Move → Type 0
AreBounded [] = Unit {0}
AreBounded (m ∷ ms) = IsBoundedNumber m.dx × IsBoundedNumber m.dy × AreBounded ms

-- the first n commands were applied to a page, and no more
abbrev pub HasTaken : Page → List Command → ℕ → Page → Type 0
HasTaken p cs n q = q ≡ commanded (take n cs) p

-- all commands were applied and noted after nothing; or this one was the first that was refused, and those before it were applied; or memory ran out, and the first few were applied
abbrev pub TookCommands : Page → List Command → Page → Result Changed EditError → Type 0
TookCommands p cs q (Ok changes) = TakesAll p cs × (q ≡ commanded cs p) × SameChanges changes (changed_by p cs unchanged)
TookCommands p cs q (Err (error.Refused fault)) = (n : ℕ) × RefusedIn p cs n fault × HasTaken p cs n q
TookCommands p cs q (Err (error.Memory e)) = (n : ℕ) × HasTaken p cs n q

-- the pulls were added and the commands applied, and these are their changes; or the pulls were added and a command was refused, or memory ran out
abbrev pub TookFrame : Page → List Move → List Command → Page → Result Changed EditError → Type 0
TookFrame p ms cs q result = TookCommands (page_after_pulls ms p) cs q result

-- the page is one of the script before this frame, which gets these pulls
abbrev pub StandsBefore : ScriptModel → ℕ → List Move → Page → Type 0
StandsBefore s k ms p = (ps : ℕ → List Move) × (ps k ≡ ms) × (p ≡ page s ps k)

-- the frame with these pulls leads from the one page to the other, and these are its changes
pub record EndsFrame (s : ScriptModel) (k : ℕ) (ms : List Move) (p q : Page) (done : Changed) : Type 0 where
  pub page : q ≡ commanded (commands_of s k) (page_after_pulls ms p)
  pub changes : SameChanges done (changed_by (page_after_pulls ms p) (commands_of s k) unchanged)

-- the frame with these pulls leads from the one page to the other, and these are its changes; or memory ran out, when the pulls had been added and the first few commands applied
abbrev pub TookScriptFrame : ScriptModel → ℕ → List Move → Page → Page → Result Changed AllocError → Type 0
TookScriptFrame s k ms p q (Ok done) = EndsFrame s k ms p q done
TookScriptFrame s k ms p q (Err e) = (n : ℕ) × HasTaken (page_after_pulls ms p) (commands_of s k) n q

-- the answer tells whether this frame changes something, if these are the pages before and after it
abbrev pub Tells : ScriptModel → ℕ → List Move → Page → Page → Bool → Type 0
Tells s k ms p q answer = (ps : ℕ → List Move) → ps k ≡ ms → p ≡ page s ps k → q ≡ page s ps (suc k) → answer ≡ changes s ps k
