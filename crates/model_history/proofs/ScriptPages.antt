-- Every page of a playable script holds what holds of pages.
use Rattle.std.proofs.Common.{ℕ, zero, suc, ◌≡◌, ◌+◌, List, [], ◌∷◌, refl, arith}
use Rattle.page_layers.specs.declared.command.Command.{Command}
use Rattle.page_layers.specs.Pages.{Page}
use Rattle.page_layers.specs.Sound.{IsPage}
use Rattle.page_layers.specs.Effects.{page_after_command, commanded}
use Rattle.page_layers.specs.Outcomes.{Accepts}
use Rattle.page_layers.proofs.AfterKeeps.{after-keeps, empty-page}
use Rattle.model_history.specs.Scripts.{ScriptModel}
use Rattle.model_history.specs.Frames.{blank, commands_of, page}
use Rattle.model_history.specs.Accepted.{TakesAll, IsPlayable}
use Rattle.model_history.proofs.Ranged.{has_view}
use Rattle.model_history.proofs.PageFacts.{takes_frame}
use Rattle.model_history.proofs.BarePages.{no_pulls}

-- the number that is that much further on
abbrev pub ahead : ℕ → ℕ → ℕ
ahead zero m = m
ahead (suc d) m = suc (ahead d m)

pub ahead_is : (d m : ℕ) → ahead d m ≡ d + m
ahead_is zero m = omega arith
ahead_is (suc d) m = let e = ahead_is d m in omega (arith, e)

-- a page after a command that it takes
pub page_after : (p : Page) (c : Command) → IsPage p → Accepts p c → IsPage (page_after_command p c)
page_after p c is ok = after-keeps p c is ok.passes (λ m. ok.together)

pub page_commanded : (cs : List Command) (p : Page) → IsPage p → TakesAll p cs → IsPage (commanded cs p)
page_commanded [] p is t = is
page_commanded (c ∷ cs) p is t = page_commanded cs (page_after_command p c) (page_after p c is t.0) t.1

-- a page of a script without pulls
abbrev pub plain : ScriptModel → ℕ → Page
plain s n = page s no_pulls n

pub plain_takes : (s : ScriptModel) → IsPlayable s → (k : ℕ) → TakesAll (plain s k) (commands_of s k)
plain_takes s a k = takes_frame s a no_pulls k

pub plain_page : (s : ScriptModel) → IsPlayable s → (n : ℕ) → IsPage (plain s n)
plain_page s a zero = empty-page (blank s) (has_view s a.head) refl refl refl
plain_page s a (suc k) = page_commanded (commands_of s k) (plain s k) (plain_page s a k) (plain_takes s a k)
