use Rattle.std.proofs.Common.{List, Err, ◌≡◌, sym, ap, subst, ◌∙◌}
use Rattle.page_layers.specs.declared.command.Command.{Command}
use Rattle.page_layers.specs.declared.fault.EditError.{EditError}
use Rattle.page_layers.specs.Pages.{Page}
use Rattle.page_layers.specs.declared.moves.Move.{Move}
use Rattle.page_layers.specs.Effects.{page_after_pulls}
use Rattle.model_history.specs.Frames.{commands_of, page, page_before}
use Rattle.model_history.specs.Accepted.{TakesAll}
use Rattle.model_history.specs.Ended.{TookCommands}
use Rattle.model_history.proofs.Exclusion.{commands_taken}
use Rattle.model_history.proofs.PageFacts.{takes_frame}
use Rattle.model_history.proofs.frame.take_frame.Goals as goal

pub unreachable-requires : goal.unreachable-requires
unreachable-requires c =
    let s = c.args.script.now in
    let k = c.args.frame in
    let before = c.requires.before in
    let p : Page = page_after_pulls c.args.pulls.now c.args.tree.now in
    let same : page_before s before.0 k ≡ p =
    ap (λ (ms : List Move). page_after_pulls ms (page s before.0 k)) before.1 ∙ ap (λ (q : Page). page_after_pulls c.args.pulls.now q) (sym before.2) in
    let Q : Page → Type 0 = λ q. TakesAll q (commands_of s k) in
    let R : List Command → Type 0 = λ cs. TakesAll p cs in
    let taken : TakesAll p c.commands-own.result.now = subst R (sym c.commands-own.ensures) (subst Q same (takes_frame s c.is_accepted.ensures.playable before.0 k)) in
    let P : EditError → Type 0 = λ e. TookCommands p c.commands-own.result.now c.apply_frame.new.tree (Err e) in
    let refused = subst P c.in-Err-Refused.field-0-is c.in-Err-Refused.ensures in
    commands_taken p c.commands-own.result.now refused.0 c.in-Err-Refused.field-0-0 taken refused.1
