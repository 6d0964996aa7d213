use Rattle.std.proofs.Common.{Err, sym, subst}
use Rattle.page_layers.specs.declared.fault.EditError.{EditError}
use Rattle.page_layers.specs.Pages.{Page}
use Rattle.page_layers.specs.Effects.{page_after_pulls}
use Rattle.model_history.specs.Accepted.{TakesAll}
use Rattle.model_history.specs.Ended.{TookCommands}
use Rattle.model_history.proofs.Exclusion.{commands_taken}
use Rattle.cc_live.proofs.main_edits.made_of.Goals as goal

pub unreachable-requires : goal.unreachable-requires
unreachable-requires c =
    let p : Page = page_after_pulls c.args.pulls.now c.in_ok-after.after in
    let taken : TakesAll p c.args.commands.now = subst (λ (q : Page). TakesAll (page_after_pulls c.args.pulls.now q) c.args.commands.now) (sym c.in_ok-after.ensures) c.requires.takes in
    let P : EditError → Type 0 = λ e. TookCommands p c.args.commands.now c.apply_frame.new.tree (Err e) in
    let refused = subst P c.in-Err-Refused.field-0-is c.in-Err-Refused.ensures in
    commands_taken p c.args.commands.now refused.0 c.in-Err-Refused.field-0-0 taken refused.1
