use Rattle.std.proofs.Common.{sym, subst}
use Rattle.page_layers.specs.declared.command.Command.{Command}
use Rattle.model_history.specs.inner.Ending.{Noted}
use Rattle.model_history.proofs.SameLists.{noted_removal, noted_join}
use Rattle.model_history.proofs.frame.note.Goals as goal

pub returns-in-RemoveLayer : goal.returns-in-RemoveLayer
returns-in-RemoveLayer c =
    let P : Command → Type 0 = λ x. Noted x c.args.listed.now c.args.changes.now c.forget.new.self in
    subst P (sym c.in-RemoveLayer.is) (noted_removal c.in-RemoveLayer.fields.id c.args.listed.now c.args.changes.now c.forget.new.self c.forget.ensures)

pub returns-in_default : goal.returns-in_default
returns-in_default c = noted_join c.join.result c.args.command.now c.args.listed.now c.args.changes.now c.join.new.self (λ id. c.in_default.not-RemoveLayer (record { id = id })) c.join.ensures.ok c.join.ensures.retiled
