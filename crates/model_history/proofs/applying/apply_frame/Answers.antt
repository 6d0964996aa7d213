use Rattle.std.proofs.Common.{◌+◌, sym, subst, drop, arith}
use Rattle.page_layers.specs.Pages.{Page}
use Rattle.page_layers.specs.declared.command.Command.{Command}
use Rattle.std.proofs.Common.{List}
use Rattle.model_history.proofs.Leads.{Leads, rest_at, leads_on, leads_stop}
use Rattle.model_history.proofs.applying.apply_frame.Goals as goal

pub returns-in-Err : goal.returns-in-Err
returns-in-Err c =
    let P : List Command → Type 0 = Leads c.args.tree.now c.args.commands.now c.loop-place.place c.loop-place.tree in
    let here = subst P (rest_at c.args.commands.now c.loop-place.place c.index-commands-place.result c.index-commands-place.is (omega arith)) c.loop-place.invariant in
    leads_stop c.args.tree.now c.args.commands.now c.loop-place.place c.loop-place.tree c.apply_command.new.tree c.index-commands-place.result (drop (c.loop-place.place + 1) c.args.commands.now) c.args.frame c.in-Err.error here c.in-Err.ensures

pub loop-place-preserved : goal.loop-place-preserved
loop-place-preserved c =
    let P : List Command → Type 0 = Leads c.args.tree.now c.args.commands.now c.loop-place.place c.loop-place.tree in
    let here = subst P (rest_at c.args.commands.now c.loop-place.place c.index-commands-place.result c.index-commands-place.is (omega arith)) c.loop-place.invariant in
    let Q : Page → Type 0 = λ p. Leads c.args.tree.now c.args.commands.now (c.loop-place.place + 1) p (drop (c.loop-place.place + 1) c.args.commands.now) in
    let e = c.in_default.ensures in
    subst Q (sym e.1) (leads_on c.args.tree.now c.args.commands.now c.loop-place.place c.loop-place.tree c.index-commands-place.result (drop (c.loop-place.place + 1) c.args.commands.now) e.0 here)
