-- The tiles are kept, and what was noted tells where the pages may look otherwise.
use Rattle.std.proofs.Common.{Option, List, sym, subst}
use Rattle.geom.specs.declared.rect.Rect.{Rect}
use Rattle.cc.specs.inner.Flags.{TellsEdited}
use Rattle.cc.proofs.ItemEdits.{edited_after}
use Rattle.cc.proofs.compositor.applied.Goals as goal

pub returns-in-Ok-clause-kept : goal.returns-in-Ok-clause-kept
returns-in-Ok-clause-kept c = c.mark.ensures.kept c.args.active.now c.requires.kept

pub returns-in-Ok-clause-edited : goal.returns-in-Ok-clause-edited
returns-in-Ok-clause-edited c =
    edited_after c.args.active.now c.args.main.now c.apply.new.self c.args.command.now c.in-Ok.changes c.take.result c.noted.result c.is_page.ensures c.in-Ok.ensures
    (subst (λ (o : Option (List Rect)). TellsEdited o c.args.active.now c.args.main.now) (sym c.take.ensures.value) c.requires.edited) c.noted.ensures
