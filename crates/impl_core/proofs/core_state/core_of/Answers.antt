-- Nothing was entered, and nothing has moved.
use Rattle.std.proofs.Common.{sym, ◌∙◌, ap, subst, reverse, List, [], None}
use Rattle.page_layers.specs.declared.moves.Move.{Move}
use Rattle.model_history.specs.Scripts.{ScriptModel}
use Rattle.model_history.specs.declared.history.Entry.{Entry}
use Rattle.impl_core.specs.inner.Cores.{IsCore}
use Rattle.impl_core.specs.declared.drawn.Drawn.TheVariants as drawn
use Rattle.impl_core.specs.declared.needs.Needs.{Needs}
use Rattle.impl_core.specs.inner.Needed.{no_needs}
use Rattle.impl_core.proofs.CoreSteps.{begin_core}
use Rattle.impl_core.proofs.core_state.core_of.Goals as goal

pub invariant_of-result : goal.invariant_of-result
invariant_of-result c =
    let s = c.args.log.script in
    let m = c.in_ok-tiles.tiles in
    let host = c.new-2.result in
    let first : IsCore s [] (record { host = host; tiles = m; told = []; prepared = None; required = no_needs; drawn = drawn.Nothing }) =
    begin_core s host m (c.new-2.ensures s) (c.in_ok-tiles.ensures.tiles s (sym (c.budget.ensures ∙ ap (λ (z : ScriptModel). z.budget) c.plan.ensures))) in
    subst (λ (es : List Entry). IsCore s (reverse es) (record { host = host; tiles = m; told = c.new-3.result; prepared = None; required = c.new-4.result; drawn = drawn.Nothing })) (sym c.requires)
    (subst (λ (n : Needs). IsCore s [] (record { host = host; tiles = m; told = c.new-3.result; prepared = None; required = n; drawn = drawn.Nothing })) (sym c.new-4.ensures)
    (subst (λ (ms : List Move). IsCore s [] (record { host = host; tiles = m; told = ms; prepared = None; required = no_needs; drawn = drawn.Nothing })) (sym c.new-3.ensures) first))
