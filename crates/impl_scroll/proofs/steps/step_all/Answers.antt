-- One row more is stepped.
use Rattle.std.proofs.Common.{◌≡◌, List, get_or, ap, sym, ◌∙◌, subst, rules}
use Rattle.std.specs.Prelude.{slice_set}
use Rattle.page_layers.specs.Axes.{across, down}
use Rattle.impl_scroll.specs.declared.row.Row.{Row}
use Rattle.impl_scroll.specs.inner.Steps.{MayStep, row_stepped}
use Rattle.impl_scroll.proofs.StepFacts.{half, half_get, half_set, half_past, row_may}
use Rattle.impl_scroll.proofs.steps.step_all.Goals as goal

pub stepped_row-requires-clause-x : goal.stepped_row-requires-clause-x
stepped_row-requires-clause-x c =
    let old : List Row = c.args.rows.now.items in
    let r : Row = c.index.result.now in
    let read : r ≡ get_or old c.loop-i.i r = c.index.ensures ∙ ap (λ (xs : List Row). get_or xs c.loop-i.i r) c.loop-i.invariant ∙ half_get (row_stepped c.args.step) c.loop-i.i old r in
    subst (λ (z : Row). MayStep c.args.step z.scroller across z.x) (sym read) (row_may c.args.step old c.loop-i.i r across c.requires.rising (search rules) c.requires.may)

pub stepped_row-requires-clause-y : goal.stepped_row-requires-clause-y
stepped_row-requires-clause-y c =
    let old : List Row = c.args.rows.now.items in
    let r : Row = c.index.result.now in
    let read : r ≡ get_or old c.loop-i.i r = c.index.ensures ∙ ap (λ (xs : List Row). get_or xs c.loop-i.i r) c.loop-i.invariant ∙ half_get (row_stepped c.args.step) c.loop-i.i old r in
    subst (λ (z : Row). MayStep c.args.step z.scroller down z.y) (sym read) (row_may c.args.step old c.loop-i.i r down c.requires.rising (search rules) c.requires.may)

pub loop-i-preserved : goal.loop-i-preserved
loop-i-preserved c =
    let old : List Row = c.args.rows.now.items in
    let r : Row = c.index.result.now in
    let read : r ≡ get_or old c.loop-i.i r = c.index.ensures ∙ ap (λ (xs : List Row). get_or xs c.loop-i.i r) c.loop-i.invariant ∙ half_get (row_stepped c.args.step) c.loop-i.i old r in
    ap (λ (xs : List Row). slice_set xs c.loop-i.i c.stepped_row.result) c.loop-i.invariant
    ∙ ap (λ (z : Row). slice_set (half (row_stepped c.args.step) c.loop-i.i old) c.loop-i.i z) (c.stepped_row.ensures ∙ ap (row_stepped c.args.step) read)
    ∙ half_set (row_stepped c.args.step) c.loop-i.i old r (search rules)

pub returns : goal.returns
returns c = c.loop-i.invariant ∙ half_past (row_stepped c.args.step) c.loop-i.i c.args.rows.now.items (search rules)
