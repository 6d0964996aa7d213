-- One tiling more is taken from the end.
use Rattle.std.proofs.Common.{◌≡◌, Some, [], ◌∷◌, ◌++◌, length, ◌∙◌, rules}
use Rattle.std.specs.Prelude.{slice_get}
use Rattle.page_layers.specs.Layers.{parts_of}
use Rattle.impl_host.specs.Trees.{commit_of}
use Rattle.impl_host.specs.inner.Steps.{IsTwin}
use Rattle.impl_host.proofs.Twins.{popped_layer, popped_cut, front_cut, front_leads, popped_behind}
use Rattle.impl_host.proofs.spare.add_behind.Goals as goal

pub add-requires-clause-cut : goal.add-requires-clause-cut
add-requires-clause-cut c =
    let ts = c.pop.new.self.items in
    let us = c.loop-tiling.tilings.items in
    let taken : us ≡ ts ++ c.in-Some.tiling ∷ [] = c.in-Some.ensures.items in
    let n : c.len.result ≡ length ts = search rules in
    let at : slice_get c.args.tree.now.layers (length ts) ≡ Some (parts_of c.index-layers-len.result) =
    popped_layer c.layers-layers.result.now c.args.tree.now ts us c.in-Some.tiling c.len.result c.index-layers-len.result c.layers-layers.ensures taken n c.loop-tiling.invariant.cut.few c.index-layers-len.is in
    c.step.ensures.grid ∙ popped_cut c.args.tree.now ts us c.in-Some.tiling taken (parts_of c.index-layers-len.result) c.loop-tiling.invariant.cut at

pub loop-tiling-preserved : goal.loop-tiling-preserved
loop-tiling-preserved c =
    let ts = c.pop.new.self.items in
    let us = c.loop-tiling.tilings.items in
    let a = c.args.active.now in
    let taken : us ≡ ts ++ c.in-Some.tiling ∷ [] = c.in-Some.ensures.items in
    let n : c.len.result ≡ length ts = search rules in
    let at : slice_get c.args.tree.now.layers (length ts) ≡ Some (parts_of c.index-layers-len.result) =
    popped_layer c.layers-layers.result.now c.args.tree.now ts us c.in-Some.tiling c.len.result c.index-layers-len.result c.layers-layers.ensures taken n c.loop-tiling.invariant.cut.few c.index-layers-len.is in
    let twin : IsTwin a c.index-layers-len.result.id c.step.new.tiling =
    popped_behind c.args.tree.now ts us c.in-Some.tiling taken a (parts_of c.index-layers-len.result) c.step.new.tiling c.frame.result c.changes-in-Some.result.now c.loop-tiling.invariant.leads at c.frame.ensures c.changes-in-Some.ensures c.step.ensures.grid c.step.ensures.stepped in
    record {
      cut = front_cut c.args.tree.now ts us c.in-Some.tiling taken c.loop-tiling.invariant.cut;
      leads = front_leads c.args.tree.now ts us c.in-Some.tiling taken (commit_of a) a.page a.tilings c.loop-tiling.invariant.leads;
      spares = c.add.ensures a twin c.loop-tiling.invariant.spares;
    }

pub returns-in_err-add : goal.returns-in_err-add
returns-in_err-add c =
    let ts = c.pop.new.self.items in
    let us = c.loop-tiling.tilings.items in
    let a = c.args.active.now in
    let taken : us ≡ ts ++ c.in-Some.tiling ∷ [] = c.in-Some.ensures.items in
    let n : c.len.result ≡ length ts = search rules in
    let at : slice_get c.args.tree.now.layers (length ts) ≡ Some (parts_of c.index-layers-len.result) =
    popped_layer c.layers-layers.result.now c.args.tree.now ts us c.in-Some.tiling c.len.result c.index-layers-len.result c.layers-layers.ensures taken n c.loop-tiling.invariant.cut.few c.index-layers-len.is in
    c.add.ensures a
    (popped_behind c.args.tree.now ts us c.in-Some.tiling taken a (parts_of c.index-layers-len.result) c.step.new.tiling c.frame.result c.changes-in-Some.result.now c.loop-tiling.invariant.leads at c.frame.ensures c.changes-in-Some.ensures c.step.ensures.grid c.step.ensures.stepped)
    c.loop-tiling.invariant.spares
