-- One tiling more is taken from the end.
use Rattle.std.proofs.Common.{◌≡◌, Some, [], ◌∷◌, ◌++◌, length, ◌∙◌, sym, rules}
use Rattle.std.specs.Prelude.{slice_get}
use Rattle.page_layers.specs.Layers.{parts_of}
use Rattle.impl_host.proofs.Twins.{popped_layer, popped_cut, front_cut, front_led, popped_ahead}
use Rattle.impl_host.proofs.spare.add_ahead.Goals as goal

pub add-requires-clause-cut : goal.add-requires-clause-cut
add-requires-clause-cut c =
    let ts = c.pop.new.self.items in
    let us = c.loop-tiling.tilings.items in
    let taken : us ≡ ts ++ c.in-Some.tiling ∷ [] = c.in-Some.ensures.items in
    let n : c.len.result ≡ length ts = search rules in
    let at : slice_get c.args.tree.now.layers (length ts) ≡ Some (parts_of c.index-layers-len.result) =
    popped_layer c.layers-layers.result.now c.args.tree.now ts us c.in-Some.tiling c.len.result c.index-layers-len.result c.layers-layers.ensures taken n c.loop-tiling.invariant.cut.few c.index-layers-len.is in
    popped_cut c.args.tree.now ts us c.in-Some.tiling taken (parts_of c.index-layers-len.result) c.loop-tiling.invariant.cut at

pub loop-tiling-preserved-in-Continue-1 : goal.loop-tiling-preserved-in-Continue-1
loop-tiling-preserved-in-Continue-1 c =
    let ts = c.pop.new.self.items in
    let us = c.loop-tiling.tilings.items in
    let a = c.args.active.now in
    let d = c.args.changes.now in
    let taken : us ≡ ts ++ c.in-Some.tiling ∷ [] = c.in-Some.ensures.items in
    let n : c.len.result ≡ length ts = search rules in
    let at : slice_get c.args.tree.now.layers (length ts) ≡ Some (parts_of c.index-layers-len.result) =
    popped_layer c.layers-layers.result.now c.args.tree.now ts us c.in-Some.tiling c.len.result c.index-layers-len.result c.layers-layers.ensures taken n c.loop-tiling.invariant.cut.few c.index-layers-len.is in
    let (frame, leads) = c.loop-tiling.invariant.leads in
    record {
      cut = front_cut c.args.tree.now ts us c.in-Some.tiling taken c.loop-tiling.invariant.cut;
      leads = (frame, front_led c.args.tree.now ts us c.in-Some.tiling taken (record { frame = frame; changed = d }) a.page a.tilings leads);
      spares = c.add.ensures a (popped_ahead c.args.tree.now ts us c.in-Some.tiling taken a (parts_of c.index-layers-len.result) frame d leads at (sym c.changes_nothing.ensures ∙ c.if-changes_nothing.true)) c.loop-tiling.invariant.spares;
    }

pub returns-in_err-add : goal.returns-in_err-add
returns-in_err-add c =
    let ts = c.pop.new.self.items in
    let us = c.loop-tiling.tilings.items in
    let a = c.args.active.now in
    let d = c.args.changes.now in
    let taken : us ≡ ts ++ c.in-Some.tiling ∷ [] = c.in-Some.ensures.items in
    let n : c.len.result ≡ length ts = search rules in
    let at : slice_get c.args.tree.now.layers (length ts) ≡ Some (parts_of c.index-layers-len.result) =
    popped_layer c.layers-layers.result.now c.args.tree.now ts us c.in-Some.tiling c.len.result c.index-layers-len.result c.layers-layers.ensures taken n c.loop-tiling.invariant.cut.few c.index-layers-len.is in
    let (frame, leads) = c.loop-tiling.invariant.leads in
    c.add.ensures a (popped_ahead c.args.tree.now ts us c.in-Some.tiling taken a (parts_of c.index-layers-len.result) frame d leads at (sym c.changes_nothing.ensures ∙ c.if-changes_nothing.true)) c.loop-tiling.invariant.spares

pub loop-tiling-preserved : goal.loop-tiling-preserved
loop-tiling-preserved c =
    let ts = c.pop.new.self.items in
    let us = c.loop-tiling.tilings.items in
    let a = c.args.active.now in
    let taken : us ≡ ts ++ c.in-Some.tiling ∷ [] = c.in-Some.ensures.items in
    let (frame, leads) = c.loop-tiling.invariant.leads in
    record {
      cut = front_cut c.args.tree.now ts us c.in-Some.tiling taken c.loop-tiling.invariant.cut;
      leads = (frame, front_led c.args.tree.now ts us c.in-Some.tiling taken (record { frame = frame; changed = c.args.changes.now }) a.page a.tilings leads);
      spares = c.loop-tiling.invariant.spares;
    }
