-- One tile more is marked.
use Rattle.std.proofs.Common.{◌≡◌, List, get_or, ap, ◌∙◌, rules}
use Rattle.std.specs.Prelude.{slice_set}
use Rattle.cc.specs.declared.kept_tile.KeptTile.{KeptTile}
use Rattle.cc.specs.inner.Marks.{marked}
use Rattle.cc.proofs.Marked.{half, half_get, half_set, half_past}
use Rattle.cc.proofs.marking.mark_each.Goals as goal

pub loop-i-preserved : goal.loop-i-preserved
loop-i-preserved c =
    let old : List KeptTile = c.args.kept.now.items in
    let f : KeptTile → KeptTile = marked c.args.tree.now c.args.changes.now in
    let k : KeptTile = c.index_mut.result.now in
    let read : k ≡ get_or old c.loop-i.i k = c.index_mut.ensures.value ∙ ap (λ (xs : List KeptTile). get_or xs c.loop-i.i k) c.loop-i.invariant ∙ half_get f c.loop-i.i old k in
    ap (λ (xs : List KeptTile). slice_set xs c.loop-i.i c.mark_one.new.one) c.loop-i.invariant
    ∙ ap (λ (z : KeptTile). slice_set (half f c.loop-i.i old) c.loop-i.i z) (c.mark_one.ensures ∙ ap f read)
    ∙ half_set f c.loop-i.i old k (search rules)

pub returns : goal.returns
returns c = c.loop-i.invariant ∙ half_past (marked c.args.tree.now c.args.changes.now) c.loop-i.i c.args.kept.now.items (search rules)
