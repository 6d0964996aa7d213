-- One quad more was gone through.
use Rattle.std.proofs.Common.{◌≡◌, ◌+◌, ◌-◌, ◌<◌, length, arith}
use Rattle.viz_occlusion.proofs.KeptSteps.{fit_at, passed_on}
use Rattle.viz_occlusion.proofs.culling.kept_quads.Goals as goal

pub keep_quad-requires : goal.keep_quad-requires
keep_quad-requires c =
    let low = c.loop-left.invariant.inside in
    fit_at c.args.quads.now (c.loop-left.left - 1) c.index-quads-left.result c.requires (omega arith) c.index-quads-left.is

pub loop-left-preserved : goal.loop-left-preserved
loop-left-preserved c =
    let low = c.loop-left.invariant.inside in
    let lt : c.loop-left.left - 1 < length c.args.quads.now = omega arith in
    let f : c.loop-left.left - 1 + 1 ≡ c.loop-left.left = omega arith in
    let on =
    passed_on c.args.quads.now c.loop-left.left (c.loop-left.left - 1) c.index-quads-left.result c.loop-left.cover c.keep_quad.new.cover
    c.loop-left.kept.items c.keep_quad.new.kept.items f lt c.index-quads-left.is c.in_ok-keep_quad.ensures c.loop-left.invariant.cover
    c.loop-left.invariant.kept in
    record { inside = omega arith; cover = on.0; kept = on.1 }
