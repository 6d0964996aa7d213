-- Each goal is a lemma on the pass up the chain.
use Rattle.std.proofs.Common.{arith, rules}
use Rattle.page_properties.specs.inner.Index.{IsEntryOf}
use Rattle.page_properties.proofs.Marks.{climbed_stop, climbed_step, climbed_all, rank_falls}
use Rattle.page_properties.proofs.nesting.meet.Goals as goal

pub returns-then-met-place-clause-stop : goal.returns-then-met-place-clause-stop
returns-then-met-place-clause-stop c =
    let e : IsEntryOf c.loop-place.id c.args.effects.now c.in-Some.place c.in-Some.node.now = c.in-Some.ensures in
    climbed_stop c.args.effects.now c.requires.family c.args.met.now c.loop-place.met c.args.effect c.loop-place.id c.loop-place.invariant c.in-Some.node.now e.node
    c.in-Some.place e.place (search rules)

pub loop-place-smaller : goal.loop-place-smaller
loop-place-smaller c =
    let e : IsEntryOf c.loop-place.id c.args.effects.now c.in-Some.place c.in-Some.node.now = c.in-Some.ensures in
    rank_falls c.args.effects.now c.requires.family c.loop-place.id c.in-Some.node.now e.node

pub loop-place-preserved : goal.loop-place-preserved
loop-place-preserved c =
    let e : IsEntryOf c.loop-place.id c.args.effects.now c.in-Some.place c.in-Some.node.now = c.in-Some.ensures in
    climbed_step c.args.effects.now c.requires.family c.args.met.now c.loop-place.met c.args.effect c.loop-place.id c.loop-place.invariant c.in-Some.node.now e.node
    c.in-Some.place e.place (omega (arith, e.inside)) (search rules)

pub returns-clause-marks : goal.returns-clause-marks
returns-clause-marks c =
    (climbed_all c.args.effects.now c.requires.family c.args.met.now c.loop-place.met c.args.effect c.loop-place.id c.loop-place.invariant (search rules)).now_marked

pub returns-clause-fresh : goal.returns-clause-fresh
returns-clause-fresh c =
    (climbed_all c.args.effects.now c.requires.family c.args.met.now c.loop-place.met c.args.effect c.loop-place.id c.loop-place.invariant (search rules)).fresh
