-- One key more.
use Rattle.std.proofs.Common.{◌≡◌, filter, take, ap, ◌∙◌, arith}
use Rattle.std.proofs.lemmas.List.{take_all}
use Rattle.impl_choice.proofs.LoopFacts.{left_more}
use Rattle.impl_choice.proofs.hidden.without.Goals as goal

pub loop-key-preserved : goal.loop-key-preserved
loop-key-preserved c = λ f out.
    left_more f c.args.others.now c.args.keys.now c.loop-key.key-index _ c.loop-key.left c.push_where.new.keys c.is_next.result c.loop-key-test.true out c.is_next.ensures.has c.in_ok-push_where.ensures (c.loop-key.invariant f out)

pub returns : goal.returns
returns c = λ f out.
    let all : take c.loop-key.key-index c.args.keys.now ≡ c.args.keys.now = take_all c.loop-key.key-index c.args.keys.now (omega (arith, c.loop-key.auto.key-index-end, c.loop-key-test.false)) in
    c.loop-key.invariant f out ∙ ap (filter f) all
