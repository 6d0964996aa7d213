-- One key more.
use Rattle.std.proofs.Common.{◌≡◌, ◌++◌, not, filter, take, ap, ◌∙◌, arith}
use Rattle.std.proofs.lemmas.List.{take_all}
use Rattle.tile_priority.specs.declared.rank.Side.TheVariants as side
use Rattle.tile_priority.specs.Choice.{is_visible_rank}
use Rattle.model_history.specs.Ranking.{rank_in}
use Rattle.impl_choice.proofs.LoopFacts.{kept_more}
use Rattle.impl_choice.proofs.hidden.push_hidden_in.Goals as goal

pub loop-key-preserved : goal.loop-key-preserved
loop-key-preserved c = λ t is.
    kept_more (λ q. not (is_visible_rank (rank_in c.args.plan.now side.Active t q))) c.args.keys.now c.loop-key.key-index _ c.args.hidden.now c.loop-key.hidden c.push_where.new.keys _ c.loop-key-test.true (c.loop-key.invariant t is) c.in_ok-push_where.ensures
    (ap not (c.is_shown_in.ensures t is))

pub returns : goal.returns
returns c = λ t is.
    let all : take c.loop-key.key-index c.args.keys.now ≡ c.args.keys.now = take_all c.loop-key.key-index c.args.keys.now (omega (arith, c.loop-key.auto.key-index-end, c.loop-key-test.false)) in
    c.loop-key.invariant t is ∙ ap (λ ks. c.args.hidden.now ++ filter (λ q. not (is_visible_rank (rank_in c.args.plan.now side.Active t q))) ks) all
