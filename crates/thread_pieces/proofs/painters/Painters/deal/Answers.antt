-- A piece more is dealt.
use Rattle.std.proofs.Common.{◌++◌, ap, sym, ◌∙◌}
use Rattle.thread_pieces.specs.Shots.{shown}
use Rattle.thread_pieces.proofs.Parts.{one_more}
use Rattle.thread_pieces.proofs.painters.Painters.deal.Goals as goal

pub loop-shot-preserved : goal.loop-shot-preserved
loop-shot-preserved g c = record {
  due =
      c.in_ok-deal_one.ensures.due
      ∙ ap (λ due. due ++ shown c.in-Some.shot) c.loop-shot.invariant.due
      ∙ sym (one_more shown c.loop-shot.yielded c.in-Some.shot);
  most = c.in_ok-deal_one.ensures.most ∙ c.loop-shot.invariant.most;
}
