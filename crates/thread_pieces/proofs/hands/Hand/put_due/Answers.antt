-- A piece more was put, or a prefix of it.
use Rattle.std.proofs.Common.{◌≡◌, List, ◌∷◌, ◌++◌, length, ap, ◌∙◌, arith, rules}
use Rattle.std.specs.Vec.Iter.{into_iter_items}
use Rattle.thread_pieces.specs.declared.shot.Shot.{Shot}
use Rattle.thread_pieces.specs.Shots.{all_shown, shown}
use Rattle.thread_pieces.proofs.Gains.{gains_both, gains_front}
use Rattle.thread_pieces.proofs.Parts.{next_put}
use Rattle.thread_pieces.proofs.hands.Hand.put_due.Goals as goal

pub returns-in-Err : goal.returns-in-Err
returns-in-Err g c =
    let part = c.loop-shot.invariant.part in
    let left : List Shot = into_iter_items c.next.new.self in
    let first : into_iter_items c.loop-shot.queue ≡ c.in-Some.shot ∷ left = c.in-Some.ensures.items in
    let put = c.put_one.ensures in
    record {
      bytes = gains_front _ _ _ part.0 (shown c.in-Some.shot) (all_shown left) _ part.2 c.in-Err.ensures.bytes (next_put shown _ left c.in-Some.shot part.0 _ first part.1);
      grows = omega (arith, put.grows, c.loop-shot.invariant.grows);
      refusals = omega (arith, put.refusals, c.loop-shot.invariant.refusals);
      cause = search rules;
      place = put.place ∙ c.loop-shot.invariant.place;
    }

pub loop-shot-preserved : goal.loop-shot-preserved
loop-shot-preserved g c =
    let part = c.loop-shot.invariant.part in
    let left : List Shot = into_iter_items c.next.new.self in
    let first : into_iter_items c.loop-shot.queue ≡ c.in-Some.shot ∷ left = c.in-Some.ensures.items in
    record {
      part = (part.0 ++ shown c.in-Some.shot, next_put shown _ left c.in-Some.shot part.0 _ first part.1, gains_both _ _ _ part.0 (shown c.in-Some.shot) part.2 c.in_default-put_one.ensures.bytes);
      count = let long = ap length first in omega (arith, long, c.in-Some.ensures.cases.1, c.loop-shot.invariant.count);
      grows = omega (arith, c.in_default-put_one.ensures.grows, c.loop-shot.invariant.grows);
      refusals = omega (arith, c.in_default-put_one.ensures.refusals, c.loop-shot.invariant.refusals);
      place = c.in_default-put_one.ensures.place ∙ c.loop-shot.invariant.place;
    }
