-- A prefix of what a hand made, after what those before it made, is a prefix of all.
use Rattle.std.proofs.Common.{ℕ, List, take, subst, ◌∙◌, rules, arith}
use Rattle.std.specs.Io.KnownBytes.{Appends}
use Rattle.thread_pieces.proofs.Gains.{gains_both, gains_front}
use Rattle.thread_pieces.specs.Shots.{all_made, made_of}
use Rattle.thread_pieces.proofs.Parts.{cut_at, taken_more}
use Rattle.thread_pieces.proofs.hands.put_each.Goals as goal

pub returns-in-Err : goal.returns-in-Err
returns-in-Err g c =
    let before = c.loop-hand.invariant in
    let put = c.put.ensures in
    record {
      bytes = gains_front _ _ _ _ (made_of g.P.ScenePainter.rows c.hand-item.result) _ _ c.loop-hand.invariant.gained (search rules)
          (cut_at (made_of g.P.ScenePainter.rows) c.args.hands.now c.loop-hand.hand-index c.hand-item.result (search rules) c.hand-item.is);
      grows = omega (arith, before.grows, put.grows);
      refusals = omega (arith, before.refusals, put.refusals);
      cause = search rules;
      place = put.place ∙ before.place;
    }

pub loop-hand-preserved : goal.loop-hand-preserved
loop-hand-preserved g c =
    let made = made_of g.P.ScenePainter.rows in
    let hands = c.args.hands.now in
    let i = c.loop-hand.hand-index in
    let one = c.hand-item.result in
    let before = c.loop-hand.invariant in
    let put = c.in_default.ensures in
    record {
      gained =
          subst (λ (bytes : List ℕ). Appends (g.K.Sink.held c.args.out.now) (g.K.Sink.held c.put.new.out) bytes)
          (taken_more made hands i one c.loop-hand-test.true c.hand-item.is)
          (gains_both _ _ _ (all_made g.P.ScenePainter.rows (take i hands)) (made one) before.gained put.bytes);
      grows = omega (arith, before.grows, put.grows);
      refusals = omega (arith, before.refusals, put.refusals);
      place = put.place ∙ before.place;
    }
