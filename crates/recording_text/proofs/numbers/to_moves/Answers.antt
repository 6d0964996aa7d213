-- One more of the list.
use Rattle.std.proofs.Common.{◌≡◌, ◌<◌, List, take, length, ap, sym, ◌∙◌, Some, arith}
use Rattle.std.specs.Prelude.{ℤ}
use Rattle.std.proofs.lemmas.Grind.{common_steps}
use Rattle.recording_text.specs.Gathering.{prefixed_by}
use Rattle.recording_text.specs.Numbers.{move_in, moves_of}
use Rattle.recording_text.proofs.ListSteps.{moves_more}
use Rattle.recording_text.proofs.numbers.to_moves.Goals as goal

pub loop-rest-preserved : goal.loop-rest-preserved
loop-rest-preserved c =
    let some : 0 < length c.loop-rest.rest.now = grind (arith, common_steps) in
    let first : move_in (take 3 c.loop-rest.rest.now) ≡ Some c.in-Some.one = ap move_in (sym c.first.ensures) ∙ sym c.to_move.ensures ∙ c.in-Some.is in
    ap (λ (ns : List ℤ). prefixed_by c.push.new.self (moves_of ns)) c.behind-rest.ensures
    ∙ moves_more c.loop-rest.moves c.push.new.self c.loop-rest.rest.now c.in-Some.one (moves_of c.args.numbers.now) c.loop-rest.invariant some first c.in_default-push.ensures.ok
