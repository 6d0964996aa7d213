-- A piece more is made.
use Rattle.std.proofs.Common.{◌++◌, ap, sym, ◌∙◌}
use Rattle.thread_pieces.specs.Shots.{shown}
use Rattle.thread_pieces.proofs.Parts.{one_more}
use Rattle.thread_pieces.proofs.hands.Hand.work.Goals as goal

pub loop-shot-preserved : goal.loop-shot-preserved
loop-shot-preserved g c =
    c.in_ok-paint.ensures
    ∙ ap (λ made. made ++ shown c.in-Some.shot) c.loop-shot.invariant
    ∙ sym (one_more shown c.loop-shot.yielded c.in-Some.shot)
