-- The list has the piece alone.
use Rattle.thread_pieces.specs.Shots.{all_shown, shown}
use Rattle.thread_pieces.proofs.PutSteps.{presents_as}
use Rattle.thread_pieces.proofs.rest.present_one.Goals as goal

pub returns-in-Ok : goal.returns-in-Ok
returns-in-Ok g c = presents_as g.K.Sink c.args.served c.present.result c.args.out.now c.present.new.out (all_shown c.in-Ok.pieces.items) (shown c.args.piece) c.in-Ok.ensures c.present.ensures

pub returns-in-Err : goal.returns-in-Err
returns-in-Err g c = c.without_memory.ensures.steps (shown c.args.piece)
