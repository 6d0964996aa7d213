-- The pieces that are lost are not put.
use Rattle.thread_pieces.specs.Shots.{all_shown}
use Rattle.thread_pieces.proofs.ends.Presenter.step.Goals as goal

pub returns-in-Ok-clause-bytes : goal.returns-in-Ok-clause-bytes
returns-in-Ok-clause-bytes g c = (all_shown c.in-Ok.batch.items, c.in-Ok.ensures.bytes, c.present.ensures.adds)

pub returns-in-Err-clause-bytes : goal.returns-in-Err-clause-bytes
returns-in-Err-clause-bytes g c =
    let lost = c.in-Err.ensures.bytes in
    let step = c.without_memory.ensures.steps lost.0 in
    (lost.0, lost.1, step.adds)

pub returns-in-Err-clause-cause : goal.returns-in-Err-clause-cause
returns-in-Err-clause-cause g c =
    let step = c.without_memory.ensures.steps c.in-Err.ensures.bytes.0 in
    step.cause
