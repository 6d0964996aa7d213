-- The entry is that of the step's event, and the bytes are its image.
use Rattle.page_layers.proofs.KeptPages.{weaken}
use Rattle.recording_check.proofs.RightPieces.{own_entry, its_event, can_have, judged_step}
use Rattle.recording_check.proofs.right.enter_step.Goals as goal

pub enter_right-requires-clause-own : goal.enter_right-requires-clause-own
enter_right-requires-clause-own c = own_entry c.entry_of-entry.result c.args.step.event c.entry_of-entry.ensures

pub enter_right-requires-clause-can : goal.enter_right-requires-clause-can
enter_right-requires-clause-can c =
    can_have c.args.step.event c.entry_of-entry.result.event c.requires.image c.image_in-image.result.now (its_event c.entry_of-entry.result c.args.step.event c.entry_of-entry.ensures)
    (c.image_in-image.ensures c.requires.image c.requires.stands) c.requires.can

pub returns : goal.returns
returns c =
    weaken c.enter_right.result
    (λ yes judged image stands.
    judged_step c.args.judge.now c.enter_right.new.judge c.args.step.event c.entry_of-entry.result.event image c.image_in-image.result.now yes (its_event c.entry_of-entry.result c.args.step.event c.entry_of-entry.ensures)
    (c.image_in-image.ensures image stands) judged)
    c.enter_right.ensures
