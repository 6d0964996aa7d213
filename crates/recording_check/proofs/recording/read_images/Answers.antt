-- The first bad part of the whole is that of what stands after the two lines.
use Rattle.recording_check.proofs.Wholes.{bad_read, bad_found}
use Rattle.recording_check.proofs.recording.read_images.Goals as goal

pub returns : goal.returns
returns c =
    bad_read c.args.bytes.now c.in-Ok.opening.script c.in-Ok-new.views c.in-Err-images.place c.in-Ok.opening.end c.in-Ok.ensures.0 c.in-Ok.ensures.1 c.in-Ok-new.ensures
    (bad_found (λ v. v.items) c.args.bytes.now c.in-Ok-new.views c.in-Ok.opening.end c.in-Ok-find_images.images c.in-Err-images.place c.in-Err-images.is c.in-Ok-find_images.ensures)
