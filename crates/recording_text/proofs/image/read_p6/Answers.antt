-- What was read is the picture.
use Rattle.recording_text.proofs.ImageLaws.{is_picture}
use Rattle.recording_text.proofs.image.read_p6.Goals as goal

pub returns : goal.returns
returns c = is_picture _ c.args.bytes.now c.args.w c.args.h c.picture_at.ensures
