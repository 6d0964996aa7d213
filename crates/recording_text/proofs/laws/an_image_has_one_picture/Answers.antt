use Rattle.recording_text.proofs.ImageLaws.{one_image}
use Rattle.recording_text.proofs.laws.an_image_has_one_picture.Goals as goal

pub returns : goal.returns
returns c = one_image
