-- What the walk found are the images.
use Rattle.recording_text.proofs.BodyReads.{images_found}
use Rattle.recording_text.proofs.body.find_images.Goals as goal

pub returns : goal.returns
returns c = images_found (λ v. v.items) c.args.bytes.now c.args.views.now c.args.start c.walk_spans.result c.requires.within c.walk_spans.ensures
