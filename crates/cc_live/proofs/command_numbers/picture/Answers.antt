use Rattle.cc_live.proofs.RightPictures.{picture_is}
use Rattle.cc_live.proofs.command_numbers.picture.Goals as goal

pub returns : goal.returns
returns c = picture_is c.args.place c.args.pixels.now c.bytes.ensures c.requires
