use Rattle.page_layers.proofs.Unlisted.{unlisted_stays}
use Rattle.page_layers.proofs.laws.commands_keep_the_rest.Goals as goal

pub returns : goal.returns
returns c = unlisted_stays
