use Rattle.cc_c.proofs.Lanes.{four_exchanged}
use Rattle.cc_c.proofs.exchange.exchanged.Goals as goal

pub returns-clause-pixels : goal.returns-clause-pixels
returns-clause-pixels c = four_exchanged c.args.v c.requires
