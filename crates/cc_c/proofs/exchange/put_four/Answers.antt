use Rattle.cc_c.proofs.Lanes.{four_put}
use Rattle.cc_c.proofs.exchange.put_four.Goals as goal

pub returns-clause-pixels : goal.returns-clause-pixels
returns-clause-pixels c = four_put c.args.row.now c.args.to.now c.exchanged.result c.args.at c.args.place c.requires.given c.requires.room c.exchanged.ensures.len c.exchanged.ensures.pixels
