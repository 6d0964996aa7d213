-- The core has the stem, and the history or one event more.
use Rattle.proxy_threads.proofs.Holds.{put_stem, put_history}
use Rattle.proxy_threads.proofs.holding.put_back.Goals as goal

pub put-requires-clause-stem : goal.put-requires-clause-stem
put-requires-clause-stem c = put_stem c.args.empty c.args.core c.requires.put

pub put-requires-clause-history : goal.put-requires-clause-history
put-requires-clause-history c = put_history c.args.empty c.args.core c.requires.put

pub returns : goal.returns
returns c = record { pass = c.put.ensures; legal = c.is_legal.ensures.legal }
