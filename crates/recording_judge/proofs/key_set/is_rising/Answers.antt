-- The keys rise.
use Rattle.recording_judge.proofs.KeySets.{rising_once, rising_order}
use Rattle.recording_judge.proofs.key_set.is_rising.Goals as goal

pub returns-clause-order : goal.returns-clause-order
returns-clause-order c = rising_order c.args.tree.now.keys c.len.ensures.ordered

pub returns-clause-once : goal.returns-clause-once
returns-clause-once c = rising_once c.args.tree.now.keys c.len.ensures.ordered
