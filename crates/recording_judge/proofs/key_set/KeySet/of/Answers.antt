-- One key more is there.
use Rattle.std.proofs.Common.{rules}
use Rattle.recording_judge.proofs.KeySets.{one_more}
use Rattle.recording_judge.proofs.key_set.KeySet.of.Goals as goal

pub loop-key-preserved : goal.loop-key-preserved
loop-key-preserved c = λ q. one_more c.loop-key.set c.insert.new.self c.args.keys.now c.loop-key.key-index _ q (search rules) (c.loop-key.invariant q) (c.in_ok-insert.ensures q)
