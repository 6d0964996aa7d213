-- One key more is taken out.
use Rattle.std.proofs.Common.{rules}
use Rattle.recording_judge.proofs.KeySets.{one_fewer}
use Rattle.recording_judge.proofs.key_set.KeySet.remove_all.Goals as goal

pub loop-key-preserved : goal.loop-key-preserved
loop-key-preserved c = λ q. one_fewer c.args.self.now c.loop-key.self c.remove.new.self c.args.keys.now c.loop-key.key-index _ q (search rules) (c.loop-key.invariant q) (c.remove.ensures q)
