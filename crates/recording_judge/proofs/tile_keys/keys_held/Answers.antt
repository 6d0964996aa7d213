-- The keys of one worker more.
use Rattle.std.proofs.Common.{None, rules}
use Rattle.recording_judge.proofs.QueueFacts.{held_more}
use Rattle.recording_judge.proofs.tile_keys.keys_held.Goals as goal

pub loop-one-preserved : goal.loop-one-preserved
loop-one-preserved c = held_more c.args.held.now c.loop-one.one-index None c.loop-one.keys c.push_some.new.keys (search rules) c.loop-one.invariant (search rules)
