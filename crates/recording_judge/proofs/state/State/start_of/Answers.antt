-- What is evicted is what the queue tells.
use Rattle.std.proofs.Common.{◌∙◌}
use Rattle.impl_log.specs.Runs.{past}
use Rattle.recording_judge.proofs.DueEvents.{start_is}
use Rattle.recording_judge.proofs.state.State.start_of.Goals as goal

pub returns : goal.returns
returns c =
    let r = c.args.self.now.log in
    let f = c.requires.first in
    start_is r.script (past r) c.args.actor c.requires.free c.args.key f c.in_ok-evicted.evicted (c.in_ok-evicted.ensures ∙ c.in_ok-evicted_keys.ensures r.script r.workers (past r) f.rank c.requires.state.tiles f.is_first f.key)
