-- There is a queue where one is needed.
use Rattle.std.proofs.Common.{refl, sym, ◌∙◌}
use Rattle.recording_judge.proofs.StateFacts.{ready_for, queue_there}
use Rattle.recording_judge.proofs.state.State.prepare.Goals as goal

pub returns-then-lacks : goal.returns-then-lacks
returns-then-lacks c = ready_for c.args.self.now c.args.kind c.requeue.new.self c.requeue.result c.requeue.ensures.log c.requeue.ensures.state c.requeue.ensures.queue

pub returns-else-lacks : goal.returns-else-lacks
returns-else-lacks c = record { log = refl; state = c.requires; queue = queue_there c.args.kind c.args.self.now.tiles.queue (sym c.lacks_queue-lacks.ensures ∙ c.if-lacks.false) }
