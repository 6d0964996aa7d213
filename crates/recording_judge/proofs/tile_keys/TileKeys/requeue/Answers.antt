-- Only the queue is another.
use Rattle.recording_judge.proofs.tile_keys.TileKeys.requeue.Goals as goal

pub returns-clause-keeps : goal.returns-clause-keeps
returns-clause-keeps c = λ s n h legal is holds seen_active seen_pending many.
    record { ready = holds.ready; pinned = holds.pinned; count = holds.count; held = holds.held; queue = c.in_ok-queue.ensures s n h legal is holds seen_active seen_pending many }
