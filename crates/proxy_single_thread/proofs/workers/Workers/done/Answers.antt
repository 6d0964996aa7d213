-- The image that is handed in shows its key: it was made ahead, or it is that of the worker's job.
use Rattle.std.proofs.Common.{◌∙◌, sym}
use Rattle.proxy_single_thread.proofs.HeldJobs.{held_shows}
use Rattle.proxy_single_thread.proofs.workers.Workers.done.Goals as goal

pub done-requires-clause-shows : goal.done-requires-clause-shows
done-requires-clause-shows c =
    c.in-Ok.ensures.shows c.args.core.now.script c.requires.stands.1
    (held_shows c.args.core.now c.args.self.now.jobs.items c.args.worker c.index_mut.result.now c.in-Some.job c.requires.stands.0 c.requires.worker (sym c.index_mut.ensures.value) (sym c.take.ensures.value ∙ c.in-Some.is))
