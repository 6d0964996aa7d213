use Rattle.std.proofs.Common.{Option, Some, subst}
use Rattle.tile_raster.specs.declared.job.Job.{Job}
use Rattle.impl_core.specs.Replies.{Starts}
use Rattle.cc_live.specs.Lives.{open_of}
use Rattle.cc_live.proofs.ToldRuns.{start_live}
use Rattle.cc_live.proofs.MainSides.{side_started, start_settled}
use Rattle.cc_live.proofs.live.Live.start_job.Goals as goal

pub invariant_of-self-in-Some-2 : goal.invariant_of-self-in-Some-2
invariant_of-self-in-Some-2 c =
    let e : Starts c.self.inside.core c.in-Some.slot c.start.new.self (Some c.in-Some-2.job) = subst (λ (o : Option Job). Starts c.self.inside.core c.in-Some.slot c.start.new.self o) c.in-Some-2.is c.in_ok-start.ensures.starts in (
      start_live c.self.inside.core c.start.new.self c.self.inside.waits c.self.inside.jobs.items c.put.new.slots.items c.in-Some.slot c.in-Some-2.job e.0 e.2 e.1
          (start_settled c.self.inside.core c.start.new.self c.in-Some.slot c.in-Some-2.job.key c.is_legal.ensures.legal e.0) c.put.ensures c.self.invariant.0,
      side_started c.self.inside.core c.start.new.self c.in-Some.slot c.in-Some-2.job.key c.self.inside.main.value (open_of c.self.inside.open_frame) e.0 c.self.invariant.1,
    )
