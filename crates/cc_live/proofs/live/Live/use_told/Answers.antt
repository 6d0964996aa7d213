use Rattle.std.proofs.Common.{Option, ◌∙◌, ap, subst}
use Rattle.model_states.specs.declared.kind.Kind.{Kind}
use Rattle.model_history.specs.declared.input.Input.{Input}
use Rattle.impl_log.specs.Runs.{Entered}
use Rattle.cc_live.specs.Lives.{LiveModel, open_of}
use Rattle.cc_live.specs.inner.Kept.{IsLive}
use Rattle.cc_live.proofs.ToldRuns.{used}
use Rattle.cc_live.proofs.MainSides.{side_used}
use Rattle.cc_live.proofs.live.Live.use_told.Goals as goal

pub invariant_of-self-2 : goal.invariant_of-self-2
invariant_of-self-2 c = (
  used c.self.inside.core c.play_next.new.core c.args.input c.self.inside.jobs.items c.requires.host
      (subst (λ (k : Kind). Entered c.self.inside.core k 0 c.play_next.new.core) c.kind_of.ensures c.in_ok-play_next.ensures.ok)
      (subst (λ (waits : Option Input). IsLive c.self.inside.core waits c.self.inside.jobs.items) (ap (λ (l : LiveModel). l.waits) c.self.view_is ∙ c.requires.waits) c.self.invariant.0),
  side_used c.self.inside.core c.play_next.new.core c.args.input c.self.inside.main.value (open_of c.self.inside.open_frame) (subst (λ (k : Kind). Entered c.self.inside.core k 0 c.play_next.new.core) c.kind_of.ensures c.in_ok-play_next.ensures.ok) c.self.invariant.1,
)
