-- What is handed over is what the frame in flight makes.
use Rattle.std.proofs.Common.{◌≡◌, ℕ, Some, refl, sym, subst, arith}
use Rattle.model_states.specs.declared.kind.Kind.TheVariants as kind
use Rattle.model_history.specs.declared.event.Event.TheVariants as event
use Rattle.model_history.specs.Frames.{pulls_of}
use Rattle.impl_log.specs.Runs.{Run, past, now}
use Rattle.impl_core.specs.Handovers.{IsPreparedFor}
use Rattle.impl_core.proofs.CoreSteps.{ready_core, one_more}
use Rattle.impl_core.proofs.MayCome.{comes_next}
use Rattle.impl_core.proofs.core_state.Core.ready_with.Goals as goal

pub invariant_of-self : goal.invariant_of-self
invariant_of-self c =
    let r : Run = c.self.inside.log in
    let k : ℕ = c.args.frame in
    let may_come : now r kind.Ready 1 ≡ Some (event.Ready k) = subst (λ (z : Run). now z kind.Ready 1 ≡ Some (event.Ready k)) (sym c.self.view_is) c.requires.is_now in
    one_more (record { host = c.self.inside.host; tiles = c.self.inside.tiles; told = c.self.inside.told; prepared = Some c.args.handed; required = c.self.inside.required; drawn = c.self.inside.drawn }) r c.enter.new.self 1 (event.Ready k) c.in-Ok.ensures.ok
    (ready_core r.script r.workers (past r) k c.args.handed (record { host = c.self.inside.host; tiles = c.self.inside.tiles; told = c.self.inside.told; prepared = c.self.inside.prepared; required = c.self.inside.required; drawn = c.self.inside.drawn }) (comes_next r.script r.workers (past r) 1 (event.Ready k) c.is_legal.ensures.legal may_come refl (omega arith)) c.self.invariant
    (subst (λ (z : Run). IsPreparedFor z.script (pulls_of (past z)) k c.args.handed.tree.value c.args.handed.changes c.args.handed.outright.items) (sym c.self.view_is) c.requires.made))
