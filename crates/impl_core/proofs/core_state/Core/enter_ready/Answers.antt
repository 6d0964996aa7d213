-- What the commit hands over is what the frame in flight makes.
use Rattle.std.proofs.Common.{◌≡◌, ℕ, List, Some, refl, sym, ◌∙◌, ap, subst, arith}
use Rattle.model_states.specs.declared.kind.Kind.TheVariants as kind
use Rattle.model_history.specs.declared.event.Event.TheVariants as event
use Rattle.model_history.specs.Frames.{pulls_of}
use Rattle.impl_scroll.specs.Rows.{has_number}
use Rattle.impl_log.specs.Runs.{Run, past, now, with_entry}
use Rattle.impl_core.proofs.CoreSteps.{ready_core, one_more}
use Rattle.impl_core.proofs.MayCome.{comes_next}
use Rattle.impl_core.proofs.Prepared.{prepared_for}
use Rattle.impl_core.proofs.core_state.Core.enter_ready.Goals as goal

pub invariant_of-self : goal.invariant_of-self
invariant_of-self c =
    let r : Run = c.self.inside.log in
    let k : ℕ = c.args.commit.frame in
    let may_come : now r kind.Ready 1 ≡ Some (event.Ready k) = subst (λ (z : Run). now z kind.Ready 1 ≡ Some (event.Ready k)) (sym c.self.view_is) c.requires.is_now in
    let entered : c.enter.new.self ≡ with_entry r 1 (event.Ready k) = subst (λ (j : ℕ). c.enter.new.self ≡ with_entry r 1 (event.Ready j)) c.frame-frame.ensures c.in-Ok.ensures.ok in
    one_more (record { host = c.self.inside.host; tiles = c.self.inside.tiles; told = c.self.inside.told; prepared = Some c.handed_of.result; required = c.self.inside.required; drawn = c.self.inside.drawn }) r c.enter.new.self 1 (event.Ready k) entered
    (ready_core r.script r.workers (past r) k c.handed_of.result (record { host = c.self.inside.host; tiles = c.self.inside.tiles; told = c.self.inside.told; prepared = c.self.inside.prepared; required = c.self.inside.required; drawn = c.self.inside.drawn }) (comes_next r.script r.workers (past r) 1 (event.Ready k) c.is_legal.ensures.legal may_come refl (omega arith)) c.self.invariant
    (prepared_for r.script (pulls_of (past r)) c.args.commit c.handed_of.result c.handed_of.ensures.tree c.handed_of.ensures.changes c.is_commit.ensures.commit (c.requires.script ∙ sym (ap (λ (z : Run). z.script) c.self.view_is))
    (λ j l. c.requires.sends j l ∙ sym (ap (λ (z : Run). pulls_of (past z) j) c.self.view_is))
    (λ sc. ap (λ (ns : List ℕ). has_number ns sc) c.handed_of.ensures.outright ∙ c.requires.outright sc)))
