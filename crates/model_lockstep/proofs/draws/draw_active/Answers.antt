use Rattle.std.proofs.Common.{refl, is_some, sym}
use Rattle.model_states.specs.declared.kind.Kind.TheVariants as kind
use Rattle.model_history.specs.Frames.{active}
use Rattle.model_lockstep.specs.Walks as ways
use Rattle.model_lockstep.proofs.Parts as parts
use Rattle.model_lockstep.proofs.Following.{can_if, can_else, follows_if, follows_else, on_if, on_else, refused, then_on_error, then_on_ok}
use Rattle.model_lockstep.proofs.draws.draw_active.Goals as goal

pub enter-requires : goal.enter-requires
enter-requires g c = record { actor = refl; can = can_if (λ s h. is_some (active h)) (ways.entering kind.Draw 0) (ways.entering kind.Skip 0) _ (sym c.if-is_active.ensures) c.requires }

pub returns-then-is_active-clause-err : goal.returns-then-is_active-clause-err
returns-then-is_active-clause-err g c = then_on_error _ _ _ c.enter.ensures.err (λ e. on_if (λ s h. is_some (active h)) (ways.entering kind.Draw 0) (ways.entering kind.Skip 0) _ _ (sym c.if-is_active.ensures) (refused (ways.entering kind.Draw 0) _ _ (parts.own_grows kind.Draw 0) (can_if (λ s h. is_some (active h)) (ways.entering kind.Draw 0) (ways.entering kind.Skip 0) _ (sym c.if-is_active.ensures) c.requires) e))

pub returns-then-is_active-clause-ok : goal.returns-then-is_active-clause-ok
returns-then-is_active-clause-ok g c = then_on_ok _ _ _ c.enter.ensures.ok (λ f. follows_if (λ s h. is_some (active h)) (ways.entering kind.Draw 0) (ways.entering kind.Skip 0) _ _ (sym c.if-is_active.ensures) f)

pub enter-requires-else-is_active : goal.enter-requires-else-is_active
enter-requires-else-is_active g c = record { actor = refl; can = can_else (λ s h. is_some (active h)) (ways.entering kind.Draw 0) (ways.entering kind.Skip 0) _ (sym c.if-is_active.ensures) c.requires }

pub returns-else-is_active-clause-err : goal.returns-else-is_active-clause-err
returns-else-is_active-clause-err g c = then_on_error _ _ _ c.enter-else-is_active.ensures.err (λ e. on_else (λ s h. is_some (active h)) (ways.entering kind.Draw 0) (ways.entering kind.Skip 0) _ _ (sym c.if-is_active.ensures) (refused (ways.entering kind.Skip 0) _ _ (parts.own_grows kind.Skip 0) (can_else (λ s h. is_some (active h)) (ways.entering kind.Draw 0) (ways.entering kind.Skip 0) _ (sym c.if-is_active.ensures) c.requires) e))

pub returns-else-is_active-clause-ok : goal.returns-else-is_active-clause-ok
returns-else-is_active-clause-ok g c = then_on_ok _ _ _ c.enter-else-is_active.ensures.ok (λ f. follows_else (λ s h. is_some (active h)) (ways.entering kind.Draw 0) (ways.entering kind.Skip 0) _ _ (sym c.if-is_active.ensures) f)
