-- Nothing but what stands has changed.
use Rattle.std.proofs.Common.{◌≡◌, ℕ, false, List, ◌∷◌, Some, refl, sym, subst, arith}
use Rattle.model_states.specs.declared.kind.Kind.TheVariants as kind
use Rattle.model_history.specs.declared.event.Event.TheVariants as event
use Rattle.model_history.specs.declared.history.Entry.{Entry}
use Rattle.model_history.specs.Frames.{pending}
use Rattle.model_history.specs.Scrolls.{clobbers}
use Rattle.model_history.specs.Legal.{Legal}
use Rattle.model_steps.specs.Events.{abort}
use Rattle.impl_scroll.specs.Standings.{StandsForPast}
use Rattle.impl_host.specs.Hosts.{Hosts}
use Rattle.impl_log.specs.Runs.{Run, past, now}
use Rattle.impl_core.proofs.CoreSteps.{one_more, refused}
use Rattle.impl_core.proofs.MayCome.{comes_next}
use Rattle.impl_core.proofs.QuietAborts.{tiles_stay, needs_stay, drawing_stays}
use Rattle.impl_core.proofs.SeenSteps.{moving_core}
use Rattle.impl_core.proofs.core_state.Core.abort_in_place.Goals as goal

pub enter-requires-clause-is_now : goal.enter-requires-clause-is_now
enter-requires-clause-is_now c = subst (λ (z : Run). now z kind.Abort 1 ≡ Some (event.Abort c.args.frame)) (sym c.self.view_is) c.requires.is_now

pub invariant_of-self : goal.invariant_of-self
invariant_of-self c = refused (record { host = c.self.inside.host; tiles = c.self.inside.tiles; told = c.self.inside.told; prepared = c.self.inside.prepared; required = c.self.inside.required; drawn = c.self.inside.drawn }) c.self.inside.log c.enter.new.self c.in_err-enter.ensures.err c.self.invariant

pub invariant_of-self-2 : goal.invariant_of-self-2
invariant_of-self-2 c =
    let r : Run = c.self.inside.log in
    let h : List Entry = past r in
    let k : ℕ = c.args.frame in
    let may_come : now r kind.Abort 1 ≡ Some (event.Abort k) = subst (λ (z : Run). now z kind.Abort 1 ≡ Some (event.Abort k)) (sym c.self.view_is) c.requires.is_now in
    let next : Legal r.script r.workers (abort 1 k ∷ h) = comes_next r.script r.workers h 1 (event.Abort k) c.is_legal.ensures.legal may_come refl (omega arith) in
    let stood : StandsForPast r.script (abort 1 k ∷ h) c.args.standing = subst (λ (z : Run). StandsForPast z.script (abort 1 k ∷ past z) c.args.standing) (sym c.self.view_is) c.requires.stands in
    let none : (sc : ℕ) → clobbers r.script (pending h) sc ≡ false = subst (λ (z : Run). (sc : ℕ) → clobbers z.script (pending (past z)) sc ≡ false) (sym c.self.view_is) c.requires.none_outright in
    let hosts : Hosts r.script (abort 1 k ∷ h) c.stand.new.self = c.stand.ensures.keeps r.script h (abort 1 k) refl refl refl c.self.invariant.host stood in
    one_more (record { host = c.stand.new.self; tiles = c.self.inside.tiles; told = c.self.inside.told; prepared = c.self.inside.prepared; required = c.self.inside.required; drawn = c.self.inside.drawn }) r c.enter.new.self 1 (event.Abort k) c.in_ok-enter.ensures.ok
    (moving_core r.script h (record { host = c.self.inside.host; tiles = c.self.inside.tiles; told = c.self.inside.told; prepared = c.self.inside.prepared; required = c.self.inside.required; drawn = c.self.inside.drawn }) c.self.invariant c.stand.new.self c.self.inside.tiles c.self.inside.required c.self.inside.drawn 1 (event.Abort k) refl hosts
    (tiles_stay r.script r.workers h 1 k next none c.self.inside.tiles c.self.invariant.tiles) (needs_stay r.script r.workers h 1 k next none c.self.inside.required c.self.invariant.required)
    (drawing_stays r.script r.workers h 1 k next none c.self.inside.drawn c.self.invariant.drawn))
