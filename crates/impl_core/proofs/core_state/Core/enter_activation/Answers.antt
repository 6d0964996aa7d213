-- The pending tree becomes the active one, and nothing is pending then.
use Rattle.std.proofs.Common.{◌≡◌, ℕ, true, List, ◌∷◌, Some, is_some, refl, sym, subst}
use Rattle.model_states.specs.declared.kind.Kind.TheVariants as kind
use Rattle.page_layers.specs.declared.moves.Move.{Move}
use Rattle.model_history.specs.declared.event.Event.TheVariants as event
use Rattle.model_history.specs.declared.history.Entry.{Entry}
use Rattle.model_history.specs.Frames.{pending}
use Rattle.model_history.specs.Scrolls.{next_clamps}
use Rattle.model_history.specs.Tiles.{ready, required}
use Rattle.model_history.proofs.DueFacts.{entry}
use Rattle.model_steps.specs.Events.{activate}
use Rattle.impl_scroll.specs.Standings.{StandsForPast}
use Rattle.impl_choice.specs.Rebuilds.{AreForActivation}
use Rattle.impl_choice.proofs.Activating.{ready_dead}
use Rattle.impl_tiles.specs.Managers.{Manages}
use Rattle.impl_host.specs.Hosts.{Hosts}
use Rattle.impl_log.specs.Runs.{Run, past, now, Entered}
use Rattle.impl_core.specs.declared.drawn.Drawn.TheVariants as drawn
use Rattle.impl_core.proofs.CoreSteps.{one_more}
use Rattle.impl_core.proofs.SeenSteps.{activate_core}
use Rattle.impl_core.proofs.ActivationSteps.{OfActivation, of_activation}
use Rattle.impl_core.proofs.NeedSteps.{forgotten}
use Rattle.impl_core.proofs.core_state.Core.enter_activation.Goals as goal

pub activate-requires : goal.activate-requires
activate-requires c =
    let r : Run = c.self.inside.log in
    let h : List Entry = past r in
    let waits = subst (λ (z : Run). pending (past z) ≡ Some c.args.frame) (sym c.self.view_is) c.requires.waits in
    let may = subst (λ (z : Run). is_some (now z kind.Activate 0) ≡ true) (sym c.self.view_is) c.requires.may in
    let activation : OfActivation r.script r.workers h c.args.frame (next_clamps r.script h) = of_activation r.script r.workers h c.args.frame (next_clamps r.script h) c.is_legal.ensures.legal may waits refl in
    record { script = r.script; workers = r.workers; past = h; actor = 0; frame = c.args.frame; clamps = next_clamps r.script h; legal = activation.legal; hosts = c.self.invariant.host }

pub enter-requires-clause-is_now : goal.enter-requires-clause-is_now
enter-requires-clause-is_now c =
    let r : Run = c.self.inside.log in
    let h : List Entry = past r in
    let k : ℕ = c.args.frame in
    let ms : List Move = c.in_ok-clamps.clamps in
    let waits = subst (λ (z : Run). pending (past z) ≡ Some k) (sym c.self.view_is) c.requires.waits in
    let may = subst (λ (z : Run). is_some (now z kind.Activate 0) ≡ true) (sym c.self.view_is) c.requires.may in
    let activation : OfActivation r.script r.workers h k ms = of_activation r.script r.workers h k ms c.is_legal.ensures.legal may waits (subst (λ (z : Run). ms ≡ next_clamps z.script (past z)) (sym c.self.view_is) c.in_ok-clamps.ensures.clamps) in
    activation.may_come

pub invariant_of-self-2 : goal.invariant_of-self-2
invariant_of-self-2 c =
    let r : Run = c.self.inside.log in
    let h : List Entry = past r in
    let k : ℕ = c.args.frame in
    let ms : List Move = c.in_ok-clamps.clamps in
    let waits = subst (λ (z : Run). pending (past z) ≡ Some k) (sym c.self.view_is) c.requires.waits in
    let may = subst (λ (z : Run). is_some (now z kind.Activate 0) ≡ true) (sym c.self.view_is) c.requires.may in
    let listed : ms ≡ next_clamps r.script h = subst (λ (z : Run). ms ≡ next_clamps z.script (past z)) (sym c.self.view_is) c.in_ok-clamps.ensures.clamps in
    let activation : OfActivation r.script r.workers h k ms = of_activation r.script r.workers h k ms c.is_legal.ensures.legal may waits listed in
    let stands : StandsForPast r.script (activate 0 k ms ∷ h) c.in_ok-clamps.standing = subst (λ (l : List Move). StandsForPast r.script (activate 0 k l ∷ h) c.in_ok-clamps.standing) (sym listed)
    (subst (λ (z : Run). StandsForPast z.script (activate 0 k (next_clamps z.script (past z)) ∷ past z) c.in_ok-clamps.standing) (sym c.self.view_is) c.in_ok-clamps.ensures.stands) in
    let brings : AreForActivation r.script h c.in_ok-next.next.pins c.in_ok-next.next.dead =
    subst (λ (z : Run). AreForActivation z.script (past z) c.in_ok-next.next.pins c.in_ok-next.next.dead) (sym c.self.view_is) c.in_ok-next.ensures in
    let hosts : Hosts r.script (activate 0 k ms ∷ h) c.activate.new.self = c.activate.ensures r.script r.workers h 0 k ms activation.legal c.self.invariant.host stands in
    let holds : Manages r.script (activate 0 k ms ∷ h) c.activate-2.new.self =
    c.activate-2.ensures r.script r.workers h 0 k ms c.is_legal.ensures.playable activation.legal c.self.invariant.tiles brings.pins (ready_dead r.script h c.in_ok-next.next.pins c.in_ok-next.next.dead brings) in
    one_more (record { host = c.activate.new.self; tiles = c.activate-2.new.self; told = c.self.inside.told; prepared = c.self.inside.prepared; required = c.forget.new.self; drawn = drawn.Nothing }) r c.enter.new.self 0 (event.Activate k ms) c.in_ok-enter.ensures.ok
    (activate_core r.script h (record { host = c.self.inside.host; tiles = c.self.inside.tiles; told = c.self.inside.told; prepared = c.self.inside.prepared; required = c.self.inside.required; drawn = c.self.inside.drawn }) c.self.invariant
    c.activate.new.self c.activate-2.new.self c.forget.new.self drawn.Nothing k ms hosts holds (forgotten c.forget.new.self (required r.script (entry 0 (event.Activate k ms) ∷ h)) (ready r.script (entry 0 (event.Activate k ms) ∷ h)) c.forget.ensures) tt)

pub returns-clause-ok : goal.returns-clause-ok
returns-clause-ok c =
    let r : Run = c.self.inside.log in
    let h : List Entry = past r in
    let k : ℕ = c.args.frame in
    let ms : List Move = c.in_ok-clamps.clamps in
    let waits = subst (λ (z : Run). pending (past z) ≡ Some k) (sym c.self.view_is) c.requires.waits in
    let may = subst (λ (z : Run). is_some (now z kind.Activate 0) ≡ true) (sym c.self.view_is) c.requires.may in
    let activation : OfActivation r.script r.workers h k ms = of_activation r.script r.workers h k ms c.is_legal.ensures.legal may waits (subst (λ (z : Run). ms ≡ next_clamps z.script (past z)) (sym c.self.view_is) c.in_ok-clamps.ensures.clamps) in
    let entered : Entered r kind.Activate 0 c.enter.new.self = record { event = event.Activate k ms; is_now = activation.may_come; is_entered = c.in_ok-enter.ensures.ok } in
    subst (λ (z : Run). Entered z kind.Activate 0 c.enter.new.self) c.self.view_is entered
