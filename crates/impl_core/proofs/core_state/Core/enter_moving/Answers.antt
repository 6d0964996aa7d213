-- What stands has moved, and it is to be looked anew.
use Rattle.std.proofs.Common.{◌≡◌, ℕ, ◌+◌, ◌<◌, true, List, ◌∷◌, Some, None, refl, sym, ◌∙◌, subst, arith}
use Rattle.model_history.specs.declared.event.Event.{Event}
use Rattle.model_history.specs.declared.event.Event.TheVariants as event
use Rattle.model_history.specs.declared.history.Entry.{Entry}
use Rattle.model_history.specs.EventFields.{kind_of, actor_of, sends, commits, activates}
use Rattle.model_history.specs.Tiles.{ready, required}
use Rattle.model_history.proofs.DueFacts.{entry}
use Rattle.impl_scroll.specs.Standings.{StandsForPast}
use Rattle.impl_choice.specs.Rebuilds.{leaves_tiles}
use Rattle.impl_choice.proofs.SameTiles.{same_tiles}
use Rattle.impl_tiles.specs.Managers.{Manages}
use Rattle.impl_host.specs.Hosts.{Hosts}
use Rattle.impl_log.specs.Runs.{Run, past, now}
use Rattle.impl_core.specs.inner.Moving.{is_moving}
use Rattle.impl_core.specs.declared.drawn.Drawn.TheVariants as drawn
use Rattle.impl_core.proofs.CoreSteps.{one_more, refused}
use Rattle.impl_core.proofs.SeenSteps.{moving_core}
use Rattle.impl_core.proofs.NeedSteps.{forgotten}
use Rattle.impl_core.proofs.core_state.Core.enter_moving.Goals as goal

-- what such an event does not do
record IsQuiet (e : Event) : Type 0 where
  few : actor_of e < 2
  sends_none : sends e ≡ None
  commits_none : commits e ≡ None
  activates_none : activates e ≡ None
  leaves : leaves_tiles e ≡ true

quiet : (e : Event) → is_moving e ≡ true → IsQuiet e
quiet (event.Scroll i dx dy) t = record { few = omega arith; sends_none = refl; commits_none = refl; activates_none = refl; leaves = refl }
quiet (event.Wheel i layer rest_x rest_y ms) t = record { few = omega arith; sends_none = refl; commits_none = refl; activates_none = refl; leaves = refl }
quiet (event.Abort k) t = record { few = omega arith; sends_none = refl; commits_none = refl; activates_none = refl; leaves = refl }
quiet e t = absurd cc

pub enter-requires-clause-is_now : goal.enter-requires-clause-is_now
enter-requires-clause-is_now c = subst (λ (z : Run). now z (kind_of c.args.event) c.args.actor ≡ Some c.args.event) (sym c.self.view_is) c.requires.is_now

pub enter-requires-clause-within : goal.enter-requires-clause-within
enter-requires-clause-within c =
    let few = (quiet c.args.event c.requires.moving).few in
    let is = c.requires.actor_is in
    omega (arith, few, is)

pub invariant_of-self : goal.invariant_of-self
invariant_of-self c = refused (record { host = c.self.inside.host; tiles = c.self.inside.tiles; told = c.self.inside.told; prepared = c.self.inside.prepared; required = c.self.inside.required; drawn = c.self.inside.drawn }) c.self.inside.log c.enter.new.self c.in_err-enter.ensures.err c.self.invariant

pub invariant_of-self-2 : goal.invariant_of-self-2
invariant_of-self-2 c =
    let r : Run = c.self.inside.log in
    let h : List Entry = past r in
    let a : ℕ = c.args.actor in
    let e : Event = c.args.event in
    let q = quiet e c.requires.moving in
    let stood : StandsForPast r.script (entry a e ∷ h) c.args.standing = subst (λ (z : Run). StandsForPast z.script (entry a e ∷ past z) c.args.standing) (sym c.self.view_is) c.requires.stands in
    let hosts : Hosts r.script (entry a e ∷ h) c.stand.new.self = c.stand.ensures.keeps r.script h (entry a e) q.sends_none q.commits_none q.activates_none c.self.invariant.host stood in
    let holds : Manages r.script (entry a e ∷ h) c.forget.new.self = c.forget.ensures r.script h (entry a e ∷ h) c.self.invariant.tiles (same_tiles r.script h (entry a e) q.leaves) in
    one_more (record { host = c.stand.new.self; tiles = c.forget.new.self; told = c.self.inside.told; prepared = c.self.inside.prepared; required = c.forget-2.new.self; drawn = drawn.Nothing }) r c.enter.new.self a e c.in_ok-enter.ensures.ok
    (moving_core r.script h (record { host = c.self.inside.host; tiles = c.self.inside.tiles; told = c.self.inside.told; prepared = c.self.inside.prepared; required = c.self.inside.required; drawn = c.self.inside.drawn }) c.self.invariant c.stand.new.self c.forget.new.self c.forget-2.new.self drawn.Nothing a e c.requires.moving hosts holds (forgotten c.forget-2.new.self (required r.script (entry a e ∷ h)) (ready r.script (entry a e ∷ h)) c.forget-2.ensures) tt)
