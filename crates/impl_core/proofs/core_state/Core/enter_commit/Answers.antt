-- The commit becomes the pending tree, and is taken back where it is not entered.
use Rattle.std.proofs.Common.{◌≡◌, ℕ, List, ◌∷◌, Some, sym, ◌∙◌, subst}
use Rattle.model_states.specs.declared.kind.Kind.TheVariants as kind
use Rattle.model_history.specs.declared.event.Event.TheVariants as event
use Rattle.model_history.specs.declared.history.Entry.{Entry}
use Rattle.model_history.specs.Tiles.{ready, required}
use Rattle.model_history.proofs.DueFacts.{entry}
use Rattle.model_steps.specs.Events.{commit}
use Rattle.impl_tiles.specs.Managers.{Manages}
use Rattle.impl_host.specs.Hosts.{Hosts}
use Rattle.impl_log.specs.Runs.{Run, past, now}
use Rattle.impl_core.specs.inner.Cores.{Kept}
use Rattle.impl_core.specs.declared.drawn.Drawn.TheVariants as drawn
use Rattle.impl_core.proofs.CoreSteps.{one_more, refused}
use Rattle.impl_core.proofs.SeenSteps.{commit_core}
use Rattle.impl_core.proofs.CommitSteps.{OfCommit, of_commit}
use Rattle.impl_core.proofs.NeedSteps.{forgotten}
use Rattle.impl_core.proofs.core_state.Core.enter_commit.Goals as goal

pub push_prepared-requires : goal.push_prepared-requires
push_prepared-requires c =
    let r : Run = c.self.inside.log in
    let h : List Entry = past r in
    let k : ℕ = c.args.frame in
    let kept : Kept = record { host = c.self.inside.host; tiles = c.self.inside.tiles; told = c.self.inside.told; prepared = c.self.inside.prepared; required = c.self.inside.required; drawn = c.self.inside.drawn } in
    let may_come : now r kind.Commit 0 ≡ Some (event.Commit k) = subst (λ (z : Run). now z kind.Commit 0 ≡ Some (event.Commit k)) (sym c.self.view_is) c.requires in
    let is : OfCommit r.script r.workers h k kept = of_commit r.script r.workers h k kept c.is_legal.ensures.playable c.is_legal.ensures.legal c.self.invariant may_come in
    record { script = r.script; workers = r.workers; past = h; actor = 0; playable = c.is_legal.ensures.playable; legal = is.legal; hosts = c.self.invariant.host; is_prepared = is.is_prepared }

pub enter-requires-clause-is_now : goal.enter-requires-clause-is_now
enter-requires-clause-is_now c = subst (λ (z : Run). now z kind.Commit 0 ≡ Some (event.Commit c.args.frame)) (sym c.self.view_is) c.requires

pub invariant_of-self-in-Ok-1 : goal.invariant_of-self-in-Ok-1
invariant_of-self-in-Ok-1 c =
    let r : Run = c.self.inside.log in
    let h : List Entry = past r in
    let k : ℕ = c.args.frame in
    let kept : Kept = record { host = c.self.inside.host; tiles = c.self.inside.tiles; told = c.self.inside.told; prepared = c.self.inside.prepared; required = c.self.inside.required; drawn = c.self.inside.drawn } in
    let may_come : now r kind.Commit 0 ≡ Some (event.Commit k) = subst (λ (z : Run). now z kind.Commit 0 ≡ Some (event.Commit k)) (sym c.self.view_is) c.requires in
    let is : OfCommit r.script r.workers h k kept = of_commit r.script r.workers h k kept c.is_legal.ensures.playable c.is_legal.ensures.legal c.self.invariant may_come in
    let pushed : Hosts r.script (commit 0 k ∷ h) c.push_prepared.new.host =
    c.in_ok-before.ensures.hosts r.script r.workers h 0 c.is_legal.ensures.playable is.legal c.self.invariant.host is.is_prepared in
    let holds : Manages r.script (commit 0 k ∷ h) c.forget.new.self = c.forget.ensures r.script h (commit 0 k ∷ h) c.self.invariant.tiles is.same in
    one_more (record { host = c.push_prepared.new.host; tiles = c.forget.new.self; told = kept.told; prepared = c.drop_prepared.new.prepared; required = c.forget-in-Ok.new.self; drawn = drawn.Nothing }) r c.enter.new.self 0 (event.Commit k) c.in-Ok.ensures.ok
    (commit_core r.script h kept c.self.invariant c.push_prepared.new.host c.forget.new.self c.forget-in-Ok.new.self drawn.Nothing c.drop_prepared.new.prepared k pushed holds (forgotten c.forget-in-Ok.new.self (required r.script (entry 0 (event.Commit k) ∷ h)) (ready r.script (entry 0 (event.Commit k) ∷ h)) c.forget-in-Ok.ensures) tt)

pub invariant_of-self-in-Err : goal.invariant_of-self-in-Err
invariant_of-self-in-Err c =
    let r : Run = c.self.inside.log in
    let h : List Entry = past r in
    let k : ℕ = c.args.frame in
    let kept : Kept = record { host = c.self.inside.host; tiles = c.self.inside.tiles; told = c.self.inside.told; prepared = c.self.inside.prepared; required = c.self.inside.required; drawn = c.self.inside.drawn } in
    let may_come : now r kind.Commit 0 ≡ Some (event.Commit k) = subst (λ (z : Run). now z kind.Commit 0 ≡ Some (event.Commit k)) (sym c.self.view_is) c.requires in
    let is : OfCommit r.script r.workers h k kept = of_commit r.script r.workers h k kept c.is_legal.ensures.playable c.is_legal.ensures.legal c.self.invariant may_come in
    let before : Hosts r.script h c.take_back.new.self = c.take_back.ensures r.script h kept.host is.none c.self.invariant.host c.in_ok-before.ensures.active c.in_ok-before.ensures.before in
    refused (record { host = c.take_back.new.self; tiles = kept.tiles; told = kept.told; prepared = kept.prepared; required = kept.required; drawn = kept.drawn }) r c.enter.new.self c.in-Err.ensures.err
    (record { host = before; tiles = c.self.invariant.tiles; told = c.self.invariant.told; prepared = c.self.invariant.prepared; required = c.self.invariant.required; drawn = c.self.invariant.drawn })
