-- The scenes of the draws after the written entries, and none is left.
use Rattle.std.proofs.Common.{ℕ, ◌-◌, List, length, sym, ◌∙◌, ap, subst, Vec, Global}
use Rattle.viz_scene.specs.declared.scene.Scene.{Scene}
use Rattle.viz_scene.specs.Views.{SceneView}
use Rattle.model_history.specs.declared.history.Entry.{Entry}
use Rattle.impl_log.specs.Runs.{Run, past}
use Rattle.proxy_single_thread.specs.Singles.{SingleModel, AreScenes}
use Rattle.proxy_single_thread.specs.inner.Sides.{IsSingle}
use Rattle.proxy_single_thread.proofs.Drawn.{scenes_fresh, all_written}
use Rattle.proxy_single_thread.proofs.single.SingleThread.take_scenes.Goals as goal

pub invariant_of-self : goal.invariant_of-self
invariant_of-self c =
    let core : Run = c.forget_old.new.core in
    let stays : IsSingle core c.self.inside.main c.self.inside.workers c.self.inside.shown = subst (λ (r : Run). IsSingle r c.self.inside.main c.self.inside.workers c.self.inside.shown) (sym c.forget_old.ensures) c.self.invariant in
    record {
      few = stays.few;
      main = stays.main;
      workers = stays.workers;
      shown =
          all_written core (record { scenes = c.replace.new.dest; written = c.len-self-inside.result }) (c.len-self-inside.ensures ∙ ap (λ (es : List Entry). length es) c.history.ensures.entries)
          (ap (λ (v : Vec Scene Global). v.items) c.replace.ensures.after ∙ c.new-none.ensures.items);
    }

pub returns-clause-scenes : goal.returns-clause-scenes
returns-clause-scenes c =
    subst (λ (z : SingleModel). AreScenes z.run.script (length z.run.entries - z.written) (past z.run) c.replace.result.items) c.self.view_is
    (subst (λ (xs : List SceneView). AreScenes c.self.inside.core.script (length c.self.inside.core.entries - c.self.inside.shown.written) (past c.self.inside.core) xs) (sym (ap (λ (v : Vec Scene Global). v.items) c.replace.ensures.value))
    (scenes_fresh c.self.inside.core c.self.inside.shown c.self.invariant.shown))

pub returns-clause-taken : goal.returns-clause-taken
returns-clause-taken c =
    let core : Run = c.forget_old.new.core in
    let count = c.len-self-inside.ensures ∙ ap (λ (es : List Entry). length es) c.history.ensures.entries in
    ap (λ (n : ℕ). record { run = core; written = n }) count
    ∙ ap (λ (r : Run). record { run = r; written = length r.entries }) (c.forget_old.ensures ∙ ap (λ (m : SingleModel). m.run) c.self.view_is)
