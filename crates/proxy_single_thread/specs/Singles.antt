-- What a compositor on one thread is asked for, what it answers, and what it keeps of what it drew.
use Rattle.std.specs.Prelude.{◌≡◌, ℕ, zero, suc, ◌+◌, ◌≤◌, ◌<◌, List, [], ◌∷◌, ◌++◌, None, Result, Ok, Err, ⊤}
use Rattle.viz_scene.specs.Views.{SceneView}
use Rattle.model_states.specs.declared.kind.Kind.{Kind}
use Rattle.model_states.specs.declared.kind.Kind.TheVariants as kind
use Rattle.model_history.specs.declared.event.Event.{Event}
use Rattle.model_history.specs.declared.event.Event.TheVariants as event
use Rattle.model_history.specs.declared.history.Entry.{Entry}
use Rattle.model_history.specs.Scripts.{ScriptModel}
use Rattle.model_lockstep.specs.declared.compositor.EnterFault.{EnterFault}
use Rattle.model_lockstep.specs.declared.compositor.EnterFault.TheVariants.{NotNow, Memory}
use Rattle.model_lockstep.specs.Walks as walks
use Rattle.impl_log.specs.Runs.{Run, past, now, Entered}
use Rattle.impl_core.specs.Replies.{IsPicture}

-- what contracts see of it: its run, and how many of the entries were written
pub record SingleModel : Type 0 where
  pub run : Run
  pub written : ℕ

-- the same as the loops of lockstep see it
abbrev pub walk_of : SingleModel → walks.WalkState
walk_of m = record { script = m.run.script; past = past m.run; written = m.written }

-- the actor has events of this kind, if there are that many workers: the main side, a worker, anybody, or the compositor
abbrev pub HasKind : ℕ → Kind → ℕ → Type 0
HasKind n kind.Ready a = a ≡ 1
HasKind n kind.Abort a = a ≡ 1
HasKind n kind.Start a = (2 ≤ a) × (a < 2 + n)
HasKind n kind.Done a = (2 ≤ a) × (a < 2 + n)
HasKind n kind.Stop a = a < 2 + n
HasKind n _ a = a ≡ 0

-- the event of this kind and actor was entered; or none might come, and nothing has changed; or memory was refused, and nothing has changed
abbrev pub SingleEnters : Run → Kind → ℕ → Run → Result ⊤ EnterFault → Type 0
SingleEnters old k a new (Ok _) = Entered old k a new
SingleEnters old k a new (Err NotNow) = (now old k a ≡ None) × (new ≡ old)
SingleEnters old k a new (Err (Memory e)) = new ≡ old

-- the last of them is the picture of this past, and the others are these
pub record EndsWith (s : ScriptModel) (h : List Entry) (rest : List SceneView → Type 0) (scenes : List SceneView) : Type 0 where
  pub front : List SceneView
  pub scene : SceneView
  pub are : scenes ≡ front ++ scene ∷ []
  pub picture : IsPicture s h scene
  pub earlier : rest front

-- an event adds the picture of the past before it if it is a draw, and else nothing
abbrev pub AddsScene : ScriptModel → List Entry → Event → (List SceneView → Type 0) → List SceneView → Type 0
AddsScene s h (event.Draw i missing) rest scenes = EndsWith s h rest scenes
AddsScene s h _ rest scenes = rest scenes

-- the scenes of the draws among the newest n entries of a past, the oldest first
abbrev pub AreScenes : ScriptModel → ℕ → List Entry → List SceneView → Type 0
AreScenes s zero h scenes = scenes ≡ []
AreScenes s (suc n) [] scenes = ⊥
AreScenes s (suc n) (e ∷ h) scenes = AddsScene s h e.event (AreScenes s n h) scenes
