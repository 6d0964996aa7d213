-- Pasts after which the same keys are ready, in flight and pinned.
use Rattle.std.proofs.Common.{◌≡◌, ℕ, true, List, ◌∷◌, refl, ap}
use Rattle.geom.specs.KeyLists.{has_key}
use Rattle.model_history.specs.declared.event.Event.{Event}
use Rattle.model_history.specs.declared.event.Event.TheVariants as event
use Rattle.model_history.specs.declared.history.Entry.{Entry}
use Rattle.model_history.specs.Scripts.{ScriptModel}
use Rattle.model_history.specs.Accepted.{IsPlayable}
use Rattle.model_history.specs.Legal.{Legal}
use Rattle.model_steps.specs.Events.{commit}
use Rattle.model_steps.proofs.ReadyAfter.{commit_ready}
use Rattle.impl_tiles.specs.Managers.{HaveSameTiles}
use Rattle.impl_choice.specs.Rebuilds.{leaves_tiles}

abbrev entry : ℕ → Event → Entry
entry actor e = record { actor = actor; event = e }

by_event : (s : ScriptModel) (h : List Entry) (actor : ℕ) (e : Event) → leaves_tiles e ≡ true → HaveSameTiles s h (entry actor e ∷ h)
by_event s h a (event.Send k pulls) t = absurd cc
by_event s h a (event.Commit k) t = absurd cc
by_event s h a (event.Activate k clamps) t = absurd cc
by_event s h a (event.Start w q evicted) t = absurd cc
by_event s h a (event.DoneTile w q) t = absurd cc
by_event s h a e t = record { ready = λ q. refl; in_flight = λ q. refl; pinned = λ q. refl }

pub same_tiles : (s : ScriptModel) (h : List Entry) (e : Entry) → leaves_tiles e.event ≡ true → HaveSameTiles s h (e ∷ h)
same_tiles s h e t = by_event s h e.actor e.event t

pub same_after_commit : (s : ScriptModel) (n : ℕ) (h : List Entry) (a k : ℕ) → IsPlayable s → Legal s n (commit a k ∷ h) → HaveSameTiles s h (commit a k ∷ h)
same_after_commit s n h a k acc legal = record {
  ready = λ q. ap (λ ks. has_key ks q) (commit_ready s n h a k acc legal);
  in_flight = λ q. refl;
  pinned = λ q. refl;
}
