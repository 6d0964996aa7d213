-- The commit of the frame that was sent last.
use Rattle.std.proofs.Common.{◌≡◌, ℕ, List, ◌∷◌, Some, None, refl, arith}
use Rattle.model_states.specs.declared.kind.Kind.TheVariants as kind
use Rattle.model_history.specs.declared.event.Event.TheVariants as event
use Rattle.model_history.specs.declared.history.Entry.{Entry}
use Rattle.model_history.specs.Scripts.{ScriptModel}
use Rattle.model_history.specs.Accepted.{IsPlayable}
use Rattle.model_history.specs.Frames.{pulls_of, pending}
use Rattle.model_history.specs.Legal.{Legal, can}
use Rattle.model_history.proofs.DueFacts.{AtCommit, at_commit}
use Rattle.model_steps.specs.Events.{commit}
use Rattle.impl_choice.proofs.SameTiles.{same_after_commit}
use Rattle.impl_tiles.specs.Managers.{HaveSameTiles}
use Rattle.impl_host.proofs.Commits.{none_before}
use Rattle.impl_core.specs.inner.Cores.{Kept, IsCore, IsPrepared}
use Rattle.impl_core.proofs.MayCome.{comes_next}

-- what a commit that may come tells
pub record OfCommit (s : ScriptModel) (workers : ℕ) (h : List Entry) (k : ℕ) (kept : Kept) : Type 0 where
  pub legal : Legal s workers (commit 0 k ∷ h)
  pub is_prepared : IsPrepared s (pulls_of h) k kept.prepared
  pub same : HaveSameTiles s h (commit 0 k ∷ h)
  pub none : pending h ≡ None

pub of_commit : (s : ScriptModel) (workers : ℕ) (h : List Entry) (k : ℕ) (kept : Kept) → IsPlayable s → Legal s workers h → IsCore s h kept → can s h kind.Commit 0 ≡ Some (event.Commit k) → OfCommit s workers h k kept
of_commit s workers h k kept accepted legal core may_come =
    let next : Legal s workers (commit 0 k ∷ h) = comes_next s workers h 0 (event.Commit k) legal may_come refl (omega arith) in
    let at : AtCommit h k = at_commit s workers h 0 k next.1 in
    record { legal = next; is_prepared = core.prepared at.prepared k at.last; same = same_after_commit s workers h 0 k accepted next; none = none_before s workers h 0 k next }
