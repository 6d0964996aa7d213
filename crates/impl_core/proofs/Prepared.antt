-- What a commit hands over, if it agrees with what was sent, is what its frame makes.
use Rattle.std.proofs.Common.{◌≡◌, ℕ, suc, ◌<◌, ◌≤◌, List, Option, Some, sym, ◌∙◌, ap, subst, arith}
use Rattle.region.specs.Lists.{Changed}
use Rattle.page_layers.specs.Pages.{Page}
use Rattle.page_layers.specs.declared.moves.Move.{Move}
use Rattle.model_history.specs.Scripts.{ScriptModel}
use Rattle.model_history.specs.Commits.{CommitModel, IsCommit}
use Rattle.model_history.specs.Frames.{page, pulls_in, commands_of}
use Rattle.model_history.specs.Stamps.{changed_by, unchanged, frame_changes}
use Rattle.model_history.specs.Scrolls.{clobbers}
use Rattle.model_history.specs.SameChanges.{SameChanges}
use Rattle.impl_scroll.specs.Rows.{has_number}
use Rattle.model_history.proofs.PageFacts.{page_alike, page_before_alike}
use Rattle.impl_core.specs.declared.handed.Handed.{Handed}
use Rattle.impl_core.specs.Handovers.{IsPreparedFor}
use Rattle.impl_core.specs.inner.Cores.{IsPrepared}

pub prepared_for : (s : ScriptModel) (ps : ℕ → List Move) (c : CommitModel) (d : Handed) → d.tree.value ≡ c.tree → d.changes ≡ c.changes → IsCommit c → c.script ≡ s → ((k : ℕ) → k ≤ c.frame → pulls_in c.sends k ≡ ps k)
    → ((sc : ℕ) → has_number d.outright.items sc ≡ clobbers c.script (Some c.frame) sc) → IsPreparedFor s ps c.frame d.tree.value d.changes d.outright.items
prepared_for s ps c d tree changes commit same told outright =
    let below : (k : ℕ) → k < suc c.frame → pulls_in c.sends k ≡ ps k = λ k l. told k (omega arith) in
    let after : page c.script (pulls_in c.sends) (suc c.frame) ≡ page s ps (suc c.frame) =
    ap (λ (z : ScriptModel). page z (pulls_in c.sends) (suc c.frame)) same ∙ page_alike s (pulls_in c.sends) ps (suc c.frame) below in
    let changed : frame_changes c.script (pulls_in c.sends) c.frame ≡ frame_changes s ps c.frame =
    ap (λ (z : ScriptModel). frame_changes z (pulls_in c.sends) c.frame) same
    ∙ ap (λ (p : Page). changed_by p (commands_of s c.frame) unchanged) (page_before_alike s (pulls_in c.sends) ps c.frame below) in
    record {
      page = tree ∙ (commit.tree ∙ after);
      changes = subst (λ (z : Changed). SameChanges z (frame_changes s ps c.frame)) (sym changes) (subst (SameChanges c.changes) changed commit.changes);
      outright_are = λ sc. outright sc ∙ ap (λ (z : ScriptModel). clobbers z (Some c.frame) sc) same;
    }

-- what is prepared is there
pub is_there : (s : ScriptModel) (ps : ℕ → List Move) (k : ℕ) (o : Option Handed) (d : Handed) → IsPrepared s ps k o → o ≡ Some d → IsPreparedFor s ps k d.tree.value d.changes d.outright.items
is_there s ps k o d is e = subst (IsPrepared s ps k) e is
