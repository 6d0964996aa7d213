-- What events that move scrollers do not do, and what the host tells of commits.
use Rattle.std.proofs.Common.{◌≡◌, ℕ, ◌==◌, true, false, List, [], ◌∷◌, length, Option, Some, None, Result, Ok, Err, refl, subst, arith}
use Rattle.std.specs.Prelude.{OnOk}
use Rattle.model_history.specs.declared.event.Event.{Event}
use Rattle.model_history.specs.declared.event.Event.TheVariants as event
use Rattle.model_history.specs.EventFields.{sends, commits, activates}
use Rattle.model_history.specs.Commits.{CommitModel}
use Rattle.model_history.specs.Scrolls.{clobbers}
use Rattle.model_history.specs.Scripts.{ScriptModel}
use Rattle.page_layers.specs.declared.moves.Move.{Move}
use Rattle.model_history.proofs.BoolFacts.{same_number}
use Rattle.impl_scroll.specs.Rows.{has_number}
use Rattle.impl_scroll.specs.Standings.{uses_scroll}
use Rattle.main_host.specs.declared.main_end.MainEnd.{MainEnd}
use Rattle.main_host.specs.declared.main_end.MainEnd.TheVariants as end
use Rattle.recording_judge.specs.inner.Mains.{IsCommitOf, IsCommitted, commit_of}

pub record IsNoFrame (e : Event) : Type 0 where
  pub sends : sends e ≡ None
  pub commits : commits e ≡ None
  pub activates : activates e ≡ None

pub scroll_is_none : (e : Event) → uses_scroll e ≡ true → IsNoFrame e
scroll_is_none (event.Scroll i dx dy) t = record { sends = refl; commits = refl; activates = refl }
scroll_is_none (event.Wheel i layer x y ms) t = record { sends = refl; commits = refl; activates = refl }
scroll_is_none _ t = absurd cc

-- an empty list names no scroller
pub none_named : (ids : List ℕ) → (length ids == 0) ≡ true → (sc : ℕ) → has_number ids sc ≡ false
none_named [] e sc = refl
none_named (i ∷ is) e sc = let z : length (i ∷ is) ≡ 0 = same_number (length (i ∷ is)) 0 e in absurd (omega (arith, z))

-- what holds where a value is answered
pub on_ok : {X E : Type 0} {P Q : Type 0} (r : Result X E) → (P → Q) → OnOk r P → OnOk r Q
on_ok (Ok x) f p = f p
on_ok (Err e) f p = tt

pub is_commit : (s : ScriptModel) (ps : ℕ → List Move) (k : ℕ) (o : Option MainEnd) (c : CommitModel) → IsCommitted s ps k o → commit_of o ≡ Some c → IsCommitOf s ps k c
is_commit s ps k None c is e = absurd is
is_commit s ps k (Some (end.Ready d)) c is e = let same : d ≡ c = cc in subst (IsCommitOf s ps k) same is
is_commit s ps k (Some (end.Abort j)) c is e = absurd is

-- its frame sets the scrollers outright that the script's frame does
pub set_by : (s : ScriptModel) (ps : ℕ → List Move) (k : ℕ) (c : CommitModel) → IsCommitOf s ps k c → (sc : ℕ) → clobbers c.script (Some c.frame) sc ≡ clobbers s (Some k) sc
set_by s ps k c is sc = λ i. clobbers (is.script i) (Some (is.frame i)) sc

-- it is there
pub commit_absent : (s : ScriptModel) (ps : ℕ → List Move) (k : ℕ) (o : Option MainEnd) → IsCommitted s ps k o → commit_of o ≡ None → ⊥
commit_absent s ps k None is e = is
commit_absent s ps k (Some (end.Ready d)) is e = absurd cc
commit_absent s ps k (Some (end.Abort j)) is e = is
