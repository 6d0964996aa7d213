-- The picture of a script, and its file.
use Rattle.std.proofs.Common.{◌≡◌, ℕ, List, None, Some, inl, inr, refl, sym, subst}
use Rattle.std.specs.Prelude.{Option}
use Rattle.model_history.specs.Scripts.{ScriptModel}
use Rattle.model_history.proofs.LockstepWords.{lockstep_one}
use Rattle.player_lockstep.specs.Films.{IsLastImage}
use Rattle.player_lockstep.specs.Shots.{IsShot}
use Rattle.player_uses.specs.declared.outcome.Outcome.{Outcome}
use Rattle.player_uses.specs.declared.outcome.Outcome.TheVariants.{Done, WriteFault, Memory, NoPicture}
use Rattle.player_uses.specs.Outputs.{WritesSome}
use Rattle.player_run.specs.inner.Shots.{Shoots}
use Rattle.player_run.specs.Shots.{HasPicture}

-- what the file shows is the script's last image
pub has_picture : (s : ScriptModel) (file : List ℕ) → IsShot s (Some file) → HasPicture s
has_picture s file (None, last, is) = absurd is
has_picture s file (Some image, last, is) = (image, last)

-- a script that has a last image does not lack one
pub one_last_image : (s : ScriptModel) (image : List ℕ) → IsLastImage s (Some image) → IsLastImage s None → ⊥
one_last_image s image (h, lockstep, is) (g, other, none) =
    let same : h ≡ g = lockstep_one s h g lockstep other in
    cc (is, none, same)

-- ---- the file

-- what was written is the file of the script's last image, or a prefix of it
pub file_shot : (s : ScriptModel) (file : List ℕ) (old new : Option (List ℕ)) (result : Outcome) → IsShot s (Some file) → WritesSome (λ whole. whole ≡ file) old new result → Shoots s old new result
file_shot s file old new Done shot (whole, is, gains) = (whole, subst (λ (w : List ℕ). IsShot s (Some w)) (sym is) shot, gains)
file_shot s file old new WriteFault shot (whole, is, gains) = (whole, subst (λ (w : List ℕ). IsShot s (Some w)) (sym is) shot, gains)
file_shot s file old new Memory shot (inl same) = inl same
file_shot s file old new Memory shot (inr (whole, is, gains)) = inr (whole, subst (λ (w : List ℕ). IsShot s (Some w)) (sym is) shot, gains)
file_shot s file old new _ shot wrote = absurd wrote

-- where the script has none, nothing was written
pub no_shot : (s : ScriptModel) (held : Option (List ℕ)) → IsShot s None → Shoots s held held NoPicture
no_shot s held (None, last, is) = (last, refl)
no_shot s held (Some image, last, is) = absurd is
