-- What a use writes is the same for every number of raster workers.
use Rattle.std.proofs.Common.{◌≡◌, ℕ, List, None, Some, reverse, sym, ap, ◌∙◌, subst}
use Rattle.model_history.specs.declared.history.Entry.{Entry}
use Rattle.model_history.specs.Scripts.{ScriptModel}
use Rattle.model_history.proofs.LockstepWords.{lockstep_one}
use Rattle.script_json.specs.Recordings.{recording}
use Rattle.script_json.proofs.CanonicalTexts.{one_recording_of}
use Rattle.script_json.proofs.ScriptLaws.{one_script}
use Rattle.recording_writer.specs.Files.{IsFileOf}
use Rattle.player_lockstep.specs.Films.{IsLockstepFilm, film, last_image}
use Rattle.player_lockstep.specs.Shots.{IsShot}
use Rattle.player_uses.specs.Shots.{with_shot}
use Rattle.player_uses.specs.declared.words.Use.TheVariants.{Step, Film, Shot}
use Rattle.player_run.specs.Runs.{IsOutput, IsRunOf}

-- ---- of one script

one_run : (n m : ℕ) (s : ScriptModel) (v w : List ℕ) → IsRunOf n s v → IsRunOf m s w → v ≡ w
one_run n m s v w (h, promised, is) (g, promises, are) =
    one_recording_of s h v is ∙ (ap (recording s) (lockstep_one s h g promised.lockstep promises.lockstep) ∙ sym (one_recording_of s g w are))

one_film : (s : ScriptModel) (v w : List ℕ) → IsLockstepFilm s v → IsLockstepFilm s w → v ≡ w
one_film s v w (h, lockstep, is) (g, other, are) = is ∙ (ap (film s) (lockstep_one s h g lockstep other) ∙ sym are)

-- both files are of one image
one_shot : (s : ScriptModel) (v w : List ℕ) → IsShot s (Some v) → IsShot s (Some w) → (image : List ℕ) × IsFileOf image v × IsFileOf image w
one_shot s v w (None, last, is) other = absurd is
one_shot s v w (Some image, last, is) (None, other, are) = absurd are
one_shot s v w (Some image, (h, lockstep, one), is) (Some picture, (g, other, two), are) =
    let same : Some picture ≡ Some image = two ∙ (ap (λ (k : List Entry). last_image s (reverse k)) (lockstep_one s g h other lockstep) ∙ sym one) in
    let alike : picture ≡ image = cc same in
    (image, is, subst (λ (p : List ℕ). IsFileOf p w) alike are)

-- ---- of one text

pub stepped_once : (n m : ℕ) (bytes v w : List ℕ) → IsOutput (Step n) bytes v → IsOutput (Step m) bytes w → v ≡ w
stepped_once n m bytes v w (s, from, run) (t, other, runs) =
    one_run n m s v w run (subst (λ (x : ScriptModel). IsRunOf m x w) (one_script bytes t s other.0 from.0) runs)

pub filmed_once : (n m : ℕ) (bytes v w : List ℕ) → IsOutput (Film n) bytes v → IsOutput (Film m) bytes w → v ≡ w
filmed_once n m bytes v w (s, from, is) (t, other, are) =
    one_film s v w is (subst (λ (x : ScriptModel). IsLockstepFilm x w) (one_script bytes t s other.0 from.0) are)

pub shot_once : (n m : ℕ) (bytes v w : List ℕ) → IsOutput (Shot n) bytes v → IsOutput (Shot m) bytes w → (image : List ℕ) × IsFileOf image v × IsFileOf image w
shot_once n m bytes v w (s, from, is) (t, other, are) =
    one_shot (with_shot s) v w is (subst (λ (x : ScriptModel). IsShot (with_shot x) (Some w)) (one_script bytes t s other.0 from.0) are)
