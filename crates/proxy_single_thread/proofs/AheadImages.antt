-- The images that were made ahead show their keys.
use Rattle.std.proofs.Common.{◌≡◌, List, [], ◌∷◌, map, subst, Global}
use Rattle.std.specs.List.{AllByRecursion}
use Rattle.std.proofs.lemmas.List.Elements.{All-from_recursion}
use Rattle.std.specs.declared.sync.Arc.{Arc}
use Rattle.tile_raster.specs.Images.{Image}
use Rattle.tile_raster.specs.declared.job.Job.{Job}
use Rattle.tile_raster.specs.declared.image.TileImage.{TileImage}
use Rattle.model_history.specs.Scripts.{ScriptModel}
use Rattle.model_steps.specs.ShownKeys.{KeyShows}
use Rattle.proxy_single_thread.specs.inner.Images.{ShowsItsKey, ArePrepared}

-- what a job makes
abbrev made : Job → Image
made job = record { key = job.key; rect = job.rect; list = job.list.value }

made_alike : (P : Image → Type 0) (jobs : List Job) (images : List (Arc TileImage Global)) → map (λ (i : Arc TileImage Global). i.value) images ≡ map made jobs → AllByRecursion (λ (j : Job). P (made j)) jobs
    → AllByRecursion (λ (i : Arc TileImage Global). P i.value) images
made_alike P [] [] are all = tt
made_alike P [] (i ∷ is) are all = absurd cc
made_alike P (j ∷ js) [] are all = absurd cc
made_alike P (j ∷ js) (i ∷ is) are all = (subst P (cc) all.0, made_alike P js is (cc) all.1)

-- they are the images of jobs that show their keys
pub prepared_of : (s : ScriptModel) (jobs : List Job) (images : List (Arc TileImage Global)) → map (λ (i : Arc TileImage Global). i.value) images ≡ map made jobs
    → AllByRecursion (λ (j : Job). KeyShows s j.key j.rect j.list.value) jobs → ArePrepared s images
prepared_of s jobs images are all = All-from_recursion (ShowsItsKey s) images (made_alike (λ (i : Image). KeyShows s i.key i.rect i.list) jobs images are all)
