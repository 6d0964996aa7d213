-- The pictures of jobs, in the order of the jobs.
use Rattle.std.proofs.Common.{◌≡◌, List, [], ◌∷◌, map, Result, Ok, Err, IfOk, refl, ◌∙◌, ap, subst, Global, Vec, Bor}
use Rattle.std.specs.Prelude.{MatchResult}
use Rattle.std.specs.List.{AllZip, Contains}
use Rattle.std.specs.declared.sync.Arc.{Arc}
use Rattle.std.specs.declared.alloc.AllocError.{AllocError}
use Rattle.tile_raster.specs.Images.{Image}
use Rattle.tile_raster.specs.declared.job.Job.{Job}
use Rattle.tile_raster.specs.declared.image.TileImage.{TileImage}

-- what a job makes
abbrev pub made : Job → Image
made job = record { key = job.key; rect = job.rect; list = job.list.value }

-- the picture that a job has made, if there was memory
abbrev pub Made : Bor Job → Result (Arc TileImage Global) AllocError → Type 0
Made job made_one = IfOk made_one (λ image. image.value ≡ made job.now)

all_made : (zs : List (Bor Job)) (ys : List (Arc TileImage Global)) → AllZip Made zs (map Ok ys) → map (λ (y : Arc TileImage Global). y.value) ys ≡ map made (map (λ (z : Bor Job). z.now) zs)
all_made [] [] h = refl
all_made [] (y ∷ ys) h = absurd h
all_made (z ∷ zs) [] h = absurd h
all_made (z ∷ zs) (y ∷ ys) h = λ i. h.0 i ∷ all_made zs ys h.1 i

module _ (jobs : List Job) (zs : List (Bor Job)) (shown : map (λ (z : Bor Job). z.now) zs ≡ jobs) (us : List (Result (Arc TileImage Global) AllocError)) (all : AllZip Made zs us) where
  in_order : (ys : List (Arc TileImage Global)) → us ≡ map Ok ys → map (λ (y : Arc TileImage Global). y.value) ys ≡ map made jobs
  in_order ys are = subst (λ (l : List Job). map (λ (y : Arc TileImage Global). y.value) ys ≡ map made l) shown (all_made zs ys (subst (AllZip Made zs) are all))

  -- where each was made, they are those of the jobs
  pub made_in_order : (r : Result (Vec (Arc TileImage Global) Global) AllocError)
      → MatchResult r (λ images. (ys : List (Arc TileImage Global)) × (us ≡ map Ok ys) × (images.items ≡ ys)) (λ e. Contains us (Err e))
      → IfOk r (λ images. map (λ (i : Arc TileImage Global). i.value) images.items ≡ map made jobs)
  made_in_order (Ok images) h = ap (map (λ (i : Arc TileImage Global). i.value)) h.2 ∙ in_order h.0 h.1
  made_in_order (Err e) h = tt
