-- Which jobs the program does.
use Rattle.std.specs.Prelude.{ℕ, ◌≤◌, ◌≡◌, List, All}
use Rattle.viz_scene.specs.declared.Quad.{Quad}
use Rattle.viz_scene.specs.Views.{quads_view, SceneView}
use Rattle.viz_scene.specs.Sound.{QuadFits}
use Rattle.test_draw.specs.declared.job.BenchJob.{BenchJob}
use Rattle.test_draw.specs.declared.job.BenchJob.TheVariants.{Over, Scale, Fill, Raster, Scene}

-- a row of at most 65536 pixels, or a list of at most 256 items
abbrev pub IsSmallJob : BenchJob → Type 0
IsSmallJob (Over pixels times) = pixels ≤ 65536
IsSmallJob (Scale pixels times) = pixels ≤ 65536
IsSmallJob (Fill pixels times) = pixels ≤ 65536
IsSmallJob (Raster kind items times) = items ≤ 256
IsSmallJob (Scene in_groups items layers times) = items ≤ 256

-- a scene of 1024 by 1024 pixels
abbrev pub IsLarge : SceneView → Type 0
IsLarge s = (s.w ≡ 1024) × (s.h ≡ 1024)

-- quads that may stand in each pass of such a scene
abbrev pub CanBeAnywhere : List Quad → Type 0
CanBeAnywhere quads = (i : ℕ) → All (QuadFits 1024 1024 i) (quads_view quads)
