-- The reach holds the areas of the quads so far.
use Rattle.std.specs.Prelude.{◌∷◌, [], take}
use Rattle.viz_scene.specs.Views.{quads_view}
use Rattle.viz_scene.specs.Areas.{IsOnScreen}
use Rattle.viz_damage.specs.inner.Alike.{ActWithin}
use Rattle.viz_damage.proofs.quads.reach_of.Given as given

abbrev pub invariant-loop-quad : given.invariant-loop-quad
invariant-loop-quad l = record {
  within : ActWithin l.reaches (l.reach ∷ []) (take l.quad-index (quads_view l.quads));
  inside : IsOnScreen l.reach;
}
