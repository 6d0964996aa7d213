-- The passes are all sound where those that are left are.
use Rattle.std.specs.Prelude.{◌≡◌, ◌↔◌, ◌+◌, length}
use Rattle.viz_scene.specs.Views.{passes_view}
use Rattle.viz_scene.specs.Sound.{AreSound}
use Rattle.viz_scene.proofs.checked_scene.are_sound.Given as given

abbrev pub invariant-loop-pass : given.invariant-loop-pass
invariant-loop-pass l = record {
  count : l.number + length l.rest ≡ length l.passes;
  sound : AreSound l.w l.h 0 (passes_view l.passes) ↔ AreSound l.w l.h l.number (passes_view l.rest);
}

abbrev pub decreases-loop-pass : given.decreases-loop-pass
decreases-loop-pass l = length l.rest
