-- The bands so far are empty.
use Rattle.std.specs.Prelude.{◌≤◌, ◌-◌, length, vec_len}
use Rattle.viz_occlusion.specs.inner.Bands.{IsNothing}
use Rattle.viz_occlusion.proofs.bands.Cover.new.Given as given

abbrev pub invariant-loop-alloc : given.invariant-loop-alloc
invariant-loop-alloc l = record { nothing : IsNothing l.bands.items; few : length l.bands.items ≤ 64 }

abbrev pub decreases-loop-alloc : given.decreases-loop-alloc
decreases-loop-alloc l = 64 - vec_len l.bands
