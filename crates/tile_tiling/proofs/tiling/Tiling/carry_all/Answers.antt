use Rattle.std.proofs.Common.{refl}
use Rattle.tile_tiling.specs.inner.Kept.{stamps_of}
use Rattle.tile_tiling.proofs.Keeping.{base_for_all}
use Rattle.tile_tiling.proofs.tiling.Tiling.carry_all.Goals as goal

pub returns : goal.returns
returns c =
    let stamps = c.clear.new.self.items in
    rw (← c.self.view_is)
    (base_for_all (record { grid = c.self.inside.grid; stamps = stamps_of c.self.inside.grid c.args.stamp stamps }) c.self.inside.grid c.args.stamp stamps c.clear.ensures.items refl)
