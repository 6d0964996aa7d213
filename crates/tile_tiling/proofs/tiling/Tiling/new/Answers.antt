use Rattle.std.proofs.Common.{refl}
use Rattle.tile_tiling.specs.inner.Kept.{stamps_of}
use Rattle.tile_tiling.proofs.Keeping.{base_for_all}
use Rattle.tile_tiling.proofs.tiling.Tiling.new.Goals as goal

pub returns : goal.returns
returns c =
    let stamps = c.in_ok-stamps.stamps.items in
    base_for_all (record { grid = c.args.grid; stamps = stamps_of c.args.grid c.args.stamp stamps }) c.args.grid c.args.stamp stamps c.in_ok-stamps.ensures.none refl
