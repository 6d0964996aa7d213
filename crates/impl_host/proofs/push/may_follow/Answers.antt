-- The layers and the tile size tell whether a commit may follow.
use Rattle.std.proofs.Common.{map}
use Rattle.std.specs.Option.{option_copied}
use Rattle.page_layers.specs.Layers.{parts_of}
use Rattle.impl_host.proofs.Following.{tile_tells, layers_tell}
use Rattle.impl_host.proofs.push.may_follow.Goals as goal

pub returns-then-kept : goal.returns-then-kept
returns-then-kept c =
    tile_tells (option_copied c.args.last) c.args.tree.now c.args.changes.now c.is_page.ensures.distinct (map parts_of c.layers.result.now) c.layers.ensures c.are_kept-kept.result c.has_tile-tiled.result
    c.are_kept-kept.ensures c.has_tile-tiled.ensures c.if-kept.true

pub returns-else-kept : goal.returns-else-kept
returns-else-kept c =
    layers_tell (option_copied c.args.last) c.args.tree.now c.args.changes.now c.is_page.ensures.distinct (map parts_of c.layers.result.now) c.layers.ensures c.are_kept-kept.result c.has_tile-tiled.result
    c.are_kept-kept.ensures c.has_tile-tiled.ensures c.if-kept.false
