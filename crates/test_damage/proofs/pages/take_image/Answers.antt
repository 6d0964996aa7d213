use Rattle.std.proofs.Common.{sym, subst}
use Rattle.std.specs.Prelude.{map, slice_set}
use Rattle.viz_quads.specs.declared.shown_tile.ShownTile.{ShownTile}
use Rattle.viz_quads.specs.ShownTiles.{tile_of, AreShownTiles}
use Rattle.test_damage.proofs.Missing.{without, right_without}
use Rattle.test_damage.proofs.pages.take_image.Goals as goal

pub returns : goal.returns
returns c = λ p offset right.
    subst (λ (s : ShownTile). AreShownTiles p offset (map tile_of (slice_set c.args.tiles.now.items c.args.place (without s))))
    (sym c.index_mut.ensures.value)
    (right_without c.args.tiles.now.items c.args.place c.index_mut.result.now p offset right)
