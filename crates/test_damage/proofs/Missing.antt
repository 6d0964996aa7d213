-- A tile without its image may stand where the tile with it may.
use Rattle.std.proofs.Common.{◌≡◌, ℕ, zero, suc, List, [], ◌∷◌, refl, sym, ◌∙◌, ap, subst}
use Rattle.std.specs.Prelude.{None, map, All, slice_index_or, slice_set}
use Rattle.std.proofs.lemmas.List.{map-set}
use Rattle.std.proofs.lemmas.List.Elements.{All-set}
use Rattle.geom.specs.declared.rect.Point.{Point}
use Rattle.geom.specs.declared.tile.TileKey.{TileKey}
use Rattle.page_layers.specs.Pages.{Page}
use Rattle.viz_quads.specs.declared.shown_tile.ShownTile.{ShownTile}
use Rattle.viz_quads.specs.ShownTiles.{tile_of, ImageMayStand, AreShownTiles}

-- a tile without its image
abbrev pub without : ShownTile → ShownTile
without s = record s { image = None }

same_keys : (ts : List ShownTile) (i : ℕ) (d : ShownTile)
    → map (λ t. t.key) (map tile_of (slice_set ts i (without (slice_index_or ts i d)))) ≡ map (λ t. t.key) (map tile_of ts)
same_keys [] i d = refl
same_keys (t ∷ ts) zero d = refl
same_keys (t ∷ ts) (suc i) d = ap (λ (keys : List TileKey). t.key ∷ keys) (same_keys ts i d)

pub right_without : (ts : List ShownTile) (i : ℕ) (d : ShownTile) (p : Page) (offset : ℕ → Point) → AreShownTiles p offset (map tile_of ts)
    → AreShownTiles p offset (map tile_of (slice_set ts i (without (slice_index_or ts i d))))
right_without ts i d p offset right =
    let s = without (slice_index_or ts i d) in
    record {
      stamp = right.stamp;
      keys = same_keys ts i d ∙ right.keys;
      images = subst (All (ImageMayStand p)) (sym (map-set tile_of ts i s)) (All-set (ImageMayStand p) (map tile_of ts) i (tile_of s) tt right.images);
    }
