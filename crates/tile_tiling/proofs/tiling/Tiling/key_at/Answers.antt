use Rattle.std.proofs.Common.{◌≡◌, ℕ, true, List, [], get_or, sym, ◌∙◌, ap, subst}
use Rattle.geom.specs.declared.tile.TileKey.{TileKey}
use Rattle.geom.specs.Sides.{Sides}
use Rattle.geom.specs.Grids.{has}
use Rattle.tile_tiling.specs.Tiles.{Tiled, index_of, key_of}
use Rattle.tile_tiling.specs.inner.Kept.{stamps_of}
use Rattle.tile_tiling.proofs.Keeping.{none_of, base_at}
use Rattle.tile_tiling.proofs.tiling.Tiling.key_at.Goals as goal

pub returns-then-is_empty : goal.returns-then-is_empty
returns-then-is_empty c =
    let g : Sides = c.self.inside.grid in
    let base : ℕ = c.self.inside.base in
    let stamps : List ℕ = c.self.inside.stamps.items in
    let none : stamps ≡ [] = none_of stamps c.self.inside.stamps.len c.self.inside.stamps.ok.0 (sym c.is_empty.ensures ∙ c.if-is_empty.true) in
    let there : has g c.args.place ≡ true = subst (λ (t : Tiled). has t.grid c.args.place ≡ true) (sym c.self.view_is) c.requires in
    let is : get_or (stamps_of g base stamps) (index_of g c.args.place) 0 ≡ base = base_at g base stamps c.args.place none there in
    let key : ℕ → TileKey = λ (s : ℕ). record { layer = c.args.layer; x = c.args.place.x; y = c.args.place.y; stamp = s } in
    subst (λ (t : Tiled). key base ≡ key_of t c.args.layer c.args.place) c.self.view_is (ap key (sym is))
