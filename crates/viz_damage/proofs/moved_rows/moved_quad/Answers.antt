-- What each kind of quad becomes.
use Rattle.std.proofs.Common.{◌≡◌, [], ◌∷◌, ◌∙◌, ap, sym, subst, arith, rules}
use Rattle.std.proofs.lemmas.Int.{ints}
use Rattle.geom.specs.declared.Rect.{Rect}
use Rattle.tile_raster.specs.Images.{Image}
use Rattle.viz_scene.specs.Views.{QuadView, tiled, plain, quad_view}
use Rattle.viz_damage.specs.inner.Acting.{IsShown, ActMoved, AlsoFit}
use Rattle.viz_damage.proofs.Moving.{tile_moved, tile_fits, tile_gone, solid_moved, solid_fits, solid_gone}
use Rattle.viz_damage.proofs.moved_rows.moved_quad.Goals as goal

pub start_of-from-requires-clause-from_high : goal.start_of-from-requires-clause-from_high
start_of-from-requires-clause-from_high c =
    let v : quad_view c.args.quad.now ≡ tiled c.in-Tile.image.value c.in-Tile.at c.in-Tile.from = ap quad_view c.in-Tile.is in
    let shown = subst IsShown v c.requires.shown in
    let high = shown.0.height in
    let inside = shown.1.bottom in
    let lent : c.deref.result.now ≡ c.in-Tile.image.value = search rules in
    let whole : c.rect-whole.result.h ≡ c.in-Tile.image.value.rect.h = ap (λ (r : Rect). r.h) c.rect-whole.ensures.value ∙ ap (λ (i : Image). i.rect.h) lent in
    omega (arith, ints)

pub start_of-from-requires-clause-at_high : goal.start_of-from-requires-clause-at_high
start_of-from-requires-clause-at_high c =
    let v : quad_view c.args.quad.now ≡ tiled c.in-Tile.image.value c.in-Tile.at c.in-Tile.from = ap quad_view c.in-Tile.is in
    let shown = subst IsShown v c.requires.shown in
    let high = shown.0.height in
    let bottom = shown.0.bottom in
    omega (arith, ints)

pub returns-in_ok-image-in-Some : goal.returns-in_ok-image-in-Some
returns-in_ok-image-in-Some c =
    let v : quad_view c.args.quad.now ≡ tiled c.in-Tile.image.value c.in-Tile.at c.in-Tile.from = ap quad_view c.in-Tile.is in
    let start = c.start_of-from.result in
    let place = c.in-Some.place in
    subst (λ (q : QuadView).
    ActMoved c.args.cut.by c.args.cut.top c.args.cut.end (q ∷ []) (tiled c.in_ok-image-in-Some.image.value place start ∷ [])
    × AlsoFit c.args.cut.end (q ∷ []) (tiled c.in_ok-image-in-Some.image.value place start ∷ [])) (sym v)
    (subst (λ (i : Image).
    ActMoved c.args.cut.by c.args.cut.top c.args.cut.end (tiled c.in-Tile.image.value c.in-Tile.at c.in-Tile.from ∷ []) (tiled i place start ∷ [])
    × AlsoFit c.args.cut.end (tiled c.in-Tile.image.value c.in-Tile.at c.in-Tile.from ∷ []) (tiled i place start ∷ [])) (sym c.in_ok-image-in-Some.ensures) (
      tile_moved c.args.cut.by c.args.cut.top c.args.cut.end c.in-Tile.image.value c.in-Tile.at place c.in-Tile.from start c.in-Some.ensures c.start_of-from.ensures.x
          c.start_of-from.ensures.y,
      tile_fits c.args.cut.by c.args.cut.top c.args.cut.end c.in-Tile.image.value c.in-Tile.at place c.in-Tile.from start c.requires.cut c.in-Some.ensures
          c.start_of-from.ensures.x c.start_of-from.ensures.y,
    ))

pub returns-in-None : goal.returns-in-None
returns-in-None c =
    let v : quad_view c.args.quad.now ≡ tiled c.in-Tile.image.value c.in-Tile.at c.in-Tile.from = ap quad_view c.in-Tile.is in
    subst (λ (q : QuadView). ActMoved c.args.cut.by c.args.cut.top c.args.cut.end (q ∷ []) []) (sym v)
    (tile_gone c.args.cut.by c.args.cut.top c.args.cut.end c.in-Tile.image.value c.in-Tile.at c.in-Tile.from c.in-None.ensures)

pub returns-in-Some-rest_of : goal.returns-in-Some-rest_of
returns-in-Some-rest_of c =
    let v : quad_view c.args.quad.now ≡ plain c.in-Solid.at c.in-Solid.colour = ap quad_view c.in-Solid.is in
    subst (λ (q : QuadView).
    ActMoved c.args.cut.by c.args.cut.top c.args.cut.end (q ∷ []) (plain c.in-Some-rest_of.place c.in-Solid.colour ∷ [])
    × AlsoFit c.args.cut.end (q ∷ []) (plain c.in-Some-rest_of.place c.in-Solid.colour ∷ [])) (sym v) (
      solid_moved c.args.cut.by c.args.cut.top c.args.cut.end c.in-Solid.at c.in-Some-rest_of.place c.in-Solid.colour c.in-Some-rest_of.ensures,
      solid_fits c.args.cut.by c.args.cut.top c.args.cut.end c.in-Solid.at c.in-Some-rest_of.place c.in-Solid.colour c.requires.cut c.in-Some-rest_of.ensures,
    )

pub returns-in-None-rest_of : goal.returns-in-None-rest_of
returns-in-None-rest_of c =
    let v : quad_view c.args.quad.now ≡ plain c.in-Solid.at c.in-Solid.colour = ap quad_view c.in-Solid.is in
    subst (λ (q : QuadView). ActMoved c.args.cut.by c.args.cut.top c.args.cut.end (q ∷ []) []) (sym v)
    (solid_gone c.args.cut.by c.args.cut.top c.args.cut.end c.in-Solid.at c.in-Solid.colour c.in-None-rest_of.ensures)
