-- The quads of a layer are laid over what stands below them as the colour of the layer.
use Rattle.std.proofs.Common.{ℕ, ℤ, ◌≡◌, ◌==◌, ◌+ℤ◌, ◌-ℤ◌, Bool, true, false, cond, ◌&&◌, ◌||◌, Option, Some, None, List, [], ◌∷◌, map, filter, find, All, refl, ap, sym, ◌∙◌, eqb-true, arith}
use Rattle.std.specs.Prelude.{is_none, IfSome}
use Rattle.std.specs.List.{list_any}
use Rattle.std.proofs.lemmas.Int.{ints}
use Rattle.std.proofs.lemmas.Bool.Decides.{nat_tests}
use Rattle.std.proofs.lemmas.List.Elements.{All-filter, All-head, All-same, filter_passes}
use Rattle.geom.specs.declared.rect.Point.{Point}
use Rattle.geom.specs.declared.rect.Rect.{Rect}
use Rattle.geom.specs.declared.tile.Place.{Place}
use Rattle.geom.specs.declared.tile.TileKey.{TileKey}
use Rattle.geom.specs.Covers.{covers}
use Rattle.geom.specs.Grids.{rect_of_place}
use Rattle.geom.specs.Sides.{IsGrid}
use Rattle.geom.proofs.Spans.{both}
use Rattle.pixel.specs.Colours.{Parts, blend, clear}
use Rattle.pixel.proofs.Blends.{clear_shows, clear_takes}
use Rattle.page_display_list.specs.Content.{content}
use Rattle.tile_raster.specs.Images.{Image}
use Rattle.page_properties.specs.Placement.{draws}
use Rattle.page_layers.specs.Layers.{PageLayer, has_id}
use Rattle.page_layers.specs.Pages.{Page, viewport}
use Rattle.page_layers.specs.Sound.{AreDistinctLayers}
use Rattle.page_layers.specs.TreePainting.{lies_at, point_in, place_at, lacks_tile_at, colour_inside, layer_colour_at}
use Rattle.tile_visible.specs.Visible.{grid_of, visible_places}
use Rattle.tile_visible.proofs.SeenPlaces.{none_seen}
use Rattle.viz_scene.specs.Pixels.{placed_pixel, quad_over, quads_over}
use Rattle.viz_quads.specs.ShownTiles.{PageTile, place_of_tile, own_tiles, missing_keys, IsImageOf, ImageMayStand, AreShownTiles}
use Rattle.viz_quads.specs.inner.LayerQuads.{Spot, spot_of, screen_of, drawn_part, corner, quad_for, quad_of, layer_quads}
use Rattle.viz_quads.specs.inner.Passes.{ActAsOne}
use Rattle.viz_quads.proofs.DrawnPlaces.{drawn_at, drawn_places}
use Rattle.viz_quads.proofs.OwnTiles.{own_places}

-- ---- quads that are not drawn at a point make no difference

skipped : (passes : List Parts) (x y : ℤ) (below : Parts) (image : Option Image) (colour : Parts) (part whole : Rect) → covers part x y ≡ false → quad_over passes x y below (quad_for image colour part whole) ≡ below
skipped passes x y below None colour part whole h = ap (λ (t : Bool). cond t (blend below colour) below) h
skipped passes x y below (Some image) colour part whole h = ap (λ (t : Bool). cond t (blend below (placed_pixel image part (corner part whole) x y)) below) h

drawn_tile : Spot → ℤ → ℤ → PageTile → Bool
drawn_tile s x y t = covers (drawn_part s (place_of_tile t)) x y

only_drawn : (passes : List Parts) (x y : ℤ) (s : Spot) (ts : List PageTile) (below : Parts) → quads_over passes x y below (map (quad_of s) ts) ≡ quads_over passes x y below (map (quad_of s) (filter (drawn_tile s x y) ts))
unfolding drawn_tile
only_drawn passes x y s [] below = refl
only_drawn passes x y s (t ∷ ts) below = go (covers (drawn_part s (place_of_tile t)) x y) refl (only_drawn passes x y s ts)
  where
    go : (b : Bool) → covers (drawn_part s (place_of_tile t)) x y ≡ b → ((c : Parts) → quads_over passes x y c (map (quad_of s) ts) ≡ quads_over passes x y c (map (quad_of s) (filter (drawn_tile s x y) ts))) → quads_over passes x y (quad_over passes x y below (quad_of s t)) (map (quad_of s) ts) ≡ quads_over passes x y below (map (quad_of s) (cond b (t ∷ filter (drawn_tile s x y) ts) (filter (drawn_tile s x y) ts)))
    go true e rest = rest (quad_over passes x y below (quad_of s t))
    go false e rest =
        ap (λ (c : Parts). quads_over passes x y c (map (quad_of s) ts)) (skipped passes x y below t.image s.colour (drawn_part s (place_of_tile t)) (screen_of s (place_of_tile t)) e)
        ∙ rest below

-- ---- which tiles are missing

any_inner : {A : Type 0} (p q : A → Bool) → ((x : A) → p x ≡ true → q x ≡ true) → (xs : List A) → list_any p (filter q xs) ≡ list_any p xs
any_inner p q h [] = refl
any_inner {A} p q h (x ∷ xs) = go (p x) (q x) refl refl (any_inner p q h xs)
  where
    go : (a b : Bool) → p x ≡ a → q x ≡ b → list_any p (filter q xs) ≡ list_any p xs → list_any p (cond b (x ∷ filter q xs) (filter q xs)) ≡ a || list_any p xs
    go true true e f rest = ap (λ (t : Bool). t || list_any p (filter q xs)) e
    go false true e f rest = ap (λ (t : Bool). t || list_any p (filter q xs)) e ∙ rest
    go true false e f rest = absurd (let k = h x e in cc)
    go false false e f rest = rest

-- a tile of this layer and place that has no image
lacks : ℕ → Place → PageTile → Bool
lacks id place t = is_none t.image && ((t.key.layer == id) && (t.key.x == place.x) && (t.key.y == place.y))

missing_tiles : (ts : List PageTile) (id : ℕ) (place : Place) → lacks_tile_at (missing_keys ts) id place ≡ list_any (lacks id place) ts
unfolding lacks
missing_tiles [] id place = refl
missing_tiles (t ∷ ts) id place = go (is_none t.image) (missing_tiles ts id place)
  where
    go : (b : Bool) → lacks_tile_at (missing_keys ts) id place ≡ list_any (lacks id place) ts
        → lacks_tile_at (map (λ t. t.key) (cond b (t ∷ filter (λ t. is_none t.image) ts) (filter (λ t. is_none t.image) ts))) id place ≡ (b && ((t.key.layer == id) && (t.key.x == place.x) && (t.key.y == place.y))) || list_any (lacks id place) ts
    go true rest = ap (λ (c : Bool). ((t.key.layer == id) && (t.key.x == place.x) && (t.key.y == place.y)) || c) rest
    go false rest = rest

lacks_own : (id : ℕ) (place : Place) (t : PageTile) → lacks id place t ≡ true → (t.key.layer == id) ≡ true
unfolding lacks
lacks_own id place t h =
    let k = both (is_none t.image) ((t.key.layer == id) && (t.key.x == place.x) && (t.key.y == place.y)) h in
    let m = both ((t.key.layer == id) && (t.key.x == place.x)) (t.key.y == place.y) k.1 in
    (both (t.key.layer == id) (t.key.x == place.x) m.0).0

lacks_place : (id : ℕ) (place : Place) (t : PageTile) → lacks id place t ≡ true → place_of_tile t ≡ place
unfolding lacks
lacks_place id place t h =
    let k = both (is_none t.image) ((t.key.layer == id) && (t.key.x == place.x) && (t.key.y == place.y)) h in
    let m = both ((t.key.layer == id) && (t.key.x == place.x)) (t.key.y == place.y) k.1 in
    let x : t.key.x ≡ place.x = eqb-true t.key.x place.x (both (t.key.layer == id) (t.key.x == place.x) m.0).1 in
    let y : t.key.y ≡ place.y = eqb-true t.key.y place.y m.1 in
    λ i. record { x = x i; y = y i }

same_nat : (n m : ℕ) → n ≡ m → (n == m) ≡ true
same_nat n m e = grind (arith, nat_tests)

lacks_here : (t : PageTile) (id : ℕ) (place : Place) → t.key.layer ≡ id → place_of_tile t ≡ place → lacks id place t ≡ is_none t.image
unfolding lacks
lacks_here t id place own here =
    let l : (t.key.layer == id) ≡ true = same_nat t.key.layer id own in
    let x : (t.key.x == place.x) ≡ true = same_nat t.key.x place.x (ap (λ (q : Place). q.x) here) in
    let y : (t.key.y == place.y) ≡ true = same_nat t.key.y place.y (ap (λ (q : Place). q.y) here) in
    go (is_none t.image) (t.key.layer == id) (t.key.x == place.x) (t.key.y == place.y) l x y
  where
    go : (n a b c : Bool) → a ≡ true → b ≡ true → c ≡ true → n && (a && b && c) ≡ n
    go true true true true e f g = refl
    go false a b c e f g = refl
    go true false b c e f g = absurd (cc)
    go true true false c e f g = absurd (cc)
    go true true true false e f g = absurd (cc)

-- where one tile of the layer is drawn at a point of its place, it alone decides whether that place is missing
missing_here : (s : Spot) (x y : ℤ) (id : ℕ) (place : Place) (ts : List PageTile) (t : PageTile) → covers (drawn_part s place) x y ≡ true → t.key.layer ≡ id → place_of_tile t ≡ place
    → filter (drawn_tile s x y) (own_tiles id ts) ≡ t ∷ [] → lacks_tile_at (missing_keys ts) id place ≡ is_none t.image
unfolding drawn_tile
missing_here s x y id place ts t drawn own here alone =
    missing_tiles ts id place
    ∙ sym (any_inner (lacks id place) (λ t. t.key.layer == id) (lacks_own id place) ts)
    ∙ sym (any_inner (lacks id place) (drawn_tile s x y) (λ u h. ap (λ (q : Place). covers (drawn_part s q) x y) (lacks_place id place u h) ∙ drawn) (own_tiles id ts))
    ∙ ap (λ (us : List PageTile). list_any (lacks id place) us) alone
    ∙ or_false (lacks id place t)
    ∙ lacks_here t id place own here
  where
    or_false : (b : Bool) → b || false ≡ b
    or_false true = refl
    or_false false = refl

-- ---- the tile that is drawn

filter_map : {A B : Type 0} (f : A → B) (q : B → Bool) (xs : List A) → map f (filter (λ a. q (f a)) xs) ≡ filter q (map f xs)
filter_map f q [] = refl
filter_map {A} {B} f q (x ∷ xs) = go (q (f x)) (filter_map f q xs)
  where
    go : (b : Bool) → map f (filter (λ a. q (f a)) xs) ≡ filter q (map f xs) → map f (cond b (x ∷ filter (λ a. q (f a)) xs) (filter (λ a. q (f a)) xs)) ≡ cond b (f x ∷ filter q (map f xs)) (filter q (map f xs))
    go true rest = ap (λ (ys : List B). f x ∷ ys) rest
    go false rest = rest

drawn_named : (s : Spot) (x y : ℤ) (ts : List PageTile) → map place_of_tile (filter (drawn_tile s x y) ts) ≡ filter (λ q. covers (drawn_part s q) x y) (map place_of_tile ts)
unfolding drawn_tile
drawn_named s x y ts = filter_map place_of_tile (λ q. covers (drawn_part s q) x y) ts

none_named : (ts : List PageTile) → map place_of_tile ts ≡ [] → ts ≡ []
none_named [] h = refl
none_named (t ∷ ts) h = absurd (cc)

-- a pixel of an image on the screen is that of the layer's point
moved_pixel : (r part by at : ℤ) → r +ℤ ((part -ℤ (r +ℤ by)) +ℤ (at -ℤ part)) ≡ at -ℤ by
moved_pixel r part by at = omega (arith, ints)

image_pixel : (p : Page) (offset : ℕ → Point) (l : PageLayer) (place : Place) (image : Image) (part : Rect) (x y : ℤ) → IsImageOf p l place image
    → covers (rect_of_place (grid_of p l) place) (point_in p offset l x y).x (point_in p offset l x y).y ≡ true
    → placed_pixel image part (corner part (screen_of (spot_of p offset l) place)) x y ≡ content l.items (point_in p offset l x y).x (point_in p offset l x y).y
image_pixel p offset l place image part x y is there =
    let s : Spot = spot_of p offset l in
    let g : Rect = rect_of_place (grid_of p l) place in
    ap (λ (r : Rect). content image.list (r.x +ℤ ((part.x -ℤ (g.x +ℤ s.by.x)) +ℤ (x -ℤ part.x))) (r.y +ℤ ((part.y -ℤ (g.y +ℤ s.by.y)) +ℤ (y -ℤ part.y)))) is.rect
    ∙ ap (λ (z : ℤ). content image.list z (g.y +ℤ ((part.y -ℤ (g.y +ℤ s.by.y)) +ℤ (y -ℤ part.y)))) (moved_pixel g.x part.x s.by.x x)
    ∙ ap (λ (z : ℤ). content image.list (x -ℤ s.by.x) z) (moved_pixel g.y part.y s.by.y y)
    ∙ is.pixels (x -ℤ s.by.x) (y -ℤ s.by.y) (ap (λ (r : Rect). covers r (x -ℤ s.by.x) (y -ℤ s.by.y)) is.rect ∙ there)

-- the quad of a tile that is drawn lays the layer's colour there
tile_colour : (p : Page) (offset : ℕ → Point) (l : PageLayer) (missing : List TileKey) (place : Place) (passes : List Parts) (x y : ℤ) (below : Parts) (image : Option Image) → place ≡ place_at p.view.tile (point_in p offset l x y)
    → covers (drawn_part (spot_of p offset l) place) x y ≡ true → lacks_tile_at missing l.id place ≡ is_none image
    → IfSome image (λ i. IsImageOf p l place i)
    → quad_over passes x y below (quad_for image l.colour (drawn_part (spot_of p offset l) place) (screen_of (spot_of p offset l) place)) ≡ blend below (colour_inside p.view.tile missing l (point_in p offset l x y))
tile_colour p offset l missing place passes x y below None here drawn lost is =
    ap (λ (t : Bool). cond t (blend below l.colour) below) drawn
    ∙ ap (λ (t : Bool). blend below (cond t l.colour (content l.items (point_in p offset l x y).x (point_in p offset l x y).y))) (sym lost ∙ ap (λ (q : Place). lacks_tile_at missing l.id q) here)
tile_colour p offset l missing place passes x y below (Some image) here drawn lost is =
    let s : Spot = spot_of p offset l in
    let there : covers (rect_of_place (grid_of p l) place) (x -ℤ s.by.x) (y -ℤ s.by.y) ≡ true = (both (covers (rect_of_place s.grid place) (x -ℤ s.by.x) (y -ℤ s.by.y)) (covers s.clip x y) (sym (drawn_at s place x y) ∙ drawn)).0 in
    ap (λ (t : Bool). cond t (blend below (placed_pixel image (drawn_part s place) (corner (drawn_part s place) (screen_of s place)) x y)) below) drawn
    ∙ ap (λ (c : Parts). blend below c) (image_pixel p offset l place image (drawn_part s place) x y is there)
    ∙ ap (λ (t : Bool). blend below (cond t l.colour (content l.items (point_in p offset l x y).x (point_in p offset l x y).y))) (sym lost ∙ ap (λ (q : Place). lacks_tile_at missing l.id q) here)

-- ---- the layer

-- the colour that a layer shows at a point: none where it is not drawn at all
abbrev pub shown_colour : Page → (ℕ → Point) → List TileKey → ℤ → ℤ → PageLayer → Parts
shown_colour p offset missing x y l = cond (draws p.props.effects l.effect) (layer_colour_at p offset missing x y l) clear

module _ (p : Page) (offset : ℕ → Point) (ts : List PageTile) (l : PageLayer) (right : AreShownTiles p offset ts) (distinct : AreDistinctLayers p.layers) (found : find (has_id l.id) p.layers ≡ Some l) where
  spot : Spot
  spot = spot_of p offset l

  own : List PageTile
  own = own_tiles l.id ts

  named : map place_of_tile own ≡ visible_places p offset l
  unfolding own
  named = own_places p offset right.stamp ts l right.keys distinct found

  stand : All (ImageMayStand p) own
  unfolding own
  stand = All-filter (λ t. t.key.layer == l.id) (ImageMayStand p) ts right.images

  of_layer : All (λ t. (t.key.layer == l.id) ≡ true) own
  unfolding own
  of_layer = filter_passes (λ t. t.key.layer == l.id) ts

  -- the one tile that is drawn
  one_drawn : (passes : List Parts) (x y : ℤ) (below : Parts) (t : PageTile) → lies_at p offset x y l ≡ true → filter (drawn_tile spot x y) own ≡ t ∷ [] → place_of_tile t ≡ place_at p.view.tile (point_in p offset l x y)
      → quad_over passes x y below (quad_of spot t) ≡ blend below (colour_inside p.view.tile (missing_keys ts) l (point_in p offset l x y))
  unfolding own spot drawn_tile
  one_drawn passes x y below t lies alone here =
      let layer : t.key.layer ≡ l.id =
      eqb-true t.key.layer l.id (All-head (λ u. (u.key.layer == l.id) ≡ true) t [] (All-same (λ u. (u.key.layer == l.id) ≡ true) (t ∷ []) (filter (drawn_tile spot x y) own) (sym alone) (All-filter (drawn_tile spot x y) (λ u. (u.key.layer == l.id) ≡ true) own of_layer))) in
      let may : ImageMayStand p t = All-head (ImageMayStand p) t [] (All-same (ImageMayStand p) (t ∷ []) (filter (drawn_tile spot x y) own) (sym alone) (All-filter (drawn_tile spot x y) (ImageMayStand p) own stand)) in
      let drawn : covers (drawn_part spot (place_of_tile t)) x y ≡ true = All-head (λ u. drawn_tile spot x y u ≡ true) t [] (All-same (λ u. drawn_tile spot x y u ≡ true) (t ∷ []) (filter (drawn_tile spot x y) own) (sym alone) (filter_passes (drawn_tile spot x y) own)) in
      tile_colour p offset l (missing_keys ts) (place_of_tile t) passes x y below t.image here drawn (missing_here spot x y l.id (place_of_tile t) ts t drawn layer refl alone) (image_of t.image may)
    where
      image_of : (image : Option Image) → IfSome image (λ i. (k : PageLayer) → find (has_id t.key.layer) p.layers ≡ Some k → IsImageOf p k (place_of_tile t) i) → IfSome image (λ i. IsImageOf p l (place_of_tile t) i)
      image_of None h = h
      image_of (Some i) h = h l (ap (λ (n : ℕ). find (has_id n) p.layers) (eqb-true t.key.layer l.id (All-head (λ u. (u.key.layer == l.id) ≡ true) t [] (All-same (λ u. (u.key.layer == l.id) ≡ true) (t ∷ []) (filter (drawn_tile spot x y) own) (sym alone) (All-filter (drawn_tile spot x y) (λ u. (u.key.layer == l.id) ≡ true) own of_layer)))) ∙ found)

  drawn_own : (x y : ℤ) → IsGrid (grid_of p l) → draws p.props.effects l.effect ≡ true → covers (viewport p) x y ≡ true
      → map place_of_tile (filter (drawn_tile spot x y) own) ≡ cond (lies_at p offset x y l) (place_at p.view.tile (point_in p offset l x y) ∷ []) []
  unfolding spot
  drawn_own x y is drawn view = drawn_named spot x y own ∙ ap (λ (qs : List Place). filter (λ q. covers (drawn_part spot q) x y) qs) named ∙ drawn_places p offset l x y is drawn view

  shows_drawn : (passes : List Parts) (x y : ℤ) (below : Parts) (lies : Bool) → lies_at p offset x y l ≡ lies → (us : List PageTile) → filter (drawn_tile spot x y) own ≡ us → map place_of_tile us ≡ cond lies (place_at p.view.tile (point_in p offset l x y) ∷ []) []
      → quads_over passes x y below (map (quad_of spot) us) ≡ blend below (cond lies (colour_inside p.view.tile (missing_keys ts) l (point_in p offset l x y)) clear)
  shows_drawn passes x y below false e [] alone names = sym (clear_shows below)
  shows_drawn passes x y below false e (t ∷ us) alone names = absurd (cc)
  shows_drawn passes x y below true e [] alone names = absurd (cc)
  shows_drawn passes x y below true e (t ∷ []) alone names = one_drawn passes x y below t e alone cc
  shows_drawn passes x y below true e (t ∷ (u ∷ us)) alone names = absurd (cc)

  -- at each point of the viewport the layer's quads lay its colour
  pub layer_acts : (passes : List Parts) (x y : ℤ) (below : Parts) → IsGrid (grid_of p l) → covers (viewport p) x y ≡ true
      → quads_over passes x y below (layer_quads p offset ts l) ≡ blend below (shown_colour p offset (missing_keys ts) x y l)
  unfolding own spot
  layer_acts passes x y below is view = go (draws p.props.effects l.effect) refl
    where
      go : (b : Bool) → draws p.props.effects l.effect ≡ b → quads_over passes x y below (layer_quads p offset ts l) ≡ blend below (cond b (layer_colour_at p offset (missing_keys ts) x y l) clear)
      go true drawn =
          only_drawn passes x y spot own below
          ∙ shows_drawn passes x y below (lies_at p offset x y l) refl (filter (drawn_tile spot x y) own) refl (drawn_own x y is drawn view)
      go false hidden =
          ap (λ (us : List PageTile). quads_over passes x y below (map (quad_of spot) us)) (none_named own (named ∙ none_seen p offset l hidden))
          ∙ sym (clear_shows below)

  pub layer_shows : (x y : ℤ) → IsGrid (grid_of p l) → covers (viewport p) x y ≡ true → quads_over [] x y clear (layer_quads p offset ts l) ≡ shown_colour p offset (missing_keys ts) x y l
  layer_shows x y is view = layer_acts [] x y clear is view ∙ clear_takes (shown_colour p offset (missing_keys ts) x y l)

  pub layer_as_one : IsGrid (grid_of p l) → ActAsOne (viewport p) (layer_quads p offset ts l)
  layer_as_one is passes x y below view = layer_acts passes x y below is view ∙ ap (λ (c : Parts). blend below c) (sym (layer_shows x y is view))
