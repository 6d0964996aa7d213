-- A layer in its place has the colours of the layer.
use Rattle.std.proofs.Common.{ℕ, ℤ, pos, ◌≡◌, ◌≤◌, ◌==◌, ◌*◌, ◌&&◌, ◌||◌, ◌+ℤ◌, ◌-ℤ◌, Bool, true, false, cond, List, [], ◌∷◌, map, filter, All, refl, ap, sym, ◌∙◌, subst, arith, Ok}
use Rattle.std.specs.List.{AllByRecursion}
use Rattle.std.proofs.lemmas.Int.{ints}
use Rattle.std.proofs.lemmas.List.Elements.{All-nil, All-cons}
use Rattle.geom.specs.declared.rect.Point.{Point}
use Rattle.geom.specs.declared.rect.Rect.{Rect}
use Rattle.geom.specs.declared.tile.Place.{Place}
use Rattle.geom.specs.declared.tile.TileKey.{TileKey}
use Rattle.geom.specs.Covers.{covers, IsSound}
use Rattle.geom.specs.Gaps.{shifted}
use Rattle.geom.specs.Sides.{IsLayerSide}
use Rattle.geom.proofs.Meets.{covers_shifted}
use Rattle.pixel.specs.Colours.{Parts, clear}
use Rattle.page_properties.specs.Placement.{minus, translation, clip_of, IsWithin}
use Rattle.page_properties.specs.Trees.{Trees as Props}
use Rattle.page_display_list.specs.declared.item.Item.{Item}
use Rattle.page_display_list.specs.Content.{content}
use Rattle.page_layers.specs.declared.layer.Layer.{Layer}
use Rattle.page_layers.specs.Layers.{PageLayer, parts_of}
use Rattle.page_layers.specs.Pages.{Page}
use Rattle.page_layers.specs.Sound.{IsLayer}
use Rattle.page_layers.specs.TreePainting.{lets_through, lies_at, point_in, place_at, lacks_tile_at, layer_colour_at}
use Rattle.page_layers.specs.Paintings.{Placed, has_place, colour_there, placed_colour}
use Rattle.page_layers.proofs.TestFacts.{passed, count_facts}
use Rattle.page_layers.specs.Tests.{check_range, is_size}

-- the bounds of a layer, moved, are a sound rect
pub bounds_sound : (w h : ℕ) (by : Point) → w ≤ 16384 → h ≤ 16384 → IsWithin (256 * 1114112) by → IsSound (shifted (record { x = pos 0; y = pos 0; w = pos w; h = pos h }) by)
bounds_sound w h by wide tall near = record {
  across = record { from_low = omega (arith, ints, near.left); from_high = omega (arith, ints, near.right); length_low = omega (arith, ints); length_high = omega (arith, ints, wide) };
  down = record { from_low = omega (arith, ints, near.upper); from_high = omega (arith, ints, near.lower); length_low = omega (arith, ints); length_high = omega (arith, ints, tall) };
}

-- a moved rect covers a point where the rect covers the point moved back
pub covers_back : (r : Rect) (by : Point) (x y : ℤ) → covers (shifted r by) x y ≡ covers r (x -ℤ by.x) (y -ℤ by.y)
covers_back r by x y =
    let across : x ≡ (x -ℤ by.x) +ℤ by.x = omega (arith, ints) in
    let down : y ≡ (y -ℤ by.y) +ℤ by.y = omega (arith, ints) in
    ap (λ (z : ℤ). covers (shifted r by) z y) across ∙ ap (λ (z : ℤ). covers (shifted r by) ((x -ℤ by.x) +ℤ by.x) z) down ∙ covers_shifted r by (x -ℤ by.x) (y -ℤ by.y)

-- the keys of a layer name a place where it is missing
pub own_missing : (keys : List TileKey) (layer : ℕ) (place : Place) → has_place (filter (λ k. k.layer == layer) keys) place ≡ lacks_tile_at keys layer place
own_missing [] layer place = refl
own_missing (k ∷ ks) layer place = go (k.layer == layer) (own_missing ks layer place)
  where
    go : (b : Bool) → has_place (filter (λ j. j.layer == layer) ks) place ≡ lacks_tile_at ks layer place
        → has_place (cond b (k ∷ filter (λ j. j.layer == layer) ks) (filter (λ j. j.layer == layer) ks)) place ≡ (b && (k.x == place.x) && (k.y == place.y)) || lacks_tile_at ks layer place
    go true rest = ap (λ (t : Bool). ((k.x == place.x) && (k.y == place.y)) || t) rest
    go false rest = rest

-- the colours of a layer that lies in its area, is moved by its translation, and has its missing tiles
pub placed_colours : (p : Page) (offset : ℕ → Point) (missing : List TileKey) (layer : PageLayer) (l : Placed) (bounds : Rect)
    → bounds ≡ shifted (record { x = pos 0; y = pos 0; w = pos layer.w; h = pos layer.h }) l.by
    → l.by ≡ translation offset p.props.transforms layer.transform
    → ((x y : ℤ) → covers l.area x y ≡ (lets_through (clip_of offset p.props.transforms p.props.clips layer.clip) x y && covers bounds x y))
    → l.colour ≡ layer.colour → l.items ≡ layer.items → l.missing ≡ filter (λ k. k.layer == layer.id) missing
    → (x y : ℤ) → placed_colour p.view.tile x y l ≡ layer_colour_at p offset missing x y layer
unfolding placed_colour colour_there
placed_colours p offset missing layer l bounds bounds-is by points colour items keys x y =
    let whole : Rect = record { x = pos 0; y = pos 0; w = pos layer.w; h = pos layer.h } in
    let q : Point = minus (record { x = x; y = y }) l.by in
    let at : q ≡ point_in p offset layer x y = ap (λ (b : Point). minus (record { x = x; y = y }) b) by in
    let lies : covers l.area x y ≡ lies_at p offset x y layer =
    points x y
    ∙ ap (λ (t : Bool). lets_through (clip_of offset p.props.transforms p.props.clips layer.clip) x y && t) (ap (λ (r : Rect). covers r x y) bounds-is ∙ covers_back whole l.by x y ∙ ap (λ (z : Point). covers whole z.x z.y) at) in
    let there : has_place l.missing (place_at p.view.tile q) ≡ lacks_tile_at missing layer.id (place_at p.view.tile q) =
    ap (λ (ks : List TileKey). has_place ks (place_at p.view.tile q)) keys ∙ own_missing missing layer.id (place_at p.view.tile q) in
    ap (λ (t : Bool). cond t (cond (has_place l.missing (place_at p.view.tile q)) l.colour (content l.items q.x q.y)) clear) lies
    ∙ ap (λ (t : Bool). cond (lies_at p offset x y layer) (cond t l.colour (content l.items q.x q.y)) clear) there
    ∙ ap (λ (c : Parts). cond (lies_at p offset x y layer) (cond (lacks_tile_at missing layer.id (place_at p.view.tile q)) c (content l.items q.x q.y)) clear) colour
    ∙ ap (λ (is : List Item). cond (lies_at p offset x y layer) (cond (lacks_tile_at missing layer.id (place_at p.view.tile q)) layer.colour (content is q.x q.y)) clear) items
    ∙ ap (λ (z : Point). cond (lies_at p offset x y layer) (cond (lacks_tile_at missing layer.id (place_at p.view.tile z)) layer.colour (content layer.items z.x z.y)) clear) at

-- the sides of a layer of a page
pub size_facts : (w h : ℕ) → is_size w h ≡ Ok tt → IsLayerSide w × IsLayerSide h
unfolding is_size
size_facts w h ok =
    let first = passed (check_range (pos w) (pos 1) (pos 16384)) _ tt ok in
    let across = count_facts w 1 16384 first.1 in
    let down = count_facts h 1 16384 first.2 in
    (record { low = across.0; high = across.1 }, record { low = down.0; high = down.1 })

pub sizes : (props : Props) (used : List ℕ) (ls : List Layer) (layers : List PageLayer) → map parts_of ls ≡ layers → AllByRecursion (IsLayer props used) layers → All (λ l. IsLayerSide l.w × IsLayerSide l.h) ls
sizes props used ls layers is all = go ls (subst (λ (ks : List PageLayer). AllByRecursion (IsLayer props used) ks) (sym is) all)
  where
    go : (ls : List Layer) → AllByRecursion (IsLayer props used) (map parts_of ls) → All (λ (l : Layer). IsLayerSide l.w × IsLayerSide l.h) ls
    go [] h = All-nil (λ (l : Layer). IsLayerSide l.w × IsLayerSide l.h)
    go (l ∷ ls) h = All-cons (λ (k : Layer). IsLayerSide k.w × IsLayerSide k.h) l ls (size_facts l.w l.h h.0.size) (go ls h.1)
