-- What a command does not change, kept tiles show after it too.
use Rattle.std.proofs.Common.{◌≡◌, ℕ, ℤ, ◌==◌, ◌&&◌, ◌||◌, Bool, true, false, not, Option, Some, None, option_map, List, [], ◌∷◌, map, refl, sym, ◌∙◌, ap, subst, eqb-true, ◌+◌, ◌<◌, ◌≤◌, zero, suc, length, get_or, arith, add-one}
use Rattle.std.specs.Prelude.{slice_set, is_some, find}
use Rattle.std.proofs.lemmas.List.Elements.{All-map, All-weaker}
use Rattle.geom.specs.declared.rect.Rect.{Rect}
use Rattle.geom.specs.declared.tile.Place.{Place}
use Rattle.geom.specs.Covers.{covers}
use Rattle.geom.specs.Grids.{rect_of_place}
use Rattle.region.specs.declared.change.LayerChange.{LayerChange}
use Rattle.region.specs.Lists.{Changed}
use Rattle.region.specs.Points.{covered, touched}
use Rattle.region.proofs.Covering.{points_decide}
use Rattle.page_display_list.specs.Content.{content}
use Rattle.pixel.specs.Colours.{Parts}
use Rattle.tile_raster.specs.Images.{Image}
use Rattle.page_layers.specs.declared.command.Command.{Command}
use Rattle.page_layers.specs.declared.command.Command.TheVariants as command
use Rattle.page_layers.specs.Layers.{PageLayer, has_id}
use Rattle.page_layers.specs.Pages.{Page}
use Rattle.page_layers.specs.Sound.{IsPage}
use Rattle.page_layers.specs.Refusals.{has_layer}
use Rattle.page_layers.specs.Effects.{Change, page_after_command, layer_change_of, retiles}
use Rattle.page_layers.specs.Outcomes.{Accepts, ListsChange, HoldsOnly, IsChange}
use Rattle.page_layers.specs.Contents.{shows_at, is_changed_whole, KeepsTheRest}
use Rattle.page_layers.proofs.Unlisted.{unlisted_stays}
use Rattle.viz_quads.specs.ShownTiles.{IsImageOf}
use Rattle.cc.specs.declared.kept_tile.KeptTile.{KeptTile}
use Rattle.cc.specs.KeptTiles.{place_of, IsKeptFor, AreKeptFor, IsCurrent, AreCurrent}
use Rattle.cc.specs.inner.Marks.{shows_in, shows, is_touched, marked}

-- ---- tests

left_false : (a b : Bool) → a || b ≡ false → a ≡ false
left_false true b e = absurd (cc)
left_false false b e = refl

right_false : (a b : Bool) → a || b ≡ false → b ≡ false
right_false true b e = absurd (cc)
right_false false b e = e

neither : (a b : Bool) → a ≡ false → b ≡ false → a || b ≡ false
neither a b e f = ap (λ (t : Bool). t || b) e ∙ f

not_false : (b : Bool) → not b ≡ false → b ≡ true
not_false true e = refl
not_false false e = absurd (cc)

both_ways : (b : Bool) → b ≡ true → b ≡ false → ⊥
both_ways true e f = absurd (cc)
both_ways false e f = absurd (cc)

is_false : (b : Bool) → (b ≡ true → ⊥) → b ≡ false
is_false true f = absurd (f refl)
is_false false f = refl

-- ---- one change

untouched : (rs : List Rect) (r : Rect) (x y : ℤ) → touched rs r ≡ false → covers r x y ≡ true → covered rs x y ≡ false
untouched rs r x y out in' = is_false (covered rs x y) (λ c. both_ways (touched rs r) (points_decide.touches rs r (x, y, c, in')) out)

-- a listed change that does not show in a rect is of a change that shows at none of its points, and is not whole
quiet : (id : ℕ) (r : Rect) (change : Change) (c : LayerChange) (x y : ℤ) → IsChange change c → shows_in id r c ≡ false → covers r x y ≡ true → (change.layer == id) && (change.whole || covered change.rects x y) ≡ false
quiet id r change c x y is out in' =
    (λ i. (sym is.layer i == id) && (sym is.whole i || sym (is.points x y) i)) ∙ go (c.layer == id) out
  where
    go : (b : Bool) → b && (c.whole || touched c.region r) ≡ false → b && (c.whole || covered c.region x y) ≡ false
    go false e = refl
    go true e = neither c.whole (covered c.region x y) (left_false c.whole (touched c.region r) e) (untouched c.region r x y (right_false c.whole (touched c.region r) e) in')

quiet_whole : (id : ℕ) (r : Rect) (change : Change) (c : LayerChange) → IsChange change c → shows_in id r c ≡ false → (change.layer == id) && change.whole ≡ false
quiet_whole id r change c is out = (λ i. (sym is.layer i == id) && sym is.whole i) ∙ go (c.layer == id) out
  where
    go : (b : Bool) → b && (c.whole || touched c.region r) ≡ false → b && c.whole ≡ false
    go false e = refl
    go true e = left_false c.whole (touched c.region r) e

points : (id : ℕ) (r : Rect) (o : Option Change) (cs : List LayerChange) (x y : ℤ) → HoldsOnly o cs → shows id r cs ≡ false → covers r x y ≡ true → shows_at o id x y ≡ false
points id r None cs x y holds out in' = refl
points id r (Some change) [] x y holds out in' = absurd holds
points id r (Some change) (c ∷ []) x y holds out in' = quiet id r change c x y holds out in'
points id r (Some change) (c ∷ d ∷ ds) x y holds out in' = absurd holds

whole : (id : ℕ) (r : Rect) (o : Option Change) (cs : List LayerChange) → HoldsOnly o cs → shows id r cs ≡ false → is_changed_whole o id ≡ false
whole id r None cs holds out = refl
whole id r (Some change) [] holds out = absurd holds
whole id r (Some change) (c ∷ []) holds out = quiet_whole id r change c holds out
whole id r (Some change) (c ∷ d ∷ ds) holds out = absurd holds

same_tile : (p : Page) (c : Command) → retiles p c ≡ false → (page_after_command p c).view.tile ≡ p.view.tile
same_tile p (command.SetView c) out = eqb-true c.tile p.view.tile (not_false (c.tile == p.view.tile) out)
same_tile p _ out = refl

-- ---- one tile

found : (p : Page) (id : ℕ) → has_layer id p.layers ≡ true → (l : PageLayer) × (find (has_id id) p.layers ≡ Some l)
found p id h = go (find (has_id id) p.layers) h
  where
    go : (o : Option PageLayer) → is_some o ≡ true → (l : PageLayer) × (o ≡ Some l)
    go (Some l) h = (l, refl)
    go None h = absurd (cc)

some_parts : (a b : Parts) → Some a ≡ Some b → a ≡ b
some_parts a b e = cc

some_sizes : (a b : ℕ × ℕ) → Some a ≡ Some b → a ≡ b
some_sizes a b e = cc

module _ (p : Page) (c : Command) (changes : Changed) (is : IsPage p) (ok : Accepts p c) (lists : ListsChange (layer_change_of p c) (retiles p c) changes) where
  keeps : KeepsTheRest p c
  keeps = unlisted_stays p c is ok

  image_stays : (id : ℕ) (place : Place) (i : Image) (l m : PageLayer) → has_layer id p.layers ≡ true → has_layer id (page_after_command p c).layers ≡ true
      → changes.retiled ≡ false → shows id i.rect changes.list ≡ false → find (has_id id) p.layers ≡ Some l → find (has_id id) (page_after_command p c).layers ≡ Some m
      → IsImageOf p l place i → IsImageOf (page_after_command p c) m place i
  image_stays id place i l m before there tiles out at-l at-m image =
      let size : (m.w, m.h) ≡ (l.w, l.h) = some_sizes (m.w, m.h) (l.w, l.h)
      (sym (ap (option_map (λ (k : PageLayer). (k.w, k.h))) at-m) ∙ (keeps.size id before there (whole id i.rect (layer_change_of p c) changes.list lists.holds out) ∙ ap (option_map (λ (k : PageLayer). (k.w, k.h))) at-l)) in
      let tile : (page_after_command p c).view.tile ≡ p.view.tile = same_tile p c (sym lists.retiled ∙ tiles) in
      record {
        rect = image.rect ∙ (λ j. rect_of_place (record { w = (sym size j).0; h = (sym size j).1; tile = sym tile j }) place);
        pixels = λ x y in'. image.pixels x y in' ∙ some_parts (content l.items x y) (content m.items x y)
            (sym (ap (option_map (λ (k : PageLayer). content k.items x y)) at-l) ∙ (sym (keeps.content id x y before there (points id i.rect (layer_change_of p c) changes.list x y lists.holds out in')) ∙ ap (option_map (λ (k : PageLayer). content k.items x y)) at-m));
      }

  one_stays : (k : KeptTile) → (k.is_stale ≡ false → IsCurrent p k) → k.is_stale || is_touched (page_after_command p c) changes k ≡ false → IsCurrent (page_after_command p c) (record k { is_stale = k.is_stale || is_touched (page_after_command p c) changes k })
  one_stays k current e =
      let q : Page = page_after_command p c in
      let id : ℕ = k.key.layer in
      let touched : is_touched q changes k ≡ false = right_false k.is_stale (is_touched q changes k) e in
      let old = current (left_false k.is_stale (is_touched q changes k) e) in
      let tests : changes.retiled || not (has_layer id q.layers) ≡ false = left_false (changes.retiled || not (has_layer id q.layers)) (shows id k.image.value.rect changes.list) touched in
      let there : has_layer id q.layers ≡ true = not_false (has_layer id q.layers) (right_false changes.retiled (not (has_layer id q.layers)) tests) in
      let before = found p id old.there in
      record {
        there = there;
        kept = record {
          image = record {
            shows = λ m at-m.
                image_stays id (place_of k.key) k.image.value before.0 m old.there there (left_false changes.retiled (not (has_layer id q.layers)) tests)
                (right_false (changes.retiled || not (has_layer id q.layers)) (shows id k.image.value.rect changes.list) touched) before.1 at-m (old.kept.image.shows before.0 before.1);
          };
        };
      }

pub marked_current : (p q : Page) (c : Command) (changes : Changed) (ks : List KeptTile) → IsPage p → Accepts p c → q ≡ page_after_command p c → ListsChange (layer_change_of p c) (retiles p c) changes → AreCurrent p ks → AreCurrent q (map (marked q changes) ks)
marked_current p q c changes ks is ok e lists all =
    subst (λ (o : Page). AreCurrent o (map (marked o changes) ks)) (sym e) (record {
      each =
          All-map (λ (k : KeptTile). k.is_stale ≡ false → IsCurrent (page_after_command p c) k) (marked (page_after_command p c) changes) ks
          (All-weaker (λ (k : KeptTile). k.is_stale ≡ false → IsCurrent p k) (λ (k : KeptTile). k.is_stale || is_touched (page_after_command p c) changes k ≡ false → IsCurrent (page_after_command p c) (marked (page_after_command p c) changes k)) (one_stays p c changes is ok lists) ks all.each);
    })

marked_one : (p q : Page) (changes : Changed) (k : KeptTile) → IsKeptFor p k → IsKeptFor p (marked q changes k)
marked_one p q changes k h = record { image = h.image }

pub marked_kept : (p q : Page) (changes : Changed) (ks : List KeptTile) → AreKeptFor p ks → AreKeptFor p (map (marked q changes) ks)
marked_kept p q changes ks all = record { each = All-map (IsKeptFor p) (marked q changes) ks (All-weaker (IsKeptFor p) (λ (k : KeptTile). IsKeptFor p (marked q changes k)) (marked_one p q changes) ks all.each) }

-- ---- the loop that marks

-- the first tiles are changed, the others are as they were
abbrev pub half : (KeptTile → KeptTile) → ℕ → List KeptTile → List KeptTile
half f zero ks = ks
half f (suc i) [] = []
half f (suc i) (k ∷ ks) = f k ∷ half f i ks

pub half_get : (f : KeptTile → KeptTile) (i : ℕ) (ks : List KeptTile) (d : KeptTile) → get_or (half f i ks) i d ≡ get_or ks i d
half_get f zero ks d = refl
half_get f (suc i) [] d = refl
half_get f (suc i) (k ∷ ks) d = half_get f i ks d

half_set_at : (f : KeptTile → KeptTile) (i : ℕ) (ks : List KeptTile) (d : KeptTile) → i < length ks → slice_set (half f i ks) i (f (get_or ks i d)) ≡ half f (suc i) ks
half_set_at f i [] d l = absurd (omega arith)
half_set_at f zero (k ∷ ks) d l = refl
half_set_at f (suc i) (k ∷ ks) d l = ap (λ xs. f k ∷ xs) (half_set_at f i ks d (omega arith))

pub half_set : (f : KeptTile → KeptTile) (i : ℕ) (ks : List KeptTile) (d : KeptTile) → i < length ks → slice_set (half f i ks) i (f (get_or ks i d)) ≡ half f (i + 1) ks
half_set f i ks d l = half_set_at f i ks d l ∙ ap (λ (n : ℕ). half f n ks) (sym (add-one i))

pub half_past : (f : KeptTile → KeptTile) (i : ℕ) (ks : List KeptTile) → length ks ≤ i → half f i ks ≡ map f ks
half_past f zero [] l = refl
half_past f (suc i) [] l = refl
half_past f zero (k ∷ ks) l = absurd (omega (arith, l))
half_past f (suc i) (k ∷ ks) l = ap (λ xs. f k ∷ xs) (half_past f i ks (omega (arith, l)))
