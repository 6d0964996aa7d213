-- The tiles that a manager holds are right for the active page.
use Rattle.std.proofs.Common.{◌≡◌, ℕ, Bool, true, false, cond, not, Option, Some, None, is_some, option_map, List, [], ◌∷◌, map, filter, All, refl, sym, ◌∙◌, ap, subst}
use Rattle.std.specs.Prelude.{is_none, IfSome, find}
use Rattle.std.proofs.lemmas.List.Elements.{All-nil, All-cons}
use Rattle.geom.specs.declared.rect.Point.{Point}
use Rattle.geom.specs.declared.tile.TileKey.{TileKey}
use Rattle.geom.specs.KeyLists.{same_key, has_key}
use Rattle.geom.proofs.KeyLists.{key_itself}
use Rattle.pixel.specs.Colours.{Parts}
use Rattle.page_display_list.specs.Content.{content}
use Rattle.tile_raster.specs.Images.{Image}
use Rattle.impl_tiles.specs.Stores.{Store, image_of, is_ready}
use Rattle.page_layers.specs.Layers.{PageLayer, has_id}
use Rattle.page_layers.specs.Pages.{Page}
use Rattle.viz_quads.specs.ShownTiles.{PageTile, missing_keys, IsImageOf, ImageMayStand, AreShownTiles}
use Rattle.model_history.specs.declared.history.Entry.{Entry}
use Rattle.model_history.specs.Scripts.{ScriptModel}
use Rattle.model_history.specs.Frames.{pulls_of, active, up_to, active_page}
use Rattle.model_history.specs.Scrolls.{active_offsets}
use Rattle.model_history.specs.Stamps.{place_rect, stamp_in}
use Rattle.model_history.specs.Sharing.{has_page_key}
use Rattle.model_history.specs.Ranking.{place_named}
use Rattle.model_history.specs.Tiles.{active_tree, visible_in, ready, missing_visible}
use Rattle.model_history.proofs.BoolFacts.{or_left, or_right}
use Rattle.model_history.proofs.StampFacts.{visible_is_key}
use Rattle.model_steps.proofs.Picks.{filter_same}
use Rattle.impl_tiles.specs.Managers.{Managed, Manages}
use Rattle.impl_core.specs.Drawings.{held_tile}

-- the missing keys of held tiles are those that are not ready

none_is_not : {X : Type 0} (o : Option X) → is_none o ≡ not (is_some o)
none_is_not None = refl
none_is_not (Some x) = refl

missing_held : (store : Store) (ks : List TileKey) → missing_keys (map (held_tile store) ks) ≡ filter (λ q. not (is_ready store q)) ks
missing_held store [] = refl
missing_held store (k ∷ ks) = at_head (is_none (image_of store k)) (none_is_not (image_of store k)) (missing_held store ks)
  where
    at_head : (b : Bool) → b ≡ not (is_ready store k) → missing_keys (map (held_tile store) ks) ≡ filter (λ q. not (is_ready store q)) ks
        → map (λ (t : PageTile). t.key) (cond b (held_tile store k ∷ filter (λ t. is_none t.image) (map (held_tile store) ks)) (filter (λ t. is_none t.image) (map (held_tile store) ks)))
        ≡ cond (not (is_ready store k)) (k ∷ filter (λ q. not (is_ready store q)) ks) (filter (λ q. not (is_ready store q)) ks)
    at_head true e r = ap (λ ls. k ∷ ls) r ∙ ap (λ b. cond b (k ∷ filter (λ q. not (is_ready store q)) ks) (filter (λ q. not (is_ready store q)) ks)) e
    at_head false e r = r ∙ ap (λ b. cond b (k ∷ filter (λ q. not (is_ready store q)) ks) (filter (λ q. not (is_ready store q)) ks)) e

keys_held : (store : Store) (ks : List TileKey) → map (λ (t : PageTile). t.key) (map (held_tile store) ks) ≡ ks
keys_held store [] = refl
keys_held store (k ∷ ks) = ap (λ ls. k ∷ ls) (keys_held store ks)

some_same : (a b : Parts) → Some a ≡ Some b → a ≡ b
some_same a b e = cc

module _ (s : ScriptModel) (h : List Entry) (m : Managed) (holds : Manages s h m) where
  abbrev is_key : TileKey → Type 0
  is_key q = has_page_key s (pulls_of h) (up_to (active h)) q ≡ true

  missing_is : filter (λ q. not (is_ready m.store q)) (visible_in (active_tree s h)) ≡ missing_visible s h
  missing_is = filter_same (λ q. not (is_ready m.store q)) (λ q. not (has_key (ready s h) q)) (visible_in (active_tree s h)) (λ q i. ap not (holds.ready q))

  -- of the tiles of the visible keys, those without an image are the missing ones
  pub missing_among : (ks : List TileKey) (tiles : List PageTile) → ks ≡ visible_in (active_tree s h) → tiles ≡ map (held_tile m.store) ks → missing_keys tiles ≡ missing_visible s h
  missing_among ks tiles keys is = ap missing_keys is ∙ (missing_held m.store ks ∙ (ap (λ (qs : List TileKey). filter (λ q. not (is_ready m.store q)) qs) keys ∙ missing_is))

  -- an image of a key of the page may represent its tile
  may_stand : (q : TileKey) → is_key q → ImageMayStand (active_page s h) (held_tile m.store q)
  may_stand q has = by_image (image_of m.store q) refl
    where
      by_image : (o : Option Image) → image_of m.store q ≡ o
          → IfSome o (λ i. (l : PageLayer) → find (has_id q.layer) (active_page s h).layers ≡ Some l → IsImageOf (active_page s h) l (place_named q) i)
      by_image None e = tt
      by_image (Some i) e = λ l is.
          let shows = (holds.images q i e).1 in
          record {
            rect = sym (shows.rect (pulls_of h) (up_to (active h)) has) ∙ ap (place_rect (active_page s h) (place_named q)) is;
            pixels = λ x y c. some_same (content i.list x y) (content l.items x y)
                (sym (shows.content (pulls_of h) (up_to (active h)) has x y c) ∙ ap (λ (o : Option PageLayer). option_map (λ k. content k.items x y) o) is);
          }

  all_stand : (ks : List TileKey) → ((q : TileKey) → has_key ks q ≡ true → is_key q) → All (ImageMayStand (active_page s h)) (map (held_tile m.store) ks)
  all_stand [] f = All-nil (ImageMayStand (active_page s h))
  all_stand (k ∷ ks) f =
      All-cons (ImageMayStand (active_page s h)) (held_tile m.store k) (map (held_tile m.store) ks) (may_stand k (f k (or_left (same_key k k) (has_key ks k) (key_itself k))))
      (all_stand ks (λ q t. f q (or_right (same_key k q) (has_key ks q) t)))

  pub are_right : AreShownTiles (active_page s h) (active_offsets s h) (map (held_tile m.store) (visible_in (active_tree s h)))
  are_right = record {
    stamp = stamp_in s (pulls_of h) (up_to (active h));
    keys = keys_held m.store (visible_in (active_tree s h));
    images = all_stand (visible_in (active_tree s h)) (λ q t. visible_is_key (active_page s h) (active_offsets s h) (stamp_in s (pulls_of h) (up_to (active h))) q t);
  }

  -- for a page that is the active one, at offsets that are its own
  pub right_for : (p : Page) (f : ℕ → Point) (ks : List TileKey) (tiles : List PageTile) → p ≡ active_page s h → f ≡ active_offsets s h → ks ≡ visible_in (active_tree s h) → tiles ≡ map (held_tile m.store) ks → AreShownTiles p f tiles
  right_for p f ks tiles page offsets keys is =
      subst (λ (ts : List PageTile). AreShownTiles p f ts) (sym (is ∙ ap (map (held_tile m.store)) keys))
      (subst (λ (g : ℕ → Point). AreShownTiles p g (map (held_tile m.store) (visible_in (active_tree s h)))) (sym offsets)
      (subst (λ (q : Page). AreShownTiles q (active_offsets s h) (map (held_tile m.store) (visible_in (active_tree s h)))) (sym page) are_right))
