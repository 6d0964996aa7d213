-- Images of kept tiles, and lists of them.
use Rattle.std.proofs.Common.{◌≡◌, ◌<◌, ◌++◌, ℕ, Bool, true, false, not, Some, List, [], ◌∷◌, filter, map, All, length, get_or, set, refl, sym, ◌∙◌, ap, subst}
use Rattle.std.specs.Prelude.{is_some, find, insert}
use Rattle.std.proofs.lemmas.List.Elements.{All-filter, filter_passes, All-set, All-get_or, All-nil, All-cons, All-head, All-tail, All-push, All-map, All-weaker}
use Rattle.geom.specs.declared.tile.Place.{Place}
use Rattle.geom.specs.declared.tile.TileKey.{TileKey}
use Rattle.geom.specs.Grids.{rect_of_place}
use Rattle.tile_raster.specs.Images.{Image}
use Rattle.page_display_list.proofs.Edits.{All-insert}
use Rattle.page_layers.specs.Layers.{PageLayer, has_id}
use Rattle.page_layers.specs.Pages.{Page}
use Rattle.page_layers.specs.Refusals.{has_layer}
use Rattle.tile_visible.specs.Visible.{key_at}
use Rattle.viz_quads.specs.ShownTiles.{PageTile, IsImageOf}
use Rattle.cc.specs.declared.kept_tile.KeptTile.{KeptTile}
use Rattle.cc.specs.inner.Marks.{made_stale}
use Rattle.cc.specs.KeptTiles.{place_of, IsImageAt, HasItsImage, HaveTheirImages, IsKeptFor, AreKeptFor, IsCurrent, AreCurrent, AreCached, HaveSameLayers}

some_same : {A : Type 0} (a b : A) → Some a ≡ Some b → a ≡ b
some_same a b e = cc

-- ---- one image

-- a kept tile of the same place has the image
pub same_place : (p : Page) (k : KeptTile) (key : TileKey) → (k.key.layer ≡ key.layer) × (k.key.x ≡ key.x) × (k.key.y ≡ key.y) → IsKeptFor p k → IsImageAt p key.layer (place_of key) k.image.value
same_place p k key e h =
    subst (λ (q : Place). IsImageAt p key.layer q k.image.value) (λ i. record { x = e.1 i; y = e.2 i })
    (subst (λ (n : ℕ). IsImageAt p n (record { x = k.key.x; y = k.key.y }) k.image.value) e.0 h.image)

-- an image of the layer that is found
pub made_image : (p : Page) (l : PageLayer) (id : ℕ) (place : Place) (image : Image) → find (has_id id) p.layers ≡ Some l → IsImageOf p l place image → IsImageAt p id place image
made_image p l id place image found h = record { shows = λ other e. subst (λ (m : PageLayer). IsImageOf p m place image) (some_same l other (sym found ∙ e)) h }

found_there : (p : Page) (l : PageLayer) (id : ℕ) → find (has_id id) p.layers ≡ Some l → has_layer id p.layers ≡ true
found_there p l id e = ap is_some e

pub made_kept : (p : Page) (l : PageLayer) (k : KeptTile) → find (has_id k.key.layer) p.layers ≡ Some l → IsImageOf p l (place_of k.key) k.image.value → IsKeptFor p k
made_kept p l k found h = record { image = made_image p l k.key.layer (place_of k.key) k.image.value found h }

-- what was made for the active page is current where the main page is that page
pub made_current : (p m : Page) (l : PageLayer) (k : KeptTile) (committed : Bool) → k.is_stale ≡ not committed → (committed ≡ true → p ≡ m) → find (has_id k.key.layer) p.layers ≡ Some l → IsImageOf p l (place_of k.key) k.image.value → k.is_stale ≡ false → IsCurrent m k
made_current p m l k committed e same found h fresh =
    subst (λ (o : Page). IsCurrent o k) (same (so committed (sym e ∙ fresh))) (record { there = found_there p l k.key.layer found; kept = made_kept p l k found h })
  where
    so : (b : Bool) → not b ≡ false → b ≡ true
    so true n = refl
    so false n = absurd (cc)

-- a page with the same layers and view shows the same image
alike_image : (p m : Page) (id : ℕ) (place : Place) (image : Image) → HaveSameLayers p m → IsImageAt p id place image → IsImageAt m id place image
alike_image p m id place image s h = record {
  shows = λ l e.
      let is : IsImageOf p l place image = h.shows l (ap (find (has_id id)) s.layers ∙ e) in
      record { rect = is.rect ∙ (λ j. rect_of_place (record { w = l.w; h = l.h; tile = (s.view j).tile }) place); pixels = is.pixels };
}

-- ---- lists of kept tiles

pub kept_at : (p : Page) (ks : List KeptTile) (i : ℕ) (k : KeptTile) → i < length ks → AreKeptFor p ks → IsKeptFor p (get_or ks i k)
kept_at p ks i k lt all = All-get_or (IsKeptFor p) ks i k lt all.each

pub same_cached : (p m : Page) (ks ns : List KeptTile) → ns ≡ ks → AreCached p m ks → AreCached p m ns
same_cached p m ks ns e all = subst (AreCached p m) (sym e) all

pub insert_cached : (p m : Page) (ks ns : List KeptTile) (i : ℕ) (k : KeptTile) → ns ≡ insert ks i k → AreCached p m ks → IsKeptFor p k → (k.is_stale ≡ false → IsCurrent m k) → AreCached p m ns
insert_cached p m ks ns i k e all one current = subst (AreCached p m) (sym e) (record {
  kept = record { each = All-insert (IsKeptFor p) ks i k all.kept.each one };
  current = record { each = All-insert (λ (k : KeptTile). k.is_stale ≡ false → IsCurrent m k) ks i k all.current.each current };
})

used_one : (p : Page) (k : KeptTile) (n : ℕ) → IsKeptFor p k → IsKeptFor p (record k { used = n })
used_one p k n h = record { image = h.image }

used_one_current : (p : Page) (k : KeptTile) (n : ℕ) → (k.is_stale ≡ false → IsCurrent p k) → k.is_stale ≡ false → IsCurrent p (record k { used = n })
used_one_current p k n h e = record { there = (h e).there; kept = used_one p k n (h e).kept }

pub used_cached : (p m : Page) (ks : List KeptTile) (i n : ℕ) (k : KeptTile) → i < length ks → AreCached p m ks → AreCached p m (set ks i (record (get_or ks i k) { used = n }))
used_cached p m ks i n k lt all = record {
  kept = record { each = All-set (IsKeptFor p) ks i (record (get_or ks i k) { used = n }) (used_one p (get_or ks i k) n (kept_at p ks i k lt all.kept)) all.kept.each };
  current = record { each = All-set (λ (k : KeptTile). k.is_stale ≡ false → IsCurrent m k) ks i (record (get_or ks i k) { used = n }) (used_one_current m (get_or ks i k) n (All-get_or (λ (k : KeptTile). k.is_stale ≡ false → IsCurrent m k) ks i k lt all.current.each)) all.current.each };
}

pub filter_kept : (p : Page) (f : KeptTile → Bool) (ks ns : List KeptTile) → ns ≡ filter f ks → AreKeptFor p ks → AreKeptFor p ns
filter_kept p f ks ns e all = subst (AreKeptFor p) (sym e) (record { each = All-filter f (IsKeptFor p) ks all.each })

pub filter_current : (p : Page) (f : KeptTile → Bool) (ks ns : List KeptTile) → ns ≡ filter f ks → AreCurrent p ks → AreCurrent p ns
filter_current p f ks ns e all = subst (AreCurrent p) (sym e) (record { each = All-filter f (λ (k : KeptTile). k.is_stale ≡ false → IsCurrent p k) ks all.each })

not_true : (b : Bool) → not b ≡ true → b ≡ false
not_true false e = refl
not_true true e = absurd (cc)

both_kept : (p : Page) (ks : List KeptTile) → All (λ (k : KeptTile). k.is_stale ≡ false → IsCurrent p k) ks → All (λ (k : KeptTile). not k.is_stale ≡ true) ks → All (IsKeptFor p) ks
both_kept p [] all passes = All-nil (IsKeptFor p)
both_kept p (k ∷ ks) all passes = All-cons (IsKeptFor p) k ks
    (All-head (λ (k : KeptTile). k.is_stale ≡ false → IsCurrent p k) k ks all (not_true k.is_stale (All-head (λ (k : KeptTile). not k.is_stale ≡ true) k ks passes))).kept
    (both_kept p ks (All-tail (λ (k : KeptTile). k.is_stale ≡ false → IsCurrent p k) k ks all) (All-tail (λ (k : KeptTile). not k.is_stale ≡ true) k ks passes))

-- those that are not stale are kept for the page that they are current in
pub left_kept : (p : Page) (ks ns : List KeptTile) → ns ≡ filter (λ k. not k.is_stale) ks → AreCurrent p ks → AreKeptFor p ns
left_kept p ks ns e all = subst (AreKeptFor p) (sym e) (record { each = both_kept p (filter (λ (k : KeptTile). not k.is_stale) ks) (All-filter (λ (k : KeptTile). not k.is_stale) (λ (k : KeptTile). k.is_stale ≡ false → IsCurrent p k) ks all.each) (filter_passes (λ (k : KeptTile). not k.is_stale) ks) })

stale_current : (p : Page) (k : KeptTile) → true ≡ false → IsCurrent p (made_stale k)
stale_current p k e = absurd (cc)

-- where all are stale, nothing is said of the main page
pub stale_all : (p : Page) (ks ns : List KeptTile) → ns ≡ map made_stale ks → AreCurrent p ns
stale_all p ks ns e = subst (AreCurrent p) (sym e) (record { each = go ks })
  where
    go : (ks : List KeptTile) → All (λ (k : KeptTile). k.is_stale ≡ false → IsCurrent p k) (map made_stale ks)
    go [] = All-nil (λ (k : KeptTile). k.is_stale ≡ false → IsCurrent p k)
    go (k ∷ ks) = All-cons (λ (k : KeptTile). k.is_stale ≡ false → IsCurrent p k) (made_stale k) (map made_stale ks) (stale_current p k) (go ks)

stale_one : (p : Page) (k : KeptTile) → IsKeptFor p k → IsKeptFor p (made_stale k)
stale_one p k h = record { image = h.image }

pub stale_kept : (p : Page) (ks ns : List KeptTile) → ns ≡ map made_stale ks → AreKeptFor p ks → AreKeptFor p ns
stale_kept p ks ns e all = subst (AreKeptFor p) (sym e) (record {
  each =
      All-map (IsKeptFor p) made_stale ks (All-weaker (IsKeptFor p) (λ (k : KeptTile). IsKeptFor p (made_stale k)) (stale_one p) ks all.each);
})

-- ---- pages with the same layers

pub alike_kept : (p m : Page) (ks : List KeptTile) → HaveSameLayers p m → AreKeptFor p ks → AreKeptFor m ks
alike_kept p m ks s all = record { each = All-weaker (IsKeptFor p) (IsKeptFor m) (λ k h. record { image = alike_image p m k.key.layer (place_of k.key) k.image.value s h.image }) ks all.each }

alike_one : (p m : Page) (k : KeptTile) → HaveSameLayers p m → IsCurrent p k → IsCurrent m k
alike_one p m k s h = record {
  there = ap (has_layer k.key.layer) (sym s.layers) ∙ h.there;
  kept = record { image = alike_image p m k.key.layer (place_of k.key) k.image.value s h.kept.image };
}

pub alike_current : (p m : Page) (ks : List KeptTile) → HaveSameLayers p m → AreCurrent p ks → AreCurrent m ks
alike_current p m ks s all = record { each = All-weaker (λ (k : KeptTile). k.is_stale ≡ false → IsCurrent p k) (λ (k : KeptTile). k.is_stale ≡ false → IsCurrent m k) (λ k h e. alike_one p m k s (h e)) ks all.each }

-- ---- shown tiles

pub keys_more : (ts : List PageTile) (t : PageTile) → map (λ (t : PageTile). t.key) (ts ++ t ∷ []) ≡ map (λ (t : PageTile). t.key) ts ++ t.key ∷ []
keys_more [] t = refl
keys_more (u ∷ ts) t = ap (λ (ks : List TileKey). u.key ∷ ks) (keys_more ts t)

pub images_none : (p : Page) → HaveTheirImages p []
images_none p = record { each = All-nil (HasItsImage p) }

pub images_more : (p : Page) (ts : List PageTile) (key : TileKey) (image : Image) → HaveTheirImages p ts → IsImageAt p key.layer (place_of key) image → HaveTheirImages p (ts ++ record { key = key; image = Some image } ∷ [])
images_more p ts key image all one = record { each = All-push (HasItsImage p) ts (record { key = key; image = Some image }) all.each (record { image = image; has = refl; is = one }) }

-- the image at the place that a key names
pub of_key : (p : Page) (id : ℕ) (place : Place) (key : TileKey) (image : Image) → key ≡ key_at (λ _ _. 0) id place → IsImageAt p key.layer (place_of key) image → IsImageAt p id place image
of_key p id place key image e h = subst (λ (k : TileKey). IsImageAt p k.layer (place_of k) image) e h
