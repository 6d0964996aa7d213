-- The keys of visible tiles, layer by layer; and the layers of a page, one after another.
use Rattle.std.proofs.Common.{◌≡◌, inl, inr, ℕ, zero, suc, ◌+◌, ◌<◌, ◌==◌, nat_lt, Bool, true, false, cond, Option, Some, None, is_some, List, [], ◌∷◌, ◌++◌, map, get_or, take, find, length, option_map, refl, sym, ◌∙◌, ap, subst, arith}
use Rattle.std.specs.Prelude.{slice_get}
use Rattle.std.specs.List.{flat_map}
use Rattle.std.proofs.lemmas.List.{take_more, map-append, length-map}
use Rattle.std.proofs.lemmas.Option.{slice_get_read}
use Rattle.page_layers.specs.declared.layer.Layer.{Layer}
use Rattle.geom.specs.declared.rect.Point.{Point}
use Rattle.geom.specs.declared.rect.Rect.{Rect}
use Rattle.geom.specs.declared.tile.Place.{Place}
use Rattle.geom.specs.Grids.{has, places_touching}
use Rattle.geom.specs.Gaps.{shifted}
use Rattle.geom.specs.Sides.{Sides}
use Rattle.tile_tiling.specs.Tiles.{Tiled, stamp_at, key_of}
use Rattle.tile_priority.specs.Ordered.{In}
use Rattle.page_layers.specs.Layers.{PageLayer, has_id, parts_of}
use Rattle.page_layers.specs.Pages.{Page}
use Rattle.page_layers.specs.Refusals.{has_layer}
use Rattle.page_layers.specs.Sound.{AreDistinctLayers}
use Rattle.tile_visible.specs.Visible.{grid_of, put_layer, by_id, key_at, visible_places, visible_keys}
use Rattle.tile_visible.proofs.SeenPlaces.{none_seen, touched_seen}
use Rattle.model_history.specs.Tiles.{Tree, visible_in}
use Rattle.model_history.proofs.BoolFacts.{same_number, is_same, not_both}
use Rattle.impl_ranks.specs.SeenTrees.{SeenLayerModel, SeenTreeModel, AreCut, IsTiled, IsSeenIn, IsLayerOf, AreLayersOf, IsSeenTree}
use Rattle.impl_ranks.specs.inner.Lists.{back, layer_at, visible_of, visible_on, visible_at, AreSeen, Found}
use Rattle.impl_ranks.proofs.GridPlaces.{touching_had}
use Rattle.impl_ranks.proofs.SeenLayers.{found}

-- ---- layers one after another

-- one layer more
seen_more : (p : Page) (offset : ℕ → Point) (ls : List PageLayer) (us : List Tiled) (vs : List SeenLayerModel) (l : PageLayer) (u : Tiled) (v : SeenLayerModel)
    → AreSeen p offset ls us vs → IsSeenIn p offset l v → v.stamps ≡ u → AreSeen p offset (ls ++ l ∷ []) (us ++ u ∷ []) (vs ++ v ∷ [])
seen_more p offset [] [] [] l u v a i e = (i, e, tt)
seen_more p offset [] [] (x ∷ vs) l u v a i e = absurd a
seen_more p offset [] (x ∷ us) vs l u v a i e = absurd a
seen_more p offset (k ∷ ls) [] vs l u v a i e = absurd a
seen_more p offset (k ∷ ls) (w ∷ us) [] l u v a i e = absurd a
seen_more p offset (k ∷ ls) (w ∷ us) (x ∷ vs) l u v a i e = (a.0, a.1, seen_more p offset ls us vs l u v a.2 i e)

-- the next layer of a page
pub seen_next : (p : Page) (offset : ℕ → Point) (all : List Layer) (us : List Tiled) (vs new : List SeenLayerModel) (i : ℕ) (l : Layer) (u : Tiled) (v : SeenLayerModel)
    → i < length all → i < length us → l ≡ get_or all i l → u ≡ get_or us i u → AreSeen p offset (map parts_of (take i all)) (take i us) vs → IsSeenIn p offset (parts_of l) v → v.stamps ≡ u
    → new ≡ vs ++ v ∷ [] → AreSeen p offset (map parts_of (take (i + 1) all)) (take (i + 1) us) new
seen_next p offset all us vs new i l u v lt lu le ue a is st made =
    let left : map parts_of (take i all) ++ parts_of l ∷ [] ≡ map parts_of (take (i + 1) all) =
    sym (ap (λ (ks : List Layer). map parts_of ks) (take_more all i l lt) ∙ map-append parts_of (take i all) (get_or all i l ∷ []) ∙ ap (λ (k : Layer). map parts_of (take i all) ++ parts_of k ∷ []) (sym le)) in
    let right : take i us ++ u ∷ [] ≡ take (i + 1) us = sym (take_more us i u lu ∙ ap (λ (k : Tiled). take i us ++ k ∷ []) (sym ue)) in
    subst (λ (ns : List SeenLayerModel). AreSeen p offset (map parts_of (take (i + 1) all)) (take (i + 1) us) ns) (sym made)
    (subst (λ (ws : List Tiled). AreSeen p offset (map parts_of (take (i + 1) all)) ws (vs ++ v ∷ [])) right
    (subst (λ (ks : List PageLayer). AreSeen p offset ks (take i us ++ u ∷ []) (vs ++ v ∷ [])) left (seen_more p offset (map parts_of (take i all)) (take i us) vs (parts_of l) u v a is st)))

pub get_mapped : (all : List Layer) (i : ℕ) (l : Layer) → slice_get all i ≡ Some l → slice_get (map parts_of all) i ≡ Some (parts_of l)
get_mapped [] i l e = cc
get_mapped (k ∷ ks) zero l e = ap (λ (o : Option Layer). option_map parts_of o) e
get_mapped (k ∷ ks) (suc i) l e = get_mapped ks i l e

pub as_many : (p : Page) (us : List Tiled) (all : List Layer) → AreCut p us → map parts_of all ≡ p.layers → length us ≡ length all
as_many p us all cut same = cut.each_one ∙ ap (λ (ls : List PageLayer). length ls) (sym same) ∙ length-map all parts_of

-- the tiling of a layer is cut as it is
pub layer_cut : (p : Page) (us : List Tiled) (all : List Layer) (i : ℕ) (l : Layer) (u : Tiled) → AreCut p us → map parts_of all ≡ p.layers → i < length all → l ≡ get_or all i l → u ≡ get_or us i u → u.grid ≡ grid_of p (parts_of l)
layer_cut p us all i l u cut same lt le ue =
    let n = as_many p us all cut same in
    cut.grids i (parts_of l) u (ap (λ (ls : List PageLayer). slice_get ls i) (sym same) ∙ get_mapped all i l (slice_get_read all (length all) i l refl lt le)) (slice_get_read us (length us) i u refl (omega (arith, lt, n)) ue)

-- with the stamps of a tree they are its layers
layers_by : (t : Tree) (ls : List PageLayer) (us : List Tiled) (vs : List SeenLayerModel) → AreSeen t.page t.offset ls us vs
    → ((i : ℕ) (l : PageLayer) (u : Tiled) → slice_get ls i ≡ Some l → slice_get us i ≡ Some u → (place : Place) → has (grid_of t.page l) place ≡ true → stamp_at u place ≡ t.stamp l.id place)
    → AreLayersOf t ls vs
layers_by t [] [] [] a f = tt
layers_by t [] [] (v ∷ vs) a f = absurd a
layers_by t [] (u ∷ us) vs a f = absurd a
layers_by t (l ∷ ls) [] vs a f = absurd a
layers_by t (l ∷ ls) (u ∷ us) [] a f = absurd a
layers_by t (l ∷ ls) (u ∷ us) (v ∷ vs) a f = (
  record { seen = a.0; stamps = λ place h. ap (λ (z : Tiled). stamp_at z place) a.1 ∙ f zero l u refl refl place h },
  layers_by t ls us vs a.2 (λ i k w e g. f (suc i) k w e g),
)

pub are_layers : (t : Tree) (p : Page) (offset : ℕ → Point) (us : List Tiled) (vs : List SeenLayerModel) → IsTiled t p offset us → AreSeen p offset p.layers us vs → AreLayersOf t t.page.layers vs
are_layers t p offset us vs is a =
    let same : offset ≡ t.offset = λ i sc. is.offsets sc i in
    layers_by t t.page.layers us vs (subst (λ (o : ℕ → Point). AreSeen t.page o t.page.layers us vs) same (subst (λ (z : Page). AreSeen z offset z.layers us vs) is.page a)) is.stamps

-- ---- visible tiles

in_put : (x l : PageLayer) (ls : List PageLayer) → In x (put_layer l ls) → In x (l ∷ ls)
in_put x l [] i = i
in_put x l (k ∷ ks) i = by_test (nat_lt k.id l.id) i (in_put x l ks)
  where
    swapped : In x (l ∷ ks) → In x (l ∷ k ∷ ks)
    swapped (inl e) = inl e
    swapped (inr m) = inr (inr m)

    later : In x (k ∷ put_layer l ks) → (In x (put_layer l ks) → In x (l ∷ ks)) → In x (l ∷ k ∷ ks)
    later (inl e) r = inr (inl e)
    later (inr j) r = swapped (r j)

    by_test : (b : Bool) → In x (cond b (k ∷ put_layer l ks) (l ∷ k ∷ ks)) → (In x (put_layer l ks) → In x (l ∷ ks)) → In x (l ∷ k ∷ ks)
    by_test true j r = later j r
    by_test false j r = j

in_by_id : (x : PageLayer) (ls : List PageLayer) → In x (by_id ls) → In x ls
in_by_id x [] i = i
in_by_id x (l ∷ ls) i = by_or (in_put x l (by_id ls) i) (in_by_id x ls)
  where
    by_or : In x (l ∷ by_id ls) → (In x (by_id ls) → In x ls) → In x (l ∷ ls)
    by_or (inl e) r = inl e
    by_or (inr j) r = inr (r j)

-- a list of layers has the id of each
pub has_its_id : (l : PageLayer) (ls : List PageLayer) → In l ls → has_layer l.id ls ≡ true
has_its_id l [] i = absurd i
has_its_id l (k ∷ ks) (inl e) = ap (λ (b : Bool). is_some (cond b (Some k) (find (has_id l.id) ks))) (is_same k.id l.id (ap (λ (z : PageLayer). z.id) (sym e)))
has_its_id l (k ∷ ks) (inr i) = by_test (k.id == l.id) (has_its_id l ks i)
  where
    by_test : (b : Bool) → has_layer l.id ks ≡ true → is_some (cond b (Some k) (find (has_id l.id) ks)) ≡ true
    by_test true r = refl
    by_test false r = r

found_by_id : (l : PageLayer) (ls : List PageLayer) → AreDistinctLayers ls → In l ls → find (has_id l.id) ls ≡ Some l
found_by_id l [] d i = absurd i
found_by_id l (k ∷ ks) d (inl e) =
    ap (λ (b : Bool). cond b (Some k) (find (has_id l.id) ks)) (is_same k.id l.id (ap (λ (z : PageLayer). z.id) (sym e))) ∙ ap Some (sym e)
found_by_id l (k ∷ ks) d (inr i) = by_test (k.id == l.id) refl (found_by_id l ks d.1 i)
  where
    by_test : (b : Bool) → (k.id == l.id) ≡ b → find (has_id l.id) ks ≡ Some l → cond b (Some k) (find (has_id l.id) ks) ≡ Some l
    by_test true e r = absurd (not_both (has_layer k.id ks) (ap (λ n. has_layer n ks) (same_number k.id l.id e) ∙ has_its_id l ks i) d.0)
    by_test false e r = r

map_same : {X Y : Type 0} (f g : X → Y) (xs : List X) → ((x : X) → In x xs → f x ≡ g x) → map f xs ≡ map g xs
map_same f g [] e = refl
map_same f g (x ∷ xs) e =
    let h = e x (inl refl) in
    let r = map_same f g xs (λ y i. e y (inr i)) in
    λ j. h j ∷ r j

flat_same : {X Y : Type 0} (f g : X → List Y) (xs : List X) → ((x : X) → In x xs → f x ≡ g x) → flat_map f xs ≡ flat_map g xs
flat_same f g [] e = refl
flat_same f g (x ∷ xs) e =
    let h = e x (inl refl) in
    let r = flat_same f g xs (λ y i. e y (inr i)) in
    λ j. h j ++ r j

-- the visible keys of a layer are those of the page's
layer_visible : (t : Tree) (l : PageLayer) (v : SeenLayerModel) → IsLayerOf t l v → visible_of v ≡ map (key_at t.stamp l.id) (visible_places t.page t.offset l)
layer_visible t l v is = by_draws v.draws refl
  where
    keys_same : (area : Rect) → map (key_of v.stamps v.id) (places_touching v.grid area) ≡ map (key_at t.stamp l.id) (places_touching v.grid area)
    keys_same area = map_same (key_of v.stamps v.id) (key_at t.stamp l.id) (places_touching v.grid area)
        (λ p i. let stamp = is.stamps p (ap (λ (g : Sides). has g p) (sym is.seen.grid) ∙ (touching_had v.grid area p i).0) in λ n. record { layer = is.seen.id n; x = p.x; y = p.y; stamp = stamp n })

    by_draws : (b : Bool) → v.draws ≡ b → cond b (map (key_of v.stamps v.id) (places_touching v.grid (shifted v.clip (back v.by)))) [] ≡ map (key_at t.stamp l.id) (visible_places t.page t.offset l)
    by_draws true e =
        keys_same (shifted v.clip (back v.by))
        ∙ ap (λ (g : Sides). map (key_at t.stamp l.id) (places_touching g (shifted v.clip (back v.by)))) is.seen.grid
        ∙ ap (λ (ps : List Place). map (key_at t.stamp l.id) ps) (touched_seen t.page t.offset l v.clip v.by (sym is.seen.draws ∙ e) is.seen.clip is.seen.by)
    by_draws false e = ap (λ (ps : List Place). map (key_at t.stamp l.id) ps) (sym (none_seen t.page t.offset l (sym is.seen.draws ∙ e)))

visible_on_is : (t : Tree) (id : ℕ) (l : PageLayer) (o : Option PageLayer) (w : Option SeenLayerModel) → o ≡ Some l → Found t id o w → visible_on w ≡ map (key_at t.stamp l.id) (visible_places t.page t.offset l)
visible_on_is t id l None w e f = cc
visible_on_is t id l (Some k) None e f = absurd f
visible_on_is t id l (Some k) (Some v) e f =
    let same : k ≡ l = some_same e in
    layer_visible t k v f.0 ∙ ap (λ (z : PageLayer). map (key_at t.stamp z.id) (visible_places t.page t.offset z)) same
  where
    some_same : {x y : PageLayer} → Some x ≡ Some y → x ≡ y
    some_same i = cc

pub visible_is : (t : Tree) (r : SeenTreeModel) → AreDistinctLayers t.page.layers → IsSeenTree t r → flat_map (visible_at r.layers) (by_id t.page.layers) ≡ visible_in t
unfolding visible_keys
visible_is t r d is =
    flat_same (visible_at r.layers) (λ l. map (key_at t.stamp l.id) (visible_places t.page t.offset l)) (by_id t.page.layers)
    (λ l i. visible_on_is t l.id l (find (has_id l.id) t.page.layers) (layer_at l.id r.layers) (found_by_id l t.page.layers d (in_by_id l t.page.layers i)) (found t l.id t.page.layers r.layers is.layers))
