-- The tilings that a push makes: how they are cut, and their stamps.
use Rattle.std.proofs.Common.{ℕ, zero, suc, ◌≡◌, ◌<◌, Bool, true, false, ◌||◌, if◌then◌else◌, Option, Some, None, List, [], ◌∷◌, ◌++◌, length, map, get_or, refl, ap, sym, ◌∙◌, subst, arith}
use Rattle.std.specs.Prelude.{slice_get, is_some, IfSome, option_map, unwrap_or}
use Rattle.std.specs.List.{find}
use Rattle.std.proofs.lemmas.Option.{slice_get_within, slice_get_read}
use Rattle.geom.specs.declared.rect.Rect.{Rect}
use Rattle.geom.specs.Sides.{Sides}
use Rattle.geom.specs.Grids.{has, rect_of_place}
use Rattle.region.specs.declared.change.LayerChange.{LayerChange}
use Rattle.region.specs.Points.{touched}
use Rattle.region.specs.Lists.{Changed, IsRising, change_of, is_listed_whole}
use Rattle.tile_tiling.specs.Tiles.{Tiled, stamp_at}
use Rattle.tile_tiling.specs.Stamps.{Commit, may_show_in, changes_in, stamp_of, IsStamped}
use Rattle.page_layers.specs.declared.layer.Layer.{Layer}
use Rattle.page_layers.specs.Layers.{PageLayer, parts_of, has_id}
use Rattle.page_layers.specs.Pages.{Page}
use Rattle.page_layers.specs.Refusals.{has_layer}
use Rattle.page_layers.specs.Contents.{size_of}
use Rattle.page_layers.specs.Sound.{AreDistinctLayers}
use Rattle.tile_visible.specs.Visible.{grid_of}
use Rattle.impl_host.specs.Trees.{TreeModel, Paired, AreCut, last_size, AreStamped, AreStampedIn, MayFollow}
use Rattle.impl_host.specs.inner.Steps.{StandsAt, is_whole, changes_all, IsTwin, HasTiling, HasTilingIn, IsNextTiling, AreMade, Leads}
use Rattle.page_layers.proofs.LayerKeeps.{found_id}
use Rattle.impl_host.proofs.Pairs.{paired_more}
use Rattle.impl_host.proofs.Standing.{found_stands, stands_found, one_place, placed_layer}
use Rattle.impl_host.proofs.Twins.{copy_twin}
use Rattle.impl_host.proofs.ListedOnce.{listed_whole}

there_is : {X : Type 0} (xs : List X) (i : ℕ) → i < length xs → (x : X) × (slice_get xs i ≡ Some x)
there_is [] i lt = absurd (omega (arith, lt))
there_is (x ∷ xs) zero lt = (x, refl)
there_is (x ∷ xs) (suc i) lt = there_is xs i (omega (arith, lt))

left_false : (a b : Bool) → a || b ≡ false → a ≡ false
left_false true b h = h
left_false false b h = refl

right_false : (a b : Bool) → a || b ≡ false → b ≡ false
right_false true b h = cc
right_false false b h = h

sides : ℕ → ℕ → ℕ → Sides
sides w h tile = record { w = w; h = h; tile = tile }

abbrev size_in : Option PageLayer → Option (ℕ × ℕ)
size_in o = option_map (λ l. (l.w, l.h)) o

grid_same : (p q : Page) (l m : PageLayer) → size_in (Some m) ≡ size_in (Some l) → q.view.tile ≡ p.view.tile → grid_of q m ≡ grid_of p l
unfolding sides
grid_same p q l m size tile =
    let w : m.w ≡ l.w = ap (λ (o : Option (ℕ × ℕ)). unwrap_or (option_map (λ z. z.0) o) 0) size in
    let h : m.h ≡ l.h = ap (λ (o : Option (ℕ × ℕ)). unwrap_or (option_map (λ z. z.1) o) 0) size in
    ap (λ (n : ℕ). sides n m.h q.view.tile) w ∙ ap (λ (n : ℕ). sides l.w n q.view.tile) h ∙ ap (λ (n : ℕ). sides l.w l.h n) tile

module _ (p : Page) (d : Changed) (k : ℕ) (distinct : AreDistinctLayers p.layers) (rising : IsRising d.list) where
  abbrev commit : Commit
  commit = record { frame = k; changed = d }

  abbrev CutIn : Option TreeModel → Type 0
  CutIn last = IfSome last (λ a. AreCut a.page a.tilings)

  -- a layer that did not change whole has a tiling in the last pushed tree, which is cut as it is now
  pub has_tiling : (last : Option TreeModel) → MayFollow last p d → CutIn last → (i : ℕ) (l : PageLayer) → slice_get p.layers i ≡ Some l → changes_all d l.id ≡ false → HasTilingIn last l.id (grid_of p l)
  has_tiling last follows cut i l el part = by_last last follows.sizes follows.tile cut
    where
      found : find (has_id l.id) p.layers ≡ Some l
      found = stands_found p.layers distinct i l el

      there : has_layer l.id p.layers ≡ true
      there = ap is_some found

      kept : is_listed_whole d.list l.id ≡ false
      kept = listed_whole l.id d.list rising ∙ right_false d.retiled (is_whole (change_of d.list l.id)) part

      flat : d.retiled ≡ false
      flat = left_false d.retiled (is_whole (change_of d.list l.id)) part

      in_tree : (a : TreeModel) → a.page.view.tile ≡ p.view.tile → AreCut a.page a.tilings → (o : Option PageLayer) → find (has_id l.id) a.page.layers ≡ o → size_in o ≡ size_in (Some l) → HasTiling l.id (grid_of p l) a
      in_tree a tile c None e size = absurd (cc)
      in_tree a tile c (Some m) e size =
          let (j, stands, named) = found_stands l.id a.page.layers m e in
          let within : j < length a.tilings = omega (arith, c.each_one, slice_get_within a.page.layers j m stands) in
          let (t, tiled) = there_is a.tilings j within in
          record { place = j; layer = m; tiling = t; stands = stands; tiled = tiled; named = named; cut = c.grids j m t stands tiled ∙ grid_same p a.page l m size tile }

      by_last : (o : Option TreeModel) → ((id : ℕ) → has_layer id p.layers ≡ true → is_listed_whole d.list id ≡ false → last_size o id ≡ size_of p id) → (d.retiled ≡ false → IfSome o (λ t. t.page.view.tile ≡ p.view.tile))
          → CutIn o → HasTilingIn o l.id (grid_of p l)
      by_last None sizes tile c = let none : None ≡ size_in (Some l) = sizes l.id there kept ∙ ap size_in found in absurd (cc)
      by_last (Some a) sizes tile c = in_tree a (tile flat) c (find (has_id l.id) a.page.layers) refl (sizes l.id there kept ∙ ap size_in found)

  all_shows : (b : Bool) (o : Option LayerChange) (r : Rect) → b || is_whole o ≡ true → b || may_show_in o r ≡ true
  all_shows true o r h = refl
  all_shows false None r h = cc
  all_shows false (Some c) r h = ap (λ w. w || touched c.region r) h

  some_of : (b : Bool) (m n : ℕ) (o : Option ℕ) → Some n ≡ o → Some (if b then m else n) ≡ (if b then Some m else o)
  some_of true m n o e = refl
  some_of false m n o e = e

  -- the stamps of one tiling
  anew_stamped : (l : PageLayer) (u : Tiled) (last : Option TreeModel) (cs : List Commit) → IsNextTiling last commit l.id (grid_of p l) u → changes_all d l.id ≡ true → IsStamped u (grid_of p l) l.id (commit ∷ cs)
  anew_stamped l u last cs next whole q there =
      ap Some (next.anew whole q there)
      ∙ ap (λ b. if b then Some k else stamp_of l.id (rect_of_place (grid_of p l) q) cs) (sym (all_shows d.retiled (change_of d.list l.id) (rect_of_place (grid_of p l) q) whole))

  stepped_stamped : (l : PageLayer) (u : Tiled) (a : TreeModel) (cs : List Commit) → IsNextTiling (Some a) commit l.id (grid_of p l) u → AreCut a.page a.tilings → HasTiling l.id (grid_of p l) a → AreStamped a cs → IsStamped u (grid_of p l) l.id (commit ∷ cs)
  stepped_stamped l u a cs next cut h stamps q there =
      let g : Sides = grid_of p l in
      let t : Tiled = h.tiling in
      let old_grid : grid_of a.page h.layer ≡ g = sym (cut.grids h.place h.layer t h.stands h.tiled) ∙ h.cut in
      let old : Some (stamp_at t q) ≡ stamp_of l.id (rect_of_place g q) cs =
      stamps h.place h.layer t h.stands h.tiled q (ap (λ (z : Sides). has z q) old_grid ∙ there)
      ∙ (λ j. stamp_of (h.named j) (rect_of_place (old_grid j) q) cs) in
      ap Some (next.stepped h.place h.layer t h.stands h.tiled h.named (h.cut ∙ sym next.grid) q (ap (λ (z : Sides). has z q) next.grid ∙ there))
      ∙ ap (λ (z : Sides). Some (if changes_in l.id (rect_of_place z q) commit then k else stamp_at t q)) next.grid
      ∙ some_of (changes_in l.id (rect_of_place g q) commit) k (stamp_at t q) (stamp_of l.id (rect_of_place g q) cs) old

  -- the tilings of all layers
  pub made : (last : Option TreeModel) (us : List Tiled) → MayFollow last p d → CutIn last → length us ≡ length p.layers → Paired (λ l u. IsNextTiling last commit l.id (grid_of p l) u) p.layers us → AreMade last p d k us
  made last us follows cut each_one each = record { cut = record { each_one = each_one; grids = λ i l u el eu. (each i l u el eu).grid }; follow = by_last last each; stamps = record { frame = refl; page = refl; changed = refl; stamps = stamped } }
    where
      by_last : (o : Option TreeModel) → Paired (λ l u. IsNextTiling o commit l.id (grid_of p l) u) p.layers us → IfSome o (λ a. Leads a.page a.tilings commit p us)
      by_last None nexts = tt
      by_last (Some a) nexts = λ i l t el et j m u em eu named. (nexts j m u em eu).stepped i l t el et named

      stamped : (cs : List Commit) → AreStampedIn last cs → Paired (λ l u. IsStamped u (grid_of p l) l.id (commit ∷ cs)) p.layers us
      stamped cs stamps i l u el eu = by_part (changes_all d l.id) refl
        where
          in_last : (o : Option TreeModel) → IsNextTiling o commit l.id (grid_of p l) u → CutIn o → HasTilingIn o l.id (grid_of p l) → AreStampedIn o cs → IsStamped u (grid_of p l) l.id (commit ∷ cs)
          in_last None n c h s = absurd h
          in_last (Some a) n c h s = stepped_stamped l u a cs n c h s

          by_part : (b : Bool) → changes_all d l.id ≡ b → IsStamped u (grid_of p l) l.id (commit ∷ cs)
          by_part true e = anew_stamped l u last cs (each i l u el eu) e
          by_part false e = in_last last (each i l u el eu) cut (has_tiling last follows cut i l el e) stamps

-- ---- the tilings so far

pub more_made : (last : Option TreeModel) (p : Page) (c : Commit) (ls : List Layer) (ts us : List Tiled) (u : Tiled) (i : ℕ) (l : Layer) → Paired (λ m v. IsNextTiling last c m.id (grid_of p m) v) (map parts_of ls) ts
    → length ts ≡ i → i < length ls → l ≡ get_or ls i l → us ≡ ts ++ u ∷ [] → IsNextTiling last c l.id (grid_of p (parts_of l)) u → Paired (λ m v. IsNextTiling last c m.id (grid_of p m) v) (map parts_of ls) us
more_made last p c ls ts us u i l each so_far below at added next =
    let here : slice_get (map parts_of ls) (length ts) ≡ Some (parts_of l) = ap (slice_get (map parts_of ls)) so_far ∙ placed_layer ls i l below at in
    subst (λ vs. Paired (λ m v. IsNextTiling last c m.id (grid_of p m) v) (map parts_of ls) vs) (sym added)
    (paired_more (λ m v. IsNextTiling last c m.id (grid_of p m) v) (map parts_of ls) ts u (parts_of l) each here next)

-- ---- a copy of the last pushed tree's tiling

module _ (a : TreeModel) (id : ℕ) (g : Sides) (h : HasTiling id g a) (distinct : AreDistinctLayers a.page.layers) (ls : List PageLayer) (same : ls ≡ a.page.layers) where
  stands : (i : ℕ) → StandsAt id ls (Some i) → (l : PageLayer) × (slice_get a.page.layers i ≡ Some l) × (l.id ≡ id)
  stands i s = (s.0, ap (λ ks. slice_get ks i) (sym same) ∙ s.1, found_id id ls s.0 s.2)

  pub copy_within : (i : ℕ) → StandsAt id ls (Some i) → i < length a.tilings
  copy_within i s =
      let (l, at, named) = stands i s in
      let place : i ≡ h.place = one_place a.page.layers distinct i h.place l h.layer at h.stands (named ∙ sym h.named) in
      let below : h.place < length a.tilings = slice_get_within a.tilings h.place h.tiling h.tiled in
      omega (arith, place, below)

  pub copy_there : StandsAt id ls None → ⊥
  copy_there none =
      let found : find (has_id id) a.page.layers ≡ Some h.layer = ap (λ n. find (has_id n) a.page.layers) (sym h.named) ∙ stands_found a.page.layers distinct h.place h.layer h.stands in
      no_layer (find (has_id id) a.page.layers) (ap (λ ks. find (has_id id) ks) (sym same) ∙ none) found
    where
      no_layer : (o : Option PageLayer) → o ≡ None → o ≡ Some h.layer → ⊥
      no_layer None e f = cc
      no_layer (Some l) e f = cc

  pub copy_is : (i : ℕ) (ts : List Tiled) (t u : Tiled) → StandsAt id ls (Some i) → ts ≡ a.tilings → t ≡ get_or ts i t → u ≡ t → (u.grid ≡ g) × IsTwin a id u
  copy_is i ts t u s all at copied =
      let (l, there, named) = stands i s in
      let tiled : slice_get a.tilings i ≡ Some t = slice_get_read a.tilings (length a.tilings) i t refl (copy_within i s) (at ∙ ap (λ vs. get_or vs i t) all) in
      subst (λ v. (v.grid ≡ g) × IsTwin a id v) (sym copied) (copy_twin a id g h distinct i l t there named tiled)
