-- Tilings with the stamps of another, and what a commit makes of them.
use Rattle.std.proofs.Common.{ℕ, ◌≡◌, ◌+◌, ◌<◌, ◌≤◌, Bool, true, false, not, ◌&&◌, ◌||◌, if◌then◌else◌, Option, Some, None, List, [], ◌∷◌, ◌++◌, length, map, get_or, refl, ap, sym, ◌∙◌, subst, arith}
use Rattle.std.specs.Prelude.{slice_get, is_none}
use Rattle.std.proofs.lemmas.List.{length-map, length_push}
use Rattle.geom.specs.declared.tile.Place.{Place}
use Rattle.geom.specs.declared.rect.Rect.{Rect}
use Rattle.geom.specs.Sides.{Sides}
use Rattle.geom.specs.Grids.{has, rect_of_place}
use Rattle.region.specs.declared.change.LayerChange.{LayerChange}
use Rattle.region.specs.Lists.{Changed, change_of}
use Rattle.tile_tiling.specs.Tiles.{Tiled, stamp_at}
use Rattle.tile_tiling.specs.Stamps.{Commit, may_show_in, changes_in}
use Rattle.page_layers.specs.declared.layer.Layer.{Layer}
use Rattle.page_layers.specs.Layers.{PageLayer, parts_of}
use Rattle.page_layers.specs.Pages.{Page}
use Rattle.page_layers.specs.Sound.{AreDistinctLayers}
use Rattle.tile_visible.specs.Visible.{grid_of}
use Rattle.impl_host.specs.Trees.{TreeModel, Paired, commit_of}
use Rattle.impl_host.specs.inner.Steps.{OfLayer, IsStepped, Leads, IsTwin, HasTiling, AreCutAlike}
use Rattle.impl_host.proofs.Pairs.{some_same, at_front, at_end, paired_front, paired_last}
use Rattle.impl_host.proofs.Standing.{one_place, placed_layer}

-- the stamp that a commit leaves at a place of a layer that is cut so
abbrev stepped_at : Commit → Tiled → Place → ℕ → Sides → ℕ
stepped_at c t p id g = if changes_in id (rect_of_place g p) c then c.frame else stamp_at t p

-- ---- one step

-- ---- twins

module _ (a : TreeModel) where
  -- the tree's own tiling
  pub copy_twin : (id : ℕ) (g : Sides) (h : HasTiling id g a) → AreDistinctLayers a.page.layers → (i : ℕ) (l : PageLayer) (t : Tiled)
      → slice_get a.page.layers i ≡ Some l → l.id ≡ id → slice_get a.tilings i ≡ Some t → (t.grid ≡ g) × IsTwin a id t
  copy_twin id g h distinct i l t el named et = (cut, twin)
    where
      same : (j : ℕ) (m : PageLayer) (u : Tiled) → slice_get a.page.layers j ≡ Some m → slice_get a.tilings j ≡ Some u → m.id ≡ id → t ≡ u
      same j m u em eu e =
          let place : i ≡ j = one_place a.page.layers distinct i j l m el em (named ∙ sym e) in
          some_same t u (sym et ∙ (ap (slice_get a.tilings) place ∙ eu))

      cut : t.grid ≡ g
      cut = ap (λ (z : Tiled). z.grid) (same h.place h.layer h.tiling h.stands h.tiled h.named) ∙ h.cut

      twin : IsTwin a id t
      twin j m u em eu e grid p there = ap (λ (z : Tiled). stamp_at z p) (same j m u em eu e)

  -- a twin that is stepped by a commit
  pub twin_stepped : (id : ℕ) (c : Commit) (t u : Tiled) → IsTwin a id t → u.grid ≡ t.grid → IsStepped c id t u → OfLayer a id (λ v. IsStepped c id v u)
  twin_stepped id c t u twin grid steps i l v el ev e cut p within =
      let there : has t.grid p ≡ true = ap (λ g. has g p) (sym grid) ∙ within in
      steps (sym grid) p within
      ∙ ap (λ n. if changes_in id (rect_of_place u.grid p) c then c.frame else n) (twin i l v el ev e (cut ∙ grid) p there)

  -- a tiling one commit behind, once the commit is carried
  pub behind_twin : (id : ℕ) (c : Commit) (t u : Tiled) → OfLayer a id (λ v. IsStepped c id t v) → u.grid ≡ t.grid → IsStepped c id t u → IsTwin a id u
  behind_twin id c t u leads grid steps i l v el ev e cut p there =
      steps (sym grid) p there
      ∙ ap (λ g. stepped_at c t p id g) (sym cut)
      ∙ sym (leads i l v el ev e (sym (cut ∙ grid)) p (ap (λ g. has g p) cut ∙ there))

  -- a tiling one commit ahead that the commit did not change
  pub ahead_twin : (id : ℕ) (c : Commit) (u : Tiled) → OfLayer a id (λ t. IsStepped c id t u) → ((r : Rect) → changes_in id r c ≡ false) → IsTwin a id u
  ahead_twin id c u leads quiet i l t el et e cut p there =
      leads i l t el et e cut p there ∙ ap (λ b. if b then c.frame else stamp_at t p) (quiet (rect_of_place u.grid p))

nothing_shows : (b : Bool) (o : Option LayerChange) (r : Rect) → (not b && is_none o) ≡ true → b || may_show_in o r ≡ false
nothing_shows true o r h = absurd (cc)
nothing_shows false None r h = refl
nothing_shows false (Some c) r h = absurd (cc)

-- ---- the last tiling of a list that is taken from its end

-- the layer at the place of the last tiling
pub popped_layer : (ls : List Layer) (p : Page) (ts us : List Tiled) (t : Tiled) (n : ℕ) (l : Layer) → map parts_of ls ≡ p.layers → us ≡ ts ++ t ∷ [] → n ≡ length ts → length us ≤ length p.layers → l ≡ get_or ls n l
    → slice_get p.layers (length ts) ≡ Some (parts_of l)
popped_layer ls p ts us t n l same taken is few at =
    let more : length us ≡ length ts + 1 = ap length taken ∙ length_push ts t in
    let many : length p.layers ≡ length ls = ap length (sym same) ∙ length-map ls parts_of in
    let below : n < length ls = omega (arith, more, many, few, is) in
    ap (λ (ks : List PageLayer). slice_get ks (length ts)) (sym same)
    ∙ ap (slice_get (map parts_of ls)) (sym is)
    ∙ placed_layer ls n l below at

module _ (p : Page) (ts us : List Tiled) (t : Tiled) (taken : us ≡ ts ++ t ∷ []) where
  pub popped_cut : (l : PageLayer) → AreCutAlike p us → slice_get p.layers (length ts) ≡ Some l → t.grid ≡ grid_of p l
  popped_cut l cut at = paired_last (λ k v. v.grid ≡ grid_of p k) p.layers ts t l (subst (λ vs. Paired (λ k v. v.grid ≡ grid_of p k) p.layers vs) taken cut.grids) at

  pub front_cut : AreCutAlike p us → AreCutAlike p ts
  front_cut cut = record {
    few = let more : length us ≡ length ts + 1 = ap length taken ∙ length_push ts t in omega (arith, more, cut.few);
    grids = paired_front (λ k v. v.grid ≡ grid_of p k) p.layers ts (t ∷ []) (subst (λ vs. Paired (λ k v. v.grid ≡ grid_of p k) p.layers vs) taken cut.grids);
  }

  pub front_leads : (c : Commit) (q : Page) (vs : List Tiled) → Leads p us c q vs → Leads p ts c q vs
  front_leads c q vs leads = paired_front (λ l t. Paired (λ m u. l.id ≡ m.id → IsStepped c m.id t u) q.layers vs) p.layers ts (t ∷ []) (subst (λ xs. Leads p xs c q vs) taken leads)

  pub front_led : (c : Commit) (q : Page) (vs : List Tiled) → Leads q vs c p us → Leads q vs c p ts
  front_led c q vs leads i l v el ev j m u em eu e = leads i l v el ev j m u em (ap (λ xs. slice_get xs j) taken ∙ at_front ts (t ∷ []) j u eu) e

  pub popped_behind : (a : TreeModel) (l : PageLayer) (u : Tiled) (frame : ℕ) (d : Changed) → Leads p us (commit_of a) a.page a.tilings → slice_get p.layers (length ts) ≡ Some l
      → frame ≡ a.frame → d ≡ a.changed → u.grid ≡ t.grid → IsStepped (record { frame = frame; changed = d }) l.id t u → IsTwin a l.id u
  popped_behind a l u frame d leads at same_frame same_changes grid steps =
      let here : Paired (λ m v. l.id ≡ m.id → IsStepped (commit_of a) m.id t v) a.page.layers a.tilings =
      paired_last (λ k s. Paired (λ m v. k.id ≡ m.id → IsStepped (commit_of a) m.id s v) a.page.layers a.tilings) p.layers ts t l (subst (λ xs. Leads p xs (commit_of a) a.page a.tilings) taken leads) at in
      behind_twin a l.id (commit_of a) t u
      (λ j m v em ev e. subst (λ (n : ℕ). IsStepped (commit_of a) n t v) e (here j m v em ev (sym e)))
      grid
      (subst (λ (k : Commit). IsStepped k l.id t u) (λ i. record { frame = same_frame i; changed = same_changes i }) steps)

  pub popped_ahead : (a : TreeModel) (l : PageLayer) (frame : ℕ) (d : Changed) → Leads a.page a.tilings (record { frame = frame; changed = d }) p us → slice_get p.layers (length ts) ≡ Some l
      → (not d.retiled && is_none (change_of d.list l.id)) ≡ true → IsTwin a l.id t
  popped_ahead a l frame d leads at quiet =
      ahead_twin a l.id (record { frame = frame; changed = d }) t
      (λ i k v ek ev e. leads i k v ek ev (length ts) l t at (ap (λ xs. slice_get xs (length ts)) taken ∙ at_end ts t) e)
      (λ r. nothing_shows d.retiled (change_of d.list l.id) r quiet)
