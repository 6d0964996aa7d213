-- The test of the layers and of the tile size tells whether a commit may follow.
use Rattle.std.proofs.Common.{ℕ, zero, suc, ◌≡◌, ◌==◌, Bool, true, false, ◌&&◌, ◌||◌, Option, Some, None, List, [], ◌∷◌, refl, ap, sym, ◌∙◌, eqb-true, cond, subst, arith}
use Rattle.std.proofs.lemmas.Bool.Decides.{nat_tests}
use Rattle.std.specs.Prelude.{slice_get, is_some, option_map, IfSome, IsTrue, ◌↔◌}
use Rattle.std.specs.List.{find, list_all}
use Rattle.region.specs.Lists.{Changed, is_listed_whole}
use Rattle.page_layers.specs.Layers.{PageLayer, has_id}
use Rattle.page_layers.specs.Pages.{Page}
use Rattle.page_layers.specs.Refusals.{has_layer}
use Rattle.page_layers.specs.Contents.{size_of}
use Rattle.page_layers.specs.Sound.{AreDistinctLayers}
use Rattle.impl_host.specs.Trees.{TreeModel, last_size, MayFollow}
use Rattle.impl_host.proofs.Standing.{stands_found}
use Rattle.impl_host.specs.inner.Tests.{has_size, is_kept, are_kept, has_tile}

same_id : (m n : ℕ) → m ≡ n → (m == n) ≡ true
same_id m n e = grind (arith, nat_tests)

left : (a b : Bool) → a && b ≡ true → a ≡ true
left true b h = refl
left false b h = absurd (cc)

right : (a b : Bool) → a && b ≡ true → b ≡ true
right true b h = h
right false b h = absurd (cc)

both : (a b : Bool) → a ≡ true → b ≡ true → a && b ≡ true
both a b p q = ap (λ z. z && b) p ∙ q

other : (a b : Bool) → a || b ≡ true → a ≡ false → b ≡ true
other true b h e = absurd (cc)
other false b h e = h

-- ---- sizes

has_the_size : (l : PageLayer) (o : Option (ℕ × ℕ)) → has_size l o ≡ true → o ≡ Some (l.w, l.h)
has_the_size l None h = absurd (cc)
has_the_size l (Some s) h =
    let w : l.w ≡ s.0 = eqb-true l.w s.0 (left (l.w == s.0) (l.h == s.1) h) in
    let k : l.h ≡ s.1 = eqb-true l.h s.1 (right (l.w == s.0) (l.h == s.1) h) in
    λ i. Some (sym w i, sym k i)

has_own_size : (l : PageLayer) (o : Option (ℕ × ℕ)) → o ≡ Some (l.w, l.h) → has_size l o ≡ true
has_own_size l o e = ap (has_size l) e ∙ both (l.w == l.w) (l.h == l.h) (same_id l.w l.w refl) (same_id l.h l.h refl)

-- ---- the layers

-- a layer that is found has the id, and passes a test that all layers pass
found_passes : (test : PageLayer → Bool) (ls : List PageLayer) (id : ℕ) (l : PageLayer) → list_all test ls ≡ true → find (has_id id) ls ≡ Some l → (test l ≡ true) × (l.id ≡ id)
found_passes test [] id l all e = absurd (cc)
found_passes test (k ∷ ks) id l all e = go (k.id == id) refl e (found_passes test ks id l (right (test k) (list_all test ks) all))
  where
    go : (b : Bool) → (k.id == id) ≡ b → cond b (Some k) (find (has_id id) ks) ≡ Some l → (find (has_id id) ks ≡ Some l → (test l ≡ true) × (l.id ≡ id)) → (test l ≡ true) × (l.id ≡ id)
    go true is f rest =
        let same : k ≡ l = cc in
        (ap test (sym same) ∙ left (test k) (list_all test ks) all, ap (λ (m : PageLayer). m.id) (sym same) ∙ eqb-true k.id id is)
    go false is f rest = rest f

all_pass : (test : PageLayer → Bool) (ls : List PageLayer) → ((i : ℕ) (l : PageLayer) → slice_get ls i ≡ Some l → test l ≡ true) → list_all test ls ≡ true
all_pass test [] each = refl
all_pass test (l ∷ ls) each = both (test l) (list_all test ls) (each zero l refl) (all_pass test ls (λ i. each (suc i)))

module _ (last : Option TreeModel) (p : Page) (d : Changed) where
  -- a layer that is not listed as changed whole has its size in the last pushed tree
  sizes : are_kept last d p.layers ≡ true → (id : ℕ) → has_layer id p.layers ≡ true → is_listed_whole d.list id ≡ false → last_size last id ≡ size_of p id
  sizes kept id there part = by_found (find (has_id id) p.layers) refl there
    where
      by_found : (o : Option PageLayer) → find (has_id id) p.layers ≡ o → is_some o ≡ true → last_size last id ≡ option_map (λ l. (l.w, l.h)) o
      by_found None e h = absurd (cc)
      by_found (Some l) e h =
          let (passes, named) = found_passes (is_kept last d) p.layers id l kept e in
          ap (last_size last) (sym named)
          ∙ has_the_size l (last_size last l.id) (other (is_listed_whole d.list l.id) (has_size l (last_size last l.id)) passes (ap (is_listed_whole d.list) named ∙ part))

  tile_by : (o : Option TreeModel) → has_tile o p d ≡ true → d.retiled ≡ false → IfSome o (λ t. t.page.view.tile ≡ p.view.tile)
  tile_by None h flat = tt
  tile_by (Some t) h flat = eqb-true t.page.view.tile p.view.tile (other d.retiled (t.page.view.tile == p.view.tile) h flat)

  follows : are_kept last d p.layers && has_tile last p d ≡ true → MayFollow last p d
  follows h = record {
    sizes = sizes (left (are_kept last d p.layers) (has_tile last p d) h);
    tile = tile_by last (right (are_kept last d p.layers) (has_tile last p d) h);
  }

  -- ---- and the other way round

  kept : AreDistinctLayers p.layers → MayFollow last p d → are_kept last d p.layers ≡ true
  kept distinct may = all_pass (is_kept last d) p.layers one
    where
      one : (i : ℕ) (l : PageLayer) → slice_get p.layers i ≡ Some l → is_kept last d l ≡ true
      one i l at = by_list (is_listed_whole d.list l.id) refl
        where
          found : find (has_id l.id) p.layers ≡ Some l
          found = stands_found p.layers distinct i l at

          by_list : (b : Bool) → is_listed_whole d.list l.id ≡ b → b || has_size l (last_size last l.id) ≡ true
          by_list true e = refl
          by_list false e = has_own_size l (last_size last l.id) (may.sizes l.id (ap is_some found) e ∙ ap (option_map (λ (k : PageLayer). (k.w, k.h))) found)

  tile_again : (o : Option TreeModel) → (d.retiled ≡ false → IfSome o (λ t. t.page.view.tile ≡ p.view.tile)) → has_tile o p d ≡ true
  tile_again None h = refl
  tile_again (Some t) h = by_retiled d.retiled refl
    where
      by_retiled : (b : Bool) → d.retiled ≡ b → b || (t.page.view.tile == p.view.tile) ≡ true
      by_retiled true e = refl
      by_retiled false e = same_id t.page.view.tile p.view.tile (h e)

  both_tell : AreDistinctLayers p.layers → IsTrue (are_kept last d p.layers && has_tile last p d) ↔ MayFollow last p d
  both_tell distinct = (λ h. follows h, λ may. both (are_kept last d p.layers) (has_tile last p d) (kept distinct may) (tile_again last may.tile))

  tells : AreDistinctLayers p.layers → (layers : List PageLayer) → layers ≡ p.layers → (k t : Bool) → k ≡ are_kept last d layers → t ≡ has_tile last p d → IsTrue (k && t) ↔ MayFollow last p d
  tells distinct layers same k t of_layers of_tile =
      let all : k ≡ are_kept last d p.layers = of_layers ∙ ap (are_kept last d) same in
      subst (λ (b : Bool). IsTrue b ↔ MayFollow last p d) (λ i. sym all i && sym of_tile i) (both_tell distinct)

  -- where the layers pass, the tile size tells; where they do not, they do
  pub tile_tells : AreDistinctLayers p.layers → (layers : List PageLayer) → layers ≡ p.layers → (k t : Bool) → k ≡ are_kept last d layers → t ≡ has_tile last p d → k ≡ true → IsTrue t ↔ MayFollow last p d
  tile_tells distinct layers same k t of_layers of_tile passed = subst (λ (b : Bool). IsTrue (b && t) ↔ MayFollow last p d) passed (tells distinct layers same k t of_layers of_tile)

  pub layers_tell : AreDistinctLayers p.layers → (layers : List PageLayer) → layers ≡ p.layers → (k t : Bool) → k ≡ are_kept last d layers → t ≡ has_tile last p d → k ≡ false → IsTrue k ↔ MayFollow last p d
  layers_tell distinct layers same k t of_layers of_tile failed =
      subst (λ (b : Bool). IsTrue b ↔ MayFollow last p d) (sym failed) (subst (λ (b : Bool). IsTrue (b && t) ↔ MayFollow last p d) failed (tells distinct layers same k t of_layers of_tile))
