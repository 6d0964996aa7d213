-- The layers of a page, looked at from the last one down.
use Rattle.std.proofs.Common.{◌≡◌, ℕ, ◌≤◌, ◌==◌, ℤ, pos, ◌≤ℤ◌, ◌<ℤ◌, Bool, true, false, cond, ◌&&◌, List, [], ◌∷◌, ◌++◌, map, refl, sym, ◌∙◌, ap, subst, arith, length-append}
use Rattle.std.specs.List.{All}
use Rattle.std.proofs.lemmas.Int.{ints}
use Rattle.std.proofs.lemmas.Bool.Decides.{nat_tests}
use Rattle.std.proofs.lemmas.List.{map-append, get_or_append_left}
use Rattle.geom.specs.declared.rect.Point.{Point}
use Rattle.page_layers.specs.Layers.{PageLayer}
use Rattle.geom.specs.Covers.{within}
use Rattle.page_layers.specs.Pages.{Page}
use Rattle.page_layers.specs.Sound.{IsPage}
use Rattle.page_layers.specs.Paintings.{IsScreenPoint}
use Rattle.page_layers.specs.Hits.{last_covering, covers_point}
use Rattle.page_hit_test.specs.inner.Screens.{is_in_view}

-- the last layer's id where it covers the point, else what those below it answer
abbrev pub or_below : ℕ → ℕ → ℕ
or_below own below = cond (own == 0) below own

itself : (own : ℕ) → own ≡ or_below own 0
itself own = go (own == 0) refl
  where
    go : (b : Bool) → (own == 0) ≡ b → own ≡ cond b 0 own
    go true e = grind (arith, nat_tests)
    go false e = refl

pub last_first : (p : PageLayer → Bool) (ls : List PageLayer) (l : PageLayer) → last_covering p (ls ++ l ∷ []) ≡ or_below (cond (p l) l.id 0) (last_covering p ls)
last_first p [] l = itself (cond (p l) l.id 0)
last_first p (m ∷ ms) l =
    ap (λ (n : ℕ). cond (n == 0) (cond (p m) m.id 0) n) (last_first p ms l) ∙ go (cond (p l) l.id 0 == 0) refl
  where
    own : ℕ
    own = cond (p l) l.id 0

    go : (b : Bool) → (cond (p l) l.id 0 == 0) ≡ b
        → cond (cond b (last_covering p ms) (cond (p l) l.id 0) == 0) (cond (p m) m.id 0) (cond b (last_covering p ms) (cond (p l) l.id 0)) ≡ cond b (last_covering p (m ∷ ms)) (cond (p l) l.id 0)
    go true e = refl
    go false e = ap (λ (c : Bool). cond c (cond (p m) m.id 0) (cond (p l) l.id 0)) e

-- outside the viewport no layer covers a point
pub none_outside : (p : Page) (offset : ℕ → Point) (x y : ℤ) (ls : List PageLayer) → is_in_view p x y ≡ false → last_covering (covers_point p offset x y) ls ≡ 0
none_outside p offset x y [] h = refl
none_outside p offset x y (l ∷ ls) h =
    let r : last_covering (covers_point p offset x y) ls ≡ 0 = none_outside p offset x y ls h in
    rw (r, h) refl

-- the steps of the walk

-- one layer less
pub step_down : {L : Type 0} (view : L → PageLayer) (p : PageLayer → Bool) (rest older : List L) (l : L) (own : ℕ) → rest ≡ older ++ l ∷ [] → own ≡ cond (p (view l)) (view l).id 0
    → last_covering p (map view rest) ≡ or_below own (last_covering p (map view older))
step_down view p rest older l own e o =
    ap (λ ls. last_covering p (map view ls)) e
    ∙ ap (last_covering p) (map-append view older (l ∷ []))
    ∙ last_first p (map view older) (view l)
    ∙ ap (λ n. or_below n (last_covering p (map view older))) (sym o)

pub found : (own below : ℕ) → (own ≡ 0 → ⊥) → or_below own below ≡ own
found own below n = go (own == 0) refl
  where
    go : (b : Bool) → (own == 0) ≡ b → cond b below own ≡ own
    go true e = absurd (n (grind (arith, nat_tests)))
    go false e = refl

pub passed : (own below : ℕ) → own ≡ 0 → or_below own below ≡ below
passed own below e = rw e refl

-- what holds of all elements holds of those before the last

pub all_front : {X : Type 0} (P : X → Type 0) (xs older : List X) (x : X) → xs ≡ older ++ x ∷ [] → All P xs → All P older
all_front P xs older x e a =
    let b : All P (older ++ x ∷ []) = subst (All P) e a in
    λ k d h. subst P (get_or_append_left older (x ∷ []) d k h) (b k d (let l = length-append older (x ∷ []) in omega arith))

-- a point in the viewport may lie on a screen
in_span : (n : ℕ) (z : ℤ) → n ≤ 2048 → within (pos 0) (pos n) z ≡ true → (pos 0 ≤ℤ z) × (z <ℤ pos 2048)
unfolding within
in_span n z h e = (grind (arith, ints), grind (arith, ints))

pub on_screen : (p : Page) (x y : ℤ) → IsPage p → is_in_view p x y ≡ true → IsScreenPoint x y
on_screen p x y page h =
    let a = in_span p.view.w x page.view.w_high (and_left (within (pos 0) (pos p.view.w) x) (within (pos 0) (pos p.view.h) y) h) in
    let b = in_span p.view.h y page.view.h_high (and_right (within (pos 0) (pos p.view.w) x) (within (pos 0) (pos p.view.h) y) h) in
    record { left = a.0; right = a.1; upper = b.0; lower = b.1 }
  where
    and_left : (a b : Bool) → a && b ≡ true → a ≡ true
    and_left true b h = refl
    and_left false b h = h

    and_right : (a b : Bool) → a && b ≡ true → b ≡ true
    and_right true b h = h
    and_right false b h = cc
