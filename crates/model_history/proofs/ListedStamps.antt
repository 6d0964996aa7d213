-- The stamps of places from lists of changes that say the same as the changes of the frames.
use Rattle.std.proofs.Common.{ℕ, ℤ, ◌≡◌, ◌<◌, ◌≤◌, nat_eq, Bool, true, false, ◌&&◌, ◌||◌, if◌then◌else◌, Option, Some, None, List, [], ◌∷◌, refl, ap, sym, ◌∙◌, arith}
use Rattle.std.proofs.lemmas.Bool.Decides.{nat_tests}
use Rattle.geom.specs.declared.rect.Rect.{Rect}
use Rattle.region.specs.declared.change.LayerChange.{LayerChange}
use Rattle.region.specs.Lists.{Changed, AreChangesAbove, IsRising, change_of, is_listed_whole, has_changed}
use Rattle.region.specs.Points.{covered, touched}
use Rattle.region.proofs.Covering.{points_decide}
use Rattle.tile_tiling.specs.Stamps.{may_show_in}
use Rattle.page_layers.specs.declared.command.Command.{Command}
use Rattle.page_layers.specs.Pages.{Page}
use Rattle.page_layers.specs.Effects.{page_after_command}
use Rattle.page_layers.specs.declared.moves.Move.{Move}
use Rattle.model_history.specs.Scripts.{ScriptModel}
use Rattle.model_history.specs.Frames.{commands_of, page_before}
use Rattle.model_history.specs.Stamps.{changed_by, unchanged, frame_changes}
use Rattle.model_history.specs.SameChanges.{SameChanges}
use Rattle.model_history.specs.inner.Ending.{with_next}
use Rattle.model_history.proofs.FrameKeeps.{rising_command}

-- ---- the change of a layer in a rising list

whole_of : Option LayerChange → Bool
whole_of None = false
whole_of (Some c) = c.whole

abbrev region_of : Option LayerChange → List Rect
region_of None = []
region_of (Some c) = c.region

above_unlisted : (n m : ℕ) (ds : List LayerChange) → n ≤ m → AreChangesAbove m ds → (is_listed_whole ds n ≡ false) × ((x y : ℤ) → has_changed ds n x y ≡ false)
above_unlisted n m [] le all = (refl, λ x y. refl)
above_unlisted n m (d ∷ ds) le all =
    let lt : m < d.layer = all.0 in
    let out : nat_eq d.layer n ≡ false = grind (arith, nat_tests, le, lt) in
    let rest = above_unlisted n m ds le all.1 in
    (ap (λ b. (b && d.whole) || is_listed_whole ds n) out ∙ rest.0, λ x y. ap (λ b. (b && covered d.region x y) || has_changed ds n x y) out ∙ rest.1 x y)

or_false : (b : Bool) → b || false ≡ b
or_false true = refl
or_false false = refl

rising_whole : (n : ℕ) (ds : List LayerChange) → IsRising ds → is_listed_whole ds n ≡ whole_of (change_of ds n)
unfolding whole_of
rising_whole n [] up = refl
rising_whole n (d ∷ ds) up = go (nat_eq d.layer n) refl (rising_whole n ds up.1)
  where
    go : (b : Bool) → nat_eq d.layer n ≡ b → is_listed_whole ds n ≡ whole_of (change_of ds n) → (b && d.whole) || is_listed_whole ds n ≡ whole_of (if b then Some d else change_of ds n)
    go true e rest =
        let none = above_unlisted n d.layer ds (at_most d.layer n e) up.0 in
        ap (λ b. d.whole || b) none.0 ∙ or_false d.whole
      where
        at_most : (a b : ℕ) → nat_eq a b ≡ true → b ≤ a
        at_most a b h = grind (arith, nat_tests, h)
    go false e rest = rest

rising_points : (n : ℕ) (x y : ℤ) (ds : List LayerChange) → IsRising ds → has_changed ds n x y ≡ covered (region_of (change_of ds n)) x y
rising_points n x y [] up = refl
rising_points n x y (d ∷ ds) up = go (nat_eq d.layer n) refl (rising_points n x y ds up.1)
  where
    go : (b : Bool) → nat_eq d.layer n ≡ b → has_changed ds n x y ≡ covered (region_of (change_of ds n)) x y
        → (b && covered d.region x y) || has_changed ds n x y ≡ covered (region_of (if b then Some d else change_of ds n)) x y
    go true e rest =
        let none = above_unlisted n d.layer ds (at_most d.layer n e) up.0 in
        ap (λ b. covered d.region x y || b) (none.1 x y) ∙ or_false (covered d.region x y)
      where
        at_most : (a b : ℕ) → nat_eq a b ≡ true → b ≤ a
        at_most a b h = grind (arith, nat_tests, h)
    go false e rest = rest

shows_parts : (o : Option LayerChange) (r : Rect) → may_show_in o r ≡ (whole_of o || touched (region_of o) r)
unfolding whole_of
shows_parts None r = refl
shows_parts (Some c) r = refl

-- lists that say the same show the same
pub same_shows : (c d : Changed) (layer : ℕ) (r : Rect) → SameChanges c d → IsRising c.list → IsRising d.list → may_show_in (change_of c.list layer) r ≡ may_show_in (change_of d.list layer) r
same_shows c d layer r same up vp =
    let p = change_of c.list layer in
    let q = change_of d.list layer in
    let whole : whole_of p ≡ whole_of q = sym (rising_whole layer c.list up) ∙ (same.whole layer ∙ rising_whole layer d.list vp) in
    let alike : touched (region_of p) r ≡ touched (region_of q) r =
    points_decide.alike (region_of p) (region_of q) r (λ x y. sym (rising_points layer x y c.list up) ∙ (same.points layer x y ∙ rising_points layer x y d.list vp)) in
    shows_parts p r ∙ ((λ i. whole i || alike i) ∙ sym (shows_parts q r))

-- ---- the changes of a frame rise

pub changed_rising : (cs : List Command) (p : Page) (done : Changed) → IsRising done.list → IsRising (changed_by p cs done).list
changed_rising [] p done up = up
changed_rising (c ∷ cs) p done up = changed_rising cs (page_after_command p c) (with_next p c done) (rising_command p c done.list up)

pub frame_rising : (s : ScriptModel) (ps : ℕ → List Move) (k : ℕ) → IsRising (frame_changes s ps k).list
frame_rising s ps k = changed_rising (commands_of s k) (page_before s ps k) unchanged tt

-- ---- commits

-- ---- from the latest on

-- ---- one list of changes

-- ---- a place of a layer of a page
