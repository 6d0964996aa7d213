-- Rects that are moved to the screen, and where changes show.
use Rattle.std.proofs.Common.{◌≡◌, ℕ, ℤ, pos, neg_ℤ, ◌≤ℤ◌, ◌-ℤ◌, ◌*◌, ◌+◌, ◌<◌, ◌&&◌, ◌||◌, Bool, true, false, Option, Some, None, List, length, take, get_or, refl, sym, ◌∙◌, ap, subst, arith}
use Rattle.std.specs.Prelude.{find, slice_get, IfSome}
use Rattle.std.proofs.lemmas.Int.{ints}
use Rattle.std.proofs.lemmas.List.{take_more}
use Rattle.geom.specs.declared.rect.Point.{Point}
use Rattle.geom.specs.declared.rect.Rect.{Rect}
use Rattle.geom.specs.Covers.{covers, IsSound}
use Rattle.geom.specs.Gaps.{shifted}
use Rattle.geom.specs.Common.{Meet}
use Rattle.page_properties.specs.Placement.{IsWithin, translation, clip_of}
use Rattle.region.specs.declared.change.LayerChange.{LayerChange}
use Rattle.region.specs.Points.{covered}
use Rattle.region.proofs.Covering.{covered_push}
use Rattle.page_layers.specs.declared.command.Command.{Command}
use Rattle.page_layers.specs.Layers.{PageLayer, has_id}
use Rattle.page_layers.specs.Pages.{Page, viewport}
use Rattle.page_layers.specs.Effects.{main_point}
use Rattle.page_layers.proofs.Placing.{covers_back}
use Rattle.tile_visible.specs.Visible.{cut_by}
use Rattle.cc.specs.inner.Edits.{CoverBoth, IsKnownUnion, CoverChange, CoverFirst, IsNoted, changes_items, shows_rects}

-- ---- one rect

-- a rect that does not begin far away is sound once it is moved
pub moved_sound : (r : Rect) (by : Point) → IsSound r → IsWithin (256 * 1114112) by → neg_ℤ (pos 134217728) ≤ℤ r.x → r.x ≤ℤ pos 134217728 → neg_ℤ (pos 134217728) ≤ℤ r.y → r.y ≤ℤ pos 134217728 → IsSound (shifted r by)
moved_sound r by is near left right upper lower = record {
  across = record { from_low = omega (arith, ints, near.left); from_high = omega (arith, ints, near.right); length_low = is.across.length_low; length_high = is.across.length_high };
  down = record { from_low = omega (arith, ints, near.upper); from_high = omega (arith, ints, near.lower); length_low = is.down.length_low; length_high = is.down.length_high };
}

-- rects that do not meet cover no point together, so nothing is to be added
pub apart_adds : (rs : List Rect) (r s : Rect) (x y : ℤ) → (Meet r s → ⊥) → covered rs x y ≡ (covered rs x y || (covers r x y && covers s x y))
apart_adds rs r s x y apart = go (covers r x y) (covers s x y) refl refl
  where
    nothing : (a : Bool) → a ≡ (a || false)
    nothing true = refl
    nothing false = refl

    go : (a b : Bool) → covers r x y ≡ a → covers s x y ≡ b → covered rs x y ≡ (covered rs x y || (a && b))
    go true true e f = absurd (apart (x, y, e, f))
    go true false e f = nothing (covered rs x y)
    go false b e f = nothing (covered rs x y)

-- ---- rects, one after another

-- one rect more, each cut to an area
cut_more : (a b c : Bool) → ((a && c) || (b && c)) ≡ ((a || b) && c)
cut_more true true true = refl
cut_more true false true = refl
cut_more true true false = refl
cut_more true false false = refl
cut_more false b c = refl

covered_more : (rs : List Rect) (i : ℕ) (d : Rect) (x y : ℤ) → i < length rs → covered (take (i + 1) rs) x y ≡ (covered (take i rs) x y || covers (get_or rs i d) x y)
covered_more rs i d x y lt = ap (λ (qs : List Rect). covered qs x y) (take_more rs i d lt) ∙ covered_push (take i rs) (get_or rs i d) x y

pub moved_more : (rs : List Rect) (i : ℕ) (r place area : Rect) (by : Point) (before after : List Rect) → i < length rs → place ≡ shifted r by → r ≡ get_or rs i r
    → ((x y : ℤ) → covered before x y ≡ (covered (take i rs) (x -ℤ by.x) (y -ℤ by.y) && covers area x y))
    → ((x y : ℤ) → covered after x y ≡ (covered before x y || (covers place x y && covers area x y)))
    → (x y : ℤ) → covered after x y ≡ (covered (take (i + 1) rs) (x -ℤ by.x) (y -ℤ by.y) && covers area x y)
moved_more rs i r place area by before after lt moved is seen adds x y =
    let here : covers place x y ≡ covers (get_or rs i r) (x -ℤ by.x) (y -ℤ by.y) =
    ap (λ (q : Rect). covers q x y) moved ∙ covers_back r by x y ∙ ap (λ (q : Rect). covers q (x -ℤ by.x) (y -ℤ by.y)) is in
    adds x y
    ∙ (λ k. seen x y k || (here k && covers area x y))
    ∙ cut_more (covered (take i rs) (x -ℤ by.x) (y -ℤ by.y)) (covers (get_or rs i r) (x -ℤ by.x) (y -ℤ by.y)) (covers area x y)
    ∙ ap (λ (t : Bool). t && covers area x y) (sym (covered_more rs i r (x -ℤ by.x) (y -ℤ by.y) lt))

-- ---- changes

-- what lies where a layer is moved, in the part of the viewport that its clip lets through, is what the layer shows
pub on_screen : (p : Page) (l : PageLayer) (rects : List Rect) (offset : ℕ → Point) (by : Point) (area : Rect) (shown : Option (List Rect)) → ((id : ℕ) → offset id ≡ main_point p id)
    → by ≡ translation offset p.props.transforms l.transform → area ≡ cut_by (viewport p) (clip_of offset p.props.transforms p.props.clips l.clip)
    → IfSome shown (λ moved. (x y : ℤ) → covered moved x y ≡ (covered rects (x -ℤ by.x) (y -ℤ by.y) && covers area x y)) → IfSome shown (λ s. (x y : ℤ) → covered s x y ≡ shows_rects p rects l x y)
on_screen p l rects offset by area None same e f h = tt
on_screen p l rects offset by area (Some s) same e f h = λ x y. h x y ∙ (λ i. covered rects (x -ℤ (here i).x) (y -ℤ (here i).y) && covers (there i) x y)
  where
    one : offset ≡ main_point p
    one = λ i id. same id i

    here : by ≡ translation (main_point p) p.props.transforms l.transform
    here = e ∙ ap (λ (o : ℕ → Point). translation o p.props.transforms l.transform) one

    there : area ≡ cut_by (viewport p) (clip_of (main_point p) p.props.transforms p.props.clips l.clip)
    there = f ∙ ap (λ (o : ℕ → Point). cut_by (viewport p) (clip_of o p.props.transforms p.props.clips l.clip)) one

same_layer : (a b : PageLayer) → Some a ≡ Some b → a ≡ b
same_layer a b e = cc

same_change : (a b : LayerChange) → Some a ≡ Some b → a ≡ b
same_change a b e = cc

-- the layer that a change names is the one that was found
pub change_covered : (p : Page) (c : LayerChange) (m : PageLayer) (shown : Option (List Rect)) → Some m ≡ find (has_id c.layer) p.layers
    → IfSome shown (λ rects. (x y : ℤ) → covered rects x y ≡ shows_rects p c.region m x y) → IfSome shown (CoverChange p c)
change_covered p c m (Some rects) found h = record {
  points = λ l x y e off. subst (λ (k : PageLayer). shows_rects p c.region k x y ≡ false) (same_layer m l (found ∙ e)) (sym (h x y) ∙ off);
}
change_covered p c m None found h = tt

pub first_covered : (p : Page) (cs : List LayerChange) (c : LayerChange) (shown : Option (List Rect)) → Some c ≡ slice_get cs 0 → IfSome shown (CoverChange p c) → IfSome shown (CoverFirst p cs)
first_covered p cs c (Some rects) first h = record { first = λ d e. subst (λ (k : LayerChange). CoverChange p k rects) (same_change c d (first ∙ e)) h }
first_covered p cs c None first h = tt

-- ---- what is known

pub cover_both : (first second all : List Rect) → ((x y : ℤ) → covered all x y ≡ (covered first x y || covered second x y)) → CoverBoth first second all
cover_both first second all h = record { points = h }

pub known_union_is : (a b all : Option (List Rect)) (first second : List Rect) → a ≡ Some first → b ≡ Some second → IfSome all (CoverBoth first second) → IfSome all (IsKnownUnion a b)
known_union_is a b (Some all) first second e f h = record { first = first; second = second; known = e; also_known = f; both = h }
known_union_is a b None first second e f h = tt

pub noted_is : (before all : Option (List Rect)) (c : Command) (p : Page) (cs : List LayerChange) (old new : List Rect) → before ≡ Some old → changes_items c ≡ true → CoverFirst p cs new → IfSome all (CoverBoth old new)
    → IfSome all (IsNoted before c p cs)
noted_is before (Some all) c p cs old new e t covers h = record { old = old; new = new; known = e; items = t; changes = covers; both = h }
noted_is before None c p cs old new e t covers h = tt
