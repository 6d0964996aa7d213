-- Offsets that are set, one row after another.
use Rattle.std.proofs.Common.{◌≡◌, ℕ, ◌+◌, ◌<◌, ◌==◌, ℤ, pos, Bool, true, false, cond, ◌||◌, List, [], ◌∷◌, length, get_or, take, refl, sym, ◌∙◌, ap, subst, arith}
use Rattle.std.specs.Prelude.{if◌then◌else◌}
use Rattle.std.proofs.lemmas.List.{take_more, map-append}
use Rattle.std.proofs.lemmas.Bool.Decides.{nat_tests}
use Rattle.std.proofs.lemmas.Int.{ints}
use Rattle.geom.specs.declared.rect.Point.{Point}
use Rattle.page_properties.specs.OffsetMap.{IsOffset}
use Rattle.page_layers.specs.Pages.{Page}
use Rattle.page_layers.specs.Axes.{Axis, across, down}
use Rattle.page_layers.specs.Scrolls.{IsInRange}
use Rattle.page_properties.specs.OffsetMap.{origin}
use Rattle.page_layers.specs.Scrollers.{has_scroller, most, offsets_in}
use Rattle.model_states.specs.Table.{zero as nothing}
use Rattle.model_history.proofs.BoolFacts.{same_number}
use Rattle.model_history.proofs.PageRanges.{clamp_zero}
use Rattle.model_history.proofs.PageStanding.{most_absent}
use Rattle.model_steps.specs.Standing.{brought_to}
use Rattle.impl_scroll.specs.declared.row.Row.{Row}
use Rattle.impl_scroll.specs.declared.offsets.Stage.{Stage}
use Rattle.impl_scroll.specs.declared.offsets.Stage.TheVariants as stage
use Rattle.impl_scroll.specs.Rows.{has_number}
use Rattle.impl_scroll.specs.inner.Stages.{value_in, stands_at, point_at}
use Rattle.impl_scroll.specs.inner.Steps.{ids_of, AreRising}
use Rattle.impl_scroll.proofs.RowFacts.{value_at, value_none}
use Rattle.impl_scroll.proofs.CoverFacts.{any_last}
use Rattle.impl_scroll.proofs.RowLists.{no_row}

-- the offsets where some scrollers stand at these points, and the others at the origin
abbrev pub among_at : List ℕ → (ℕ → Point) → ℕ → Point
among_at ns point k = cond (has_number ns k) (point k) origin

same_test : (a b : ℕ) → (a == b) ≡ (b == a)
same_test a b = grind (arith, nat_tests)

-- one offset more is set
pub offset_more : (point : ℕ → Point) (rs : List Row) (i : ℕ) (d : Row) (k : ℕ) (p new old : Point) → i < length rs → p ≡ point (get_or rs i d).scroller
    → new ≡ (if k == (get_or rs i d).scroller then p else old) → old ≡ among_at (ids_of (take i rs)) point k → new ≡ among_at (ids_of (take (i + 1) rs)) point k
offset_more point rs i d k p new old lt is made was =
    made
    ∙ go (k == x) refl (has_number (ids_of (take i rs)) k) was
    ∙ ap (λ (b : Bool). cond (has_number (ids_of (take i rs)) k || b) (point k) origin) (same_test k x)
    ∙ ap (λ (b : Bool). cond b (point k) origin) (sym (any_last (ids_of (take i rs)) x k))
    ∙ ap (λ (xs : List ℕ). among_at xs point k) (sym (ap (λ (xs : List Row). ids_of xs) (take_more rs i d lt) ∙ map-append (λ (r : Row). r.scroller) (take i rs) (get_or rs i d ∷ [])))
  where
    x : ℕ
    x = (get_or rs i d).scroller

    there : (b : Bool) → cond (b || true) (point k) origin ≡ point k
    there true = refl
    there false = refl

    not_there : (b : Bool) → cond b (point k) origin ≡ cond (b || false) (point k) origin
    not_there true = refl
    not_there false = refl

    go : (t : Bool) → (k == x) ≡ t → (b : Bool) → old ≡ cond b (point k) origin → (if t then p else old) ≡ cond (b || t) (point k) origin
    go true e b w = is ∙ ap (λ (n : ℕ). point n) (sym (same_number k x e)) ∙ sym (there b)
    go false e b w = w ∙ not_there b

pub range_more : (b : Bool) (p new old : Point) → new ≡ (if b then p else old) → IsOffset p → IsOffset old → IsOffset new
range_more true p new old e h k = subst IsOffset (sym e) h
range_more false p new old e h k = subst IsOffset (sym e) k

-- a scroller that has not moved stands at 0
zero_stands : (s : Stage) (p : Page) (sc : ℕ) (ax : Axis) → value_in s p sc ax nothing ≡ pos 0
zero_stands stage.Active p sc ax = refl
zero_stands (stage.Pending ns) p sc ax = by_clobber (has_number ns.now sc)
  where
    by_clobber : (b : Bool) → brought_to b (most p sc ax) nothing ≡ pos 0
    by_clobber true = refl
    by_clobber false = clamp_zero (most p sc ax)

pub none_stands : (s : Stage) (p : Page) (rs : List Row) (sc : ℕ) (ax : Axis) → has_number (ids_of rs) sc ≡ false → stands_at s p rs sc ax ≡ pos 0
none_stands s p rs sc ax e = ap (value_in s p sc ax) (value_none rs sc ax e) ∙ zero_stands s p sc ax

-- nor does one that the page lacks
lacking_stands : (p : Page) (sc : ℕ) (ax : Axis) (z : ℤ) → has_scroller p sc ≡ false → IsInRange (most p sc ax) z → z ≡ pos 0
lacking_stands p sc ax z e r =
    let m = most_absent p sc ax e in
    omega (arith, ints, r.low, r.high, m)

abbrev point_of : ℤ → ℤ → Point
point_of x y = record { x = x; y = y }

point_zero : (x y : ℤ) → x ≡ pos 0 → y ≡ pos 0 → point_of x y ≡ origin
point_zero x y e f = λ i. record { x = e i; y = f i }

-- all rows: the offsets of the page
pub all_offsets : (s : Stage) (p : Page) (rs : List Row) (k : ℕ) → ((sc : ℕ) (ax : Axis) → IsInRange (most p sc ax) (stands_at s p rs sc ax))
    → among_at (ids_of rs) (point_at s p rs) k ≡ offsets_in p (stands_at s p rs) k
all_offsets s p rs k within = by_row (has_number (ids_of rs) k) refl
  where
    lacks : has_scroller p k ≡ false → point_at s p rs k ≡ origin
    lacks e = point_zero (stands_at s p rs k across) (stands_at s p rs k down) (lacking_stands p k across (stands_at s p rs k across) e (within k across)) (lacking_stands p k down (stands_at s p rs k down) e (within k down))

    by_page : (b : Bool) → has_scroller p k ≡ b → point_at s p rs k ≡ cond b (point_at s p rs k) origin
    by_page true e = refl
    by_page false e = lacks e

    both_origin : (b : Bool) → point_at s p rs k ≡ origin → origin ≡ cond b (point_at s p rs k) origin
    both_origin true e = sym e
    both_origin false e = refl

    by_row : (b : Bool) → has_number (ids_of rs) k ≡ b → cond b (point_at s p rs k) origin ≡ cond (has_scroller p k) (point_at s p rs k) origin
    by_row true e = by_page (has_scroller p k) refl
    by_row false e = both_origin (has_scroller p k) (point_zero (stands_at s p rs k across) (stands_at s p rs k down) (none_stands s p rs k across e) (none_stands s p rs k down e))

-- where a row stands is where its scroller stands
pub point_is : (s : Stage) (p : Page) (rs : List Row) (i : ℕ) (q : Point) → AreRising rs → i < length rs
    → q ≡ record { x = value_in s p (get_or rs i no_row).scroller across (get_or rs i no_row).x; y = value_in s p (get_or rs i no_row).scroller down (get_or rs i no_row).y } → q ≡ point_at s p rs (get_or rs i no_row).scroller
point_is s p rs i q a l e =
    let x = value_at rs i no_row across a l in
    let y = value_at rs i no_row down a l in
    e ∙ (λ k. record { x = value_in s p (get_or rs i no_row).scroller across (sym x k); y = value_in s p (get_or rs i no_row).scroller down (sym y k) })
