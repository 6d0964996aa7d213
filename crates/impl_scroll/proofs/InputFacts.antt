-- What is accepted of a scroll and of a wheel.
use Rattle.std.proofs.Common.{◌≡◌, ℕ, zero, suc, ◌≤◌, ℤ, pos, neg_ℤ, ◌≤ℤ◌, ◌&&◌, nat_le, int_le, Bool, true, false, cond, List, [], ◌∷◌, length, map, Option, Some, None, slice_get, refl, sym, ◌∙◌, ap, subst, arith}
use Rattle.std.specs.List.{list_all}
use Rattle.std.proofs.lemmas.Int.{ints}
use Rattle.std.proofs.lemmas.Bool.Decides.{nat_tests}
use Rattle.geom.specs.declared.rect.Point.{Point}
use Rattle.page_properties.specs.OffsetMap.{offset_at}
use Rattle.page_layers.specs.Pages.{Page}
use Rattle.page_layers.specs.Hits.{target}
use Rattle.page_layers.specs.Axes.{Axis, across, down, along}
use Rattle.page_layers.specs.Scrolls.{IsInRange}
use Rattle.page_properties.specs.OffsetMap.{origin}
use Rattle.page_layers.specs.Scrollers.{has_scroller, most, amount_taken}
use Rattle.page_hit_test.specs.declared.wheels.Wheel.{Wheel}
use Rattle.page_hit_test.specs.Wheels.{part_move, AreWithinRanges, IsAmount, IsWheel}
use Rattle.model_history.specs.declared.input.Input.{Input}
use Rattle.model_history.specs.declared.input.Input.TheVariants as input
use Rattle.model_history.specs.declared.history.Entry.{Entry}
use Rattle.model_history.specs.Scripts.{ScriptModel}
use Rattle.model_history.specs.Ranges.{in_range, is_amount, input_in_range}
use Rattle.model_history.specs.Frames.{page, pulls_of, active, up_to, active_page}
use Rattle.model_history.specs.Scrolls.{offset, accepted, active_offsets}
use Rattle.model_history.specs.Due.{next_input, input_now}
use Rattle.model_history.specs.Accepted.{IsPlayable}
use Rattle.model_history.specs.Legal.{Legal}
use Rattle.model_history.proofs.BoolFacts.{and_left, and_right}
use Rattle.model_history.proofs.PageStanding.{most_absent}
use Rattle.model_history.proofs.ValueReadings.{offset_in_range}
use Rattle.model_steps.specs.Standing.{active_at}
use Rattle.model_steps.proofs.StandingFacts.{accepted_is}
use Rattle.impl_scroll.specs.declared.row.Row.{Row}
use Rattle.impl_scroll.specs.Rows.{row_value}
use Rattle.impl_scroll.specs.Standings.{StandingModel, page_at}
use Rattle.impl_scroll.specs.inner.Places.{AreValues}

-- the page of a frame, and where there is none

pub page_is : (s : ScriptModel) (h : List Entry) (p : Page) (o : Option ℕ) → Some p ≡ page_at s h o → p ≡ page s (pulls_of h) (up_to o)
page_is s h p None e = absurd cc
page_is s h p (Some k) e = cc

pub no_frame : (s : ScriptModel) (h : List Entry) (o : Option ℕ) → None ≡ page_at s h o → o ≡ None
no_frame s h None e = refl
no_frame s h (Some k) e = absurd cc

-- a scroll

pub accepted_there : (s : ScriptModel) (n : ℕ) (h : List Entry) (rs : List Row) (p : Page) (sc : ℕ) (ax : Axis) (asked : ℤ) → Legal s n h → AreValues s h rs → Some p ≡ page_at s h (active h)
    → amount_taken p (active_at (row_value rs)) sc ax asked ≡ accepted s h sc ax asked
accepted_there s n h rs p sc ax asked legal is e =
    let same : p ≡ active_page s h = page_is s h p (active h) e in
    (λ i. amount_taken (same i) (λ k x. active_at (λ j y. is j y i) k x) sc ax asked) ∙ sym (accepted_is s n h legal sc ax asked)

-- the scrollers of the active page are in their ranges

at_place : (ax : Axis) (at : ℕ → Axis → ℤ) (sc : ℕ) → at sc ax ≡ along ax (record { x = at sc across; y = at sc down })
at_place across at sc = refl
at_place down at sc = refl

at_origin : (m : ℕ) (ax : Axis) → m ≡ 0 → IsInRange m (along ax origin)
at_origin m across e = record { low = omega (arith, ints); high = omega (arith, ints); bounded = omega (arith, e) }
at_origin m down e = record { low = omega (arith, ints); high = omega (arith, ints); bounded = omega (arith, e) }

offsets_within : (s : ScriptModel) (n : ℕ) (h : List Entry) → IsPlayable s → Legal s n h → AreWithinRanges (active_page s h) (active_offsets s h)
offsets_within s n h acc legal sc ax = go (has_scroller (active_page s h) sc) refl
  where
    go : (b : Bool) → has_scroller (active_page s h) sc ≡ b → IsInRange (most (active_page s h) sc ax) (along ax (cond b (record { x = offset s h sc across; y = offset s h sc down }) origin))
    go true e = subst (IsInRange (most (active_page s h) sc ax)) (at_place ax (offset s h) sc) (offset_in_range s n h sc ax acc legal)
    go false e = at_origin (most (active_page s h) sc ax) ax (most_absent (active_page s h) sc ax e)

module _ (s : ScriptModel) (h : List Entry) (st : StandingModel) (p : Page) (is : (sc : ℕ) → offset_at st.active sc ≡ active_offsets s h sc) (e : Some p ≡ page_at s h (active h)) where
  same_page : p ≡ active_page s h
  same_page = page_is s h p (active h) e

  same_offsets : offset_at st.active ≡ active_offsets s h
  same_offsets = λ i sc. is sc i

  pub ranges_there : (n : ℕ) → IsPlayable s → Legal s n h → AreWithinRanges p (offset_at st.active)
  ranges_there n acc legal =
      subst (λ (q : Page). AreWithinRanges q (offset_at st.active)) (sym same_page) (subst (AreWithinRanges (active_page s h)) (sym same_offsets) (offsets_within s n h acc legal))

  pub wheel_there : (x y dx dy : ℤ) (w : Wheel) → IsWheel p (offset_at st.active) x y dx dy w → IsWheel (active_page s h) (active_offsets s h) x y dx dy w
  wheel_there x y dx dy w r = subst (λ (q : Page). IsWheel q (active_offsets s h) x y dx dy w) same_page (subst (λ (f : ℕ → Point). IsWheel p f x y dx dy w) same_offsets r)

-- a wheel before the first activation

no_layer : (s : ScriptModel) (h : List Entry) (f : ℕ → Point) (x y dx dy : ℤ) (w : Wheel) → w.target ≡ 0 → w.parts ≡ [] → w.rest.x ≡ dx → w.rest.y ≡ dy → IsWheel (page s (pulls_of h) (up_to None)) f x y dx dy w
unfolding target
no_layer s h f x y dx dy w e p a b = record { hits = e; parts = ap (map part_move) p; rest_across = a; rest_down = b }

pub wheel_nowhere : (s : ScriptModel) (h : List Entry) (x y dx dy : ℤ) (w : Wheel) → None ≡ page_at s h (active h) → w.target ≡ 0 → w.parts ≡ [] → w.rest.x ≡ dx → w.rest.y ≡ dy
    → IsWheel (active_page s h) (active_offsets s h) x y dx dy w
wheel_nowhere s h x y dx dy w none e p a b =
    subst (λ (o : Option ℕ). IsWheel (page s (pulls_of h) (up_to o)) (active_offsets s h) x y dx dy w) (sym (no_frame s h (active h) none)) (no_layer s h (active_offsets s h) x y dx dy w e p a b)

-- the numbers of a wheel

-- what holds of all holds of one
one_of : (f : Input → Bool) (xs : List Input) (i : ℕ) (x : Input) → list_all f xs ≡ true → slice_get xs i ≡ Some x → f x ≡ true
one_of f [] i x all e = absurd cc
one_of f (y ∷ ys) zero x all e = let same : y ≡ x = cc in ap f (sym same) ∙ and_left (f y) (list_all f ys) all
one_of f (y ∷ ys) (suc i) x all e = one_of f ys i x (and_right (f y) (list_all f ys) all) e

at_most : (n : ℕ) → in_range 0 2047 n ≡ true → n ≤ 2047
at_most n e = let t : nat_le n 2047 ≡ true = and_right (nat_le 0 n) (nat_le n 2047) e in grind (arith, nat_tests)

at_least : (a b : ℤ) → int_le a b ≡ true → a ≤ℤ b
at_least a b e = omega (arith, ints, e)

amount : (z : ℤ) → is_amount z ≡ true → IsAmount z
amount z e = record {
  least = at_least (neg_ℤ (pos 1048576)) z (and_left (int_le (neg_ℤ (pos 1048576)) z) (int_le z (pos 1048576)) e);
  greatest = at_least z (pos 1048576) (and_right (int_le (neg_ℤ (pos 1048576)) z) (int_le z (pos 1048576)) e);
}

-- of the next input
pub record WheelFits (x y : ℕ) (dx dy : ℤ) : Type 0 where
  pub column : x ≤ 2047
  pub row : y ≤ 2047
  pub across : IsAmount dx
  pub down : IsAmount dy

pub wheel_fits : (s : ScriptModel) (h : List Entry) (x y : ℕ) (dx dy : ℤ) → IsPlayable s → input_now s h ≡ Some (input.Wheel x y dx dy) → WheelFits x y dx dy
wheel_fits s h x y dx dy acc e =
    let column : Bool = in_range 0 2047 x in
    let row : Bool = in_range 0 2047 y in
    let fits : ((column && row) && is_amount dx) && is_amount dy ≡ true = one_of (input_in_range (length s.main)) s.inputs (next_input h) (input.Wheel x y dx dy) acc.inputs e in
    let three = and_left ((column && row) && is_amount dx) (is_amount dy) fits in
    let two = and_left (column && row) (is_amount dx) three in
    record {
      column = at_most x (and_left column row two);
      row = at_most y (and_right column row two);
      across = amount dx (and_right (column && row) (is_amount dx) three);
      down = amount dy (and_right ((column && row) && is_amount dx) (is_amount dy) fits);
    }
