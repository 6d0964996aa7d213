-- Where a scroller of the active page stands, by its five values along each axis.
use Rattle.std.proofs.Common.{◌≡◌, ℕ, ℤ, pos, ◌^◌, Bool, true, false, cond, List, refl, sym, ◌∙◌, ap, subst, arith}
use Rattle.std.specs.Prelude.{◌≤ℤ◌}
use Rattle.std.proofs.lemmas.Int.{ints}
use Rattle.geom.specs.declared.rect.Point.{Point}
use Rattle.page_layers.specs.Axes.{Axis, across, down}
use Rattle.page_layers.specs.Scrolls.{IsInRange}
use Rattle.page_layers.specs.Scrollers.{has_scroller, most}
use Rattle.model_states.specs.declared.Synced.{Synced}
use Rattle.model_states.specs.Bounds.{IsBounded}
use Rattle.model_states.specs.Table.{active_value}
use Rattle.model_history.specs.declared.history.Entry.{Entry}
use Rattle.model_history.specs.Accepted.{IsPlayable}
use Rattle.model_history.specs.Frames.{active_page}
use Rattle.model_history.specs.Legal.{Legal}
use Rattle.model_history.specs.Scripts.{ScriptModel}
use Rattle.model_history.specs.Scrolls.{offset, active_offsets}
use Rattle.model_history.specs.Values.{values}
use Rattle.model_history.proofs.Bounds.{values_bounded}
use Rattle.model_history.proofs.Offsets.{lacking_stands}
use Rattle.model_history.proofs.ValueReadings.{active_is_value, offset_in_range}

-- ---- along an axis

module _ (s : ScriptModel) (n : ℕ) (h : List Entry) (sc : ℕ) (ax : Axis) (v : Synced) (playable : IsPlayable s) (legal : Legal s n h) (is : v ≡ values s sc ax h) where
  pub bounded : IsBounded v
  bounded = subst IsBounded (sym is) (values_bounded s n h sc ax playable legal)

  offset_of : offset s h sc ax ≡ active_value v
  offset_of = active_is_value s n h sc ax legal ∙ ap active_value (sym is)

  in_range : IsInRange (most (active_page s h) sc ax) (active_value v)
  in_range = subst (IsInRange (most (active_page s h) sc ax)) offset_of (offset_in_range s n h sc ax playable legal)

  pub low : pos 0 ≤ℤ active_value v
  low = in_range.low

  pub high : active_value v ≤ℤ pos (2 ^ 20)
  high = let r = in_range in omega (arith, ints, r.high, r.bounded)

-- ---- along both

abbrev pub point : ℤ → ℤ → Point
point x y = record { x = x; y = y }

same_point : (a b x y : ℤ) → a ≡ x → b ≡ y → point a b ≡ point x y
same_point a b x y p q = ap (λ (z : ℤ). point z b) p ∙ ap (λ (z : ℤ). point x z) q

choose : (b : Bool) (x y : ℤ) → (b ≡ false → (x ≡ pos 0) × (y ≡ pos 0)) → point x y ≡ cond b (point x y) (point (pos 0) (pos 0))
choose true x y none = refl
choose false x y none = same_point x y (pos 0) (pos 0) (none refl).0 (none refl).1

-- the scroller stands there on the active page, which is the origin if the page lacks it
pub stands : (s : ScriptModel) (n : ℕ) (h : List Entry) (sc : ℕ) (a d : Synced) (x y : ℤ) → Legal s n h → a ≡ values s sc across h → d ≡ values s sc down h → x ≡ active_value a → y ≡ active_value d → point x y ≡ active_offsets s h sc
stands s n h sc a d x y legal is_a is_d is_x is_y =
    let p : x ≡ offset s h sc across = is_x ∙ (ap active_value is_a ∙ sym (active_is_value s n h sc across legal)) in
    let q : y ≡ offset s h sc down = is_y ∙ (ap active_value is_d ∙ sym (active_is_value s n h sc down legal)) in
    same_point x y (offset s h sc across) (offset s h sc down) p q
    ∙ choose (has_scroller (active_page s h) sc) (offset s h sc across) (offset s h sc down)
    (λ lacks. ((lacking_stands s n h sc across legal lacks).2, (lacking_stands s n h sc down legal lacks).2))
