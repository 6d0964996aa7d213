-- Where the scrollers of both trees stand, by the five values.
use Rattle.std.proofs.Common.{◌≡◌, ℕ, ℤ, pos, ◌-ℤ◌, true, false, cond, List, refl, sym, ◌∙◌, ap}
use Rattle.geom.specs.declared.rect.Point.{Point}
use Rattle.model_states.specs.declared.Synced.{Synced}
use Rattle.model_states.specs.Table.{pending_value}
use Rattle.page_layers.specs.Scrolls.{clamp_to}
use Rattle.page_layers.specs.Pages.{Page}
use Rattle.page_layers.specs.Axes.{Axis, across, down}
use Rattle.page_layers.specs.Scrollers.{has_scroller, most, offsets_in, amount_taken}
use Rattle.model_history.specs.declared.history.Entry.{Entry}
use Rattle.model_history.specs.Scripts.{ScriptModel}
use Rattle.model_history.specs.Frames.{pending, active_page, pending_page}
use Rattle.model_history.specs.Scrolls.{offset_then, pending_base, pending_offset, clobbers, clamp_move, accepted, active_offsets, pending_offsets}
use Rattle.model_history.specs.Values.{values}
use Rattle.model_history.specs.Legal.{Legal}
use Rattle.model_history.proofs.ValueSums.{are_sums}
use Rattle.model_history.proofs.ValueReadings.{active_is_value, offset_then_is_value}
use Rattle.model_steps.specs.Standing.{active_at, pending_at, clamped_by}

-- where a scroller stands that a page lacks
abbrev origin : Point
origin = record { x = pos 0; y = pos 0 }

-- pages that are one, with scrollers that stand at the same numbers, have the same offsets
pub same_offsets : (p q : Page) (f g : ℕ → Axis → ℤ) → p ≡ q → ((sc : ℕ) (ax : Axis) → has_scroller q sc ≡ true → f sc ax ≡ g sc ax) → offsets_in p f ≡ offsets_in q g
same_offsets p q f g e same = ap (λ (r : Page). offsets_in r f) e ∙ (λ i sc. at_one sc (has_scroller q sc) (same sc) i)
  where
    at_one : (sc : ℕ) (b : _) → ((ax : Axis) → b ≡ true → f sc ax ≡ g sc ax)
        → cond b (record { x = f sc across; y = f sc down }) origin ≡ cond b (record { x = g sc across; y = g sc down }) origin
    at_one sc true t = let x : f sc across ≡ g sc across = t across refl in let y : f sc down ≡ g sc down = t down refl in λ i. record { x = x i; y = y i }
    at_one sc false t = refl

module _ (s : ScriptModel) (n : ℕ) (h : List Entry) (legal : Legal s n h) where
  abbrev value : ℕ → Axis → Synced
  value sc ax = values s sc ax h

  pub pending_is : (sc : ℕ) (ax : Axis) → pending_offset s h sc ax ≡ pending_at (clobbers s (pending h)) (pending_page s h) value sc ax
  pending_is sc ax =
      let b : (values s sc ax h).pending_base ≡ pending_base s h sc ax = (are_sums s n h sc ax legal).pending_base in
      let o : offset_then s h sc ax ≡ pending_value (values s sc ax h) = offset_then_is_value s n h sc ax legal in
      λ i. cond (clobbers s (pending h) sc) (sym b i) (clamp_to (most (pending_page s h) sc ax) (o i))

  pub clamp_is : (sc : ℕ) (ax : Axis) → clamp_move s h sc ax ≡ clamped_by (clobbers s (pending h)) (pending_page s h) value sc ax
  clamp_is sc ax =
      let p = pending_is sc ax in
      let o = offset_then_is_value s n h sc ax legal in
      λ i. p i -ℤ o i

  pub accepted_is : (sc : ℕ) (ax : Axis) (asked : ℤ) → accepted s h sc ax asked ≡ amount_taken (active_page s h) (active_at value) sc ax asked
  accepted_is sc ax asked = ap (λ (f : ℕ → Axis → ℤ). amount_taken (active_page s h) f sc ax asked) (λ i k a. active_is_value s n h k a legal i)

  pub active_offsets_are : active_offsets s h ≡ offsets_in (active_page s h) (active_at value)
  active_offsets_are = ap (offsets_in (active_page s h)) (λ i sc ax. active_is_value s n h sc ax legal i)

  pub pending_offsets_are : pending_offsets s h ≡ offsets_in (pending_page s h) (pending_at (clobbers s (pending h)) (pending_page s h) value)
  pending_offsets_are = ap (offsets_in (pending_page s h)) (λ i sc ax. pending_is sc ax i)
