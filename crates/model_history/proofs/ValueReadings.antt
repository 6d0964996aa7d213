-- Where the active and the pending tree stand, and what the next send lists, by the five values.
use Rattle.std.proofs.Common.{ℕ, ℤ, ◌≡◌, pos, ◌+ℤ◌, ◌-ℤ◌, ◌||◌, cond, List, Option, Some, None, refl, sym, ◌∙◌, ap, arith}
use Rattle.std.proofs.lemmas.Int.{ints}
use Rattle.model_states.specs.declared.Synced.{Synced}
use Rattle.model_states.specs.Table as table
use Rattle.page_layers.specs.Scrolls.{clamp_to, IsInRange}
use Rattle.model_history.specs.declared.history.Entry.{Entry}
use Rattle.model_history.specs.Scripts.{ScriptModel}
use Rattle.model_history.specs.EventFields.{retires}
use Rattle.model_history.specs.Scans.{names, was_named}
use Rattle.page_layers.specs.Axes.{Axis}
use Rattle.page_layers.specs.Scrollers.{most}
use Rattle.model_history.specs.Frames.{pulls_of, active, pending, up_to, active_page, pending_page}
use Rattle.model_history.specs.Scrolls.{delta_of, delta, offset, offset_then, pending_base, pending_offset, clobbers, retired_then, unsent}
use Rattle.model_history.specs.Values.{values}
use Rattle.model_history.specs.ScrollLaws.{carried_by, frame_in_flight}
use Rattle.model_history.specs.Accepted.{IsPlayable}
use Rattle.model_history.specs.Legal.{Legal}
use Rattle.page_layers.proofs.NodeKeeps.{clamp_again}
use Rattle.model_history.proofs.ValueSums.{Sums, sums}
use Rattle.model_history.proofs.Offsets.{before, offset_is_value, offset_fits}
use Rattle.model_history.proofs.Bounds.{in_its_range}
use Rattle.model_history.proofs.RangeBounds.{page_short}

-- the pending tree

regroup : (pb d p : ℤ) → pb +ℤ (d -ℤ p) ≡ (pb +ℤ d) -ℤ p
regroup pb d p = omega (arith, ints)

no_part : (pb d p : ℤ) → p ≡ pos 0 → pb +ℤ d ≡ (pb +ℤ d) -ℤ p
no_part pb d p e = omega (arith, ints, e)

by_pending : (s : ScriptModel) (n : ℕ) (h : List Entry) (sc : ℕ) (ax : Axis) (o : Option ℕ) → Legal s n h → pending h ≡ o → offset_then s h sc ax ≡ table.pending_value (values s sc ax h)
by_pending s n h sc ax None l e =
    let v : Synced = values s sc ax h in
    let m : Sums s sc ax h = sums s n sc ax h l in
    let d : delta_of s h (retired_then h) sc ax ≡ delta s h sc ax = ap (λ w. delta_of s h (λ k. names w k || was_named retires h k) sc ax) e in
    let p : v.reflected_pending ≡ pos 0 = m.reflected_pending ∙ ap (λ w. carried_by s h w sc ax) e in
    (λ i. sym m.pending_base i +ℤ (d ∙ sym m.active_delta) i) ∙ no_part v.pending_base v.active_delta v.reflected_pending p
by_pending s n h sc ax (Some k) l e =
    let v : Synced = values s sc ax h in
    (before s n h k sc ax l e).then_at ∙ regroup v.pending_base v.active_delta v.reflected_pending

pub offset_then_is_value : (s : ScriptModel) (n : ℕ) (h : List Entry) (sc : ℕ) (ax : Axis) → Legal s n h → offset_then s h sc ax ≡ table.pending_value (values s sc ax h)
offset_then_is_value s n h sc ax l = by_pending s n h sc ax (pending h) l refl

-- the active tree
pub active_is_value : (s : ScriptModel) (n : ℕ) (h : List Entry) (sc : ℕ) (ax : Axis) → Legal s n h → offset s h sc ax ≡ table.active_value (values s sc ax h)
active_is_value s n h sc ax l = offset_is_value s h sc ax (sums s n sc ax h l)

-- what is unsent, where no main frame is in flight

rest_is : (d vd u m vp p : ℤ) → vd ≡ d → vp ≡ p → d ≡ (u +ℤ m) +ℤ p → m ≡ pos 0 → u ≡ vd -ℤ vp
rest_is d vd u m vp p a b e f = omega (arith, ints, a, b, e, f)

pub unsent_is_value : (s : ScriptModel) (n : ℕ) (h : List Entry) (sc : ℕ) (ax : Axis) → Legal s n h → frame_in_flight h ≡ None → unsent s h sc ax ≡ table.pull_answer (values s sc ax h)
unsent_is_value s n h sc ax l e =
    let v : Synced = values s sc ax h in
    let m : Sums s sc ax h = sums s n sc ax h l in
    rest_is (delta s h sc ax) v.active_delta (unsent s h sc ax) (carried_by s h (frame_in_flight h) sc ax) v.reflected_pending (carried_by s h (pending h) sc ax)
    m.active_delta m.reflected_pending m.parts (ap (λ o. carried_by s h o sc ax) e)

-- both stand in the ranges of their pages

pub offset_in_range : (s : ScriptModel) (n : ℕ) (h : List Entry) (sc : ℕ) (ax : Axis) → IsPlayable s → Legal s n h → IsInRange (most (active_page s h) sc ax) (offset s h sc ax)
offset_in_range s n h sc ax a l = in_its_range (most (active_page s h) sc ax) (offset s h sc ax) (page_short s a (pulls_of h) (up_to (active h)) sc ax) (offset_fits s n h sc ax l)

pending_fits : (s : ScriptModel) (n : ℕ) (h : List Entry) (sc : ℕ) (ax : Axis) (o : Option ℕ) → Legal s n h → pending h ≡ o → clamp_to (most (pending_page s h) sc ax) (pending_offset s h sc ax) ≡ pending_offset s h sc ax
pending_fits s n h sc ax None l e =
    let m : ℕ = most (pending_page s h) sc ax in
    let i : pending_offset s h sc ax ≡ clamp_to m (offset_then s h sc ax) = ap (λ w. cond (clobbers s w sc) (pending_base s h sc ax) (clamp_to m (offset_then s h sc ax))) e in
    ap (clamp_to m) i ∙ (clamp_again m (offset_then s h sc ax) ∙ sym i)
pending_fits s n h sc ax (Some k) l e = (before s n h k sc ax l e).then_fits

pub pending_in_range : (s : ScriptModel) (n : ℕ) (h : List Entry) (sc : ℕ) (ax : Axis) → IsPlayable s → Legal s n h → IsInRange (most (pending_page s h) sc ax) (pending_offset s h sc ax)
pending_in_range s n h sc ax a l = in_its_range (most (pending_page s h) sc ax) (pending_offset s h sc ax) (page_short s a (pulls_of h) (up_to (pending h)) sc ax) (pending_fits s n h sc ax (pending h) l refl)
