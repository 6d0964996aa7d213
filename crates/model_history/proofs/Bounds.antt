-- How large the five values and the listed moves of a playable script are.
use Rattle.std.proofs.Common.{ℕ, ℤ, ◌≡◌, suc, ◌+◌, ◌-◌, ◌*◌, ◌^◌, ◌<◌, ◌≤◌, pos, ◌+ℤ◌, ◌-ℤ◌, ◌≤ℤ◌, Bool, true, false, cond, ◌||◌, List, [], ◌∷◌, length, Option, Some, None, slice_get, sym, ◌∙◌, ap, subst, arith}
use Rattle.std.specs.Option.{option_or}
use Rattle.std.proofs.lemmas.Int.{ints, clamps}
use Rattle.model_states.specs.declared.Synced.{Synced}
use Rattle.model_states.specs.Table as table
use Rattle.model_states.specs.Bounds.{IsBoundedNumber, IsBounded}
use Rattle.page_layers.specs.Scrolls.{clamp_to, IsInRange}
use Rattle.page_layers.specs.Hits.{target}
use Rattle.model_history.specs.declared.event.Event.{Event}
use Rattle.model_history.specs.declared.event.Event.TheVariants as event
use Rattle.model_history.specs.declared.input.Input.{Input}
use Rattle.model_history.specs.declared.input.Input.TheVariants as input
use Rattle.page_layers.specs.declared.moves.Move.{Move}
use Rattle.model_history.specs.declared.history.Entry.{Entry}
use Rattle.model_history.specs.Scripts.{ScriptModel}
use Rattle.model_history.specs.EventFields.{sends, pulls, retires, moves, scroll_move}
use Rattle.model_history.specs.Scans.{names, was_named, counted}
use Rattle.page_layers.specs.Axes.{Axis, across, down, move_of, is_still, listed}
use Rattle.page_layers.specs.Scrollers.{scrollers, has_scroller, most, amount_taken}
use Rattle.model_history.specs.Frames.{page, pulls_of, active, pending, up_to, active_page, pending_page}
use Rattle.model_history.specs.Scrolls.{base_of, offset, active_then, pending_base, offset_then, pending_offset, clamp_move, scrollers_moved, unsent, active_offsets}
use Rattle.page_layers.specs.Wheels.{chain_parts, takes_at, chain_at}
use Rattle.model_history.specs.Values.{values}
use Rattle.model_history.specs.ScrollLaws.{carried_by, IsSmall, AreSmall}
use Rattle.model_history.specs.FrameLaws.{AtEach}
use Rattle.model_history.specs.Accepted.{IsPlayable}
use Rattle.model_history.specs.Legal.{Legal}
use Rattle.model_history.proofs.BoolFacts.{none_where}
use Rattle.model_history.proofs.DueFacts.{entry, AtSend, at_send, AtCommit, at_commit, AtScroll, at_scroll, AtWheel, at_wheel, AtActivate, at_activate}
use Rattle.model_history.proofs.Course.{course}
use Rattle.model_history.proofs.PastFacts.{none_in_flight}
use Rattle.model_history.proofs.ValueSums.{Sums, sums}
use Rattle.model_history.proofs.PageStanding.{pending_base_fits}
use Rattle.model_history.proofs.Offsets.{Before, before, offset_is_value, offset_fits, takes_is}
use Rattle.model_history.proofs.RangeBounds.{page_short, sent_few}

-- an absolute value of at most m
pub record Within (m : ℕ) (z : ℤ) : Type 0 where
  pub low : pos 0 ≤ℤ (z +ℤ pos m)
  pub high : z ≤ℤ pos m

-- a number from 0 to 2^20
pub record IsPlace (z : ℤ) : Type 0 where
  pub low : pos 0 ≤ℤ z
  pub high : z ≤ℤ pos 1048576

pub in_its_range : (m : ℕ) (z : ℤ) → m ≤ 1048576 → clamp_to m z ≡ z → IsInRange m z
unfolding clamp_to
in_its_range m z l e = record { low = omega (arith, ints, clamps, e); high = omega (arith, ints, clamps, e); bounded = l }

place : (m : ℕ) (z : ℤ) → m ≤ 1048576 → clamp_to m z ≡ z → IsPlace z
place m z l e = let r = in_its_range m z l e in record { low = r.low; high = omega (arith, ints, r.high, l) }

-- in every legal past of a playable script the offset and the pending base are such numbers
pub offset_place : (s : ScriptModel) (n : ℕ) (h : List Entry) (sc : ℕ) (ax : Axis) → IsPlayable s → Legal s n h → IsPlace (offset s h sc ax)
offset_place s n h sc ax a l = place (most (active_page s h) sc ax) (offset s h sc ax) (page_short s a (pulls_of h) (up_to (active h)) sc ax) (offset_fits s n h sc ax l)

value_place : (s : ScriptModel) (n : ℕ) (h : List Entry) (sc : ℕ) (ax : Axis) → IsPlayable s → Legal s n h → IsPlace (table.active_value (values s sc ax h))
value_place s n h sc ax a l = subst IsPlace (offset_is_value s h sc ax (sums s n sc ax h l)) (offset_place s n h sc ax a l)

pub base_place : (s : ScriptModel) (n : ℕ) (h : List Entry) (sc : ℕ) (ax : Axis) → IsPlayable s → Legal s n h → IsPlace (values s sc ax h).pending_base
base_place s n h sc ax a l =
    subst IsPlace (sym (sums s n sc ax h l).pending_base)
    (place (most (page s (pulls_of h) (up_to (active_then h))) sc ax) (pending_base s h sc ax) (page_short s a (pulls_of h) (up_to (active_then h)) sc ax) (pending_base_fits s n h sc ax l))

-- The active base is near the pending one; what the main side was told grows with the frames that were sent.
pub record NearOf (v : Synced) (total : ℕ) : Type 0 where
  pub near : Within 1048576 (v.active_base -ℤ v.pending_base)
  pub told : Within (2097152 * total) v.reflected_main
  pub waiting : Within (2097152 * total) v.reflected_pending

abbrev pub Near : ScriptModel → ℕ → Axis → List Entry → Type 0
Near s sc ax h = NearOf (values s sc ax h) (counted sends h)

zero_within : (m : ℕ) → Within m (pos 0)
zero_within m = record { low = omega (arith, ints); high = omega (arith, ints) }

-- what of the delta is not in the pending base
rest_within : (b d pb p : ℤ) (t : ℕ) → IsPlace (b +ℤ d) → IsPlace pb → Within 1048576 (b -ℤ pb) → Within (2097152 * t) p → Within (2097152 * suc t) (d -ℤ p)
rest_within b d pb p t o q n w = record {
  low = omega (arith, ints, o.low, o.high, q.low, q.high, n.low, n.high, w.low, w.high);
  high = omega (arith, ints, o.low, o.high, q.low, q.high, n.low, n.high, w.low, w.high);
}

delta_within : (b d pb : ℤ) → IsPlace (b +ℤ d) → IsPlace pb → Within 1048576 (b -ℤ pb) → Within 2097152 d
delta_within b d pb o q n = record {
  low = omega (arith, ints, o.low, o.high, q.low, q.high, n.low, n.high);
  high = omega (arith, ints, o.low, o.high, q.low, q.high, n.low, n.high);
}

later : (t : ℕ) (z : ℤ) → Within (2097152 * t) z → Within (2097152 * suc t) z
later t z w = record { low = omega (arith, ints, w.low, w.high); high = omega (arith, ints, w.low, w.high) }

places_near : (b pb new : ℤ) → b ≡ pb → IsPlace pb → IsPlace new → Within 1048576 (b -ℤ new)
places_near b pb new e p q = record { low = omega (arith, ints, e, p.low, p.high, q.low, q.high); high = omega (arith, ints, e, p.low, p.high, q.low, q.high) }

both_moved : (b pb m : ℤ) → b -ℤ pb ≡ (b +ℤ m) -ℤ (pb +ℤ m)
both_moved b pb m = omega (arith, ints)

nothing_between : (b : ℤ) → pos 0 ≡ b -ℤ b
nothing_between b = omega (arith, ints)

-- where nothing is pending the bases are one
same_base : (s : ScriptModel) (n : ℕ) (h : List Entry) (sc : ℕ) (ax : Axis) → Legal s n h → pending h ≡ None → (values s sc ax h).active_base ≡ (values s sc ax h).pending_base
same_base s n h sc ax l e =
    let m = sums s n sc ax h l in
    m.active_base ∙ (sym (ap (λ o. base_of s h (option_or o (active h)) (λ k. names o k || was_named retires h k) sc ax) e) ∙ sym m.pending_base)

one_step : (s : ScriptModel) (n : ℕ) (h : List Entry) (a : ℕ) (e : Event) (sc : ℕ) (ax : Axis) → IsPlayable s → Legal s n (entry a e ∷ h) → Near s sc ax h → Near s sc ax (entry a e ∷ h)
one_step s n h a (event.Send k ms) sc ax acc l r =
    let v : Synced = values s sc ax h in
    record {
      near = r.near;
      told = rest_within v.active_base v.active_delta v.pending_base v.reflected_pending (counted sends h) (value_place s n h sc ax acc l.0) (base_place s n h sc ax acc l.0) r.near r.waiting;
      waiting = later (counted sends h) v.reflected_pending r.waiting;
    }
one_step s n h a (event.Abort k) sc ax acc l r =
    let v : Synced = values s sc ax h in
    record {
      near = subst (Within 1048576) (both_moved v.active_base v.pending_base v.reflected_main) r.near;
      told = zero_within (2097152 * counted sends h);
      waiting = r.waiting;
    }
one_step s n h a (event.Commit k) sc ax acc l r =
    let v : Synced = values s sc ax h in
    let t : AtCommit h k = at_commit s n h a k l.1 in
    let none : pending h ≡ None = none_where (pending h) (sym (course s n h l.0).pending_state ∙ t.none_pending) in
    record {
      near = places_near v.active_base v.pending_base _ (same_base s n h sc ax l.0 none) (base_place s n h sc ax acc l.0) (base_place s n (entry a (event.Commit k) ∷ h) sc ax acc l);
      told = zero_within (2097152 * counted sends h);
      waiting = r.told;
    }
one_step s n h a (event.Activate k ms) sc ax acc l r =
    let v : Synced = values s sc ax h in
    record {
      near = subst (Within 1048576) (nothing_between v.pending_base) (zero_within 1048576);
      told = r.told;
      waiting = zero_within (2097152 * counted sends h);
    }
one_step s n h a (event.Scroll i dx dy) sc ax acc l r = record { near = r.near; told = r.told; waiting = r.waiting }
one_step s n h a (event.Wheel i layer rest_x rest_y ms) sc ax acc l r = record { near = r.near; told = r.told; waiting = r.waiting }
one_step s n h a _ sc ax acc l r = r

pub near : (s : ScriptModel) (n : ℕ) (sc : ℕ) (ax : Axis) (h : List Entry) → IsPlayable s → Legal s n h → Near s sc ax h
near s n sc ax [] acc l = record { near = zero_within 1048576; told = zero_within 0; waiting = zero_within 0 }
near s n sc ax (e ∷ h) acc l = one_step s n h e.actor e.event sc ax acc l (near s n sc ax h acc l.0)

-- the five values are within the bounds of every step

bounded : (m : ℕ) (z : ℤ) → m < 2 ^ 58 → Within m z → IsBoundedNumber z
bounded m z l w = record { above = omega (arith, ints, w.low, w.high, l); below = omega (arith, ints, w.low, w.high, l) }

base_within : (b pb : ℤ) → IsPlace pb → Within 1048576 (b -ℤ pb) → Within 2097152 b
base_within b pb q n = record { low = omega (arith, ints, q.low, q.high, n.low, n.high); high = omega (arith, ints, q.low, q.high, n.low, n.high) }

place_within : (z : ℤ) → IsPlace z → Within 1048576 z
place_within z q = record { low = omega (arith, ints, q.low, q.high); high = omega (arith, ints, q.low, q.high) }

pub values_bounded : (s : ScriptModel) (n : ℕ) (h : List Entry) (sc : ℕ) (ax : Axis) → IsPlayable s → Legal s n h → IsBounded (values s sc ax h)
values_bounded s n h sc ax acc l =
    let v : Synced = values s sc ax h in
    let r : NearOf v (counted sends h) = near s n sc ax h acc l in
    let few = acc.few_frames in
    let total = sent_few s n h l in
    let q : IsPlace v.pending_base = base_place s n h sc ax acc l in
    let o : IsPlace (v.active_base +ℤ v.active_delta) = value_place s n h sc ax acc l in
    record {
      active_base = bounded 2097152 v.active_base (omega arith) (base_within v.active_base v.pending_base q r.near);
      active_delta = bounded 2097152 v.active_delta (omega arith) (delta_within v.active_base v.active_delta v.pending_base o q r.near);
      pending_base = bounded 1048576 v.pending_base (omega arith) (place_within v.pending_base q);
      reflected_main = bounded (2097152 * counted sends h) v.reflected_main (omega arith) r.told;
      reflected_pending = bounded (2097152 * counted sends h) v.reflected_pending (omega arith) r.waiting;
    }

-- the moves that events list

small : (m : ℕ) (z : ℤ) → m < 2 ^ 54 → Within m z → IsSmall z
small m z l w = record { above = omega (arith, ints, w.low, w.high, l); below = omega (arith, ints, w.low, w.high, l) }

small_if : (m : Move) (ms : List Move) (b : Bool) → IsSmall m.dx → IsSmall m.dy → AreSmall ms → AreSmall (cond b ms (m ∷ ms))
small_if m ms true x y r = r
small_if m ms false x y r = (x, y, r)

small_listed : (f : ℕ → Axis → ℤ) → ((sc : ℕ) (ax : Axis) → IsSmall (f sc ax)) → (scs : List ℕ) → AreSmall (listed f scs)
small_listed f each [] = tt
small_listed f each (sc ∷ scs) = small_if (move_of f sc) (listed f scs) (is_still (move_of f sc)) (each sc across) (each sc down) (small_listed f each scs)

small_parts : (takes : ℕ → Axis → ℤ → ℤ) → ((sc : ℕ) (ax : Axis) (z : ℤ) → IsSmall (takes sc ax z)) → (scs : List ℕ) (dx dy : ℤ) → AreSmall (chain_parts takes scs dx dy)
small_parts takes each [] dx dy = tt
small_parts takes each (sc ∷ scs) dx dy =
    small_if (record { scroller = sc; dx = takes sc across dx; dy = takes sc down dy }) (chain_parts takes scs (dx -ℤ takes sc across dx) (dy -ℤ takes sc down dy))
    (is_still (record { scroller = sc; dx = takes sc across dx; dy = takes sc down dy })) (each sc across dx) (each sc down dy) (small_parts takes each scs (dx -ℤ takes sc across dx) (dy -ℤ takes sc down dy))

-- what a send lists
unsent_is : (d u m p : ℤ) → d ≡ (u +ℤ m) +ℤ p → m ≡ pos 0 → d -ℤ p ≡ u
unsent_is d u m p e f = omega (arith, ints, e, f)

unsent_small : (s : ScriptModel) (n : ℕ) (h : List Entry) (a k : ℕ) (ms : List Move) (sc : ℕ) (ax : Axis) → IsPlayable s → Legal s n (entry a (event.Send k ms) ∷ h) → IsSmall (unsent s h sc ax)
unsent_small s n h a k ms sc ax acc l =
    let v : Synced = values s sc ax h in
    let m : Sums s sc ax h = sums s n sc ax h l.0 in
    let r : NearOf v (counted sends h) = near s n sc ax h acc l.0 in
    let t : AtSend s h k ms = at_send s n h a k ms l.1 in
    let few = acc.few_frames in
    let total : suc (counted sends h) ≤ length s.main = sent_few s n (entry a (event.Send k ms) ∷ h) l in
    let idle : v.reflected_main ≡ pos 0 = m.reflected_main ∙ ap (λ o. carried_by s h o sc ax) (none_in_flight h (course s n h l.0) t.main) in
    let parts : v.active_delta ≡ (unsent s h sc ax +ℤ v.reflected_main) +ℤ v.reflected_pending =
    m.active_delta ∙ (m.parts ∙ (λ i. (unsent s h sc ax +ℤ sym m.reflected_main i) +ℤ sym m.reflected_pending i)) in
    let w : Within (2097152 * suc (counted sends h)) (v.active_delta -ℤ v.reflected_pending) =
    rest_within v.active_base v.active_delta v.pending_base v.reflected_pending (counted sends h) (value_place s n h sc ax acc l.0) (base_place s n h sc ax acc l.0) r.near r.waiting in
    small (2097152 * suc (counted sends h)) (unsent s h sc ax) (omega arith) (subst (Within (2097152 * suc (counted sends h))) (unsent_is v.active_delta (unsent s h sc ax) v.reflected_main v.reflected_pending parts idle) w)

-- what an activation lists
clamp_small : (t : ℕ) (new pb r at_then : ℤ) → t < 2 ^ 32 → IsPlace new → IsPlace pb → Within (2097152 * suc t) r → at_then ≡ pb +ℤ r → IsSmall (new -ℤ at_then)
clamp_small t new pb r at_then l a b w e = record {
  above = omega (arith, ints, l, a.low, a.high, b.low, b.high, w.low, w.high, e);
  below = omega (arith, ints, l, a.low, a.high, b.low, b.high, w.low, w.high, e);
}

clamps_small : (s : ScriptModel) (n : ℕ) (h : List Entry) (k sc : ℕ) (ax : Axis) → IsPlayable s → Legal s n h → pending h ≡ Some k → IsSmall (clamp_move s h sc ax)
clamps_small s n h k sc ax acc l waits =
    let v : Synced = values s sc ax h in
    let r : NearOf v (counted sends h) = near s n sc ax h acc l in
    let b : Before s h k sc ax = before s n h k sc ax l waits in
    let few = acc.few_frames in
    let total = sent_few s n h l in
    clamp_small (counted sends h) (pending_offset s h sc ax) v.pending_base (v.active_delta -ℤ v.reflected_pending) (offset_then s h sc ax) (omega arith)
    (place (most (pending_page s h) sc ax) (pending_offset s h sc ax) (page_short s acc (pulls_of h) (up_to (pending h)) sc ax) b.then_fits)
    (base_place s n h sc ax acc l)
    (rest_within v.active_base v.active_delta v.pending_base v.reflected_pending (counted sends h) (value_place s n h sc ax acc l) (base_place s n h sc ax acc l) r.near r.waiting)
    b.then_at

-- what a scroller takes
moved_small : (m : ℕ) (at z : ℤ) → m ≤ 1048576 → IsPlace at → IsSmall (clamp_to m (at +ℤ z) -ℤ at)
unfolding clamp_to
moved_small m at z l p = record { above = omega (arith, ints, clamps, l, p.low, p.high); below = omega (arith, ints, clamps, l, p.low, p.high) }

zero_small : IsSmall (pos 0)
zero_small = record { above = omega (arith, ints); below = omega (arith, ints) }

cond_small : (b : Bool) (z : ℤ) → IsSmall z → IsSmall (cond b z (pos 0))
cond_small true z r = r
cond_small false z r = zero_small

taken_small : (s : ScriptModel) (n : ℕ) (h : List Entry) (sc : ℕ) (ax : Axis) (z : ℤ) → IsPlayable s → Legal s n h → IsSmall (amount_taken (active_page s h) (offset s h) sc ax z)
taken_small s n h sc ax z acc l =
    cond_small (has_scroller (active_page s h) sc) (clamp_to (most (active_page s h) sc ax) (offset s h sc ax +ℤ z) -ℤ offset s h sc ax)
    (moved_small (most (active_page s h) sc ax) (offset s h sc ax) z (page_short s acc (pulls_of h) (up_to (active h)) sc ax) (offset_place s n h sc ax acc l))

scroll_small : (o : Option Input) (dx dy : ℤ) → IsSmall dx → IsSmall dy → AreSmall (scroll_move o dx dy)
scroll_small (Some (input.Scroll sc x y)) dx dy a b = (a, b, tt)
scroll_small _ dx dy a b = tt

-- the pulls and the moves of an entry
abbrev pub ListsSmall : ScriptModel → Event → Type 0
ListsSmall s e = AreSmall (pulls e) × AreSmall (moves s e)

lists_small : (s : ScriptModel) (n : ℕ) (h : List Entry) (a : ℕ) (e : Event) → IsPlayable s → Legal s n (entry a e ∷ h) → ListsSmall s e
lists_small s n h a (event.Send k ms) acc l =
    let t : AtSend s h k ms = at_send s n h a k ms l.1 in
    (subst AreSmall (sym t.pulls) (small_listed (unsent s h) (λ sc ax. unsent_small s n h a k ms sc ax acc l) (scrollers_moved s h)), tt)
lists_small s n h a (event.Activate k ms) acc l =
    let t : AtActivate s h k ms = at_activate s n h a k ms l.1 in
    (tt, subst AreSmall (sym t.clamps) (small_listed (clamp_move s h) (λ sc ax. clamps_small s n h k sc ax acc l.0 t.frame) (scrollers (pending_page s h))))
lists_small s n h a (event.Scroll i dx dy) acc l =
    let t : AtScroll s h i dx dy = at_scroll s n h a i dx dy l.1 in
    (tt, scroll_small (slice_get s.inputs i) dx dy (subst IsSmall (sym t.right) (taken_small s n h t.scroller across t.asked_x acc l.0)) (subst IsSmall (sym t.downwards) (taken_small s n h t.scroller down t.asked_y acc l.0)))
lists_small s n h a (event.Wheel i layer rest_x rest_y ms) acc l =
    let t : AtWheel s h i layer rest_x rest_y ms = at_wheel s n h a i layer rest_x rest_y ms l.1 in (
      tt,
      subst AreSmall (sym t.parts) (small_parts (takes_at (active_page s h) (active_offsets s h))
          (λ sc ax z. subst IsSmall (sym (takes_is (active_page s h) (offset s h) sc ax z)) (taken_small s n h sc ax z acc l.0))
          (chain_at (active_page s h) (target (active_page s h) (active_offsets s h) (pos t.x) (pos t.y))) t.asked_x t.asked_y),
    )
lists_small s n h a _ acc l = (tt, tt)

pub all_small : (s : ScriptModel) (n : ℕ) (h : List Entry) → IsPlayable s → Legal s n h → AtEach (λ g e. AreSmall (pulls e.event) × AreSmall (moves s e.event)) h
all_small s n [] acc l = tt
all_small s n (e ∷ h) acc l = (all_small s n h acc l.0, lists_small s n h e.actor e.event acc l)
