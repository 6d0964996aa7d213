-- The events of a legal past of a playable script fit the format.
use Rattle.std.proofs.Common.{◌≡◌, ℕ, ◌<◌, ◌≤◌, ◌==◌, ◌&&◌, Bool, true, false, cond, not, Option, Some, None, is_some, List, [], ◌∷◌, length, refl, ap, sym, subst, arith}
use Rattle.std.specs.Prelude.{ℤ, pos, ◌-ℤ◌, ◌^◌, slice_get}
use Rattle.std.specs.Option.{option_or}
use Rattle.geom.specs.declared.tile.TileKey.{TileKey}
use Rattle.page_properties.specs.Entries.{ids}
use Rattle.page_layers.specs.declared.moves.Move.{Move}
use Rattle.page_layers.specs.Axes.{Axis, across, down, named_in}
use Rattle.page_layers.specs.Hits.{target}
use Rattle.page_layers.specs.Scrollers.{scrollers, amount_taken}
use Rattle.page_layers.specs.Wheels.{chain_at, chain_rest, takes_at}
use Rattle.model_history.specs.declared.event.Event.{Event}
use Rattle.model_history.specs.declared.event.Event.TheVariants as event
use Rattle.model_history.specs.declared.history.Entry.{Entry}
use Rattle.model_history.specs.declared.input.Input.{Input}
use Rattle.model_history.specs.declared.input.Input.TheVariants as input
use Rattle.model_history.specs.Scripts.{ScriptModel}
use Rattle.model_history.specs.Accepted.{IsPlayable}
use Rattle.model_history.specs.Due.{input_now, next_input, asks_draw, due_await, due_settle, is_pending_to, is_settled}
use Rattle.model_history.specs.DueParts.{due_skip}
use Rattle.model_history.specs.EventFields.{sends, begins, pulls, moves, scroll_move}
use Rattle.model_history.specs.FrameLaws.{AtEach}
use Rattle.model_history.specs.Frames.{pulls_of, active, pending, up_to, active_page, pending_page, has_frame_ended}
use Rattle.model_history.specs.Legal.{Next, Legal}
use Rattle.model_history.specs.Ranking.{evicted_for}
use Rattle.model_history.specs.Scans.{newest, counted, held}
use Rattle.model_history.specs.Scrolls.{offset, clamp_move, unsent, scrollers_moved, active_offsets}
use Rattle.model_history.specs.Tiles.{missing_visible}
use Rattle.model_history.proofs.BoolFacts.{is_below}
use Rattle.model_history.proofs.Bounds.{all_small}
use Rattle.model_history.proofs.Course.{course}
use Rattle.model_history.proofs.DueFacts.{entry, at_begin, at_send, at_ready, at_abort, at_commit, at_activate, AtScroll, at_scroll, AtWheel, at_wheel, AtStart, at_start, at_done, at_draw}
use Rattle.model_history.proofs.Offsets.{takes_is}
use Rattle.model_history.proofs.RankFacts.{first_unmade, evicted_may_go}
use Rattle.model_history.proofs.ValueReadings.{offset_in_range}
use Rattle.recording_text.specs.Fits.{FitsEvent, FitsKey, FitKeys}
use Rattle.recording_check.proofs.InputsFit.{input_there, scroll_ranges, wheel_ranges}
use Rattle.recording_check.proofs.KeysFit.{frames, target_low, live_key_fits, ready_key_fits, missing_key_fits, keys_fit}
use Rattle.recording_check.proofs.MovesFit.{AreLow, page_low, low_rising, low_chain_at, low_listed, low_parts, low_numbers, moves_fit, IsAmount, amount_fits, taken_amount, rest_amount}

-- ---- the scrollers that moves name

scroll_low : (s : ScriptModel) → IsPlayable s → (i : ℕ) (o : Option Input) → slice_get s.inputs i ≡ o → (dx dy : ℤ) → AreLow (named_in (scroll_move o dx dy))
scroll_low s playable i (Some (input.Scroll sc x y)) e dx dy = ((scroll_ranges (length s.main) sc x y (input_there s playable i (input.Scroll sc x y) e).1).0, tt)
scroll_low s playable i _ e dx dy = tt

moves_low : (s : ScriptModel) (n : ℕ) (h : List Entry) (a : ℕ) (e : Event) → IsPlayable s → Next s n h (entry a e) → AreLow (named_in (moves s e))
moves_low s n h a (event.Activate k ms) playable x =
    subst (λ (l : List Move). AreLow (named_in l)) (sym (at_activate s n h a k ms x).clamps)
    (low_listed (clamp_move s h) (scrollers (pending_page s h)) (low_rising (ids (pending_page s h).props.scrollers) (page_low s (pulls_of h) (up_to (pending h)) playable)))
moves_low s n h a (event.Scroll i dx dy) playable x = scroll_low s playable i (slice_get s.inputs i) refl dx dy
moves_low s n h a (event.Wheel i layer rest_x rest_y ms) playable x =
    let t : AtWheel s h i layer rest_x rest_y ms = at_wheel s n h a i layer rest_x rest_y ms x in
    let hit : ℕ = target (active_page s h) (active_offsets s h) (pos t.x) (pos t.y) in
    subst (λ (l : List Move). AreLow (named_in l)) (sym t.parts)
    (low_parts (takes_at (active_page s h) (active_offsets s h)) (chain_at (active_page s h) hit) t.asked_x t.asked_y
    (low_chain_at (active_page s h) hit (page_low s (pulls_of h) (up_to (active h)) playable)))
moves_low s n h a _ playable x = tt

moved_low : (s : ScriptModel) (n : ℕ) (h : List Entry) → IsPlayable s → Legal s n h → AreLow (scrollers_moved s h)
moved_low s n [] playable l = tt
moved_low s n (e ∷ h) playable l = low_numbers (named_in (moves s e.event)) (scrollers_moved s h) (moves_low s n h e.actor e.event playable l.1) (moved_low s n h playable l.0)

-- ---- the inputs that events name

draw_there : (s : ScriptModel) (h : List Entry) → IsPlayable s → asks_draw (input_now s h) ≡ true → next_input h < 2 ^ 32
draw_there s h playable t = go (input_now s h) refl t
  where
    go : (o : Option Input) → input_now s h ≡ o → asks_draw o ≡ true → next_input h < 2 ^ 32
    go None e t = absurd cc
    go (Some x) e t = (input_there s playable (next_input h) x e).0

begun_step : (s : ScriptModel) (n : ℕ) (h : List Entry) (a : ℕ) (e : Event) (i : ℕ) → IsPlayable s → Next s n h (entry a e) → (newest begins h ≡ Some i → i < 2 ^ 32) → option_or (begins e) (newest begins h) ≡ Some i → i < 2 ^ 32
begun_step s n h a (event.Begin j) i playable x rest is =
    let d = at_begin s n h a j x in
    let same : j ≡ i = cc in
    let there = draw_there s h playable d.draw in
    omega (arith, same, d.input, there)
begun_step s n h a _ i playable x rest is = rest is

begun_few : (s : ScriptModel) (n : ℕ) (h : List Entry) (i : ℕ) → IsPlayable s → Legal s n h → newest begins h ≡ Some i → i < 2 ^ 32
begun_few s n [] i playable l is = absurd cc
begun_few s n (e ∷ h) i playable l is = begun_step s n h e.actor e.event i playable l.1 (begun_few s n h i playable l.0) is

skip_due : (h : List Entry) (o : Option ℕ) (i : ℕ) → due_skip h o ≡ Some (event.Skip i) → o ≡ Some i
skip_due h None i d = absurd cc
skip_due h (Some j) i d = go (not (is_some (active h))) d
  where
    go : (b : Bool) → cond b (Some (event.Skip j)) None ≡ Some (event.Skip i) → Some j ≡ Some i
    go true d = let same : j ≡ i = cc in ap Some same
    go false d = absurd cc

await_due : (h : List Entry) (j i : ℕ) (o : Option Input) → due_await h j o ≡ Some (event.Await i) → (j ≡ i) × (x : Input) × (o ≡ Some x)
await_due h j i (Some (input.Await f)) d = go (has_frame_ended h f && not (is_pending_to f (pending h))) d
  where
    go : (b : Bool) → cond b (Some (event.Await j)) None ≡ Some (event.Await i) → (j ≡ i) × (x : Input) × (Some (input.Await f) ≡ Some x)
    go true d = let same : j ≡ i = cc in (same, input.Await f, refl)
    go false d = absurd cc
await_due h j i _ d = absurd cc

settle_due : (s : ScriptModel) (h : List Entry) (j i : ℕ) (o : Option Input) → due_settle s h j o ≡ Some (event.Settle i) → (j ≡ i) × (x : Input) × (o ≡ Some x)
settle_due s h j i (Some input.Settle) d = go (is_settled s h) d
  where
    go : (b : Bool) → cond b (Some (event.Settle j)) None ≡ Some (event.Settle i) → (j ≡ i) × (x : Input) × (Some input.Settle ≡ Some x)
    go true d = let same : j ≡ i = cc in (same, input.Settle, refl)
    go false d = absurd cc
settle_due s h j i _ d = absurd cc

named_few : (s : ScriptModel) (h : List Entry) (i : ℕ) → IsPlayable s → (next_input h ≡ i) × (x : Input) × (input_now s h ≡ Some x) → i < 2 ^ 32
named_few s h i playable (same, x, e) = let there = (input_there s playable (next_input h) x e).0 in omega (arith, same, there)

-- ---- the keys that events name

started_fits : (s : ScriptModel) (n : ℕ) (h : List Entry) (a w : ℕ) (q : TileKey) (evicted : List TileKey) → IsPlayable s → Legal s n h → Next s n h (entry a (event.Start w q evicted)) → FitsKey q
started_fits s n h a w q evicted playable l x =
    let t : AtStart s h w q evicted = at_start s n h a w q evicted x in
    subst FitsKey (sym t.key) (live_key_fits s n h playable l t.rank.key (first_unmade s h t.rank t.is_first).live)

held_step : (s : ScriptModel) (n : ℕ) (h : List Entry) (a : ℕ) (e : Event) (w : ℕ) (q : TileKey) → IsPlayable s → Legal s n (entry a e ∷ h) → (held w h ≡ Some q → FitsKey q) → held w (entry a e ∷ h) ≡ Some q → FitsKey q
held_step s n h a (event.Start v k evicted) w q playable l rest is = go (v == w) is
  where
    go : (b : Bool) → cond b (Some k) (held w h) ≡ Some q → FitsKey q
    go true f = let same : k ≡ q = cc in subst FitsKey same (started_fits s n h a v k evicted playable l.0 l.1)
    go false f = rest f
held_step s n h a (event.DoneTile v k) w q playable l rest is = go (v == w) is
  where
    go : (b : Bool) → cond b None (held w h) ≡ Some q → FitsKey q
    go true f = absurd cc
    go false f = rest f
held_step s n h a _ w q playable l rest is = rest is

held_fits : (s : ScriptModel) (n : ℕ) (h : List Entry) (w : ℕ) (q : TileKey) → IsPlayable s → Legal s n h → held w h ≡ Some q → FitsKey q
held_fits s n [] w q playable l is = absurd cc
held_fits s n (e ∷ h) w q playable l is = held_step s n h e.actor e.event w q playable l (held_fits s n h w q playable l.0) is

-- ---- what is taken of a scroll, and what a wheel leaves

taken_fits : (s : ScriptModel) (n : ℕ) (h : List Entry) (sc : ℕ) (ax : Axis) (z : ℤ) → IsPlayable s → Legal s n h → IsAmount z → IsAmount (amount_taken (active_page s h) (offset s h) sc ax z) × IsAmount (z -ℤ amount_taken (active_page s h) (offset s h) sc ax z)
taken_fits s n h sc ax z playable l is = taken_amount (active_page s h) (offset s h) sc ax z (offset_in_range s n h sc ax playable l) is

rest_fits : (s : ScriptModel) (n : ℕ) (h : List Entry) (scs : List ℕ) (ax : Axis) (z : ℤ) → IsPlayable s → Legal s n h → IsAmount z → IsAmount (chain_rest (takes_at (active_page s h) (active_offsets s h)) ax scs z)
rest_fits s n h scs ax z playable l is =
    rest_amount (takes_at (active_page s h) (active_offsets s h)) ax
    (λ sc y one. subst (λ (w : ℤ). IsAmount (y -ℤ w)) (sym (takes_is (active_page s h) (offset s h) sc ax y)) (taken_fits s n h sc ax y playable l one).1) scs z is

-- ---- events

-- a frame that was sent
sent_few : (s : ScriptModel) (n : ℕ) (h : List Entry) (k : ℕ) → IsPlayable s → Legal s n h → k < counted sends h → k < 2 ^ 32
sent_few s n h k playable l sent = let f = frames s n h playable l in omega (arith, sent, f)

last_few : (s : ScriptModel) (n : ℕ) (h : List Entry) (k : ℕ) → IsPlayable s → Legal s n h → newest sends h ≡ Some k → k < 2 ^ 32
last_few s n h k playable l last = let total = (course s n h l).last_is k last in sent_few s n h k playable l (omega (arith, total))

pub event_fits : (s : ScriptModel) (n : ℕ) (h : List Entry) (a : ℕ) (e : Event) → IsPlayable s → n ≤ 65536 → Legal s n (entry a e ∷ h) → FitsEvent e
event_fits s n h a (event.Begin i) playable few (l, x) =
    let d = at_begin s n h a i x in
    let there = draw_there s h playable d.draw in
    omega (arith, d.input, there)
event_fits s n h a event.BeginPlain playable few (l, x) = tt
event_fits s n h a (event.Send k ms) playable few (l, x) =
    let t = at_send s n h a k ms x in
    let below = is_below (counted sends h) (length s.main) t.left in
    let most = playable.few_frames in
    let small = (all_small s n (entry a (event.Send k ms) ∷ h) playable (l, x)).1.0 in (
      omega (arith, t.frame, below, most),
      moves_fit ms small (subst (λ (z : List Move). AreLow (named_in z)) (sym t.pulls) (low_listed (unsent s h) (scrollers_moved s h) (moved_low s n h playable l))),
    )
event_fits s n h a (event.Ready k) playable few (l, x) = last_few s n h k playable l (at_ready s n h a k x).last
event_fits s n h a (event.Abort k) playable few (l, x) = last_few s n h k playable l (at_abort s n h a k x).last
event_fits s n h a (event.Commit k) playable few (l, x) = last_few s n h k playable l (at_commit s n h a k x).last
event_fits s n h a (event.Activate k ms) playable few (l, x) =
    let c = course s n h l in
    let t = at_activate s n h a k ms x in
    let small = (all_small s n (entry a (event.Activate k ms) ∷ h) playable (l, x)).1.1 in
    (sent_few s n h k playable l (c.committed_below k (c.pending_committed k t.frame)), moves_fit ms small (moves_low s n h a (event.Activate k ms) playable x))
event_fits s n h a (event.Scroll i dx dy) playable few (l, x) =
    let t : AtScroll s h i dx dy = at_scroll s n h a i dx dy x in
    let there = input_there s playable (next_input h) (input.Scroll t.scroller t.asked_x t.asked_y) t.is_input in
    let asked = scroll_ranges (length s.main) t.scroller t.asked_x t.asked_y there.1 in
    let right = (taken_fits s n h t.scroller across t.asked_x playable l asked.1).0 in
    let downwards = (taken_fits s n h t.scroller down t.asked_y playable l asked.2).0 in (
      omega (arith, t.place, there.0),
      amount_fits dx (subst IsAmount (sym t.right) right),
      amount_fits dy (subst IsAmount (sym t.downwards) downwards),
    )
event_fits s n h a (event.Wheel i layer rest_x rest_y ms) playable few (l, x) =
    let t : AtWheel s h i layer rest_x rest_y ms = at_wheel s n h a i layer rest_x rest_y ms x in
    let there = input_there s playable (next_input h) (input.Wheel t.x t.y t.asked_x t.asked_y) t.is_input in
    let asked = wheel_ranges (length s.main) t.x t.y t.asked_x t.asked_y there.1 in
    let hit : ℕ = target (active_page s h) (active_offsets s h) (pos t.x) (pos t.y) in
    let low = target_low s (pulls_of h) (up_to (active h)) playable (active_offsets s h) (pos t.x) (pos t.y) in
    let small = (all_small s n (entry a (event.Wheel i layer rest_x rest_y ms) ∷ h) playable (l, x)).1.1 in (
      omega (arith, t.place, there.0),
      omega (arith, t.layer_is, low),
      amount_fits rest_x (subst IsAmount (sym t.right) (rest_fits s n h (chain_at (active_page s h) hit) across t.asked_x playable l asked.0)),
      amount_fits rest_y (subst IsAmount (sym t.downwards) (rest_fits s n h (chain_at (active_page s h) hit) down t.asked_y playable l asked.1)),
      moves_fit ms small (moves_low s n h a (event.Wheel i layer rest_x rest_y ms) playable x),
    )
event_fits s n h a (event.Start w q evicted) playable few (l, x) =
    let t : AtStart s h w q evicted = at_start s n h a w q evicted x in (
      omega (arith, x.actor, x.within, few),
      started_fits s n h a w q evicted playable l x,
      subst FitKeys (sym t.evictions) (keys_fit (evicted_for s h t.rank) (λ k there. ready_key_fits s n h playable l k (evicted_may_go s h t.rank k there).is_ready)),
    )
event_fits s n h a (event.DoneTile w q) playable few (l, x) =
    (omega (arith, x.actor, x.within, few), held_fits s n h w q playable l (at_done s n h a w q x))
event_fits s n h a (event.Draw i lacks) playable few (l, x) =
    let t = at_draw s n h a i lacks x in
    let place = begun_few s n h i playable l t.place in
    (omega (arith, place), subst FitKeys (sym t.lacking) (keys_fit (missing_visible s h) (missing_key_fits s n h playable l)))
event_fits s n h a (event.Skip i) playable few (l, x) = let place = begun_few s n h i playable l (skip_due h (newest begins h) i x.is_due) in omega (arith, place)
event_fits s n h a event.NoDraw playable few (l, x) = tt
event_fits s n h a event.Finish playable few (l, x) = tt
event_fits s n h a (event.Await i) playable few (l, x) = named_few s h i playable (await_due h (next_input h) i (input_now s h) x.is_due)
event_fits s n h a (event.Settle i) playable few (l, x) = named_few s h i playable (settle_due s h (next_input h) i (input_now s h) x.is_due)
event_fits s n h a event.End playable few (l, x) = tt
event_fits s n h a (event.Stop b) playable few (l, x) = omega (arith, x.actor, x.within, few)

pub all_fit : (s : ScriptModel) (n : ℕ) (h : List Entry) → IsPlayable s → n ≤ 65536 → Legal s n h → AtEach (λ g e. FitsEvent e.event) h
all_fit s n [] playable few l = tt
all_fit s n (e ∷ h) playable few l = (all_fit s n h playable few l.0, event_fits s n h e.actor e.event playable few l)
