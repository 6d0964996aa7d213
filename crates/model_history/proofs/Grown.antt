-- What is legal for a script is legal for every script that is read alike, and tells the same of both.
use Rattle.std.proofs.Common.{◌≡◌, ℕ, zero, suc, ◌-◌, ◌<◌, ◌≤◌, ◌+◌, ℤ, pos, ◌+ℤ◌, ◌-ℤ◌, Bool, true, false, cond, not, ◌&&◌, ◌||◌, List, [], ◌∷◌, ◌++◌, length, map, filter, filter_map, slice_get, find, Option, Some, None, is_some, unwrap_or, refl, sym, ◌∙◌, ap, arith}
use Rattle.std.specs.List.{list_any, list_all}
use Rattle.std.specs.Ordering.{int_eq}
use Rattle.std.specs.Option.{option_or}
use Rattle.geom.specs.declared.tile.TileKey.{TileKey}
use Rattle.geom.specs.KeyLists.{has_key}
use Rattle.tile_priority.specs.declared.rank.Rank.{Rank}
use Rattle.tile_priority.specs.declared.rank.Side.{Side}
use Rattle.tile_priority.specs.declared.rank.Side.TheVariants as side
use Rattle.tile_priority.specs.Ranks.{least}
use Rattle.tile_priority.specs.Choice.{evictable_key, evicted}
use Rattle.tile_priority.specs.Choice as choosing
use Rattle.tile_tiling.specs.Stamps.{stamp_of}
use Rattle.page_layers.specs.declared.command.Command.{Command}
use Rattle.page_layers.specs.declared.moves.Move.{Move}
use Rattle.page_layers.specs.Axes.{Axis, across, down, amount_in, listed, named_in, with_numbers}
use Rattle.page_layers.specs.Layers.{PageLayer, has_id}
use Rattle.page_layers.specs.Effects.{page_after_pulls, commanded}
use Rattle.page_layers.specs.Scrollers.{scrollers, most, main_value, offsets_in, amount_taken}
use Rattle.page_layers.specs.Scrolls.{clamp_to}
use Rattle.page_layers.specs.Hits.{target}
use Rattle.page_layers.specs.Wheels.{wheel_parts, wheel_rest}
use Rattle.model_history.specs.declared.event.Event.{Event}
use Rattle.model_history.specs.declared.event.Event.TheVariants as event
use Rattle.model_history.specs.declared.input.Input.{Input}
use Rattle.model_history.specs.declared.input.Input.TheVariants as input
use Rattle.model_history.specs.declared.history.Entry.{Entry}
use Rattle.model_history.specs.Scripts.{ScriptModel}
use Rattle.model_history.specs.EventFields.{sends, answers, commits, retires, uses, moves, scroll_move, kind_of, activates}
use Rattle.model_history.specs.Scans.{was_named, counted, held}
use Rattle.model_history.specs.Frames.{commands_of, page, main_move, changes, is_empty, pulls_of, is_left, active, pending, up_to, active_page, pending_page}
use Rattle.model_history.specs.Stamps.{changed_by, unchanged, frame_changes, commits_to, place_rect, stamp_in}
use Rattle.model_history.specs.Scrolls.{plus_counted, sum_of_moves, not_sent, by_send, in_base, in_delta, main_moves, base_of, delta_of, base, delta, offset, active_then, retired_then, pending_base, offset_then, scrolls_to, clobbers, pending_offset, unsent, scrollers_moved, next_pulls, next_clamps, accepted, active_offsets, pending_offsets}
use Rattle.model_history.specs.Tiles.{Tree, active_tree, pending_tree, keys_of, visible_in, live_keys, made_so_far, in_flight, ready, required, pinned, are_ready, missing_visible}
use Rattle.model_history.specs.Ranking.{rank_on, rank_in, rank, wanted, choice, rank_to_start, evicted_for}
use Rattle.model_history.specs.Due.{on_if, next_input, input_now, asks_draw, due_scroll, due_wheel, due_await, due_settle, due}
use Rattle.model_history.specs.DueParts.{due_ready, due_abort, due_activate, due_start, due_draw}
use Rattle.model_history.specs.Legal.{Next, Legal}
use Rattle.model_history.specs.Growth.{with_main_and_inputs, looks_ahead, has_looked_ahead, ReadsAlike, TellsAlike}
use Rattle.model_history.specs.ScrollLaws.{carried_by, frame_in_flight, AreSums}
use Rattle.model_history.specs.Values.{values}
use Rattle.model_history.proofs.BoolFacts.{below, or_left_false, or_right_false}
use Rattle.model_history.proofs.DueFacts.{entry, at_send, at_ready, at_abort, at_activate, at_scroll, at_wheel, at_draw}
use Rattle.model_history.proofs.Course.{course}
use Rattle.model_history.proofs.AnsweredFrames.{Answered, answered_course, answered_next, active_answered, pending_answered, counted_more}
use Rattle.model_history.proofs.ValueSums.{are_sums}

-- each event of a past accepts the same moves by both scripts
abbrev pub MovesAlike : ScriptModel → ScriptModel → List Entry → Type 0
MovesAlike s t [] = Unit {0}
MovesAlike s t (e ∷ h) = MovesAlike s t h × (moves t e.event ≡ moves s e.event)

-- another script of the same settings: its first m main frames have the same commands, and its first u inputs are the same
module _ (s : ScriptModel) (main : List (List Command)) (inputs : List Input) (m u : ℕ) (same : (k : ℕ) → k < m → commands_of (with_main_and_inputs s main inputs) k ≡ commands_of s k) (used : (i : ℕ) → i < u → slice_get inputs i ≡ slice_get s.inputs i) where
  abbrev t : ScriptModel
  t = with_main_and_inputs s main inputs

  -- ---- pages

  pub page_same : (ps : ℕ → List Move) (n : ℕ) → n ≤ m → page t ps n ≡ page s ps n
  page_same ps zero l = refl
  page_same ps (suc n) l =
      let p : page t ps n ≡ page s ps n = page_same ps n (omega (arith, l)) in
      let c : commands_of t n ≡ commands_of s n = same n (omega (arith, l)) in
      λ i. commanded (c i) (page_after_pulls (ps n) (p i))

  pub frame_changes_same : (ps : ℕ → List Move) (n : ℕ) → n < m → frame_changes t ps n ≡ frame_changes s ps n
  frame_changes_same ps n l =
      let p : page t ps n ≡ page s ps n = page_same ps n (omega (arith, l)) in
      let c : commands_of t n ≡ commands_of s n = same n l in
      λ i. changed_by (page_after_pulls (ps n) (p i)) (c i) unchanged

  pub commits_same : (ps : ℕ → List Move) (n : ℕ) → n ≤ m → commits_to t ps n ≡ commits_to s ps n
  commits_same ps zero l = refl
  commits_same ps (suc n) l =
      let f : frame_changes t ps n ≡ frame_changes s ps n = frame_changes_same ps n (omega (arith, l)) in
      let r : commits_to t ps n ≡ commits_to s ps n = commits_same ps n (omega (arith, l)) in
      λ i. record { frame = n; changed = f i } ∷ r i

  pub stamp_same : (ps : ℕ → List Move) (n : ℕ) → n ≤ m → stamp_in t ps n ≡ stamp_in s ps n
  unfolding stamp_in
  stamp_same ps n l =
      let p : page t ps n ≡ page s ps n = page_same ps n l in
      let c : commits_to t ps n ≡ commits_to s ps n = commits_same ps n l in
      λ i layer place. unwrap_or (stamp_of layer (place_rect (p i) place (find (has_id layer) (p i).layers)) (c i)) 0

  pub main_move_same : (ps : ℕ → List Move) (k sc : ℕ) (ax : Axis) → k < m → main_move t ps k sc ax ≡ main_move s ps k sc ax
  main_move_same ps k sc ax l =
      let p : page t ps (suc k) ≡ page s ps (suc k) = page_same ps (suc k) (omega (arith, l)) in
      let q : page t ps k ≡ page s ps k = page_same ps k (omega (arith, l)) in
      λ i. (main_value (p i) sc ax -ℤ main_value (q i) sc ax) -ℤ amount_in sc ax (ps k)

  pub changes_same : (ps : ℕ → List Move) (k : ℕ) → k < m → changes t ps k ≡ changes s ps k
  changes_same ps k l =
      let p : page t ps (suc k) ≡ page s ps (suc k) = page_same ps (suc k) (omega (arith, l)) in
      let q : page t ps k ≡ page s ps k = page_same ps k (omega (arith, l)) in
      let c : commands_of t k ≡ commands_of s k = same k l in
      λ i. not (is_empty (c i)) || list_any (λ sc. not (
      int_eq ((main_value (p i) sc across -ℤ main_value (q i) sc across) -ℤ amount_in sc across (ps k)) (pos 0)
      && int_eq ((main_value (p i) sc down -ℤ main_value (q i) sc down) -ℤ amount_in sc down (ps k)) (pos 0))) (scrollers (p i) ++ named_in (ps k))

  pub main_moves_same : (ps : ℕ → List Move) (f : ℕ → Bool) (sc : ℕ) (ax : Axis) (n : ℕ) → n ≤ m → main_moves t ps f sc ax n ≡ main_moves s ps f sc ax n
  main_moves_same ps f sc ax zero l = refl
  main_moves_same ps f sc ax (suc n) l =
      let e : main_moves t ps f sc ax n ≡ main_moves s ps f sc ax n = main_moves_same ps f sc ax n (omega (arith, l)) in
      let d : main_move t ps n sc ax ≡ main_move s ps n sc ax = main_move_same ps n sc ax (omega (arith, l)) in
      λ i. e i +ℤ cond (f n) (d i) (pos 0)

  -- ---- moves

  moves_next : (n : ℕ) (h : List Entry) (a : ℕ) (e : Event) → Next s n h (entry a e) → counted uses (entry a e ∷ h) ≤ u → moves t e ≡ moves s e
  moves_next n h a (event.Scroll i dx dy) x l =
      let p : i ≡ next_input h = (at_scroll s n h a i dx dy x).place in
      let r : slice_get inputs i ≡ slice_get s.inputs i = used i (omega (arith, l, p)) in
      λ j. scroll_move (r j) dx dy
  moves_next n h a (event.Activate k clamps) x l = refl
  moves_next n h a _ x l = refl

  pub moves_alike : (n : ℕ) (h : List Entry) → Legal s n h → counted uses h ≤ u → MovesAlike s t h
  moves_alike n [] l c = tt
  moves_alike n (e ∷ h) l c =
      let g = counted_more uses h e.actor e.event in
      (moves_alike n h l.0 (omega (arith, c, g)), moves_next n h e.actor e.event l.1 c)

  pub sums_same : (sc : ℕ) (ax : Axis) (f : Option ℕ → Bool) (o : Option ℕ) (h : List Entry) → MovesAlike s t h → sum_of_moves t sc ax f o h ≡ sum_of_moves s sc ax f o h
  sums_same sc ax f o [] v = refl
  sums_same sc ax f o (e ∷ h) v =
      let r : sum_of_moves t sc ax f (option_or (sends e.event) o) h ≡ sum_of_moves s sc ax f (option_or (sends e.event) o) h = sums_same sc ax f (option_or (sends e.event) o) h v.0 in
      let d : moves t e.event ≡ moves s e.event = v.1 in
      λ i. plus_counted sc ax (d i) (f o) (r i)

  pub moved_same : (h : List Entry) → MovesAlike s t h → scrollers_moved t h ≡ scrollers_moved s h
  moved_same [] v = refl
  moved_same (e ∷ h) v =
      let r : scrollers_moved t h ≡ scrollers_moved s h = moved_same h v.0 in
      let d : moves t e.event ≡ moves s e.event = v.1 in
      λ i. with_numbers (named_in (d i)) (r i)

  -- ---- where the scrollers stand

  clobbers_frame : (o : Option ℕ) → up_to o ≤ m → clobbers t o ≡ clobbers s o
  clobbers_frame None l = refl
  clobbers_frame (Some k) l = let c : commands_of t k ≡ commands_of s k = same k (omega (arith, l)) in λ i sc. list_any (scrolls_to sc) (c i)

  pub base_same : (h : List Entry) (a : Option ℕ) (retired : ℕ → Bool) → up_to a ≤ m → MovesAlike s t h → base_of t h a retired ≡ base_of s h a retired
  base_same h a retired l v = λ i sc ax. main_moves_same (pulls_of h) (was_named commits h) sc ax (up_to a) l i +ℤ sums_same sc ax (in_base retired) None h v i

  pub delta_same : (h : List Entry) (retired : ℕ → Bool) → MovesAlike s t h → delta_of t h retired ≡ delta_of s h retired
  delta_same h retired v = λ i sc ax. sums_same sc ax (in_delta retired) None h v i

  -- the rank of a key in a tree rests on the settings alone
  rank_on_same : (a : Side) (x : Tree) (q : TileKey) (o : Option PageLayer) → rank_on t a x q o ≡ rank_on s a x q o
  rank_on_same a x q None = refl
  rank_on_same a x q (Some l) = refl

  pub rank_in_same : (a : Side) (x : Tree) (q : TileKey) → rank_in t a x q ≡ rank_in s a x q
  unfolding rank_in
  rank_in_same a x q = ap (λ (r : Option Rank). cond (has_key (keys_of x) q) r None) (rank_on_same a x q (find (has_id q.layer) x.page.layers))

  -- ---- a past whose active and pending frames are among the first m, and whose events accept the same moves by both
  module _ (h : List Entry) (on : up_to (active h) ≤ m) (wait : up_to (pending h) ≤ m) (v : MovesAlike s t h) where
    pub active_page_same : active_page t h ≡ active_page s h
    active_page_same = page_same (pulls_of h) (up_to (active h)) on

    pub pending_page_same : pending_page t h ≡ pending_page s h
    pending_page_same = page_same (pulls_of h) (up_to (pending h)) wait

    pub offset_same : offset t h ≡ offset s h
    offset_same = λ i sc ax. base_same h (active h) (was_named retires h) on v i sc ax +ℤ delta_same h (was_named retires h) v i sc ax

    then_few : up_to (active_then h) ≤ m
    then_few = go (pending h) wait
      where
        go : (o : Option ℕ) → up_to o ≤ m → up_to (option_or o (active h)) ≤ m
        go None l = on
        go (Some k) l = l

    pub pending_base_same : pending_base t h ≡ pending_base s h
    pending_base_same = base_same h (active_then h) (retired_then h) then_few v

    pub offset_then_same : offset_then t h ≡ offset_then s h
    offset_then_same = λ i sc ax. pending_base_same i sc ax +ℤ delta_same h (retired_then h) v i sc ax

    pub clobbers_same : clobbers t (pending h) ≡ clobbers s (pending h)
    clobbers_same = clobbers_frame (pending h) wait

    pub pending_offset_same : pending_offset t h ≡ pending_offset s h
    pending_offset_same = λ i sc ax. cond (clobbers_same i sc) (pending_base_same i sc ax) (clamp_to (most (pending_page_same i) sc ax) (offset_then_same i sc ax))

    pub unsent_same : unsent t h ≡ unsent s h
    unsent_same = λ i sc ax. sums_same sc ax not_sent None h v i

    pub next_pulls_same : next_pulls t h ≡ next_pulls s h
    next_pulls_same = λ i. listed (unsent_same i) (moved_same h v i)

    pub next_clamps_same : next_clamps t h ≡ next_clamps s h
    next_clamps_same = λ i. listed (λ sc ax. pending_offset_same i sc ax -ℤ offset_then_same i sc ax) (scrollers (pending_page_same i))

    pub active_offsets_same : active_offsets t h ≡ active_offsets s h
    active_offsets_same = λ i. offsets_in (active_page_same i) (offset_same i)

    pub pending_offsets_same : pending_offsets t h ≡ pending_offsets s h
    pending_offsets_same = λ i. offsets_in (pending_page_same i) (pending_offset_same i)

    pub accepted_same : (sc : ℕ) (ax : Axis) (asked : ℤ) → accepted t h sc ax asked ≡ accepted s h sc ax asked
    accepted_same sc ax asked = λ i. amount_taken (active_page_same i) (offset_same i) sc ax asked

    -- ---- tiles

    pub active_tree_same : active_tree t h ≡ active_tree s h
    active_tree_same = λ i. record { page = active_page_same i; offset = active_offsets_same i; stamp = stamp_same (pulls_of h) (up_to (active h)) on i }

    pub pending_tree_same : pending_tree t h ≡ pending_tree s h
    pending_tree_same = λ i. record { page = pending_page_same i; offset = pending_offsets_same i; stamp = stamp_same (pulls_of h) (up_to (pending h)) wait i }

    pub live_same : live_keys t h ≡ live_keys s h
    live_same = λ i. keys_of (active_tree_same i) ++ keys_of (pending_tree_same i)

    pub ready_same : ready t h ≡ ready s h
    ready_same = λ i. filter (has_key (live_same i)) (made_so_far h)

    pub required_same : required t h ≡ required s h
    required_same = λ i. visible_in (pending_tree_same i)

    pub are_ready_same : are_ready t h (required t h) ≡ are_ready s h (required s h)
    are_ready_same = λ i. list_all (has_key (ready_same i)) (required_same i)

    pub missing_same : missing_visible t h ≡ missing_visible s h
    missing_same = λ i. filter (λ q. not (has_key (ready_same i) q)) (visible_in (active_tree_same i))

    pub rank_same : rank t h ≡ rank s h
    rank_same = λ i q. at q i
      where
        at : (q : TileKey) → rank t h q ≡ rank s h q
        at q =
            (λ i. least (rank_in_same side.Active (active_tree t h) q i) (rank_in_same side.Pending (pending_tree t h) q i))
            ∙ (λ i. least (rank_in s side.Active (active_tree_same i) q) (rank_in s side.Pending (pending_tree_same i) q))

    pub wanted_same : wanted t h ≡ wanted s h
    wanted_same = λ i. filter_map (rank_same i) (filter (λ q. not (has_key (ready_same i) q) && not (has_key (in_flight h) q)) (live_same i))

    pub live_ranks_same : filter_map (rank t h) (live_keys t h) ≡ filter_map (rank s h) (live_keys s h)
    live_ranks_same = λ i. filter_map (rank_same i) (live_same i)

    pub choice_same : pinned t h ≡ pinned s h → choice t h ≡ choice s h
    choice_same pins = λ i. record { wanted = wanted_same i; ready = map (λ q. record { key = q; rank = rank_same i q; pinned = has_key (pins i) q }) (ready_same i); in_flight = length (in_flight h); budget = s.budget }

    pub first_same : pinned t h ≡ pinned s h → rank_to_start t h ≡ rank_to_start s h
    first_same pins = λ i. choosing.first (choice_same pins i)

    evicted_same : (pins : pinned t h ≡ pinned s h) (r : Rank) → evicted_for t h r ≡ evicted_for s h r
    evicted_same pins r = λ i. map evictable_key (evicted (choice_same pins i) r)

    -- ---- what is due

    start_same : pinned t h ≡ pinned s h → (w : ℕ) (o : Option TileKey) (r : Option Rank) → due_start t h w o r ≡ due_start s h w o r
    start_same pins w None (Some r) = ap (λ (ks : List TileKey). Some (event.Start w r.key ks)) (evicted_same pins r)
    start_same pins w None None = refl
    start_same pins w (Some q) r = refl

    settle_same : pinned t h ≡ pinned s h → (i : ℕ) (o : Option Input) → due_settle t h i o ≡ due_settle s h i o
    settle_same pins i (Some input.Settle) = ap (λ (r : Option Rank). on_if (is_empty (in_flight h) && not (is_some r)) (event.Settle i)) (first_same pins)
    settle_same pins i _ = refl

    due_same : (n a : ℕ) (e : Event) → Next s n h (entry a e) → looks_ahead e ≡ false → pinned t h ≡ pinned s h → Legal s n h
        → counted sends (entry a e ∷ h) ≤ length main → counted answers (entry a e ∷ h) ≤ m → counted uses (entry a e ∷ h) ≤ u → due t h (kind_of e) a ≡ Some e
    due_same n a (event.Begin i) x q pins l sent few reads =
        let r : slice_get inputs (next_input h) ≡ slice_get s.inputs (next_input h) = used (next_input h) (omega (arith, reads)) in
        ap (λ (o : Option Input). on_if (asks_draw o) (event.Begin (next_input h))) r ∙ x.is_due
    due_same n a event.BeginPlain x q pins l sent few reads = cc
    due_same n a (event.Send k ms) x q pins l sent few reads =
        let d = at_send s n h a k ms x in
        let left : is_left t h ≡ true = below (counted sends h) (length main) (omega (arith, sent)) in
        let f : counted sends h ≡ k = sym d.frame in
        let p : next_pulls t h ≡ ms = next_pulls_same ∙ sym d.pulls in
        ap (λ (b : Bool). on_if b (event.Send (counted sends h) (next_pulls t h))) left ∙ (λ i. Some (event.Send (f i) (p i)))
    due_same n a (event.Ready k) x q pins l sent few reads =
        let d = at_ready s n h a k x in
        let next : counted answers h ≡ k = answered_next h k (course s n h l) (answered_course s n h l) d.sent d.last in
        let r : changes t (pulls_of h) k ≡ true = changes_same (pulls_of h) k (omega (arith, few, next)) ∙ d.changes in
        ap (due_ready t h) d.last ∙ ap (λ (b : Bool). on_if b (event.Ready k)) r
    due_same n a (event.Abort k) x q pins l sent few reads =
        let d = at_abort s n h a k x in
        let next : counted answers h ≡ k = answered_next h k (course s n h l) (answered_course s n h l) d.sent d.last in
        let r : changes t (pulls_of h) k ≡ false = changes_same (pulls_of h) k (omega (arith, few, next)) ∙ d.unchanged in
        ap (due_abort t h) d.last ∙ ap (λ (b : Bool). on_if (not b) (event.Abort k)) r
    due_same n a (event.Activate k ms) x q pins l sent few reads =
        let d = at_activate s n h a k ms x in
        let r : are_ready t h (required t h) ≡ true = are_ready_same ∙ d.ready in
        let p : next_clamps t h ≡ ms = next_clamps_same ∙ sym d.clamps in
        ap (due_activate t h) d.frame ∙ (ap (λ (b : Bool). on_if b (event.Activate k (next_clamps t h))) r ∙ ap (λ (c : List Move). Some (event.Activate k c)) p)
    due_same n a (event.Scroll i dx dy) x q pins l sent few reads =
        let d = at_scroll s n h a i dx dy x in
        let r : input_now t h ≡ Some (input.Scroll d.scroller d.asked_x d.asked_y) = used (next_input h) (omega (arith, reads)) ∙ d.is_input in
        let o : next_input h ≡ i = sym d.place in
        let p : accepted t h d.scroller across d.asked_x ≡ dx = accepted_same d.scroller across d.asked_x ∙ sym d.right in
        let g : accepted t h d.scroller down d.asked_y ≡ dy = accepted_same d.scroller down d.asked_y ∙ sym d.downwards in
        ap (due_scroll t h (next_input h)) r ∙ (λ j. Some (event.Scroll (o j) (p j) (g j)))
    due_same n a (event.Wheel i layer rest_x rest_y ms) x q pins l sent few reads =
        let d = at_wheel s n h a i layer rest_x rest_y ms x in
        let r : input_now t h ≡ Some (input.Wheel d.x d.y d.asked_x d.asked_y) = used (next_input h) (omega (arith, reads)) ∙ d.is_input in
        let o : next_input h ≡ i = sym d.place in
        let on_layer : target (active_page t h) (active_offsets t h) (pos d.x) (pos d.y) ≡ layer = (λ j. target (active_page_same j) (active_offsets_same j) (pos d.x) (pos d.y)) ∙ sym d.layer_is in
        let p : wheel_rest (active_page t h) (active_offsets t h) (pos d.x) (pos d.y) across d.asked_x ≡ rest_x = (λ j. wheel_rest (active_page_same j) (active_offsets_same j) (pos d.x) (pos d.y) across d.asked_x) ∙ sym d.right in
        let g : wheel_rest (active_page t h) (active_offsets t h) (pos d.x) (pos d.y) down d.asked_y ≡ rest_y = (λ j. wheel_rest (active_page_same j) (active_offsets_same j) (pos d.x) (pos d.y) down d.asked_y) ∙ sym d.downwards in
        let b : wheel_parts (active_page t h) (active_offsets t h) (pos d.x) (pos d.y) d.asked_x d.asked_y ≡ ms = (λ j. wheel_parts (active_page_same j) (active_offsets_same j) (pos d.x) (pos d.y) d.asked_x d.asked_y) ∙ sym d.parts in
        ap (due_wheel t h (next_input h)) r ∙ (λ j. Some (event.Wheel (o j) (on_layer j) (p j) (g j) (b j)))
    due_same n a (event.Start w k evictions) x q pins l sent few reads =
        ap (due_start t h (a - 2) (held (a - 2) h)) (first_same pins) ∙ (start_same pins (a - 2) (held (a - 2) h) (rank_to_start s h) ∙ x.is_due)
    due_same n a (event.Draw i lacks) x q pins l sent few reads =
        let d = at_draw s n h a i lacks x in
        let p : missing_visible t h ≡ lacks = missing_same ∙ sym d.lacking in
        ap (due_draw t h) d.place ∙ (ap (λ (b : Bool). on_if b (event.Draw i (missing_visible t h))) d.is_active ∙ ap (λ (ks : List TileKey). Some (event.Draw i ks)) p)
    due_same n a (event.Await i) x q pins l sent few reads = ap (due_await h (next_input h)) (used (next_input h) (omega (arith, reads))) ∙ x.is_due
    due_same n a (event.Settle i) x q pins l sent few reads =
        ap (due_settle t h (next_input h)) (used (next_input h) (omega (arith, reads))) ∙ (settle_same pins (next_input h) (input_now s h) ∙ x.is_due)
    due_same n a event.End x q pins l sent few reads = cc
    due_same n a _ x q pins l sent few reads = x.is_due

  -- ---- a legal past that has answered at most m main frames and used at most u inputs

  pub pinned_same : (n : ℕ) (h : List Entry) → Legal s n h → counted answers h ≤ m → counted uses h ≤ u → pinned t h ≡ pinned s h
  pinned_same n [] l few c = refl
  pinned_same n (e ∷ h) l few c =
      let g = counted_more answers h e.actor e.event in
      let d = counted_more uses h e.actor e.event in
      let j = answered_course s n h l.0 in
      let a = active_answered h (course s n h l.0) j in
      let w = pending_answered h (course s n h l.0) j in
      let r : required t h ≡ required s h = required_same h (omega (arith, a, g, few)) (omega (arith, w, g, few)) (moves_alike n h l.0 (omega (arith, c, d))) in
      let b : pinned t h ≡ pinned s h = pinned_same n h l.0 (omega (arith, g, few)) (omega (arith, c, d)) in
      λ i. cond (is_some (activates e.event)) (r i) (b i)

  pub legal_same : (n : ℕ) (h : List Entry) → Legal s n h → has_looked_ahead h ≡ false → counted sends h ≤ length main → counted answers h ≤ m → counted uses h ≤ u → Legal t n h
  legal_same n [] l q sent few c = tt
  legal_same n (e ∷ h) l q sent few c =
      let g = counted_more answers h e.actor e.event in
      let d = counted_more uses h e.actor e.event in
      let f = counted_more sends h e.actor e.event in
      let j = answered_course s n h l.0 in
      let a = active_answered h (course s n h l.0) j in
      let w = pending_answered h (course s n h l.0) j in
      let v : MovesAlike s t h = moves_alike n h l.0 (omega (arith, c, d)) in
      let p : pinned t h ≡ pinned s h = pinned_same n h l.0 (omega (arith, g, few)) (omega (arith, c, d)) in (
        legal_same n h l.0 (or_right_false (looks_ahead e.event) (has_looked_ahead h) q) (omega (arith, sent, f)) (omega (arith, g, few)) (omega (arith, c, d)),
        record {
          going = l.1.going;
          state = l.1.state;
          is_due = due_same h (omega (arith, a, g, few)) (omega (arith, w, g, few)) v n e.actor e.event l.1 (or_left_false (looks_ahead e.event) (has_looked_ahead h) q) p l.0 sent few c;
          actor = l.1.actor;
          within = l.1.within;
        },
      )

  -- ---- the five values

  carried_same : (h : List Entry) → MovesAlike s t h → (o : Option ℕ) (sc : ℕ) (ax : Axis) → carried_by t h o sc ax ≡ carried_by s h o sc ax
  carried_same h v None sc ax = refl
  carried_same h v (Some k) sc ax = sums_same sc ax (by_send k) None h v

  pub values_same : (n : ℕ) (h : List Entry) → up_to (active h) ≤ m → up_to (pending h) ≤ m → MovesAlike s t h → Legal s n h → Legal t n h → (sc : ℕ) (ax : Axis) → values t sc ax h ≡ values s sc ax h
  values_same n h on wait v ls lt sc ax =
      let a : AreSums t h sc ax (values t sc ax h) = are_sums t n h sc ax lt in
      let b : AreSums s h sc ax (values s sc ax h) = are_sums s n h sc ax ls in
      let p : base t h ≡ base s h = base_same h (active h) (was_named retires h) on v in
      let d : delta t h ≡ delta s h = delta_same h (was_named retires h) v in
      let w : pending_base t h ≡ pending_base s h = pending_base_same h on wait v in
      let f : (values t sc ax h).active_base ≡ (values s sc ax h).active_base = a.active_base ∙ ((λ i. p i sc ax) ∙ sym b.active_base) in
      let g : (values t sc ax h).active_delta ≡ (values s sc ax h).active_delta = a.active_delta ∙ ((λ i. d i sc ax) ∙ sym b.active_delta) in
      let j : (values t sc ax h).pending_base ≡ (values s sc ax h).pending_base = a.pending_base ∙ ((λ i. w i sc ax) ∙ sym b.pending_base) in
      let k : (values t sc ax h).reflected_main ≡ (values s sc ax h).reflected_main = a.reflected_main ∙ (carried_same h v (frame_in_flight h) sc ax ∙ sym b.reflected_main) in
      let l : (values t sc ax h).reflected_pending ≡ (values s sc ax h).reflected_pending = a.reflected_pending ∙ (carried_same h v (pending h) sc ax ∙ sym b.reflected_pending) in
      λ i. record { active_base = f i; active_delta = g i; pending_base = j i; reflected_main = k i; reflected_pending = l i }

  -- ---- all that a past tells

  pub tells_same : (n : ℕ) (h : List Entry) → Legal s n h → has_looked_ahead h ≡ false → counted sends h ≤ length main → counted answers h ≤ m → counted uses h ≤ u → TellsAlike s t h
  tells_same n h l q sent few c =
      let w : Answered h = answered_course s n h l in
      let a = active_answered h (course s n h l) w in
      let p = pending_answered h (course s n h l) w in
      let on : up_to (active h) ≤ m = omega (arith, a, few) in
      let wait : up_to (pending h) ≤ m = omega (arith, p, few) in
      let v : MovesAlike s t h = moves_alike n h l c in
      let pins : pinned t h ≡ pinned s h = pinned_same n h l few c in
      record {
        pages = λ i b. page_same (pulls_of h) i (omega (arith, b, few));
        frame_changes = λ k b. frame_changes_same (pulls_of h) k (omega (arith, b, few));
        commits = λ i b. commits_same (pulls_of h) i (omega (arith, b, few));
        stamps = λ i b. stamp_same (pulls_of h) i (omega (arith, b, few));
        active_page = active_page_same h on wait v;
        pending_page = pending_page_same h on wait v;
        clobbers = clobbers_same h on wait v;
        values = values_same n h on wait v l (legal_same n h l q sent few c);
        active_offsets = active_offsets_same h on wait v;
        pending_offsets = pending_offsets_same h on wait v;
        live = live_same h on wait v;
        ready = ready_same h on wait v;
        required = required_same h on wait v;
        pinned = pins;
        missing = missing_same h on wait v;
        rank = rank_same h on wait v;
        choice = choice_same h on wait v pins;
        next_pulls = next_pulls_same h on wait v;
        next_clamps = next_clamps_same h on wait v;
      }

-- what was legal stays legal, whatever the rest of the script says
pub legal_alike : (s : ScriptModel) (n : ℕ) (h : List Entry) (main : List (List Command)) (inputs : List Input) → Legal s n h → has_looked_ahead h ≡ false → ReadsAlike s h main inputs → Legal (with_main_and_inputs s main inputs) n h
legal_alike s n h main inputs l q r = legal_same s main inputs (counted answers h) (counted uses h) r.answered r.used n h l q r.sent (omega arith) (omega arith)

-- and it tells what it told
pub tells_alike : (s : ScriptModel) (n : ℕ) (h : List Entry) (main : List (List Command)) (inputs : List Input) → Legal s n h → has_looked_ahead h ≡ false → ReadsAlike s h main inputs → TellsAlike s (with_main_and_inputs s main inputs) h
tells_alike s n h main inputs l q r = tells_same s main inputs (counted answers h) (counted uses h) r.answered r.used n h l q r.sent (omega arith) (omega arith)
