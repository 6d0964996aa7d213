-- What is due at each kind: of an entry that may come, its fields, its further condition and its state.
use Rattle.std.proofs.Common.{◌≡◌, ℕ, ◌-◌, ℤ, pos, Bool, true, false, not, List, Option, Some, None, is_some, refl, sym, ◌∙◌, ap}
use Rattle.geom.specs.declared.tile.TileKey.{TileKey}
use Rattle.tile_priority.specs.declared.rank.Rank.{Rank}
use Rattle.model_states.specs.Kinds.{is_idle, is_inside_begin_frame, is_inside_deadline, is_main_idle, is_sent, is_ready_to_commit, is_for_draw}
use Rattle.page_layers.specs.Hits.{target}
use Rattle.model_history.specs.declared.event.Event.{Event}
use Rattle.model_history.specs.declared.event.Event.TheVariants as event
use Rattle.model_history.specs.declared.input.Input.{Input}
use Rattle.model_history.specs.declared.input.Input.TheVariants as input
use Rattle.page_layers.specs.declared.moves.Move.{Move}
use Rattle.model_history.specs.declared.history.Entry.{Entry}
use Rattle.model_history.specs.Scripts.{ScriptModel}
use Rattle.model_history.specs.EventFields.{sends, begins}
use Rattle.model_history.specs.Scans.{newest, counted, held}
use Rattle.page_layers.specs.Axes.{across, down}
use Rattle.model_history.specs.Frames.{changes, pulls_of, is_left, active, pending, active_page}
use Rattle.model_history.specs.Scrolls.{next_pulls, next_clamps, accepted, active_offsets}
use Rattle.model_history.specs.Tiles.{required, are_ready, missing_visible}
use Rattle.model_history.specs.Ranking.{rank_to_start, evicted_for}
use Rattle.page_layers.specs.Wheels.{wheel_parts, wheel_rest}
use Rattle.model_history.specs.Due.{on_if, next_input, input_now, asks_draw, due_scroll, due_wheel, is_over}
use Rattle.model_history.specs.DueParts.{due_ready, due_abort, due_commit, due_activate, due_start, due_done, due_draw}
use Rattle.model_history.specs.Legal.{sched, Next}
use Rattle.model_history.proofs.BoolFacts.{and_left, and_right, and_first, and_second, and_third, not_true}

-- an entry of this actor and event
abbrev pub entry : ℕ → Event → Entry
entry a e = record { actor = a; event = e }

-- an event that comes where a condition holds

on_if_holds : (b : Bool) (e f : Event) → on_if b e ≡ Some f → b ≡ true
on_if_holds true e f h = refl
on_if_holds false e f h = cc

on_if_event : (b : Bool) (e f : Event) → on_if b e ≡ Some f → e ≡ f
on_if_event true e f h = cc
on_if_event false e f h = cc

-- the beginning of an impl frame

pub record AtBegin (s : ScriptModel) (h : List Entry) (i : ℕ) : Type 0 where
  pub idle : is_idle (sched h).impl_state ≡ true
  pub draw : asks_draw (input_now s h) ≡ true
  pub input : i ≡ next_input h

pub at_begin : (s : ScriptModel) (n : ℕ) (h : List Entry) (a i : ℕ) → Next s n h (entry a (event.Begin i)) → AtBegin s h i
at_begin s n h a i x =
    let d = on_if_event (asks_draw (input_now s h)) (event.Begin (next_input h)) (event.Begin i) x.is_due in
    record {
      idle = x.state;
      draw = on_if_holds (asks_draw (input_now s h)) (event.Begin (next_input h)) (event.Begin i) x.is_due;
      input = cc;
    }

-- the main frame: sent, ready or aborted, committed, activated

pub record AtSend (s : ScriptModel) (h : List Entry) (k : ℕ) (ms : List Move) : Type 0 where
  pub begun : is_inside_begin_frame (sched h).impl_state ≡ true
  pub main : is_main_idle (sched h).main_state ≡ true
  pub once : (sched h).sent_in_frame ≡ false
  pub left : is_left s h ≡ true
  pub frame : k ≡ counted sends h
  pub pulls : ms ≡ next_pulls s h

pub at_send : (s : ScriptModel) (n : ℕ) (h : List Entry) (a k : ℕ) (ms : List Move) → Next s n h (entry a (event.Send k ms)) → AtSend s h k ms
at_send s n h a k ms x =
    let d = on_if_event (is_left s h) (event.Send (counted sends h) (next_pulls s h)) (event.Send k ms) x.is_due in
    let begun = is_inside_begin_frame (sched h).impl_state in
    let main = is_main_idle (sched h).main_state in
    let once = not (sched h).sent_in_frame in
    record {
      begun = and_first begun main once x.state;
      main = and_second begun main once x.state;
      once = not_true (sched h).sent_in_frame (and_third begun main once x.state);
      left = on_if_holds (is_left s h) (event.Send (counted sends h) (next_pulls s h)) (event.Send k ms) x.is_due;
      frame = cc;
      pulls = cc;
    }

pub record AtReady (s : ScriptModel) (h : List Entry) (k : ℕ) : Type 0 where
  pub sent : is_sent (sched h).main_state ≡ true
  pub last : newest sends h ≡ Some k
  pub changes : changes s (pulls_of h) k ≡ true

ready_due : (s : ScriptModel) (h : List Entry) (o : Option ℕ) (k : ℕ) → due_ready s h o ≡ Some (event.Ready k)
    → (o ≡ Some k) × (changes s (pulls_of h) k ≡ true)
ready_due s h None k d = cc
ready_due s h (Some j) k d =
    let e : event.Ready j ≡ event.Ready k = on_if_event (changes s (pulls_of h) j) (event.Ready j) (event.Ready k) d in
    let i : j ≡ k = cc in
    (ap Some i, ap (changes s (pulls_of h)) (sym i) ∙ on_if_holds (changes s (pulls_of h) j) (event.Ready j) (event.Ready k) d)

pub at_ready : (s : ScriptModel) (n : ℕ) (h : List Entry) (a k : ℕ) → Next s n h (entry a (event.Ready k)) → AtReady s h k
at_ready s n h a k x =
    let d = ready_due s h (newest sends h) k x.is_due in
    record { sent = x.state; last = d.0; changes = d.1 }

pub record AtAbort (s : ScriptModel) (h : List Entry) (k : ℕ) : Type 0 where
  pub sent : is_sent (sched h).main_state ≡ true
  pub last : newest sends h ≡ Some k
  pub unchanged : changes s (pulls_of h) k ≡ false

abort_due : (s : ScriptModel) (h : List Entry) (o : Option ℕ) (k : ℕ) → due_abort s h o ≡ Some (event.Abort k)
    → (o ≡ Some k) × (changes s (pulls_of h) k ≡ false)
abort_due s h None k d = cc
abort_due s h (Some j) k d =
    let e : event.Abort j ≡ event.Abort k = on_if_event (not (changes s (pulls_of h) j)) (event.Abort j) (event.Abort k) d in
    let i : j ≡ k = cc in
    (ap Some i, ap (changes s (pulls_of h)) (sym i) ∙ not_true (changes s (pulls_of h) j) (on_if_holds (not (changes s (pulls_of h) j)) (event.Abort j) (event.Abort k) d))

pub at_abort : (s : ScriptModel) (n : ℕ) (h : List Entry) (a k : ℕ) → Next s n h (entry a (event.Abort k)) → AtAbort s h k
at_abort s n h a k x =
    let d = abort_due s h (newest sends h) k x.is_due in
    record { sent = x.state; last = d.0; unchanged = d.1 }

pub record AtCommit (h : List Entry) (k : ℕ) : Type 0 where
  pub open_frame : is_inside_deadline (sched h).impl_state ≡ false
  pub prepared : is_ready_to_commit (sched h).main_state ≡ true
  pub none_pending : (sched h).has_pending ≡ false
  pub last : newest sends h ≡ Some k

commit_due : (o : Option ℕ) (k : ℕ) → due_commit o ≡ Some (event.Commit k) → o ≡ Some k
commit_due None k d = cc
commit_due (Some j) k d = let i : j ≡ k = cc in ap Some i

pub at_commit : (s : ScriptModel) (n : ℕ) (h : List Entry) (a k : ℕ) → Next s n h (entry a (event.Commit k)) → AtCommit h k
at_commit s n h a k x =
    let deadline = not (is_inside_deadline (sched h).impl_state) in
    let main = is_ready_to_commit (sched h).main_state in
    let none = not (sched h).has_pending in
    record {
      open_frame = not_true (is_inside_deadline (sched h).impl_state) (and_first deadline main none x.state);
      prepared = and_second deadline main none x.state;
      none_pending = not_true (sched h).has_pending (and_third deadline main none x.state);
      last = commit_due (newest sends h) k x.is_due;
    }

pub record AtActivate (s : ScriptModel) (h : List Entry) (k : ℕ) (ms : List Move) : Type 0 where
  pub open_frame : is_inside_deadline (sched h).impl_state ≡ false
  pub has_pending : (sched h).has_pending ≡ true
  pub frame : pending h ≡ Some k
  pub clamps : ms ≡ next_clamps s h
  pub ready : are_ready s h (required s h) ≡ true

activate_due : (s : ScriptModel) (h : List Entry) (o : Option ℕ) (k : ℕ) (ms : List Move) → due_activate s h o ≡ Some (event.Activate k ms)
    → (o ≡ Some k) × (ms ≡ next_clamps s h) × (are_ready s h (required s h) ≡ true)
activate_due s h None k ms d = cc
activate_due s h (Some j) k ms d =
    let ready = are_ready s h (required s h) in
    let e : event.Activate j (next_clamps s h) ≡ event.Activate k ms = on_if_event ready (event.Activate j (next_clamps s h)) (event.Activate k ms) d in
    let i : j ≡ k = cc in
    let m : ms ≡ next_clamps s h = cc in
    (ap Some i, m, on_if_holds ready (event.Activate j (next_clamps s h)) (event.Activate k ms) d)

pub at_activate : (s : ScriptModel) (n : ℕ) (h : List Entry) (a k : ℕ) (ms : List Move) → Next s n h (entry a (event.Activate k ms)) → AtActivate s h k ms
at_activate s n h a k ms x =
    let deadline = not (is_inside_deadline (sched h).impl_state) in
    let d = activate_due s h (pending h) k ms x.is_due in
    record {
      open_frame = not_true (is_inside_deadline (sched h).impl_state) (and_left deadline (sched h).has_pending x.state);
      has_pending = and_right deadline (sched h).has_pending x.state;
      frame = d.0;
      clamps = d.1;
      ready = d.2;
    }

-- scrolls and wheels

pub record AtScroll (s : ScriptModel) (h : List Entry) (i : ℕ) (dx dy : ℤ) : Type 0 where
  pub open_frame : is_inside_deadline (sched h).impl_state ≡ false
  pub place : i ≡ next_input h
  pub scroller : ℕ
  pub asked_x : ℤ
  pub asked_y : ℤ
  pub is_input : input_now s h ≡ Some (input.Scroll scroller asked_x asked_y)
  pub right : dx ≡ accepted s h scroller across asked_x
  pub downwards : dy ≡ accepted s h scroller down asked_y

scroll_due : (s : ScriptModel) (h : List Entry) (o : Option Input) (i : ℕ) (dx dy : ℤ) → due_scroll s h (next_input h) o ≡ Some (event.Scroll i dx dy)
    → (i ≡ next_input h) × (sc : ℕ) × (x : ℤ) × (y : ℤ) × (o ≡ Some (input.Scroll sc x y)) × (dx ≡ accepted s h sc across x) × (dy ≡ accepted s h sc down y)
scroll_due s h (Some (input.Scroll sc x y)) i dx dy d =
    let a : i ≡ next_input h = cc in
    let b : dx ≡ accepted s h sc across x = cc in
    let c : dy ≡ accepted s h sc down y = cc in
    (a, sc, x, y, refl, b, c)
scroll_due s h _ i dx dy d = cc

pub at_scroll : (s : ScriptModel) (n : ℕ) (h : List Entry) (a i : ℕ) (dx dy : ℤ) → Next s n h (entry a (event.Scroll i dx dy)) → AtScroll s h i dx dy
at_scroll s n h a i dx dy x =
    let d = scroll_due s h (input_now s h) i dx dy x.is_due in
    record {
      open_frame = not_true (is_inside_deadline (sched h).impl_state) x.state;
      place = d.0;
      scroller = d.1;
      asked_x = d.2;
      asked_y = d.3;
      is_input = d.4;
      right = d.5;
      downwards = d.6;
    }

pub record AtWheel (s : ScriptModel) (h : List Entry) (i layer : ℕ) (rest_x rest_y : ℤ) (ms : List Move) : Type 0 where
  pub open_frame : is_inside_deadline (sched h).impl_state ≡ false
  pub place : i ≡ next_input h
  pub x : ℕ
  pub y : ℕ
  pub asked_x : ℤ
  pub asked_y : ℤ
  pub is_input : input_now s h ≡ Some (input.Wheel x y asked_x asked_y)
  pub layer_is : layer ≡ target (active_page s h) (active_offsets s h) (pos x) (pos y)
  pub right : rest_x ≡ wheel_rest (active_page s h) (active_offsets s h) (pos x) (pos y) across asked_x
  pub downwards : rest_y ≡ wheel_rest (active_page s h) (active_offsets s h) (pos x) (pos y) down asked_y
  pub parts : ms ≡ wheel_parts (active_page s h) (active_offsets s h) (pos x) (pos y) asked_x asked_y

wheel_due : (s : ScriptModel) (h : List Entry) (i layer : ℕ) (rest_x rest_y : ℤ) (ms : List Move) (o : Option Input)
    → input_now s h ≡ o → due_wheel s h (next_input h) o ≡ Some (event.Wheel i layer rest_x rest_y ms)
    → is_inside_deadline (sched h).impl_state ≡ false → AtWheel s h i layer rest_x rest_y ms
wheel_due s h i layer rest_x rest_y ms (Some (input.Wheel x y dx dy)) e d f = record {
  open_frame = f;
  place = cc;
  x = x;
  y = y;
  asked_x = dx;
  asked_y = dy;
  is_input = e;
  layer_is = cc;
  right = cc;
  downwards = cc;
  parts = cc;
}
wheel_due s h i layer rest_x rest_y ms _ e d f = cc

pub at_wheel : (s : ScriptModel) (n : ℕ) (h : List Entry) (a i layer : ℕ) (rest_x rest_y : ℤ) (ms : List Move)
    → Next s n h (entry a (event.Wheel i layer rest_x rest_y ms)) → AtWheel s h i layer rest_x rest_y ms
at_wheel s n h a i layer rest_x rest_y ms x =
    wheel_due s h i layer rest_x rest_y ms (input_now s h) refl x.is_due (not_true (is_inside_deadline (sched h).impl_state) x.state)

-- tiles

pub record AtStart (s : ScriptModel) (h : List Entry) (w : ℕ) (q : TileKey) (evicted : List TileKey) : Type 0 where
  pub idle : held w h ≡ None
  pub rank : Rank
  pub is_first : rank_to_start s h ≡ Some rank
  pub key : q ≡ rank.key
  pub evictions : evicted ≡ evicted_for s h rank

start_due : (s : ScriptModel) (h : List Entry) (v w : ℕ) (q : TileKey) (evicted : List TileKey) (holds : Option TileKey) (o : Option Rank)
    → held v h ≡ holds → rank_to_start s h ≡ o → due_start s h v holds o ≡ Some (event.Start w q evicted) → AtStart s h w q evicted
start_due s h v w q evicted None (Some r) e f d =
    let i : v ≡ w = cc in
    record { idle = ap (λ z. held z h) (sym i) ∙ e; rank = r; is_first = f; key = cc; evictions = cc }
start_due s h v w q evicted _ _ e f d = cc

pub at_start : (s : ScriptModel) (n : ℕ) (h : List Entry) (a w : ℕ) (q : TileKey) (evicted : List TileKey)
    → Next s n h (entry a (event.Start w q evicted)) → AtStart s h w q evicted
at_start s n h a w q evicted x = start_due s h (a - 2) w q evicted (held (a - 2) h) (rank_to_start s h) refl refl x.is_due

done_due : (h : List Entry) (v w : ℕ) (q : TileKey) (holds : Option TileKey)
    → held v h ≡ holds → due_done v holds ≡ Some (event.DoneTile w q) → held w h ≡ Some q
done_due h v w q None e d = cc
done_due h v w q (Some p) e d =
    let i : v ≡ w = cc in
    let j : p ≡ q = cc in
    ap (λ z. held z h) (sym i) ∙ (e ∙ ap Some j)

pub at_done : (s : ScriptModel) (n : ℕ) (h : List Entry) (a w : ℕ) (q : TileKey) → Next s n h (entry a (event.DoneTile w q)) → held w h ≡ Some q
at_done s n h a w q x = done_due h (a - 2) w q (held (a - 2) h) refl x.is_due

-- the end of an impl frame

pub record AtDraw (s : ScriptModel) (h : List Entry) (i : ℕ) (lacks : List TileKey) : Type 0 where
  pub begun : is_inside_begin_frame (sched h).impl_state ≡ true
  pub for_draw : is_for_draw (sched h).begun ≡ true
  pub place : newest begins h ≡ Some i
  pub is_active : is_some (active h) ≡ true
  pub lacking : lacks ≡ missing_visible s h

draw_due : (s : ScriptModel) (h : List Entry) (o : Option ℕ) (i : ℕ) (lacks : List TileKey) → due_draw s h o ≡ Some (event.Draw i lacks)
    → (o ≡ Some i) × (is_some (active h) ≡ true) × (lacks ≡ missing_visible s h)
draw_due s h None i lacks d = cc
draw_due s h (Some j) i lacks d =
    let e : event.Draw j (missing_visible s h) ≡ event.Draw i lacks = on_if_event (is_some (active h)) (event.Draw j (missing_visible s h)) (event.Draw i lacks) d in
    let k : j ≡ i = cc in
    let m : lacks ≡ missing_visible s h = cc in
    (ap Some k, on_if_holds (is_some (active h)) (event.Draw j (missing_visible s h)) (event.Draw i lacks) d, m)

pub at_draw : (s : ScriptModel) (n : ℕ) (h : List Entry) (a i : ℕ) (lacks : List TileKey) → Next s n h (entry a (event.Draw i lacks)) → AtDraw s h i lacks
at_draw s n h a i lacks x =
    let d = draw_due s h (newest begins h) i lacks x.is_due in
    record {
      begun = and_left (is_inside_begin_frame (sched h).impl_state) (is_for_draw (sched h).begun) x.state;
      for_draw = and_right (is_inside_begin_frame (sched h).impl_state) (is_for_draw (sched h).begun) x.state;
      place = d.0;
      is_active = d.1;
      lacking = d.2;
    }

pub record AtEnd (s : ScriptModel) (h : List Entry) : Type 0 where
  pub idle : is_idle (sched h).impl_state ≡ true
  pub main : is_main_idle (sched h).main_state ≡ true
  pub none_pending : (sched h).has_pending ≡ false
  pub over : is_over s h ≡ true

pub at_end : (s : ScriptModel) (n : ℕ) (h : List Entry) (a : ℕ) → Next s n h (entry a event.End) → AtEnd s h
at_end s n h a x =
    let idle = is_idle (sched h).impl_state in
    let main = is_main_idle (sched h).main_state in
    let none = not (sched h).has_pending in
    record {
      idle = and_first idle main none x.state;
      main = and_second idle main none x.state;
      none_pending = not_true (sched h).has_pending (and_third idle main none x.state);
      over = on_if_holds (is_over s h) event.End event.End x.is_due;
    }
