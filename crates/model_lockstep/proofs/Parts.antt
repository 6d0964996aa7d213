-- Facts on the parts of lockstep that code follows.
use Rattle.std.proofs.Common.{ℕ, ◌≡◌, ◌<◌, Bool, true, false, not, ◌||◌, cond, Some, None, List, [], ◌∷◌, ◌++◌, Option, is_some, length, refl, ap, sym, ◌∙◌, subst, arith}
use Rattle.std.specs.Prelude.{reverse}
use Rattle.std.proofs.lemmas.List.{reverse-reverse, reverse-append}
use Rattle.model_states.specs.declared.kind.Kind.{Kind}
use Rattle.model_states.specs.declared.kind.Kind.TheVariants as kind
use Rattle.model_history.specs.declared.event.Event.{Event}
use Rattle.model_history.specs.declared.event.Event.TheVariants as event
use Rattle.model_history.specs.declared.input.Input.{Input}
use Rattle.model_history.specs.declared.input.Input.TheVariants as input
use Rattle.model_history.specs.declared.history.Entry.{Entry}
use Rattle.model_history.specs.Scripts.{ScriptModel}
use Rattle.model_history.specs.Accepted.{IsPlayable}
use Rattle.model_history.specs.EventFields.{sends}
use Rattle.model_history.specs.Scans.{newest, counted}
use Rattle.model_history.specs.Frames.{active, changes, pulls_of, is_left}
use Rattle.model_history.specs.Scrolls.{next_pulls}
use Rattle.model_history.specs.Due.{on_if}
use Rattle.model_history.specs.DueParts.{due_ready, due_abort}
use Rattle.model_history.specs.Legal.{is_open}
use Rattle.model_history.specs.Lockstep.{Enters, Stays, Then, AtMost, waits, may_send, has_first, is_possible, Pair, MainPart, ActivateNow, Round, DrawFrame, InputStep, InputSteps, WholeRun, IsLockstep}
use Rattle.model_history.proofs.BoolFacts.{by_test}
use Rattle.model_history.proofs.DueRows.{MayAsk}
use Rattle.model_history.proofs.LockstepWords.{Good, can_due}
use Rattle.model_history.proofs.LockstepWords as words
use Rattle.model_lockstep.specs.Measures.{tiles_left, rounds_left}
use Rattle.model_lockstep.specs.Walks.{WalkState, CanFollow, Follows, IsOnWay, TurnsOf, BeginsLockstep, entering, main_answer, commit_made, pairs_to_activation, activation_where, no_draw, frame_end, pairs_at_most, pairs_of_draw, all_pairs, input_played, inputs_from, main_part_where, activation_now, draw_or_skip, draw_end, draw_activated, draw_made, rounds_to_await, round_where, settled_rest, last_rounds, run_end}
use Rattle.model_lockstep.proofs.Fronts.{Grows}
use Rattle.model_lockstep.proofs.Fronts as fronts
use Rattle.model_lockstep.proofs.Falls.{if_is, pair_falls, round_falls}
use Rattle.model_lockstep.proofs.Following.{then', can_else, part_there, part_turned, part_left}
use Rattle.model_lockstep.proofs.Wholes.{whole_run}

-- ---- each leads to one past only

pub own_good : (k : Kind) → MayAsk k 0 → (s : ScriptModel) → Good s (Enters s k 0)
own_good k asks s = words.enters s k 0 asks (omega arith)

pub start_good : (s : ScriptModel) → Good s (Enters s kind.Start 2)
start_good s = words.enters s kind.Start 2 (omega arith) (omega arith)

pub ready_good : (s : ScriptModel) → Good s (Enters s kind.Ready 1)
ready_good s = words.enters s kind.Ready 1 refl (omega arith)

pub pairs_good : (s : ScriptModel) → Good s (pairs_to_activation s)
pairs_good s = words.while' s (λ h. not (is_possible s kind.Activate 0 h)) (Pair s) (words.pair s)

pub all_good : (s : ScriptModel) → Good s (all_pairs s)
all_good s = words.while' s (has_first s) (Pair s) (words.pair s)

pub activation_good : (s : ScriptModel) → Good s (activation_where s)
activation_good s = words.where' s waits (ActivateNow s) Stays (words.activate_now s) (words.stays s)

pub main_where_good : (s : ScriptModel) → Good s (main_part_where s)
main_where_good s = words.where' s (may_send s) (MainPart s) Stays (words.main_part s) (words.stays s)

pub most_good : (s : ScriptModel) → Good s (pairs_of_draw s)
most_good s = words.at_most s s.raster_per_frame (has_first s) (Pair s) (words.pair s)

pub now_good : (s : ScriptModel) → Good s (activation_now s)
now_good s = words.where' s (is_possible s kind.Activate 0) (Enters s kind.Activate 0) Stays (own_good kind.Activate refl s) (words.stays s)

pub draw_good : (s : ScriptModel) → Good s (draw_or_skip s)
draw_good s = words.where' s (λ h. is_some (active h)) (Enters s kind.Draw 0) (Enters s kind.Skip 0) (own_good kind.Draw refl s) (own_good kind.Skip refl s)

pub rounds_good : (s : ScriptModel) → Good s (rounds_to_await s)
rounds_good s = words.while' s (λ h. not (is_possible s kind.Await 0 h)) (Round s) (words.round s)

pub round_where_good : (s : ScriptModel) → Good s (round_where s)
round_where_good s = words.where' s waits (Round s) Stays (words.round s) (words.stays s)

pub last_good : (s : ScriptModel) → Good s (last_rounds s)
last_good s = words.while' s (λ h. is_left s h || waits h) (Round s) (words.round s)

-- ---- each only adds entries

pub own_grows : (k : Kind) (a : ℕ) (s : ScriptModel) → Grows (Enters s k a)
own_grows k a s = fronts.enters s k a

pub commit_grows : (s : ScriptModel) → Grows (commit_made s)
commit_grows s = fronts.both (Enters s kind.Ready 1) (Enters s kind.Commit 0) (fronts.enters s kind.Ready 1) (fronts.enters s kind.Commit 0)

pub answer_grows : (s : ScriptModel) → Grows (main_answer s)
answer_grows s = fronts.either (is_possible s kind.Abort 1) (Enters s kind.Abort 1) (commit_made s) (fronts.enters s kind.Abort 1) (commit_grows s)

pub all_grows : (s : ScriptModel) → Grows (all_pairs s)
all_grows s = fronts.loop (has_first s) (Pair s) (fronts.pair s)

pub most_grows : (n : ℕ) (s : ScriptModel) → Grows (pairs_at_most n s)
most_grows n s = fronts.at_most (has_first s) (Pair s) (fronts.pair s) n

pub no_draw_grows : (s : ScriptModel) → Grows (no_draw s)
no_draw_grows s = fronts.both (Enters s kind.NoDraw 0) (Enters s kind.Finish 0) (fronts.enters s kind.NoDraw 0) (fronts.enters s kind.Finish 0)

pub draw_grows : (s : ScriptModel) → Grows (draw_or_skip s)
draw_grows s = fronts.either (λ h. is_some (active h)) (Enters s kind.Draw 0) (Enters s kind.Skip 0) (fronts.enters s kind.Draw 0) (fronts.enters s kind.Skip 0)

pub draw_end_grows : (s : ScriptModel) → Grows (draw_end s)
draw_end_grows s = fronts.both (draw_or_skip s) (Enters s kind.Finish 0) (draw_grows s) (fronts.enters s kind.Finish 0)

pub now_grows : (s : ScriptModel) → Grows (activation_now s)
now_grows s = fronts.either (is_possible s kind.Activate 0) (Enters s kind.Activate 0) Stays (fronts.enters s kind.Activate 0) fronts.stays

pub activated_grows : (s : ScriptModel) → Grows (draw_activated s)
activated_grows s = fronts.both (activation_now s) (draw_end s) (now_grows s) (draw_end_grows s)

pub made_grows : (s : ScriptModel) → Grows (draw_made s)
made_grows s = fronts.both (pairs_at_most s.raster_per_frame s) (draw_activated s) (most_grows s.raster_per_frame s) (activated_grows s)

pub main_where_grows : (s : ScriptModel) → Grows (main_part_where s)
main_where_grows s = fronts.either (may_send s) (MainPart s) Stays (fronts.main_part s) fronts.stays

pub draw_rest_grows : (s : ScriptModel) → Grows (Then (main_part_where s) (draw_made s))
draw_rest_grows s = fronts.both (main_part_where s) (draw_made s) (main_where_grows s) (made_grows s)

pub draw_frame_grows : (s : ScriptModel) → Grows (DrawFrame s)
draw_frame_grows s = fronts.both (Enters s kind.BeginDraw 0) _ (fronts.enters s kind.BeginDraw 0) (draw_rest_grows s)

pub frame_rest_grows : (s : ScriptModel) → Grows (Then (MainPart s) (frame_end s))
frame_rest_grows s = fronts.both (MainPart s) (frame_end s) (fronts.main_part s) (fronts.ending s)

pub rounds_grow : (s : ScriptModel) → Grows (rounds_to_await s)
rounds_grow s = fronts.loop (λ h. not (is_possible s kind.Await 0 h)) (Round s) (fronts.round s)

pub round_where_grows : (s : ScriptModel) → Grows (round_where s)
round_where_grows s = fronts.either waits (Round s) Stays (fronts.round s) fronts.stays

pub settled_grows : (s : ScriptModel) → Grows (settled_rest s)
settled_grows s = fronts.both (all_pairs s) (Enters s kind.Settle 0) (all_grows s) (fronts.enters s kind.Settle 0)

pub last_grow : (s : ScriptModel) → Grows (last_rounds s)
last_grow s = fronts.loop (λ h. is_left s h || waits h) (Round s) (fronts.round s)

pub end_grows : (s : ScriptModel) → Grows (run_end s)
end_grows s = fronts.both (last_rounds s) (Enters s kind.End 0) (last_grow s) (fronts.enters s kind.End 0)

pub input_grows : (i : Input) (s : ScriptModel) → Grows (InputStep s i)
input_grows (input.Scroll sc dx dy) s = fronts.enters s kind.Scroll 0
input_grows (input.Wheel x y dx dy) s = fronts.enters s kind.Wheel 0
input_grows input.Draw s = draw_frame_grows s
input_grows (input.Await f) s = fronts.both (rounds_to_await s) (Enters s kind.Await 0) (rounds_grow s) (fronts.enters s kind.Await 0)
input_grows input.Settle s = fronts.both (round_where s) (settled_rest s) (round_where_grows s) (settled_grows s)

pub inputs_grow : (is : List Input) (s : ScriptModel) → Grows (InputSteps s is)
inputs_grow [] s = fronts.stays
inputs_grow (i ∷ is) s = fronts.both (InputStep s i) (InputSteps s is) (input_grows i s) (inputs_grow is s)

-- ---- what a turn leaves less of

pub fewer_tiles : (r m : WalkState) → Follows Pair r m → tiles_left m.script m.past < tiles_left r.script r.past
fewer_tiles r m f = subst (λ (s : ScriptModel). tiles_left s m.past < tiles_left r.script r.past) (sym f.same) (pair_falls r.script r.past m.past f.way)

pub fewer_rounds : (r m : WalkState) → Follows Round r m → rounds_left m.script m.past < rounds_left r.script r.past
fewer_rounds r m f = subst (λ (s : ScriptModel). rounds_left s m.past < rounds_left r.script r.past) (sym f.same) (round_falls r.script r.past m.past f.way)

-- ---- the main side

-- after a send a frame was sent
pub sent_one : (r m : WalkState) → Follows (entering kind.Send 0) r m → (k : ℕ) × (newest sends m.past ≡ Some k)
sent_one r m f =
    let (e, c, is_m) = f.way in
    let k : ℕ = counted sends r.past in
    let d = if_is (is_left r.script r.past) (event.Send k (next_pulls r.script r.past)) e (can_due r.script r.past kind.Send 0 e c).1 in
    (k, ap (λ (h : List Entry). newest sends h) (is_m ∙ ap (λ (v : Event). record { actor = 0; event = v } ∷ r.past) d.1))

-- it is aborted where it changes nothing, and can be committed where it does
none_aborts : (b : Bool) (o : Option Event) → o ≡ None → is_some (cond b o None) ≡ false
none_aborts true o e = ap is_some e
none_aborts false o e = refl

pub changed_goes_on : (r : WalkState) (k : ℕ) → newest sends r.past ≡ Some k → changes r.script (pulls_of r.past) k ≡ true → is_possible r.script kind.Abort 1 r.past ≡ false
changed_goes_on r k n t =
    none_aborts (is_open r.past kind.Abort) (due_abort r.script r.past (newest sends r.past)) (ap (due_abort r.script r.past) n ∙ ap (λ b. on_if (not b) (event.Abort k)) t)

pub unchanged_aborts : (r : WalkState) (k : ℕ) → CanFollow main_answer r → newest sends r.past ≡ Some k → changes r.script (pulls_of r.past) k ≡ false → is_possible r.script kind.Abort 1 r.past ≡ true
unchanged_aborts r k c n f = by_test (is_possible r.script kind.Abort 1 r.past) (λ t. t) stuck
  where
    stuck : is_possible r.script kind.Abort 1 r.past ≡ false → is_possible r.script kind.Abort 1 r.past ≡ true
    stuck e =
        let (m, (v, d, is_m), rest) = (can_else (λ s. is_possible s kind.Abort 1) (entering kind.Abort 1) commit_made r e c).way in
        let none : due_ready r.script r.past (newest sends r.past) ≡ None = ap (due_ready r.script r.past) n ∙ ap (λ b. on_if b (event.Ready k)) f in
        let some : due_ready r.script r.past (newest sends r.past) ≡ Some v = (can_due r.script r.past kind.Ready 1 v d).1 in
        absurd cc

-- ---- the pairs of a draw

module _ (r m : WalkState) (n : ℕ) where
  pub can_most : n ≡ r.script.raster_per_frame → CanFollow pairs_of_draw r → CanFollow (pairs_at_most n) r
  can_most e c = record { end = c.end; way = subst (λ (k : ℕ). AtMost k (has_first r.script) (Pair r.script) r.past c.end) (sym e) c.way }

  pub follows_most : n ≡ r.script.raster_per_frame → Follows (pairs_at_most n) r m → Follows pairs_of_draw r m
  follows_most e f = record { same = f.same; written = f.written; way = subst (λ (k : ℕ). AtMost k (has_first r.script) (Pair r.script) r.past m.past) e f.way }

  pub on_most : n ≡ r.script.raster_per_frame → IsOnWay (pairs_at_most n) r m → IsOnWay pairs_of_draw r m
  on_most e w = record { same = w.same; written = w.written; end = w.end; way = subst (λ (k : ℕ). AtMost k (has_first r.script) (Pair r.script) r.past w.end) e w.way; newer = w.newer; beginning = w.beginning }

-- ---- inputs

pub input_good : (i : Input) (s : ScriptModel) → Good s (InputStep s i)
input_good i s = words.input_step s i

pub inputs_good : (is : List Input) (s : ScriptModel) → Good s (InputSteps s is)
inputs_good is s = words.input_steps s is

-- inputs of which this one comes first
module _ (all rest after : List Input) (i : Input) (first now : WalkState) where
  abbrev Goes : List Input → WalkState → Type 0
  Goes is r = TurnsOf (inputs_from all) (inputs_from is) first r

  pub can_input : rest ≡ i ∷ after → Goes rest now → CanFollow (input_played i) now
  can_input e x = part_there (inputs_from all) (input_played i) (inputs_from after) first now (subst (λ (is : List Input). Goes is now) e x)

  pub input_turned : (next : WalkState) → rest ≡ i ∷ after → Goes rest now → Follows (input_played i) now next → TurnsOf (inputs_from all) (inputs_from after) first next
  input_turned next e x f = part_turned (inputs_from all) (input_played i) (inputs_from after) first now next (input_good i) (subst (λ (is : List Input). Goes is now) e x) f

  pub input_left : (mid : WalkState) → rest ≡ i ∷ after → Goes rest now → IsOnWay (input_played i) now mid → IsOnWay (inputs_from all) first mid
  input_left mid e x w = part_left (inputs_from all) (input_played i) (inputs_from after) first now mid (input_good i) (inputs_grow after) (subst (λ (is : List Input). Goes is now) e x) w

no_inputs : (is : List Input) → length is ≡ 0 → is ≡ []
no_inputs [] e = refl
no_inputs (i ∷ is) e = absurd (omega (arith, e))

-- where none comes all were played
pub inputs_over : (all rest : List Input) (first now : WalkState) → length rest ≡ 0 → TurnsOf (inputs_from all) (inputs_from rest) first now → Follows (inputs_from all) first now
inputs_over all rest first now e x =
    record { same = x.same; written = x.written; way = x.leads now.past (subst (λ (is : List Input). inputs_from is first.script now.past now.past) (sym (no_inputs rest e)) refl) }

-- ---- the whole run

module _ (r : WalkState) (is : List Input) where
  pub can_play : IsPlayable r.script → r.past ≡ [] → is ≡ r.script.inputs → CanFollow (then' (inputs_from is) run_end) r
  can_play a e i =
      let w = whole_run r.script a in
      record { end = w.0; way = subst (λ (h : List Entry). then' (inputs_from is) run_end r.script h w.0) (sym e) (subst (λ (js : List Input). then' (inputs_from js) run_end r.script [] w.0) (sym i) w.1) }

  plays_whole : (h : List Entry) → r.past ≡ [] → is ≡ r.script.inputs → then' (inputs_from is) run_end r.script r.past h → WholeRun r.script [] h
  plays_whole h e i w = subst (λ (js : List Input). then' (inputs_from js) run_end r.script [] h) i (subst (λ (g : List Entry). then' (inputs_from is) run_end r.script g h) e w)

  pub is_lockstep : (m : WalkState) → r.past ≡ [] → is ≡ r.script.inputs → Follows (then' (inputs_from is) run_end) r m → IsLockstep r.script (reverse m.past)
  is_lockstep m e i f = subst (λ (h : List Entry). WholeRun r.script [] h) (sym (reverse-reverse m.past)) (plays_whole m.past e i f.way)

  pub begins_lockstep : (m : WalkState) → r.past ≡ [] → is ≡ r.script.inputs → IsOnWay (then' (inputs_from is) run_end) r m → BeginsLockstep r.script (reverse m.past)
  begins_lockstep m e i w =
      let whole : List Entry = reverse m.past ++ reverse w.newer in
      let same : w.end ≡ reverse whole = w.beginning ∙ (sym (reverse-reverse (w.newer ++ m.past)) ∙ ap (λ (h : List Entry). reverse h) (reverse-append w.newer m.past)) in
      (reverse w.newer, subst (λ (h : List Entry). WholeRun r.script [] h) same (plays_whole w.end e i w.way))
