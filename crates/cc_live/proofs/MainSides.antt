-- What is kept of the main thread's side of a run that is told as it is played.
use Rattle.std.proofs.Common.{◌≡◌, ◌⊎◌, inl, inr, ℕ, ◌+◌, ◌<◌, Bool, true, false, not, cond, List, [], ◌∷◌, ◌++◌, slice_get, Option, Some, None, Result, Ok, Err, refl, sym, ◌∙◌, ap, subst, arith}
use Rattle.std.specs.Prelude.{IfOk, OnOk, OnErr, ⊤}
use Rattle.std.specs.declared.alloc.AllocError.{AllocError}
use Rattle.std.proofs.lemmas.List.Folds.{list_any-append}
use Rattle.geom.specs.declared.tile.TileKey.{TileKey}
use Rattle.geom.specs.KeyLists.{same_key, has_key}
use Rattle.viz_scene.specs.Views.{SceneView}
use Rattle.model_states.specs.declared.kind.Kind.{Kind}
use Rattle.model_states.specs.declared.kind.Kind.TheVariants as kind
use Rattle.model_states.specs.declared.states.MainState.{MainState}
use Rattle.model_states.specs.declared.states.MainState.TheVariants as main_state
use Rattle.model_states.specs.Kinds.{may, is_sent, is_main_idle, is_inside_begin_frame}
use Rattle.page_layers.specs.declared.moves.Move.{Move}
use Rattle.page_layers.specs.Pages.{Page}
use Rattle.model_history.specs.declared.event.Event.{Event}
use Rattle.model_history.specs.declared.event.Event.TheVariants as event
use Rattle.model_history.specs.declared.history.Entry.{Entry}
use Rattle.model_history.specs.declared.input.Input.{Input}
use Rattle.model_history.specs.declared.input.Input.TheVariants as input
use Rattle.model_history.specs.Scripts.{ScriptModel}
use Rattle.model_history.specs.EventFields.{kind_of, answers}
use Rattle.model_history.specs.Scans.{counted}
use Rattle.model_history.specs.Frames.{pulls_of, active, pending, up_to}
use Rattle.model_history.specs.Tiles.{keys_of, active_tree, pending_tree, live_keys}
use Rattle.model_history.specs.Legal.{Legal, sched}
use Rattle.model_history.specs.Growth.{with_input, with_main_frame}
use Rattle.model_history.proofs.BoolFacts.{and_second, is_other, or_either}
use Rattle.model_history.proofs.Course.{course}
use Rattle.model_history.proofs.AnsweredFrames.{answered_course, active_answered, pending_answered}
use Rattle.model_history.proofs.DueFacts.{entry, at_send}
use Rattle.model_history.proofs.Grown.{page_same}
use Rattle.model_history.proofs.PageFacts.{page_alike}
use Rattle.impl_log.specs.Runs.{Run, past, with_entry, with_script, Entered, Plays}
use Rattle.impl_core.specs.Replies.{Draws, StartsKey}
use Rattle.impl_core.proofs.MayCome.{next_live}
use Rattle.cc_live.specs.Calls.{kind_using}
use Rattle.cc_live.specs.Lives.{OpenModel}
use Rattle.cc_live.specs.inner.Kept.{IsMainPage, IsMainSide, IsSettled}
use Rattle.cc_live.proofs.ToldRuns.{past_with, kind_is, no_commands}

idle_not_sent : (m : MainState) → is_main_idle m ≡ true → is_sent m ≡ false
idle_not_sent main_state.Idle t = refl
idle_not_sent main_state.Sent t = absurd cc
idle_not_sent main_state.ReadyToCommit t = absurd cc

-- where a main frame may be sent none is in flight
pub send_free : (h : List Entry) → may (sched h) kind.Send ≡ true → is_sent (sched h).main_state ≡ false
send_free h m =
    idle_not_sent (sched h).main_state (and_second (is_inside_begin_frame (sched h).impl_state) (is_main_idle (sched h).main_state) (not (sched h).sent_in_frame) m)

-- ---- an event that sends and answers no main frame

abbrev pub keeps_main : Kind → Bool
keeps_main kind.Send = false
keeps_main kind.Ready = false
keeps_main kind.Abort = false
keeps_main _ = true

main_stays : (s : ScriptModel) (h : List Entry) (a : ℕ) (e : Event) (p : Page) → keeps_main (kind_of e) ≡ true → IsMainPage s h p → IsMainPage s (entry a e ∷ h) p
main_stays s h a (event.Send k ms) p q m = absurd cc
main_stays s h a (event.Ready k) p q m = absurd cc
main_stays s h a (event.Abort k) p q m = absurd cc
main_stays s h a _ p q m = m

pub side_after : (r : Run) (a : ℕ) (e : Event) (p : Page) (o : Option OpenModel) → keeps_main (kind_of e) ≡ true → IsMainSide r p o → IsMainSide (with_entry r a e) p o
side_after r a e p o q side = record {
  main = subst (λ (h : List Entry). IsMainPage r.script h p) (sym (past_with r a e)) (main_stays r.script (past r) a e p q side.main);
  open_frame = side.open_frame;
}

pub side_kept : (r new : Run) (k : Kind) (p : Page) (o : Option OpenModel) → keeps_main k ≡ true → Entered r k 0 new → IsMainSide r p o → IsMainSide new p o
side_kept r new k p o q e side =
    subst (λ (z : Run). IsMainSide z p o) (sym e.is_entered) (side_after r 0 e.event p o (ap keeps_main (kind_is r new k e) ∙ q) side)

pub side_same : (r new : Run) (p : Page) (o : Option OpenModel) → new ≡ r → IsMainSide r p o → IsMainSide new p o
side_same r new p o e side = subst (λ (z : Run). IsMainSide z p o) (sym e) side

pub side_played : (r new : Run) (k : Kind) (p : Page) (o : Option OpenModel) (x : Result Bool AllocError) → keeps_main k ≡ true → IfOk x (λ played. Plays r k 0 new played) → OnErr x (new ≡ r) → IsMainSide r p o → IsMainSide new p o
side_played r new k p o (Ok true) q e u side = side_kept r new k p o q e side
side_played r new k p o (Ok false) q e u side = side_same r new p o e.1 side
side_played r new k p o (Err refused) q e u side = side_same r new p o u side

pub side_drawn : (r new : Run) (p : Page) (o : Option OpenModel) (x : Result (Option SceneView) AllocError) → IfOk x (Draws r new) → OnErr x (new ≡ r) → IsMainSide r p o → IsMainSide new p o
side_drawn r new p o (Ok (Some scene)) d u side = side_kept r new kind.Draw p o refl d.entered side
side_drawn r new p o (Ok None) d u side = side_same r new p o d.1 side
side_drawn r new p o (Err refused) d u side = side_same r new p o u side

keeps_using : (x : Input) → keeps_main (kind_using x) ≡ true
keeps_using (input.Scroll sc dx dy) = refl
keeps_using (input.Wheel x y dx dy) = refl
keeps_using input.Draw = refl
keeps_using (input.Await f) = refl
keeps_using input.Settle = refl

pub side_used : (r new : Run) (x : Input) (p : Page) (o : Option OpenModel) → Entered r (kind_using x) 0 new → IsMainSide r p o → IsMainSide new p o
side_used r new x p o e side = side_kept r new (kind_using x) p o (keeps_using x) e side

pub side_done : (r new : Run) (slot : ℕ) (q : TileKey) (p : Page) (o : Option OpenModel) → new ≡ with_entry r (2 + slot) (event.DoneTile slot q) → IsMainSide r p o → IsMainSide new p o
side_done r new slot q p o e side = subst (λ (z : Run). IsMainSide z p o) (sym e) (side_after r (2 + slot) (event.DoneTile slot q) p o refl side)

pub side_started : (r new : Run) (slot : ℕ) (q : TileKey) (p : Page) (o : Option OpenModel) → StartsKey r slot q new → IsMainSide r p o → IsMainSide new p o
side_started r new slot q p o e side = subst (λ (z : Run). IsMainSide z p o) (sym e.is_entered) (side_after r (2 + slot) (event.Start slot q e.evicted) p o refl side)

-- ---- a main frame is sent

main_sent : (s : ScriptModel) (n : ℕ) (h : List Entry) (a k : ℕ) (ms : List Move) (p : Page) → Legal s n (entry a (event.Send k ms) ∷ h) → IsMainPage s h p → IsMainPage s (entry a (event.Send k ms) ∷ h) p
main_sent s n h a k ms p legal m =
    let few = (answered_course s n h legal.0).few in
    let frame = (at_send s n h a k ms legal.1).frame in
    m ∙ page_alike s (pulls_of h) (pulls_of (entry a (event.Send k ms) ∷ h)) (counted answers h)
    (λ j lt. sym (ap (λ b. cond b ms (pulls_of h j)) (is_other k j (λ i. absurd (omega (arith, lt, few, frame, i))))))

sent_of : (s : ScriptModel) (n : ℕ) (h : List Entry) (a : ℕ) (e : Event) (p : Page) → kind_of e ≡ kind.Send → Legal s n (entry a e ∷ h) → IsMainPage s h p → IsMainPage s (entry a e ∷ h) p
sent_of s n h a (event.Send k ms) p q legal m = main_sent s n h a k ms p legal m
sent_of s n h a _ p q legal m = absurd cc

pub side_sent : (r new : Run) (p : Page) (o : Option OpenModel) → Legal new.script new.workers (past new) → Entered r kind.Send 0 new → IsMainSide r p o → IsMainSide new p o
side_sent r new p o legal e side =
    let of_new : Legal r.script r.workers (entry 0 e.event ∷ past r) =
    subst (λ (h : List Entry). Legal r.script r.workers h) (past_with r 0 e.event) (subst (λ (z : Run). Legal z.script z.workers (past z)) e.is_entered legal) in
    subst (λ (z : Run). IsMainSide z p o) (sym e.is_entered) (record {
      main = subst (λ (h : List Entry). IsMainPage r.script h p) (sym (past_with r 0 e.event)) (sent_of r.script r.workers (past r) 0 e.event p (kind_is r new kind.Send e) of_new side.main);
      open_frame = side.open_frame;
    })

-- ---- more is told

pub side_input : (r : Run) (x : Input) (p : Page) (o : Option OpenModel) → IsMainSide r p o → IsMainSide (with_script r (with_input r.script x)) p o
side_input r x p o side =
    let s : ScriptModel = r.script in
    let no : (i : ℕ) → i < 0 → slice_get (s.inputs ++ x ∷ []) i ≡ slice_get s.inputs i = λ i h. absurd (omega (arith, h)) in
    record {
      main = side.main ∙ sym (page_same s s.main (s.inputs ++ x ∷ []) (counted answers (past r)) 0 (λ k h. refl) no (pulls_of (past r)) (counted answers (past r)) (omega arith));
      open_frame = side.open_frame;
    }

side_frame : (r : Run) (p : Page) (o : Option OpenModel) → IsMainSide r p o → IsMainSide (with_script r (with_main_frame r.script)) p o
side_frame r p o side =
    let s : ScriptModel = r.script in
    let no : (i : ℕ) → i < 0 → slice_get s.inputs i ≡ slice_get s.inputs i = λ i h. refl in
    record {
      main = side.main ∙ sym (page_same s (s.main ++ [] ∷ []) s.inputs (counted answers (past r)) 0 (λ k h. no_commands s.main k) no (pulls_of (past r)) (counted answers (past r)) (omega arith));
      open_frame = side.open_frame;
    }

pub side_frame_told : (r new : Run) (p : Page) (o : Option OpenModel) → new ≡ with_script r (with_main_frame r.script) → IsMainSide r p o → IsMainSide new p o
side_frame_told r new p o e side = subst (λ (z : Run). IsMainSide z p o) (sym e) (side_frame r p o side)

-- ---- a key that is live is one of a page whose main frames were answered

pub live_settled : (s : ScriptModel) (n : ℕ) (h : List Entry) (q : TileKey) → Legal s n h → has_key (live_keys s h) q ≡ true → IsSettled s h q
live_settled s n h q legal live =
    go (or_either (has_key (keys_of (active_tree s h)) q) (has_key (keys_of (pending_tree s h)) q) (sym (list_any-append (λ k. same_key k q) (keys_of (active_tree s h)) (keys_of (pending_tree s h))) ∙ live))
  where
    go : (has_key (keys_of (active_tree s h)) q ≡ true) ⊎ (has_key (keys_of (pending_tree s h)) q ≡ true) → IsSettled s h q
    go (inl t) = record { pulls = pulls_of h; frames = up_to (active h); answered = active_answered h (course s n h legal) (answered_course s n h legal); has = t }
    go (inr t) = record { pulls = pulls_of h; frames = up_to (pending h); answered = pending_answered h (course s n h legal) (answered_course s n h legal); has = t }

pub start_settled : (r new : Run) (slot : ℕ) (q : TileKey) → Legal r.script r.workers (past r) → StartsKey r slot q new → IsSettled r.script (past r) q
start_settled r new slot q legal e = live_settled r.script r.workers (past r) q legal (next_live r q e.is_next)
