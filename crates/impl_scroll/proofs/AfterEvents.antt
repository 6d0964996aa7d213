-- The values and the pages after each event that changes them.
use Rattle.std.proofs.Common.{◌≡◌, ℕ, suc, pos, ◌&&◌, true, List, [], ◌∷◌, Some, None, refl, sym, ◌∙◌, ap}
use Rattle.std.specs.Prelude.{option_copied}
use Rattle.model_states.specs.declared.kind.Kind.TheVariants as kind
use Rattle.model_states.specs.Kinds.{may, is_inside_begin_frame, is_main_idle}
use Rattle.model_states.specs.declared.Synced.{Synced}
use Rattle.model_states.specs.Table as table
use Rattle.page_properties.specs.OffsetMap.{offset_at}
use Rattle.page_layers.specs.Pages.{Page}
use Rattle.page_layers.specs.declared.moves.Move.{Move}
use Rattle.page_layers.specs.Axes.{Axis, amount_in}
use Rattle.page_layers.specs.Scrollers.{main_value}
use Rattle.model_history.specs.declared.event.Event.{Event}
use Rattle.model_history.specs.declared.event.Event.TheVariants as event
use Rattle.model_history.specs.declared.history.Entry.{Entry}
use Rattle.model_history.specs.Scripts.{ScriptModel}
use Rattle.model_history.specs.EventFields.{moves}
use Rattle.model_history.specs.Frames.{page, pulls_of, active, pending, pending_page, up_to}
use Rattle.model_history.specs.Scrolls.{clobbers}
use Rattle.model_history.specs.ScrollLaws.{frame_in_flight, carried_by}
use Rattle.model_history.specs.Tiles.{Tree}
use Rattle.model_history.specs.Values.{values}
use Rattle.model_history.specs.Legal.{sched, is_open, Legal}
use Rattle.model_history.proofs.BoolFacts.{and_left, and_right, none_where}
use Rattle.model_history.proofs.Course.{course}
use Rattle.model_history.proofs.DueFacts.{entry, AtSend, at_send, AtCommit, at_commit, AtActivate, at_activate}
use Rattle.model_history.proofs.PastFacts.{none_in_flight}
use Rattle.model_history.proofs.ValueSums.{are_sums}
use Rattle.model_steps.specs.Events.{send, abort, commit, activate}
use Rattle.model_steps.proofs.TreesAfter.{send_active, send_pending, commit_is_pending, none_is_pending}
use Rattle.impl_scroll.specs.declared.row.Row.{Row}
use Rattle.impl_scroll.specs.Rows.{row_value, has_number}
use Rattle.impl_scroll.specs.declared.pages.Pages.{Pages}
use Rattle.impl_scroll.specs.Standings.{StandingModel, StandsForPast, page_at, ArePages, uses_scroll}
use Rattle.impl_scroll.specs.inner.Places.{AreValues}

-- a scroll or a wheel

moved_value : (s : ScriptModel) (h : List Entry) (a : ℕ) (e : Event) (sc : ℕ) (ax : Axis) → uses_scroll e ≡ true → table.added (amount_in sc ax (moves s e)) (values s sc ax h) ≡ values s sc ax (entry a e ∷ h)
moved_value s h a (event.Scroll i dx dy) sc ax t = refl
moved_value s h a (event.Wheel i target rest_x rest_y parts) sc ax t = refl
moved_value s h a _ sc ax t = absurd cc

pub moved_values : (s : ScriptModel) (h : List Entry) (e : Entry) (ms : List Move) (rs new : List Row) → uses_scroll e.event ≡ true → moves s e.event ≡ ms → AreValues s h rs
    → ((sc : ℕ) (ax : Axis) → row_value new sc ax ≡ table.added (amount_in sc ax ms) (row_value rs sc ax)) → AreValues s (e ∷ h) new
moved_values s h e ms rs new t m is steps sc ax =
    steps sc ax ∙ ((λ i. table.added (amount_in sc ax (sym m i)) (is sc ax i)) ∙ moved_value s h e.actor e.event sc ax t)

moved_in : (s : ScriptModel) (h : List Entry) (a : ℕ) (e : Event) (pages : Pages) → uses_scroll e ≡ true → ArePages s h pages → ArePages s (entry a e ∷ h) pages
moved_in s h a (event.Scroll i dx dy) pages t are = record { active = are.active; pending = are.pending; outright = are.outright }
moved_in s h a (event.Wheel i target rest_x rest_y parts) pages t are = record { active = are.active; pending = are.pending; outright = are.outright }
moved_in s h a _ pages t are = absurd cc

pub moved_pages : (s : ScriptModel) (h : List Entry) (e : Entry) (pages : Pages) → uses_scroll e.event ≡ true → ArePages s h pages → ArePages s (e ∷ h) pages
moved_pages s h e pages t are = moved_in s h e.actor e.event pages t are

-- a send

idle : (s : ScriptModel) (n : ℕ) (h : List Entry) → Legal s n h → is_main_idle (sched h).main_state ≡ true → frame_in_flight h ≡ None
idle s n h legal free = none_in_flight h (course s n h legal) free

-- none is in flight where a send may come
pub open_idle : (s : ScriptModel) (n : ℕ) (h : List Entry) → Legal s n h → is_open h kind.Send ≡ true → frame_in_flight h ≡ None
open_idle s n h legal opened =
    let begun = is_inside_begin_frame (sched h).impl_state in
    let main = is_main_idle (sched h).main_state in
    idle s n h legal (and_right begun main (and_left (begun && main) _ (and_right _ (may (sched h) kind.Send) opened)))

pub none_told : (s : ScriptModel) (n : ℕ) (h : List Entry) (a k : ℕ) (ms : List Move) (rs : List Row) → Legal s n (send a k ms ∷ h) → AreValues s h rs → (sc : ℕ) (ax : Axis) → (row_value rs sc ax).reflected_main ≡ pos 0
none_told s n h a k ms rs legal is sc ax =
    let t : AtSend s h k ms = at_send s n h a k ms legal.1 in
    ap (λ (v : Synced). v.reflected_main) (is sc ax) ∙ ((are_sums s n h sc ax legal.0).reflected_main ∙ ap (λ o. carried_by s h o sc ax) (idle s n h legal.0 t.main))

pub sent_stands : (s : ScriptModel) (n : ℕ) (h : List Entry) (a k : ℕ) (ms : List Move) (st new : StandingModel) → Legal s n (send a k ms ∷ h) → StandsForPast s h st
    → ((sc : ℕ) (ax : Axis) → row_value new.rows sc ax ≡ table.pulled (row_value st.rows sc ax)) → new.active ≡ st.active → new.pending ≡ st.pending → StandsForPast s (send a k ms ∷ h) new
sent_stands s n h a k ms st new legal is steps e f = record {
  rows = λ sc ax. steps sc ax ∙ ap table.pulled (is.rows sc ax);
  active = λ sc. ap (λ os. offset_at os sc) e ∙ (is.active sc ∙ sym (ap (λ (t : Tree). t.offset sc) (send_active s n h a k ms legal)));
  pending = λ sc. ap (λ os. offset_at os sc) f ∙ (is.pending sc ∙ sym (ap (λ (t : Tree). t.offset sc) (send_pending s n h a k ms legal)));
}

-- an abort

pub aborted_values : (s : ScriptModel) (h : List Entry) (a k : ℕ) (rs new : List Row) → AreValues s h rs → ((sc : ℕ) (ax : Axis) → row_value new sc ax ≡ table.aborted (row_value rs sc ax)) → AreValues s (abort a k ∷ h) new
aborted_values s h a k rs new is steps sc ax = steps sc ax ∙ ap table.aborted (is sc ax)

pub aborted_pages : (s : ScriptModel) (h : List Entry) (a k : ℕ) (pages : Pages) → ArePages s h pages → ArePages s (abort a k ∷ h) pages
aborted_pages s h a k pages are = record { active = are.active; pending = are.pending; outright = are.outright }

-- a commit

pub none_waits : (s : ScriptModel) (n : ℕ) (h : List Entry) (a k : ℕ) (rs : List Row) → Legal s n (commit a k ∷ h) → AreValues s h rs → (sc : ℕ) (ax : Axis) → (row_value rs sc ax).reflected_pending ≡ pos 0
none_waits s n h a k rs legal is sc ax =
    let t : AtCommit h k = at_commit s n h a k legal.1 in
    let none : pending h ≡ None = none_where (pending h) (sym (course s n h legal.0).pending_state ∙ t.none_pending) in
    ap (λ (v : Synced). v.reflected_pending) (is sc ax) ∙ ((are_sums s n h sc ax legal.0).reflected_pending ∙ ap (λ o. carried_by s h o sc ax) none)

pub pushed_values : (s : ScriptModel) (h : List Entry) (a k : ℕ) (p : Page) (rs new : List Row) → p ≡ page s (pulls_of h) (suc k) → AreValues s h rs
    → ((sc : ℕ) (ax : Axis) → row_value new sc ax ≡ table.pushed (main_value p sc ax) (row_value rs sc ax)) → AreValues s (commit a k ∷ h) new
pushed_values s h a k p rs new e is steps sc ax = steps sc ax ∙ (λ i. table.pushed (main_value (e i) sc ax) (is sc ax i))

pub pushed_pages : (s : ScriptModel) (n : ℕ) (h : List Entry) (a k : ℕ) (pages : Pages) (p : Page) → Legal s n (commit a k ∷ h) → option_copied pages.active ≡ page_at s h (active h)
    → option_copied pages.pending ≡ Some p → p ≡ page s (pulls_of h) (suc k) → ((sc : ℕ) → has_number pages.outright.now sc ≡ clobbers s (Some k) sc) → ArePages s (commit a k ∷ h) pages
pushed_pages s n h a k pages p legal act pend e outright =
    let waits : pending (commit a k ∷ h) ≡ Some k = commit_is_pending s n h a k legal in
    record {
      active = act;
      pending = pend ∙ (ap Some e ∙ sym (ap (page_at s h) waits));
      outright = λ sc. outright sc ∙ sym (ap (λ o. clobbers s o sc) waits);
    }

-- an activation

pub activated_values : (s : ScriptModel) (h : List Entry) (a k : ℕ) (ms : List Move) (rs mid new : List Row) → AreValues s h rs
    → ((sc : ℕ) (ax : Axis) → row_value mid sc ax ≡ table.activated (row_value rs sc ax)) → ((sc : ℕ) (ax : Axis) → row_value new sc ax ≡ table.added (amount_in sc ax ms) (row_value mid sc ax))
    → AreValues s (activate a k ms ∷ h) new
activated_values s h a k ms rs mid new is first last sc ax = last sc ax ∙ ap (table.added (amount_in sc ax ms)) (first sc ax ∙ ap table.activated (is sc ax))

pub activated_pages : (s : ScriptModel) (n : ℕ) (h : List Entry) (a k : ℕ) (ms : List Move) (pages : Pages) (p : Page) → Legal s n (activate a k ms ∷ h) → option_copied pages.active ≡ Some p
    → option_copied pages.pending ≡ None → pages.outright.now ≡ [] → p ≡ pending_page s h → ArePages s (activate a k ms ∷ h) pages
activated_pages s n h a k ms pages p legal act pend ids e =
    let none : pending (activate a k ms ∷ h) ≡ None = none_is_pending s n h a k ms legal in
    let t : AtActivate s h k ms = at_activate s n h a k ms legal.1 in
    record {
      active = act ∙ ap Some (e ∙ ap (λ o. page s (pulls_of h) (up_to o)) t.frame);
      pending = pend ∙ sym (ap (page_at s h) none);
      outright = λ sc. ap (λ (ns : List ℕ). has_number ns sc) ids ∙ sym (ap (λ o. clobbers s o sc) none);
    }
