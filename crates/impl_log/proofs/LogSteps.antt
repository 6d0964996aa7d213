-- What a log keeps, once the event that may come is entered.
use Rattle.std.proofs.Common.{◌≡◌, ℕ, suc, ◌+◌, ◌<◌, ◌≤◌, Bool, true, false, cond, not, List, [], ◌∷◌, ◌++◌, length, reverse, Some, None, refl, sym, ◌∙◌, ap, subst, arith}
use Rattle.std.proofs.lemmas.List.{reverse-append}
use Rattle.model_states.specs.declared.kind.Kind.{Kind}
use Rattle.model_states.specs.declared.kind.Kind.TheVariants as kind
use Rattle.model_states.specs.Kinds.{may}
use Rattle.model_history.specs.declared.event.Event.{Event}
use Rattle.model_history.specs.declared.event.Event.TheVariants as event
use Rattle.model_history.specs.declared.history.Entry.{Entry}
use Rattle.model_history.specs.Scripts.{ScriptModel}
use Rattle.model_history.specs.EventFields.{kind_of, actor_of}
use Rattle.model_history.specs.Scans.{has_ended}
use Rattle.model_history.specs.Tiles.{in_flight}
use Rattle.model_history.specs.Accepted.{IsPlayable}
use Rattle.model_history.specs.Due.{due}
use Rattle.model_history.specs.Legal.{sched, is_open, can, Next}
use Rattle.model_history.proofs.BoolFacts.{and_left, and_right, not_true}
use Rattle.model_history.proofs.DueFacts.{entry}
use Rattle.model_history.proofs.DueRows.{MayAsk, due_row}
use Rattle.model_history.proofs.RangeBounds.{sent_few}
use Rattle.model_history.proofs.UsedInputs.{uses_few}
use Rattle.impl_log.specs.declared.progress.Progress.{Progress}
use Rattle.impl_log.specs.declared.milestones.Milestones.{Milestones}
use Rattle.impl_log.specs.Runs.{is_kept, is_plain_kind}
use Rattle.impl_log.specs.Kept.{KeptEntries, before_newest, forgettable, milestones}
use Rattle.impl_log.specs.inner.Steps.{placed, stepped}
use Rattle.impl_log.specs.inner.Logs.{IsLogOf, MayStep}
use Rattle.impl_log.proofs.ShortRuns.{in_flight_few}
use Rattle.impl_log.proofs.ProgressSteps.{progress_step, one_fewer}
use Rattle.impl_log.proofs.Forgetting.{newest_placed, older_placed, still_forgettable}

-- the past with an entry more
pub past_more : (entries new : List Entry) (e : Entry) → new ≡ entries ++ e ∷ [] → reverse new ≡ e ∷ reverse entries
past_more entries new e is = ap (λ (es : List Entry). reverse es) is ∙ reverse-append entries (e ∷ [])

-- an event that may come is open and due
pub record IsNow (s : ScriptModel) (h : List Entry) (k : Kind) (a : ℕ) (e : Event) : Type 0 where
  pub going : has_ended h ≡ false
  pub state : may (sched h) k ≡ true
  pub is_due : due s h k a ≡ Some e

pub now_is : (s : ScriptModel) (h : List Entry) (k : Kind) (a : ℕ) (e : Event) → can s h k a ≡ Some e → IsNow s h k a e
now_is s h k a e d = by_open (is_open h k) refl d
  where
    by_open : (b : Bool) → is_open h k ≡ b → cond b (due s h k a) None ≡ Some e → IsNow s h k a e
    by_open true o d = record {
      going = not_true (has_ended h) (and_left (not (has_ended h)) (may (sched h) k) o);
      state = and_right (not (has_ended h)) (may (sched h) k) o;
      is_due = d;
    }
    by_open false o d = cc

pub next_is : (s : ScriptModel) (n : ℕ) (h : List Entry) (a : ℕ) (e : Event) → can s h (kind_of e) a ≡ Some e → a ≡ actor_of e → a < 2 + n → Next s n h (entry a e)
next_is s n h a e d actor within = let x = now_is s h (kind_of e) a e d in record { going = x.going; state = x.state; is_due = x.is_due; actor = actor; within = within }

-- a log of which more is forgotten, or that has more room
pub still_log : (s : ScriptModel) (n : ℕ) (p : Progress) (places : Milestones) (old new : KeptEntries) → IsLogOf s n (reverse old.entries) p old.spare places old.first
    → new.entries ≡ old.entries → new.first ≤ forgettable (reverse old.entries) → old.spare ≤ new.spare → IsLogOf s n (reverse new.entries) p new.spare places new.first
still_log s n p places old new log same few more =
    subst (λ (es : List Entry). IsLogOf s n (reverse es) p new.spare places new.first) (sym same) (record {
      legal = log.legal;
      few = log.few;
      progress = log.progress;
      room = λ going. let room = log.room going in omega (arith, room, more);
      newest = log.newest;
      older = log.older;
      first = few;
    })

module _ (s : ScriptModel) (n : ℕ) (h : List Entry) (p : Progress) (spare : ℕ) (places : Milestones) (first : ℕ) (acc : IsPlayable s) (log : IsLogOf s n h p spare places first) (a : ℕ) (e : Event) (x : Next s n h (entry a e)) where
  done_held : kind_of e ≡ kind.Done → 1 ≤ length (in_flight h)
  done_held = by_event e x
    where
      by_event : (e : Event) → Next s n h (entry a e) → kind_of e ≡ kind.Done → 1 ≤ length (in_flight h)
      by_event (event.DoneTile w q) x i = let f = one_fewer s n h a w q log.legal x in omega arith
      by_event _ x i = cc

  pub may_step : MayStep p e
  may_step =
      let inputs = acc.few_inputs in
      let used = uses_few s n h log.legal in
      let frames = acc.few_frames in
      let sent = sent_few s n h log.legal in
      let flying = in_flight_few s n h log.legal in
      let few = log.few in
      record {
        state = ap (λ (z : Progress). may z.sched (kind_of e)) log.progress ∙ x.state;
        few_inputs = let i = ap (λ (z : Progress). z.inputs) log.progress in omega arith;
        few_sends = let i = ap (λ (z : Progress). z.sends) log.progress in omega arith;
        few_in_flight = let i = ap (λ (z : Progress). z.in_flight) log.progress in omega arith;
        held = λ k. let i = ap (λ (z : Progress). z.in_flight) log.progress in let l = done_held k in omega arith;
      }

  module _ (new : Progress) (left : ℕ) (next : Milestones) (front : ℕ) (is : new ≡ stepped e p) (there : next ≡ placed (milestones e) (length h) places) (same : front ≡ first) where
    -- where there is room after it
    stands : (has_ended (entry a e ∷ h) ≡ false → suc (length (in_flight (entry a e ∷ h))) ≤ left) → IsLogOf s n (entry a e ∷ h) new left next front
    stands room = record {
      legal = (log.legal, x);
      few = log.few;
      progress = is ∙ ap (stepped e) log.progress ∙ sym (progress_step s n h a e log.legal x);
      room = room;
      newest = ap (λ (q : Milestones). q.newest) there ∙ newest_placed (milestones e) h (before_newest h) (length h) places refl log.newest;
      older = ap (λ (q : Milestones). q.older) there ∙ older_placed (milestones e) h (length h) places log.newest log.older;
      first = subst (λ (m : ℕ). m ≤ forgettable (entry a e ∷ h)) (sym same) (still_forgettable h (entry a e) first log.first);
    }

    -- with room for all workers' tiles
    pub entered : n + 1 ≤ left → IsLogOf s n (entry a e ∷ h) new left next front
    entered room = stands (λ going. let f = in_flight_few s n (entry a e ∷ h) (log.legal, x) in omega arith)

  -- with the room that was kept
  kept_room : is_kept e ≡ true → suc (length (in_flight h)) ≤ spare → (left : ℕ) → left + 1 ≡ spare → has_ended (entry a e ∷ h) ≡ false → suc (length (in_flight (entry a e ∷ h))) ≤ left
  kept_room = by_event e x
    where
      by_event : (e : Event) → Next s n h (entry a e) → is_kept e ≡ true → suc (length (in_flight h)) ≤ spare → (left : ℕ) → left + 1 ≡ spare → has_ended (entry a e ∷ h) ≡ false → suc (length (in_flight (entry a e ∷ h))) ≤ left
      by_event (event.DoneTile w q) x k room left is going = let f = one_fewer s n h a w q log.legal x in omega arith
      by_event (event.Stop b) x k room left is going = cc
      by_event _ x k room left is going = cc

  pub kept : is_kept e ≡ true → (new : Progress) (left : ℕ) (next : Milestones) (front : ℕ) → new ≡ stepped e p → next ≡ placed (milestones e) (length h) places → front ≡ first → left + 1 ≡ spare
      → IsLogOf s n (entry a e ∷ h) new left next front
  kept k new left next front is there same one = stands new left next front is there same (kept_room k (log.room x.going) left one)

-- a plain kind is asked for by the compositor
may_ask : (k : Kind) → is_plain_kind k ≡ true → MayAsk k 0
may_ask kind.BeginDraw p = refl
may_ask kind.BeginPlain p = refl
may_ask kind.Skip p = refl
may_ask kind.NoDraw p = refl
may_ask kind.Finish p = refl
may_ask kind.Await p = refl
may_ask kind.End p = refl
may_ask _ p = cc

-- what may come of a plain kind has this kind, and is the compositor's own
pub plain_row : (s : ScriptModel) (h : List Entry) (k : Kind) (e : Event) → is_plain_kind k ≡ true → can s h k 0 ≡ Some e → (kind_of e ≡ k) × (0 ≡ actor_of e)
plain_row s h k e plain d = let r = due_row s h k 0 e (now_is s h k 0 e d).is_due in (r.kind, r.actor (may_ask k plain))
