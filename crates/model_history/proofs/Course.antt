-- The course of frames: each is sent, ends by a commit or an abort, and a commit is pending and then active.
use Rattle.std.proofs.Common.{◌≡◌, ◌⊎◌, inl, inr, ℕ, suc, ◌<◌, ◌≤◌, ◌==◌, nat_lt, Bool, true, false, cond, ◌||◌, List, [], ◌∷◌, Option, Some, None, is_some, refl, sym, ◌∙◌, ap, subst, arith}
use Rattle.model_states.specs.declared.states.MainState.{MainState}
use Rattle.model_states.specs.declared.states.MainState.TheVariants as main
use Rattle.model_states.specs.Kinds.{is_main_idle, is_sent, is_ready_to_commit}
use Rattle.model_history.specs.declared.event.Event.{Event}
use Rattle.model_history.specs.declared.event.Event.TheVariants as event
use Rattle.model_history.specs.declared.history.Entry.{Entry}
use Rattle.model_history.specs.Scripts.{ScriptModel}
use Rattle.model_history.specs.EventFields.{sends, commits, aborts, activates}
use Rattle.model_history.specs.Scans.{was_named, newest, counted}
use Rattle.model_history.specs.Frames.{active, pending, unless_activated, up_to, has_frame_ended}
use Rattle.model_history.specs.Legal.{sched, Next, Legal}
use Rattle.model_history.proofs.BoolFacts.{not_both, is_false, by_test, is_below, below, or_either, or_left, or_right, or_neither, same_number, other_number, is_same, is_other, none_where}
use Rattle.model_history.proofs.DueFacts.{entry, at_send, at_ready, at_abort, at_commit, at_activate}

-- No main frame is in flight where `free`; a commit is pending where `waits`. `total` frames were sent, the last of them `last`; `wait` is the pending commit and `on` the active one.
pub record CourseOf (free waits : Bool) (total : ℕ) (last wait on : Option ℕ) (sent committed aborted activated : ℕ → Bool) : Type 0 where
  -- the frames that were sent are the first ones
  pub sent_below : (k : ℕ) → sent k ≡ true → k < total
  pub below_sent : (k : ℕ) → k < total → sent k ≡ true
  pub last_is : (k : ℕ) → last ≡ Some k → total ≡ suc k
  -- only they end, in one way
  pub committed_below : (k : ℕ) → committed k ≡ true → k < total
  pub aborted_below : (k : ℕ) → aborted k ≡ true → k < total
  pub one_end : (k : ℕ) → committed k ≡ true → aborted k ≡ false
  -- only commits are activated; of these the last is active, and a commit that is not activated is pending
  pub activated_committed : (k : ℕ) → activated k ≡ true → committed k ≡ true
  pub activated_or_pending : (k : ℕ) → committed k ≡ true → (activated k ≡ true) ⊎ (wait ≡ Some k)
  pub activated_to : (k : ℕ) → activated k ≡ true → k < up_to on
  pub active_activated : (k : ℕ) → on ≡ Some k → activated k ≡ true
  -- the pending commit is later than the active one
  pub pending_state : waits ≡ is_some wait
  pub pending_committed : (k : ℕ) → wait ≡ Some k → committed k ≡ true
  pub pending_not_activated : (k : ℕ) → wait ≡ Some k → activated k ≡ false
  pub pending_from : (k : ℕ) → wait ≡ Some k → up_to on ≤ k
  -- all have ended but the one in flight, which is the last
  pub ended_or_last : (k : ℕ) → k < total → (committed k || aborted k ≡ true) ⊎ ((free ≡ false) × (last ≡ Some k))
  pub in_flight : free ≡ false → (k : ℕ) × (last ≡ Some k) × (committed k ≡ false) × (aborted k ≡ false)

-- the course of frames in a past
abbrev pub Course : List Entry → Type 0
Course h = CourseOf (is_main_idle (sched h).main_state) (sched h).has_pending (counted sends h) (newest sends h) (pending h) (active h)
    (was_named sends h) (was_named commits h) (was_named aborts h) (was_named activates h)

pub sent_not_idle : (m : MainState) → is_sent m ≡ true → is_main_idle m ≡ false
sent_not_idle main.Idle h = cc
sent_not_idle main.Sent h = refl
sent_not_idle main.ReadyToCommit h = cc

pub ready_not_idle : (m : MainState) → is_ready_to_commit m ≡ true → is_main_idle m ≡ false
ready_not_idle main.Idle h = cc
ready_not_idle main.Sent h = cc
ready_not_idle main.ReadyToCommit h = refl

-- a number that names one of two
named_or : (k j : ℕ) (b : Bool) → (k == j) || b ≡ true → (k ≡ j) ⊎ (b ≡ true)
named_or k j b h = by_or (or_either (k == j) b h)
  where
    by_or : ((k == j) ≡ true) ⊎ (b ≡ true) → (k ≡ j) ⊎ (b ≡ true)
    by_or (inl e) = inl (same_number k j e)
    by_or (inr t) = inr t

to_name : (k j : ℕ) (b : Bool) → k ≡ j → (k == j) || b ≡ true
to_name k j b e = or_left (k == j) b (is_same k j e)

module _ {free waits : Bool} {total : ℕ} {last wait on : Option ℕ} {sent committed aborted activated : ℕ → Bool} where
  -- the frame in flight is the last, and has not ended
  pub flying : CourseOf free waits total last wait on sent committed aborted activated → free ≡ false → (k : ℕ) → last ≡ Some k
      → (total ≡ suc k) × (committed k ≡ false) × (aborted k ≡ false)
  flying c f k e =
      let x = c.in_flight f in
      let i : x.0 ≡ k = cc in
      (c.last_is k e, ap committed (sym i) ∙ x.2, ap aborted (sym i) ∙ x.3)

  send_step : CourseOf free waits total last wait on sent committed aborted activated → (k : ℕ) → free ≡ true → k ≡ total
      → CourseOf false waits (suc total) (Some k) wait on (λ j. (k == j) || sent j) committed aborted activated
  send_step c k f e = record {
    sent_below = λ j t. sent_is j (named_or k j (sent j) t);
    below_sent = λ j l. by_test (k == j) (λ t. or_left (k == j) (sent j) t) (λ t. or_right (k == j) (sent j) (c.below_sent j (lower j l (other_number k j t))));
    last_is = λ j i. let i' : k ≡ j = cc in omega arith;
    committed_below = λ j t. let l = c.committed_below j t in omega arith;
    aborted_below = λ j t. let l = c.aborted_below j t in omega arith;
    one_end = c.one_end;
    activated_committed = c.activated_committed;
    activated_or_pending = c.activated_or_pending;
    activated_to = c.activated_to;
    active_activated = c.active_activated;
    pending_state = c.pending_state;
    pending_committed = c.pending_committed;
    pending_not_activated = c.pending_not_activated;
    pending_from = c.pending_from;
    ended_or_last = λ j l. by_test (k == j) (λ t. inr (refl, ap Some (same_number k j t))) (λ t. inl (ended j (c.ended_or_last j (lower j l (other_number k j t)))));
    in_flight = λ _. (k, refl, is_false (committed k) (λ t. let l = c.committed_below k t in absurd (omega arith)), is_false (aborted k) (λ t. let l = c.aborted_below k t in absurd (omega arith)));
  }
    where
      lower : (j : ℕ) → j < suc total → (k ≡ j → ⊥) → j < total
      lower j l n = omega arith

      sent_is : (j : ℕ) → (k ≡ j) ⊎ (sent j ≡ true) → j < suc total
      sent_is j (inl i) = omega arith
      sent_is j (inr t) = let l = c.sent_below j t in omega arith

      ended : (j : ℕ) → (committed j || aborted j ≡ true) ⊎ ((free ≡ false) × (last ≡ Some j)) → committed j || aborted j ≡ true
      ended j (inl t) = t
      ended j (inr x) = absurd (not_both free f x.0)

  ready_step : CourseOf free waits total last wait on sent committed aborted activated → free ≡ false
      → CourseOf false waits total last wait on sent committed aborted activated
  ready_step c f = subst (λ (b : Bool). CourseOf b waits total last wait on sent committed aborted activated) f c

  abort_step : CourseOf free waits total last wait on sent committed aborted activated → (k : ℕ) → free ≡ false → last ≡ Some k
      → CourseOf true waits total last wait on sent committed (λ j. (k == j) || aborted j) activated
  abort_step c k f e = record {
    sent_below = c.sent_below;
    below_sent = c.below_sent;
    last_is = c.last_is;
    committed_below = c.committed_below;
    aborted_below = λ j t. aborted_is j (named_or k j (aborted j) t);
    one_end = λ j t. or_neither (k == j) (aborted j) (is_other k j (λ i. not_both (committed j) t (ap committed (sym i) ∙ fly.1))) (c.one_end j t);
    activated_committed = c.activated_committed;
    activated_or_pending = c.activated_or_pending;
    activated_to = c.activated_to;
    active_activated = c.active_activated;
    pending_state = c.pending_state;
    pending_committed = c.pending_committed;
    pending_not_activated = c.pending_not_activated;
    pending_from = c.pending_from;
    ended_or_last = λ j l. inl (ended j (c.ended_or_last j l));
    in_flight = λ t. cc;
  }
    where
      fly : (total ≡ suc k) × (committed k ≡ false) × (aborted k ≡ false)
      fly = flying c f k e

      aborted_is : (j : ℕ) → (k ≡ j) ⊎ (aborted j ≡ true) → j < total
      aborted_is j (inl i) = let t = fly.0 in omega arith
      aborted_is j (inr t) = c.aborted_below j t

      ended : (j : ℕ) → (committed j || aborted j ≡ true) ⊎ ((free ≡ false) × (last ≡ Some j)) → committed j || ((k == j) || aborted j) ≡ true
      ended j (inl t) = weaker (or_either (committed j) (aborted j) t)
        where
          weaker : (committed j ≡ true) ⊎ (aborted j ≡ true) → committed j || ((k == j) || aborted j) ≡ true
          weaker (inl a) = or_left (committed j) ((k == j) || aborted j) a
          weaker (inr b) = or_right (committed j) ((k == j) || aborted j) (or_right (k == j) (aborted j) b)
      ended j (inr x) = let l = x.1 in let i : k ≡ j = cc in or_right (committed j) ((k == j) || aborted j) (to_name k j (aborted j) i)

  commit_step : CourseOf free waits total last wait on sent committed aborted activated → (k : ℕ) → free ≡ false → last ≡ Some k → waits ≡ false
      → (wait' : Option ℕ) → wait' ≡ cond (activated k) None (Some k)
      → CourseOf true true total last wait' on sent (λ j. (k == j) || committed j) aborted activated
  commit_step c k f e w wait' p = record {
    sent_below = c.sent_below;
    below_sent = c.below_sent;
    last_is = c.last_is;
    committed_below = λ j t. committed_is j (named_or k j (committed j) t);
    aborted_below = c.aborted_below;
    one_end = λ j t. ends j (named_or k j (committed j) t);
    activated_committed = λ j t. or_right (k == j) (committed j) (c.activated_committed j t);
    activated_or_pending = λ j t. on_or_pending j (named_or k j (committed j) t);
    activated_to = c.activated_to;
    active_activated = c.active_activated;
    pending_state = sym (ap is_some pend);
    pending_committed = λ j i. to_name k j (committed j) (is_k j i);
    pending_not_activated = λ j i. ap activated (sym (is_k j i)) ∙ not_yet;
    pending_from = λ j i. let l = from on refl in let i' = is_k j i in omega arith;
    ended_or_last = λ j l. inl (ended j (c.ended_or_last j l));
    in_flight = λ t. cc;
  }
    where
      fly : (total ≡ suc k) × (committed k ≡ false) × (aborted k ≡ false)
      fly = flying c f k e

      not_yet : activated k ≡ false
      not_yet = is_false (activated k) (λ t. not_both (committed k) (c.activated_committed k t) fly.1)

      pend : wait' ≡ Some k
      pend = p ∙ ap (λ b. cond b None (Some k)) not_yet

      is_k : (j : ℕ) → wait' ≡ Some j → k ≡ j
      is_k j i = let q = pend in cc

      committed_is : (j : ℕ) → (k ≡ j) ⊎ (committed j ≡ true) → j < total
      committed_is j (inl i) = let t = fly.0 in omega arith
      committed_is j (inr t) = c.committed_below j t

      ends : (j : ℕ) → (k ≡ j) ⊎ (committed j ≡ true) → aborted j ≡ false
      ends j (inl i) = ap aborted (sym i) ∙ fly.2
      ends j (inr t) = c.one_end j t

      none_waits : wait ≡ None
      none_waits = none_where wait (sym c.pending_state ∙ w)

      on_or_pending : (j : ℕ) → (k ≡ j) ⊎ (committed j ≡ true) → (activated j ≡ true) ⊎ (wait' ≡ Some j)
      on_or_pending j (inl i) = inr (pend ∙ ap Some i)
      on_or_pending j (inr t) = old (c.activated_or_pending j t)
        where
          old : (activated j ≡ true) ⊎ (wait ≡ Some j) → (activated j ≡ true) ⊎ (wait' ≡ Some j)
          old (inl a) = inl a
          old (inr b) = let q = none_waits in absurd cc

      from : (o : Option ℕ) → on ≡ o → up_to on ≤ k
      from None i = let q : up_to on ≡ 0 = ap up_to i in omega arith
      from (Some a) i =
          let t = c.activated_committed a (c.active_activated a i) in
          let l : a < total = c.committed_below a t in
          let n : k ≡ a → ⊥ = λ r. not_both (committed a) t (ap committed (sym r) ∙ fly.1) in
          let z = fly.0 in
          let q : up_to on ≡ suc a = ap up_to i in
          omega arith

      ended : (j : ℕ) → (committed j || aborted j ≡ true) ⊎ ((free ≡ false) × (last ≡ Some j)) → ((k == j) || committed j) || aborted j ≡ true
      ended j (inl t) = weaker (or_either (committed j) (aborted j) t)
        where
          weaker : (committed j ≡ true) ⊎ (aborted j ≡ true) → ((k == j) || committed j) || aborted j ≡ true
          weaker (inl a) = or_left ((k == j) || committed j) (aborted j) (or_right (k == j) (committed j) a)
          weaker (inr b) = or_right ((k == j) || committed j) (aborted j) b
      ended j (inr x) = let l = x.1 in let i : k ≡ j = cc in or_left ((k == j) || committed j) (aborted j) (to_name k j (committed j) i)

  activate_step : CourseOf free waits total last wait on sent committed aborted activated → (k : ℕ) → wait ≡ Some k
      → (wait' : Option ℕ) → wait' ≡ None
      → CourseOf free false total last wait' (Some k) sent committed aborted (λ j. (k == j) || activated j)
  activate_step c k e wait' p = record {
    sent_below = c.sent_below;
    below_sent = c.below_sent;
    last_is = c.last_is;
    committed_below = c.committed_below;
    aborted_below = c.aborted_below;
    one_end = c.one_end;
    activated_committed = λ j t. is_committed j (named_or k j (activated j) t);
    activated_or_pending = λ j t. inl (is_on j (c.activated_or_pending j t));
    activated_to = λ j t. to_last j (named_or k j (activated j) t);
    active_activated = λ j i. let i' : k ≡ j = cc in to_name k j (activated j) i';
    pending_state = sym (ap is_some p);
    pending_committed = λ j i. cc;
    pending_not_activated = λ j i. cc;
    pending_from = λ j i. absurd cc;
    ended_or_last = c.ended_or_last;
    in_flight = c.in_flight;
  }
    where
      is_committed : (j : ℕ) → (k ≡ j) ⊎ (activated j ≡ true) → committed j ≡ true
      is_committed j (inl i) = ap committed (sym i) ∙ c.pending_committed k e
      is_committed j (inr t) = c.activated_committed j t

      is_on : (j : ℕ) → (activated j ≡ true) ⊎ (wait ≡ Some j) → (k == j) || activated j ≡ true
      is_on j (inl t) = or_right (k == j) (activated j) t
      is_on j (inr i) = let i' : k ≡ j = cc in to_name k j (activated j) i'

      to_last : (j : ℕ) → (k ≡ j) ⊎ (activated j ≡ true) → j < suc k
      to_last j (inl i) = omega arith
      to_last j (inr t) = let l = c.activated_to j t in let m = c.pending_from k e in omega arith

-- the pending commit is the last one
pub pending_last : (h : List Entry) (o : Option ℕ) (k : ℕ) → unless_activated h o ≡ Some k → o ≡ Some k
pending_last h None k e = cc
pending_last h (Some j) k e = by_activated (was_named activates h j) e
  where
    by_activated : (b : Bool) → cond b None (Some j) ≡ Some k → Some j ≡ Some k
    by_activated true e = cc
    by_activated false e = e

-- where the last commit is activated, none is pending
none_then : (h : List Entry) (o : Option ℕ) (k : ℕ) → o ≡ Some k → was_named activates h k ≡ true → unless_activated h o ≡ None
none_then h o k e t = ap (unless_activated h) e ∙ ap (λ b. cond b None (Some k)) t

one_step : (s : ScriptModel) (n : ℕ) (h : List Entry) (a : ℕ) (e : Event) → Course h → Next s n h (entry a e) → Course (entry a e ∷ h)
one_step s n h a (event.Send k ms) c x = let d = at_send s n h a k ms x in send_step c k d.main d.frame
one_step s n h a (event.Ready k) c x = ready_step c (sent_not_idle (sched h).main_state (at_ready s n h a k x).sent)
one_step s n h a (event.Abort k) c x = let d = at_abort s n h a k x in abort_step c k (sent_not_idle (sched h).main_state d.sent) d.last
one_step s n h a (event.Commit k) c x =
    let d = at_commit s n h a k x in
    commit_step c k (ready_not_idle (sched h).main_state d.prepared) d.last d.none_pending (pending (entry a (event.Commit k) ∷ h)) refl
one_step s n h a (event.Activate k ms) c x =
    let d = at_activate s n h a k ms x in
    activate_step c k d.frame (pending (entry a (event.Activate k ms) ∷ h))
    (none_then (entry a (event.Activate k ms) ∷ h) (newest commits h) k (pending_last h (newest commits h) k d.frame) (to_name k k (was_named activates h k) refl))
one_step s n h a _ c x = c

none_yet : Course []
none_yet = record {
  sent_below = λ j t. absurd cc;
  below_sent = λ j l. absurd (omega arith);
  last_is = λ j i. cc;
  committed_below = λ j t. absurd cc;
  aborted_below = λ j t. absurd cc;
  one_end = λ j t. refl;
  activated_committed = λ j t. cc;
  activated_or_pending = λ j t. absurd cc;
  activated_to = λ j t. absurd cc;
  active_activated = λ j i. cc;
  pending_state = refl;
  pending_committed = λ j i. cc;
  pending_not_activated = λ j i. refl;
  pending_from = λ j i. absurd cc;
  ended_or_last = λ j l. absurd (omega arith);
  in_flight = λ t. cc;
}

-- the course of frames in every legal past
pub course : (s : ScriptModel) (n : ℕ) (h : List Entry) → Legal s n h → Course h
course s n [] l = none_yet
course s n (e ∷ h) l = one_step s n h e.actor e.event (course s n h l.0) l.1

-- the frames that were sent are the first ones
pub sent_are_first : (h : List Entry) → Course h → (k : ℕ) → was_named sends h k ≡ nat_lt k (counted sends h)
sent_are_first h c k = by_test (was_named sends h k) (λ t. t ∙ sym (below k (counted sends h) (c.sent_below k t))) (λ f. f ∙ sym (is_false (nat_lt k (counted sends h)) (λ t. not_both (was_named sends h k) (c.below_sent k (is_below k (counted sends h) t)) f)))

-- each has ended but the one in flight
pub ended_or_in_flight : (h : List Entry) → Course h → (k : ℕ) → k < counted sends h
    → (has_frame_ended h k ≡ true) ⊎ ((is_main_idle (sched h).main_state ≡ false) × (newest sends h ≡ Some k) × (has_frame_ended h k ≡ false))
ended_or_in_flight h c k l = by_or (c.ended_or_last k l)
  where
    by_or : (has_frame_ended h k ≡ true) ⊎ ((is_main_idle (sched h).main_state ≡ false) × (newest sends h ≡ Some k))
        → (has_frame_ended h k ≡ true) ⊎ ((is_main_idle (sched h).main_state ≡ false) × (newest sends h ≡ Some k) × (has_frame_ended h k ≡ false))
    by_or (inl t) = inl t
    by_or (inr x) = let f = flying c x.0 k x.1 in inr (x.0, x.1, or_neither (was_named commits h k) (was_named aborts h k) f.1 f.2)
