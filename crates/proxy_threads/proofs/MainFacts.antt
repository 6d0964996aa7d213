-- The main side over what others have entered since.
use Rattle.std.proofs.Common.{◌≡◌, ◌≢◌, ◌⊎◌, inl, inr, ℕ, Bool, true, false, List, [], ◌∷◌, ◌++◌, length, Some, None, refl, sym, ◌∙◌, ap, subst, arith, append_assoc, append-nil}
use Rattle.page_layers.specs.declared.moves.Move.{Move}
use Rattle.thread_lock.specs.Lists.{entries_by}
use Rattle.model_history.specs.declared.event.Event.{Event}
use Rattle.model_history.specs.declared.event.Event.TheVariants as event
use Rattle.model_history.specs.declared.history.Entry.{Entry}
use Rattle.model_history.specs.Scripts.{ScriptModel}
use Rattle.model_history.specs.EventFields.{kind_of, actor_of}
use Rattle.model_history.specs.Scans.{has_ended}
use Rattle.model_history.specs.Frames.{pulls_in}
use Rattle.model_history.specs.Legal.{Legal}
use Rattle.model_history.proofs.BoolFacts.{by_test, not_both}
use Rattle.impl_log.specs.Runs.{Run, past, with_entry}
use Rattle.impl_core.specs.Origins.{Origin, origin_of}
use Rattle.main_host.specs.Hosts.{MainHostModel, IsEnd, with_frame}
use Rattle.main_host.specs.declared.main_end.MainEnd.{MainEnd}
use Rattle.main_host.specs.declared.main_end.MainEnd.TheVariants as end
use Rattle.proxy_single_thread.specs.declared.main_side.MainSide.{MainSide}
use Rattle.proxy_single_thread.specs.inner.Ends.{is_ready}
use Rattle.proxy_single_thread.specs.inner.Sides.{IsMain}
use Rattle.proxy_single_thread.proofs.MainPulls.{none_told}
use Rattle.proxy_single_thread.proofs.MainSteps.{IsMainAt, is_mains, main_stays}
use Rattle.proxy_single_thread.proofs.MainEnds.{IsHeld, held_is, ready_now, abort_now, after_ready, after_abort, runs_frame}
use Rattle.proxy_threads.specs.declared.turned.Turned.{Turned}
use Rattle.proxy_threads.specs.declared.turned.Turned.TheVariants as turned
use Rattle.proxy_threads.specs.declared.main_actor.Told.{Told}
use Rattle.proxy_threads.specs.declared.main_actor.Told.TheVariants as told
use Rattle.proxy_threads.specs.Seats.{Seat, HasSeenRun, entry_of_pair, pairs, past_of}
use Rattle.proxy_threads.specs.Causes.{is_stop, HasNone, HasWaited, MainCause, have_frames_ended}
use Rattle.proxy_threads.specs.MainTurns.{IsTied, IsInStep}
use Rattle.proxy_threads.specs.inner.Holdings.{Steps, Sees, Holding}
use Rattle.proxy_threads.specs.inner.Steps.{Stops, StopsIfFailed}
use Rattle.proxy_threads.specs.inner.Mains.{Tells, Listens, IsSentTo, IsHeldBy, event_of, CanEnd, Hands, MainTurns}
use Rattle.proxy_threads.proofs.Holds.{past_pairs, some_same, same_since, mine_kept, entered_one, past_left}
use Rattle.proxy_threads.proofs.Others.{past_longer, ended_since, others_since, kept_by_others}
use Rattle.proxy_threads.proofs.OwnEvents.{main_none}

-- ---- while others enter events, the main side stays as it is

not_mains : (e : Event) (a : ℕ) → a ≡ actor_of e → a ≢ 1 → is_mains (kind_of e) ≡ false
not_mains (event.Ready k) a is other = absurd (other is)
not_mains (event.Abort k) a is other = absurd (other is)
not_mains _ a is other = refl

side_stays : (s : ScriptModel) (n : ℕ) (side : MainSide) (h : List Entry) (x : ℕ × Event) → Legal s n (entry_of_pair x ∷ h) → x.0 ≢ 1 → IsMainAt s h side → IsMainAt s (entry_of_pair x ∷ h) side
side_stays s n side h x legal other m = main_stays s n h x.0 side x.1 legal (not_mains x.1 x.0 legal.1.actor other) m

-- from a prefix of what the pass saw, in which all is that the main side entered, to the run that it finds
pub main_found : (p : Seat) (r : Run) (side : MainSide) (o : Origin) (base rest : List (ℕ × Event)) → Sees p r → p.actor ≡ 1 → base ++ rest ≡ p.seen → entries_by 1 base ≡ p.mine → p.stem ≡ Some o → IsMainAt o.script (past_of base) side → IsMain r side
main_found p r side o base rest sees actor seen mine stem m =
    let longer : base ++ (rest ++ sees.began.0) ≡ pairs r.entries = sym (append_assoc base rest sees.began.0) ∙ (ap (λ (xs : List (ℕ × Event)). xs ++ sees.began.0) seen ∙ sees.began.1) in
    let all : entries_by 1 (pairs r.entries) ≡ p.mine = ap (λ (a : ℕ). entries_by a (pairs r.entries)) (sym actor) ∙ sees.own in
    let none : entries_by 1 (rest ++ sees.began.0) ≡ [] = others_since 1 base (rest ++ sees.began.0) (ap (λ (xs : List (ℕ × Event)). entries_by 1 xs) longer ∙ (all ∙ sym mine)) in
    let past_is : past_of (base ++ (rest ++ sees.began.0)) ≡ past r = ap (λ (xs : List (ℕ × Event)). past_of xs) longer ∙ past_pairs r.entries in
    let grown_is = sym (past_longer base (rest ++ sees.began.0)) ∙ past_is in
    let same : o ≡ origin_of r = some_same o (origin_of r) (sym stem ∙ sees.origin) in
    let there : IsMainAt r.script (past_of base) side = subst (λ (z : Origin). IsMainAt z.script (past_of base) side) same m in
    subst (λ (h : List Entry). IsMainAt r.script h side) grown_is
    (kept_by_others r.script r.workers 1 (λ (h : List Entry). IsMainAt r.script h side) (side_stays r.script r.workers side) (rest ++ sees.began.0) (past_of base) none
    (subst (Legal r.script r.workers) (sym grown_is) sees.legal) there)

-- from a run that the pass saw to the run that it finds
pub main_since : (p : Seat) (r : Run) (side : MainSide) (before : Run) → Sees p r → p.actor ≡ 1 → HasSeenRun p before → IsMain before side → IsMain r side
main_since p r side before sees actor stands m =
    main_found p r side (origin_of before) p.seen [] sees actor (append-nil p.seen) (ap (λ (a : ℕ). entries_by a p.seen) (sym actor) ∙ sym stands.mine) stands.stem
    (subst (λ (h : List Entry). IsMainAt before.script h side) (sym (ap (λ (xs : List (ℕ × Event)). past_of xs) stands.seen ∙ past_pairs before.entries)) m)

-- a pass that represents a run is tied to its host
pub tied_after : (q : Seat) (r : Run) (host : MainHostModel) (changed : Bool) → HasSeenRun q r → q.actor ≡ 1 → IsMain r (record { host = host; end = None; changed = changed }) → IsTied q host
tied_after q r host changed stands actor m = record {
  base = q.seen;
  rest = [];
  seen = append-nil q.seen;
  mine = ap (λ (a : ℕ). entries_by a q.seen) (sym actor) ∙ sym stands.mine;
  origin = origin_of r;
  stem = stands.stem;
  changed = changed;
  main =
      subst (λ (h : List Entry). IsMainAt r.script h (record { host = host; end = None; changed = changed })) (sym (ap (λ (xs : List (ℕ × Event)). past_of xs) stands.seen ∙ past_pairs r.entries)) m;
}

-- ---- the first holding

-- in a run that goes on, the host has run its main frames
pub record Unrun (r : Run) (host : MainHostModel) : Type 0 where
  pub changed : Bool
  pub main : IsMain r (record { host = host; end = None; changed = changed })

pub unrun_is : (p : Seat) (r : Run) (host : MainHostModel) → Sees p r → p.actor ≡ 1 → IsInStep p host → has_ended (past r) ≡ false → Unrun r host
unrun_is p r host sees actor (inl ended) going =
    absurd (not_both (has_ended (past r)) (ap (λ (h : List Entry). has_ended h) (sym (past_pairs r.entries)) ∙ ended_since p.seen (pairs r.entries) sees.began ended) going)
unrun_is p r host sees actor (inr tied) going =
    record { changed = tied.changed; main = main_found p r (record { host = host; end = None; changed = tied.changed }) tied.origin tied.base tied.rest sees actor tied.seen tied.mine tied.stem tied.main }

module _ (p q : Seat) (x : Told) (hold : Holding p q (Listens x)) (actor : p.actor ≡ 1) (host : MainHostModel) (step : IsInStep p host) where
  actor_after : q.actor ≡ 1
  actor_after = hold.same.actor ∙ actor

  same : hold.left ≡ hold.found
  same = hold.acts.same

  ended_seen : has_ended (past hold.found) ≡ true → has_ended (past_of q.seen) ≡ true
  ended_seen t = ap (λ (h : List Entry). has_ended h) (past_left p q (Listens x) hold ∙ ap (λ (r : Run). past r) same) ∙ t

  in_step : IsInStep q host
  in_step = by_test (has_ended (past hold.found)) (λ t. inl (ended_seen t)) going
    where
      going : has_ended (past hold.found) ≡ false → IsInStep q host
      going f =
          let u = unrun_is p hold.found host hold.sees actor step f in
          inr (tied_after q hold.left host u.changed hold.stands actor_after (subst (λ (r : Run). IsMain r (record { host = host; end = None; changed = u.changed })) (sym same) u.main))

  -- the run has ended, or all main frames have
  pub ended_turn : Tells hold.found told.Ended → MainTurns p q host turned.Ended
  ended_turn tells = record {
    turn = record {
      same = hold.same;
      run = hold.left;
      stands = hold.stands;
      cause = (
        mine_kept p q (Listens x) hold same,
        subst (λ (r : Run). (has_ended (past r) ≡ true) ⊎ (have_frames_ended r.script (past r) ≡ true)) (sym same) tells,
      );
    };
    in_step = in_step;
  }

  -- no main frame is in flight
  pub waits_turn : Tells hold.found told.Waits → MainTurns p q host turned.Blocked
  waits_turn tells = record {
    turn = record {
      same = hold.same;
      run = hold.left;
      stands = hold.stands;
      cause = subst (λ (r : Run). HasWaited p q r × (have_frames_ended r.script (past r) ≡ false)) (sym same) (
        record {
          mine = mine_kept p q (Listens x) hold same;
          going = tells.0.going;
          none = subst (λ (a : ℕ). HasNone hold.found.script hold.found.workers (past hold.found) a) (sym actor_after)
              (main_none hold.found.script hold.found.workers (past hold.found) (none_told hold.found.script hold.found.workers (past hold.found) hold.sees.legal (sym tells.1)));
        },
        tells.0.frames,
      );
    };
    in_step = in_step;
  }

  -- a main frame is in flight
  pub sent_turn : (ms : List Move) → Tells hold.found (told.Sent ms) → IsSentTo q host ms
  sent_turn ms tells =
      let u = unrun_is p hold.found host hold.sees actor step tells.0.going in
      record {
        run = hold.found;
        stands = subst (λ (r : Run). HasSeenRun q r) same hold.stands;
        actor = actor_after;
        going = tells.0.going;
        playable = hold.sees.playable;
        frame = tells.1.0;
        told = tells.1.1;
        changed = u.changed;
        main = u.main;
      }

  -- what a later holding answers is the answer of the turn
  pub then_turn : (q2 : Seat) (after : MainHostModel) (t : Turned) → MainTurns q q2 after t → MainTurns p q2 after t
  then_turn q2 after t m = record {
    turn = record { same = same_since p q q2 hold.same m.turn.same; run = m.turn.run; stands = m.turn.stands; cause = cause t m.turn.cause };
    in_step = m.in_step;
  }
    where
      mine : q.mine ≡ p.mine
      mine = mine_kept p q (Listens x) hold same

      cause : (t : Turned) → MainCause q q2 m.turn.run t → MainCause p q2 m.turn.run t
      cause turned.Went c =
          record { last = c.last; mine = c.mine ∙ ap (λ (xs : List (ℕ × Event)). xs ++ (q2.actor, c.last.event) ∷ []) mine; stays = c.stays }
      cause turned.Blocked c = (record { mine = c.0.mine ∙ mine; going = c.0.going; none = c.0.none }, c.1)
      cause turned.Ended c = (c.0 ∙ mine, c.1)
      cause turned.Memory c = c
      cause turned.WriteFault c = c

-- the actor gave up
pub stop_turn : (p q : Seat) (host : MainHostModel) → Holding p q (Stops p.actor) → MainTurns p q host turned.Memory
stop_turn p q host hold = record {
  turn = record { same = hold.same; run = hold.left; stands = hold.stands; cause = hold.acts.ended };
  in_step = inl (ap (λ (h : List Entry). has_ended h) (past_left p q (Stops p.actor) hold) ∙ hold.acts.ended);
}

-- ---- between the holdings

-- the frame was run, and its end is kept
pub held_by : (p : Seat) (host after : MainHostModel) (ms : List Move) (e : MainEnd) → IsSentTo p host ms → after ≡ with_frame host ms → IsEnd host ms e → IsHeldBy p after e
held_by p host after ms e sent more ends = record {
  run = sent.run;
  stands = sent.stands;
  actor = sent.actor;
  changed = is_ready e;
  main = runs_frame sent.run (record { host = host; end = None; changed = sent.changed }) sent.stands.legal sent.main refl sent.frame ms (sym sent.told) after e (is_ready e) more ends refl;
}

-- ---- the second holding

module _ (p : Seat) (r : Run) (host : MainHostModel) (e : MainEnd) (sees : Sees p r) (held : IsHeldBy p host e) where
  abbrev side : MainSide
  side = record { host = host; end = Some e; changed = held.changed }

  main_now : IsMain r side
  main_now = main_since p r side held.run sees held.actor held.stands held.main

  is_held : IsHeld r side e
  is_held = held_is r side e main_now refl

-- the end of the frame may come
pub can_end : (p : Seat) (r : Run) (host : MainHostModel) (e : MainEnd) → Sees p r → IsHeldBy p host e → has_ended (past r) ≡ false → CanEnd r e
can_end p r host (end.Ready c) sees held going =
    let k = is_held p r host (end.Ready c) sees held in
    let frame = k.behind.ends.1 in
    let last = k.behind.last in (
      ready_now r (side p r host (end.Ready c) sees held) sees.legal going c k,
      k.behind.ends.2,
      λ j le. ap (λ (lists : List (List Move)). pulls_in lists j) k.behind.ends.3 ∙ k.behind.run.each j (omega (arith, le, frame, last)),
    )
can_end p r host (end.Abort k) sees held going = abort_now r (side p r host (end.Abort k) sees held) sees.legal going k (is_held p r host (end.Abort k) sees held)

-- after the end of the frame the host has run all main frames
pub after_end : (p : Seat) (r new : Run) (host : MainHostModel) (e : MainEnd) → Sees p r → IsHeldBy p host e → has_ended (past r) ≡ false → new ≡ with_entry r 1 (event_of e) → Unrun new host
after_end p r new host (end.Ready c) sees held going is =
    record { changed = held.changed; main = after_ready r (side p r host (end.Ready c) sees held) sees.legal going c (is_held p r host (end.Ready c) sees held) new is }
after_end p r new host (end.Abort k) sees held going is =
    record { changed = held.changed; main = after_abort r (side p r host (end.Abort k) sees held) sees.legal going k (is_held p r host (end.Abort k) sees held) new is }

-- the end of a frame is no giving up
end_stays : (e : MainEnd) → is_stop (event_of e) ≡ false
end_stays (end.Ready c) = refl
end_stays (end.Abort k) = refl

-- the end was handed over, or not
pub handed : (p q q2 : Seat) (host : MainHostModel) (e : MainEnd) (t : Turned) → IsHeldBy p host e → Holding p q (Hands e t) → StopsIfFailed t q q2 → MainTurns p q2 host t
handed p q q2 host e turned.Went held hold is =
    let left : hold.left ≡ with_entry hold.found p.actor (event_of e) = hold.acts.1 ∙ ap (λ (a : ℕ). with_entry hold.found a (event_of e)) (sym held.actor) in
    let u = after_end p hold.found hold.left host e hold.sees held hold.acts.0 hold.acts.1 in
    subst (λ (z : Seat). MainTurns p z host turned.Went) (sym is) (record {
      turn = record { same = hold.same; run = hold.left; stands = hold.stands; cause = entered_one p q (Hands e turned.Went) hold (event_of e) left hold.acts.0 (end_stays e) };
      in_step = inr (tied_after q hold.left host u.changed hold.stands (hold.same.actor ∙ held.actor) u.main);
    })
handed p q q2 host e turned.Ended held hold is =
    let ended : has_ended (past hold.left) ≡ true = ap (λ (r : Run). has_ended (past r)) hold.acts.1 ∙ hold.acts.0 in
    subst (λ (z : Seat). MainTurns p z host turned.Ended) (sym is) (record {
      turn = record { same = hold.same; run = hold.left; stands = hold.stands; cause = (mine_kept p q (Hands e turned.Ended) hold hold.acts.1, inl ended) };
      in_step = inl (ap (λ (h : List Entry). has_ended h) (past_left p q (Hands e turned.Ended) hold) ∙ ended);
    })
handed p q q2 host e turned.Memory held hold stop = record {
  turn = record { same = same_since p q q2 hold.same stop.same; run = stop.left; stands = stop.stands; cause = stop.acts.ended };
  in_step = inl (ap (λ (h : List Entry). has_ended h) (past_left q q2 (Stops q.actor) stop) ∙ stop.acts.ended);
}
handed p q q2 host e turned.Blocked held hold is = absurd hold.acts
handed p q q2 host e turned.WriteFault held hold is = absurd hold.acts

pub hands_steps : (e : MainEnd) (t : Turned) (old new : Run) → Hands e t old new → Steps 1 old new
hands_steps e turned.Went old new h = inr (event_of e, h.1)
hands_steps e turned.Ended old new h = inl h.1
hands_steps e turned.Memory old new h = inl h
hands_steps e turned.Blocked old new h = absurd h
hands_steps e turned.WriteFault old new h = absurd h

-- before all main frames the host is tied to the pass
pub fresh_tied : (p : Seat) (host : MainHostModel) (o : Origin) → p.mine ≡ [] → p.stem ≡ Some o → host.script ≡ o.script → host.sends ≡ [] → IsTied p host
fresh_tied p host o fresh stem script before = record {
  base = [];
  rest = p.seen;
  seen = refl;
  mine = sym fresh;
  origin = o;
  stem = stem;
  changed = false;
  main = record {
    run = record { script = script; count = ap (λ (lists : List (List Move)). length lists) before; each = λ k lt. absurd (omega (arith, lt)) };
    none = refl;
    changed = λ k i. absurd (omega (arith, i));
  };
}
