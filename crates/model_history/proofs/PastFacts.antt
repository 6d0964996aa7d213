-- What the course of frames tells of the sums: which frames are retired, in flight and pending, and what the next send lists.
use Rattle.std.proofs.Common.{ℕ, ◌≡◌, ◌⊎◌, inl, inr, suc, ◌≤◌, ◌==◌, pos, Bool, true, false, cond, ◌||◌, List, [], ◌∷◌, Option, Some, None, refl, sym, ◌∙◌, ap, arith}
use Rattle.model_states.specs.Kinds.{is_main_idle}
use Rattle.model_history.specs.declared.event.Event.{Event}
use Rattle.model_history.specs.declared.event.Event.TheVariants as event
use Rattle.model_history.specs.declared.history.Entry.{Entry}
use Rattle.model_history.specs.Scripts.{ScriptModel}
use Rattle.model_history.specs.EventFields.{sends, commits, aborts, activates, retires, moves}
use Rattle.model_history.specs.Scans.{names, was_named, newest, counted}
use Rattle.page_layers.specs.Axes.{Axis, amount_in, named_in}
use Rattle.model_history.specs.Frames.{pending, up_to, has_frame_ended}
use Rattle.model_history.specs.Scrolls.{unsent, scrollers_moved, next_pulls, not_sent}
use Rattle.model_history.specs.ScrollLaws.{unless_ended, frame_in_flight}
use Rattle.model_history.specs.Legal.{sched}
use Rattle.model_history.proofs.BoolFacts.{not_both, is_false, by_test, or_neither, or_left_false, or_right_false}
use Rattle.model_history.proofs.Course.{Course}
use Rattle.model_history.proofs.MoveLists.{has, has-numbers, amount_listed, amount_absent}
use Rattle.model_history.proofs.Sums.{Stays, moved_nothing}

-- retired frames

or_none : (b : Bool) → b ≡ (b || false)
or_none true = refl
or_none false = refl

retires_one : (e : Event) (k : ℕ) → names (retires e) k ≡ (names (aborts e) k || names (activates e) k)
retires_one (event.Abort j) k = or_none (j == k)
retires_one (event.Activate j ms) k = refl
retires_one _ k = refl

or_four : (a b c d : Bool) → ((a || b) || (c || d)) ≡ ((a || c) || (b || d))
or_four true b c d = refl
or_four false true true d = refl
or_four false true false d = refl
or_four false false c d = refl

-- a frame is retired where it was aborted or activated
pub retires_is : (h : List Entry) (k : ℕ) → was_named retires h k ≡ (was_named aborts h k || was_named activates h k)
retires_is [] k = refl
retires_is (e ∷ h) k =
    let a : names (retires e.event) k ≡ (names (aborts e.event) k || names (activates e.event) k) = retires_one e.event k in
    let b : was_named retires h k ≡ (was_named aborts h k || was_named activates h k) = retires_is h k in
    (λ i. a i || b i) ∙ or_four (names (aborts e.event) k) (names (activates e.event) k) (was_named aborts h k) (was_named activates h k)

-- one that has not ended is not retired
pub not_retired : (h : List Entry) (k : ℕ) → Course h → was_named commits h k ≡ false → was_named aborts h k ≡ false → was_named retires h k ≡ false
not_retired h k c no_commit no_abort =
    retires_is h k ∙ or_neither (was_named aborts h k) (was_named activates h k) no_abort
    (is_false (was_named activates h k) (λ t. not_both (was_named commits h k) (c.activated_committed k t) no_commit))

-- nor is one that was not sent
pub later_not_retired : (h : List Entry) (k : ℕ) → Course h → counted sends h ≤ k → was_named retires h k ≡ false
later_not_retired h k c l =
    not_retired h k c (is_false (was_named commits h k) (λ t. let b = c.committed_below k t in absurd (omega arith)))
    (is_false (was_named aborts h k) (λ t. let b = c.aborted_below k t in absurd (omega arith)))

-- the pending commit is not retired
pub pending_not_retired : (h : List Entry) (k : ℕ) → Course h → pending h ≡ Some k → was_named retires h k ≡ false
pending_not_retired h k c e =
    retires_is h k ∙ or_neither (was_named aborts h k) (was_named activates h k) (c.one_end k (c.pending_committed k e)) (c.pending_not_activated k e)

-- the pending commit was sent
pub pending_within : (h : List Entry) (o : Option ℕ) → Course h → pending h ≡ o → up_to o ≤ counted sends h
pending_within h None c e = omega arith
pending_within h (Some k) c e = let l = c.committed_below k (c.pending_committed k e) in omega arith

-- the frame in flight

ended_none : (h : List Entry) (o : Option ℕ) → ((k : ℕ) → o ≡ Some k → has_frame_ended h k ≡ true) → unless_ended h o ≡ None
ended_none h None f = refl
ended_none h (Some k) f = ap (λ b. cond b None (Some k)) (f k refl)

-- there is none where the main side is idle
pub none_in_flight : (h : List Entry) → Course h → is_main_idle (sched h).main_state ≡ true → frame_in_flight h ≡ None
none_in_flight h c free = ended_none h (newest sends h) (λ k e. let t = c.last_is k e in ended k (c.ended_or_last k (omega arith)))
  where
    ended : (k : ℕ) → (has_frame_ended h k ≡ true) ⊎ ((is_main_idle (sched h).main_state ≡ false) × (newest sends h ≡ Some k)) → has_frame_ended h k ≡ true
    ended k (inl t) = t
    ended k (inr x) = absurd (not_both (is_main_idle (sched h).main_state) free x.0)

-- what there is of the frame in flight
pub record InFlight (h : List Entry) (k : ℕ) : Type 0 where
  pub flies : frame_in_flight h ≡ Some k
  pub total : counted sends h ≡ suc k
  pub no_commit : was_named commits h k ≡ false
  pub no_abort : was_named aborts h k ≡ false

pub in_flight : (h : List Entry) (k : ℕ) → Course h → is_main_idle (sched h).main_state ≡ false → newest sends h ≡ Some k → InFlight h k
in_flight h k c busy e =
    let x = c.in_flight busy in
    let i : x.0 ≡ k = cc in
    let a : was_named commits h k ≡ false = ap (was_named commits h) (sym i) ∙ x.2 in
    let b : was_named aborts h k ≡ false = ap (was_named aborts h) (sym i) ∙ x.3 in
    record {
      flies = ap (unless_ended h) e ∙ ap (λ t. cond t None (Some k)) (or_neither (was_named commits h k) (was_named aborts h k) a b);
      total = c.last_is k e;
      no_commit = a;
      no_abort = b;
    }

-- the next send lists what is unsent

not_moved : (s : ScriptModel) (sc : ℕ) (ax : Axis) (h : List Entry) → has (scrollers_moved s h) sc ≡ false → Stays s sc ax h
not_moved s sc ax [] e = tt
not_moved s sc ax (x ∷ h) e =
    let f : (has (named_in (moves s x.event)) sc || has (scrollers_moved s h) sc) ≡ false = sym (has-numbers sc (named_in (moves s x.event)) (scrollers_moved s h)) ∙ e in (
      amount_absent sc ax (moves s x.event) (or_left_false (has (named_in (moves s x.event)) sc) (has (scrollers_moved s h) sc) f),
      not_moved s sc ax h (or_right_false (has (named_in (moves s x.event)) sc) (has (scrollers_moved s h) sc) f),
    )

pub amount_pulled : (s : ScriptModel) (h : List Entry) (sc : ℕ) (ax : Axis) → amount_in sc ax (next_pulls s h) ≡ unsent s h sc ax
amount_pulled s h sc ax = amount_listed sc ax (unsent s h) (scrollers_moved s h) ∙ by_test (has (scrollers_moved s h) sc) listed_it left_out
  where
    listed_it : has (scrollers_moved s h) sc ≡ true → cond (has (scrollers_moved s h) sc) (unsent s h sc ax) (pos 0) ≡ unsent s h sc ax
    listed_it t = ap (λ b. cond b (unsent s h sc ax) (pos 0)) t

    left_out : has (scrollers_moved s h) sc ≡ false → cond (has (scrollers_moved s h) sc) (unsent s h sc ax) (pos 0) ≡ unsent s h sc ax
    left_out t = ap (λ b. cond b (unsent s h sc ax) (pos 0)) t ∙ sym (moved_nothing s sc ax not_sent None h (not_moved s sc ax h t))
