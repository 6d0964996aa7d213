-- Which main frames are answered: all that were sent but the one that waits for its answer, and so every committed one.
use Rattle.std.proofs.Common.{◌≡◌, ◌⊎◌, inl, inr, ℕ, suc, ◌<◌, ◌≤◌, ◌==◌, Bool, true, false, ◌||◌, List, [], ◌∷◌, Option, Some, None, refl, ap, arith}
use Rattle.model_states.specs.declared.states.MainState.{MainState}
use Rattle.model_states.specs.declared.states.MainState.TheVariants as main
use Rattle.model_states.specs.Kinds.{is_main_idle, is_sent, is_ready_to_commit}
use Rattle.model_history.specs.declared.event.Event.{Event}
use Rattle.model_history.specs.declared.event.Event.TheVariants as event
use Rattle.model_history.specs.declared.history.Entry.{Entry}
use Rattle.model_history.specs.Scripts.{ScriptModel}
use Rattle.model_history.specs.EventFields.{sends, answers, commits}
use Rattle.model_history.specs.Scans.{was_named, newest, counted, one_more}
use Rattle.model_history.specs.Frames.{active, pending, up_to}
use Rattle.model_history.specs.Legal.{sched, Next, Legal}
use Rattle.model_history.proofs.BoolFacts.{or_either, same_number}
use Rattle.model_history.proofs.DueFacts.{entry, at_send, at_ready, at_abort, at_commit}
use Rattle.model_history.proofs.Course.{Course, course}

-- `total` frames were sent, `answered` of them answered, and one waits for its answer where `waits`
pub record AnsweredOf (waits : Bool) (total answered : ℕ) (committed : ℕ → Bool) : Type 0 where
  pub few : answered ≤ total
  pub all : waits ≡ false → answered ≡ total
  pub all_but_one : waits ≡ true → suc answered ≡ total
  pub committed_answered : (k : ℕ) → committed k ≡ true → k < answered

-- the answered frames of a past
abbrev pub Answered : List Entry → Type 0
Answered h = AnsweredOf (is_sent (sched h).main_state) (counted sends h) (counted answers h) (was_named commits h)

idle_not_sent : (m : MainState) → is_main_idle m ≡ true → is_sent m ≡ false
idle_not_sent main.Idle h = refl
idle_not_sent main.Sent h = cc
idle_not_sent main.ReadyToCommit h = refl

ready_not_sent : (m : MainState) → is_ready_to_commit m ≡ true → is_sent m ≡ false
ready_not_sent main.Idle h = cc
ready_not_sent main.Sent h = cc
ready_not_sent main.ReadyToCommit h = refl

-- the last frame is answered
answer_step : (h : List Entry) → Answered h → is_sent (sched h).main_state ≡ true → AnsweredOf false (counted sends h) (suc (counted answers h)) (was_named commits h)
answer_step h w t =
    let one : suc (counted answers h) ≡ counted sends h = w.all_but_one t in
    record {
      few = omega (arith, one);
      all = λ _. one;
      all_but_one = λ u. cc;
      committed_answered = λ k u. let l = w.committed_answered k u in omega (arith, l);
    }

-- the last frame, which is answered, is committed
commit_step : (h : List Entry) (k : ℕ) → Course h → Answered h → is_sent (sched h).main_state ≡ false → newest sends h ≡ Some k
    → AnsweredOf false (counted sends h) (counted answers h) (λ i. (k == i) || was_named commits h i)
commit_step h k c w s e = record { few = w.few; all = λ _. w.all s; all_but_one = λ u. cc; committed_answered = λ i u. by_or i (or_either (k == i) (was_named commits h i) u) }
  where
    by_or : (i : ℕ) → ((k == i) ≡ true) ⊎ (was_named commits h i ≡ true) → i < counted answers h
    by_or i (inl n) =
        let m : k ≡ i = same_number k i n in
        let t : counted sends h ≡ suc k = c.last_is k e in
        let a : counted answers h ≡ counted sends h = w.all s in
        omega (arith, m, t, a)
    by_or i (inr u) = w.committed_answered i u

one_step : (s : ScriptModel) (n : ℕ) (h : List Entry) (a : ℕ) (e : Event) → Course h → Answered h → Next s n h (entry a e) → Answered (entry a e ∷ h)
one_step s n h a (event.Send k ms) c w x =
    record { few = let f = w.few in omega (arith, f); all = λ t. cc; all_but_one = λ _. ap suc (w.all (idle_not_sent (sched h).main_state (at_send s n h a k ms x).main)); committed_answered = w.committed_answered }
one_step s n h a (event.Ready k) c w x = answer_step h w (at_ready s n h a k x).sent
one_step s n h a (event.Abort k) c w x = answer_step h w (at_abort s n h a k x).sent
one_step s n h a (event.Commit k) c w x = let d = at_commit s n h a k x in commit_step h k c w (ready_not_sent (sched h).main_state d.prepared) d.last
one_step s n h a _ c w x = w

none_yet : Answered []
none_yet = record { few = omega arith; all = λ _. refl; all_but_one = λ u. cc; committed_answered = λ k t. absurd cc }

-- the answered frames of every legal past
pub answered_course : (s : ScriptModel) (n : ℕ) (h : List Entry) → Legal s n h → Answered h
answered_course s n [] l = none_yet
answered_course s n (e ∷ h) l = one_step s n h e.actor e.event (course s n h l.0) (answered_course s n h l.0) l.1

-- the frame that waits for its answer is the next to be answered
pub answered_next : (h : List Entry) (k : ℕ) → Course h → Answered h → is_sent (sched h).main_state ≡ true → newest sends h ≡ Some k → counted answers h ≡ k
answered_next h k c w t e =
    let one : suc (counted answers h) ≡ counted sends h = w.all_but_one t in
    let last : counted sends h ≡ suc k = c.last_is k e in
    omega (arith, one, last)

-- the frames up to the active commit are answered, and so are those up to the pending one

pub active_answered : (h : List Entry) → Course h → Answered h → up_to (active h) ≤ counted answers h
active_answered h c w = go (active h) refl
  where
    go : (o : Option ℕ) → active h ≡ o → up_to o ≤ counted answers h
    go None e = omega arith
    go (Some k) e = w.committed_answered k (c.activated_committed k (c.active_activated k e))

pub pending_answered : (h : List Entry) → Course h → Answered h → up_to (pending h) ≤ counted answers h
pending_answered h c w = go (pending h) refl
  where
    go : (o : Option ℕ) → pending h ≡ o → up_to o ≤ counted answers h
    go None e = omega arith
    go (Some k) e = w.committed_answered k (c.pending_committed k e)

-- no event makes a count smaller
pub counted_more : (f : Event → Option ℕ) (h : List Entry) (a : ℕ) (e : Event) → counted f h ≤ counted f (entry a e ∷ h)
counted_more f h a e = go (f e) refl
  where
    go : (o : Option ℕ) → f e ≡ o → counted f h ≤ counted f (entry a e ∷ h)
    go None i = let c : counted f (entry a e ∷ h) ≡ counted f h = ap (λ o. one_more o (counted f h)) i in omega (arith, c)
    go (Some k) i = let c : counted f (entry a e ∷ h) ≡ suc (counted f h) = ap (λ o. one_more o (counted f h)) i in omega (arith, c)
