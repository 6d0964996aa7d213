-- A worker over what others have entered since.
use Rattle.std.proofs.Common.{◌≡◌, ◌≢◌, ◌⊎◌, inl, inr, ℕ, ◌+◌, ◌<◌, ◌==◌, Bool, true, cond, List, [], ◌∷◌, ◌++◌, Option, Some, None, refl, sym, ◌∙◌, ap, subst, append_assoc}
use Rattle.atomic_table.specs.Seated.{TableId}
use Rattle.geom.specs.declared.tile.TileKey.{TileKey}
use Rattle.tile_raster.specs.Images.{Image}
use Rattle.tile_raster.specs.declared.job.Job.{Job}
use Rattle.thread_lock.specs.Lists.{entries_by}
use Rattle.model_history.specs.declared.event.Event.{Event}
use Rattle.model_history.specs.declared.event.Event.TheVariants as event
use Rattle.model_history.specs.declared.history.Entry.{Entry}
use Rattle.model_history.specs.Scripts.{ScriptModel}
use Rattle.model_history.specs.EventFields.{actor_of, held_after}
use Rattle.model_history.specs.Scans.{has_ended, held}
use Rattle.model_history.specs.Legal.{Legal}
use Rattle.model_history.proofs.BoolFacts.{by_test, not_both, is_same, is_other, other_number}
use Rattle.model_history.proofs.DueFacts.{entry}
use Rattle.model_steps.specs.ShownKeys.{KeyShows}
use Rattle.impl_log.specs.Runs.{Run, past, with_entry}
use Rattle.impl_log.proofs.LogSteps.{past_more}
use Rattle.impl_core.specs.Origins.{Origin, origin_of}
use Rattle.proxy_threads.specs.declared.turned.Turned.{Turned}
use Rattle.proxy_threads.specs.declared.turned.Turned.TheVariants as turned
use Rattle.proxy_threads.specs.declared.raster_actor.Started.{Started}
use Rattle.proxy_threads.specs.declared.raster_actor.Started.TheVariants as started
use Rattle.proxy_threads.specs.Seats.{Seat, HasSeenRun, entry_of_pair, pairs, past_of}
use Rattle.proxy_threads.specs.Causes.{HasNone, HasWaited}
use Rattle.proxy_threads.specs.WorkTurns.{WorkIsReady}
use Rattle.proxy_threads.specs.inner.Holdings.{Steps, Sees, Holding}
use Rattle.proxy_threads.specs.inner.Steps.{Stops}
use Rattle.proxy_threads.specs.inner.Works.{StartsOne, IsFree, Holds, CanBeDone, IsDone, Finishes, WorkTurns}
use Rattle.proxy_threads.proofs.Holds.{past_pairs, some_same, same_since, mine_kept, mine_more, entered_last, past_left}
use Rattle.proxy_threads.proofs.Others.{grown, past_grown, ended_since, legal_front}
use Rattle.proxy_threads.proofs.OwnEvents.{worker_none}

-- ---- what a worker holds is told by its own entries alone

held_else : (w a : ℕ) (e : Event) (old : Option TileKey) → a ≡ actor_of e → a ≢ 2 + w → held_after e w old ≡ old
held_else w a (event.Start v q evicted) old is other = ap (λ (b : Bool). cond b (Some q) old) (is_other v w (λ i. other (is ∙ ap (λ (n : ℕ). 2 + n) i)))
held_else w a (event.DoneTile v q) old is other = ap (λ (b : Bool). cond b None old) (is_other v w (λ i. other (is ∙ ap (λ (n : ℕ). 2 + n) i)))
held_else w a _ old is other = refl

module _ (s : ScriptModel) (n w : ℕ) where
  held_own : (ys : List (ℕ × Event)) (h g : List Entry) → Legal s n (grown h ys) → held w h ≡ held w g → held w (grown h ys) ≡ held w (grown g (entries_by (2 + w) ys))
  held_own [] h g legal same = same
  held_own (y ∷ ys) h g legal same =
      by_test (y.0 == 2 + w)
      (λ t.
      held_own ys (entry_of_pair y ∷ h) (entry_of_pair y ∷ g) legal (ap (λ (o : Option TileKey). held_after y.1 w o) same)
      ∙ ap (λ (b : Bool). held w (grown g (cond b (y ∷ entries_by (2 + w) ys) (entries_by (2 + w) ys)))) (sym t))
      (λ f.
      held_own ys (entry_of_pair y ∷ h) g legal (held_else w y.0 y.1 (held w h) (legal_front s n 0 ys (entry_of_pair y ∷ h) legal).1.actor (other_number y.0 (2 + w) f) ∙ same)
      ∙ ap (λ (b : Bool). held w (grown g (cond b (y ∷ entries_by (2 + w) ys) (entries_by (2 + w) ys)))) (sym f))

  held_mine : (ys : List (ℕ × Event)) → Legal s n (past_of ys) → held w (past_of ys) ≡ held w (past_of (entries_by (2 + w) ys))
  held_mine ys legal =
      ap (λ (h : List Entry). held w h) (past_grown ys)
      ∙ (held_own ys [] [] (subst (Legal s n) (past_grown ys) legal) refl ∙ ap (λ (h : List Entry). held w h) (sym (past_grown (entries_by (2 + w) ys))))

-- at the run that a pass finds
pub held_found : (w : ℕ) (p : Seat) (r : Run) → Sees p r → p.actor ≡ 2 + w → held w (past r) ≡ held w (past_of p.mine)
held_found w p r sees actor =
    ap (λ (h : List Entry). held w h) (sym (past_pairs r.entries))
    ∙ (held_mine r.script r.workers w (pairs r.entries) (subst (Legal r.script r.workers) (sym (past_pairs r.entries)) sees.legal)
    ∙ ap (λ (xs : List (ℕ × Event)). held w (past_of xs)) (ap (λ (a : ℕ). entries_by a (pairs r.entries)) (sym actor) ∙ sees.own))

-- at the run that a pass represents
pub held_standing : (w : ℕ) (p : Seat) (r : Run) → HasSeenRun p r → p.actor ≡ 2 + w → held w (past_of p.mine) ≡ held w (past r)
held_standing w p r stands actor =
    let all : past_of p.seen ≡ past r = ap (λ (xs : List (ℕ × Event)). past_of xs) stands.seen ∙ past_pairs r.entries in
    ap (λ (xs : List (ℕ × Event)). held w (past_of xs)) (stands.mine ∙ ap (λ (a : ℕ). entries_by a p.seen) actor)
    ∙ (sym (held_mine r.script r.workers w p.seen (subst (Legal r.script r.workers) (sym all) stands.legal)) ∙ ap (λ (h : List Entry). held w h) all)

-- ---- the first holding

pub is_within : (lock : TableId) (w : ℕ) (p : Seat) (r : Run) → WorkIsReady lock w p → Sees p r → w < r.workers
is_within lock w p r ready sees = subst (λ (o : Origin). w < o.workers) (some_same ready.origin (origin_of r) (sym ready.stem ∙ sees.origin)) ready.within

pub is_free : (w : ℕ) (p : Seat) (r : Run) → (has_ended (past_of p.seen) ≡ true) ⊎ (held w (past_of p.mine) ≡ None) → p.actor ≡ 2 + w → Sees p r → IsFree w r
is_free w p r (inl ended) actor sees = λ going. absurd (not_both (has_ended (past r)) (ap (λ (h : List Entry). has_ended h) (sym (past_pairs r.entries)) ∙ ended_since p.seen (pairs r.entries) sees.began ended) going)
is_free w p r (inr free) actor sees = λ going. held_found w p r sees actor ∙ free

pub start_steps : (w : ℕ) (old new : Run) (x : Started) → StartsOne w x old new → Steps (2 + w) old new
start_steps w old new started.Ended s = inl s.0
start_steps w old new started.Waits s = inl s.0
start_steps w old new (started.Making job) s = inr (event.Start w job.key s.0.evicted, s.0.is_entered)
start_steps w old new started.Memory s = inl s

module _ (w : ℕ) (p q : Seat) (x : Started) (hold : Holding p q (StartsOne w x)) (actor : p.actor ≡ 2 + w) (within : w < hold.found.workers) (free : IsFree w hold.found) where
  actor_after : q.actor ≡ 2 + w
  actor_after = hold.same.actor ∙ actor

  -- the run has ended
  pub ended_work : StartsOne w started.Ended hold.found hold.left → WorkTurns w p q turned.Ended
  ended_work s =
      let ended : has_ended (past hold.left) ≡ true = ap (λ (r : Run). has_ended (past r)) s.0 ∙ s.1 in
      record {
        turn = record { same = hold.same; run = hold.left; stands = hold.stands; cause = (inl (mine_kept p q (StartsOne w x) hold s.0), ended) };
        free = inl (ap (λ (h : List Entry). has_ended h) (past_left p q (StartsOne w x) hold) ∙ ended);
      }

  -- no tile may start
  pub waits_work : StartsOne w started.Waits hold.found hold.left → WorkTurns w p q turned.Blocked
  waits_work s = record {
    turn = record {
      same = hold.same;
      run = hold.left;
      stands = hold.stands;
      cause = subst (λ (r : Run). HasWaited p q r) (sym s.0) (record {
        mine = mine_kept p q (StartsOne w x) hold s.0;
        going = s.1;
        none = subst (λ (a : ℕ). HasNone hold.found.script hold.found.workers (past hold.found) a) (sym actor_after) (worker_none hold.found.script hold.found.workers (past hold.found) w (free s.1) s.2);
      });
    };
    free = inr (held_standing w q hold.left hold.stands actor_after ∙ (ap (λ (r : Run). held w (past r)) s.0 ∙ free s.1));
  }

  -- it was made, or not
  pub made_work : (job : Job) → StartsOne w (started.Making job) hold.found hold.left → (q2 : Seat) (t : Turned) → Holding q q2 (Finishes w job.key q.actor t) → WorkTurns w p q2 t
  made_work job s q2 turned.Went second =
      let one : Event = event.Start w job.key s.0.evicted in
      let two : Event = event.DoneTile w job.key in
      let Acts : Run → Run → Type 0 = Finishes w job.key q.actor turned.Went in
      let after : q2.actor ≡ 2 + w = second.same.actor ∙ actor_after in
      let first_is : hold.left ≡ with_entry hold.found p.actor one = s.0.is_entered ∙ ap (λ (a : ℕ). with_entry hold.found a one) (sym actor) in
      let second_is : second.left ≡ with_entry second.found q.actor two = second.acts.1 ∙ ap (λ (a : ℕ). with_entry second.found a two) (sym actor_after) in
      let mine : q.mine ≡ p.mine ++ (q.actor, one) ∷ [] = mine_more p q (StartsOne w x) hold one first_is in
      let more : q2.mine ≡ q.mine ++ (q2.actor, two) ∷ [] = mine_more q q2 Acts second two second_is in
      let none : held w (past second.left) ≡ None =
      ap (λ (r : Run). held w (past r)) second.acts.1
      ∙ (ap (λ (h : List Entry). held w h) (past_more second.found.entries (second.found.entries ++ entry (2 + w) two ∷ []) (entry (2 + w) two) refl)
      ∙ ap (λ (b : Bool). cond b None (held w (past second.found))) (is_same w w refl)) in
      record {
        turn = record {
          same = same_since p q q2 hold.same second.same;
          run = second.left;
          stands = second.stands;
          cause = (
            entered_last q q2 Acts second two second_is second.acts.0,
            record {
              worker = w;
              key = job.key;
              evicted = s.0.evicted;
              actor = after;
              mine = more
                  ∙ (ap (λ (xs : List (ℕ × Event)). xs ++ (q2.actor, two) ∷ []) (mine ∙ ap (λ (a : ℕ). p.mine ++ (a, one) ∷ []) (sym second.same.actor))
                  ∙ append_assoc p.mine ((q2.actor, one) ∷ []) ((q2.actor, two) ∷ []));
            },
          );
        };
        free = inr (held_standing w q2 second.left second.stands after ∙ none);
      }
  made_work job s q2 turned.Ended second =
      let one : Event = event.Start w job.key s.0.evicted in
      let Acts : Run → Run → Type 0 = Finishes w job.key q.actor turned.Ended in
      let first_is : hold.left ≡ with_entry hold.found p.actor one = s.0.is_entered ∙ ap (λ (a : ℕ). with_entry hold.found a one) (sym actor) in
      let mine : q.mine ≡ p.mine ++ (q.actor, one) ∷ [] = mine_more p q (StartsOne w x) hold one first_is in
      let ended : has_ended (past second.left) ≡ true = ap (λ (r : Run). has_ended (past r)) second.acts.1 ∙ second.acts.0 in
      record {
        turn = record {
          same = same_since p q q2 hold.same second.same;
          run = second.left;
          stands = second.stands;
          cause = (inr (one, mine_kept q q2 Acts second second.acts.1 ∙ (mine ∙ ap (λ (a : ℕ). p.mine ++ (a, one) ∷ []) (sym second.same.actor))), ended);
        };
        free = inl (ap (λ (h : List Entry). has_ended h) (past_left q q2 Acts second) ∙ ended);
      }
  made_work job s q2 turned.Memory second = record {
    turn = record { same = same_since p q q2 hold.same second.same; run = second.left; stands = second.stands; cause = second.acts.ended };
    free = inl (ap (λ (h : List Entry). has_ended h) (past_left q q2 (Finishes w job.key q.actor turned.Memory) second) ∙ second.acts.ended);
  }
  made_work job s q2 turned.Blocked second = absurd second.acts
  made_work job s q2 turned.WriteFault second = absurd second.acts

  -- the worker gave up
  pub stop_work : (q2 : Seat) → Holding q q2 (Stops q.actor) → WorkTurns w p q2 turned.Memory
  stop_work q2 second = record {
    turn = record { same = same_since p q q2 hold.same second.same; run = second.left; stands = second.stands; cause = second.acts.ended };
    free = inl (ap (λ (h : List Entry). has_ended h) (past_left q q2 (Stops q.actor) second) ∙ second.acts.ended);
  }

-- ---- the second holding

-- the tile that the worker holds may be done at the run that it finds
pub can_be_done : (w : ℕ) (p : Seat) (r : Run) (image : Image) → Holds w p image → Sees p r → CanBeDone w image r
can_be_done w p r image held sees = record {
  held = λ going. held_found w p r sees held.actor ∙ (held_standing w p held.run held.stands held.actor ∙ held.held);
  shows = subst (λ (o : Origin). KeyShows o.script image.key image.rect image.list) (some_same (origin_of held.run) (origin_of r) (sym held.stands.stem ∙ sees.origin)) held.shows;
}

pub done_steps : (w : ℕ) (key : TileKey) (old new : Run) (t : Turned) → IsDone w key t old new → Steps (2 + w) old new
done_steps w key old new turned.Went d = inr (event.DoneTile w key, d.1)
done_steps w key old new turned.Ended d = inl d.1
done_steps w key old new turned.Blocked d = absurd d
done_steps w key old new turned.Memory d = absurd d
done_steps w key old new turned.WriteFault d = absurd d
