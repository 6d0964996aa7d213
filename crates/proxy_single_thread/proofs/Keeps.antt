-- What an answer leaves of the sides of a run.
use Rattle.std.proofs.Common.{◌≡◌, ℕ, ◌≤◌, true, false, ◌∷◌, Result, Ok, refl, sym, ◌∙◌, ap, subst}
use Rattle.std.specs.Prelude.{⊤}
use Rattle.model_states.specs.declared.kind.Kind.{Kind}
use Rattle.model_states.specs.declared.kind.Kind.TheVariants as kind
use Rattle.model_history.specs.declared.event.Event.{Event}
use Rattle.model_history.specs.EventFields.{kind_of}
use Rattle.model_history.specs.Legal.{Legal}
use Rattle.model_history.proofs.DueFacts.{entry}
use Rattle.model_lockstep.specs.declared.compositor.EnterFault.{EnterFault}
use Rattle.impl_log.specs.Runs.{Run, past, with_entry, Entered}
use Rattle.impl_core.specs.Replies.{is_own, is_draw_kind}
use Rattle.proxy_single_thread.specs.Singles.{SingleEnters}
use Rattle.proxy_single_thread.specs.declared.main_side.MainSide.{MainSide}
use Rattle.proxy_single_thread.specs.declared.workers.Workers.{Workers}
use Rattle.proxy_single_thread.specs.declared.unwritten_scenes.UnwrittenScenes.{UnwrittenScenes}
use Rattle.proxy_single_thread.specs.inner.Images.{ArePrepared}
use Rattle.proxy_single_thread.specs.inner.Sides.{IsMain, AreWorkers, IsShown, IsSingle}
use Rattle.proxy_single_thread.proofs.Steps.{answered, past_with}
use Rattle.proxy_single_thread.proofs.HeldJobs.{is_works, jobs_stay}
use Rattle.proxy_single_thread.proofs.Drawn.{shown_stays}
use Rattle.proxy_single_thread.proofs.MainSteps.{is_mains, main_stays, main_after}

-- the compositor's own kinds are no others
pub own_not_mains : (k : Kind) → is_own k ≡ true → is_mains k ≡ false
own_not_mains kind.Ready t = absurd cc
own_not_mains kind.Abort t = absurd cc
own_not_mains _ t = refl

pub own_not_works : (k : Kind) → is_own k ≡ true → is_works k ≡ false
own_not_works kind.Start t = absurd cc
own_not_works kind.Done t = absurd cc
own_not_works _ t = refl

module _ (old new : Run) (k : Kind) (a : ℕ) (x : Result ⊤ EnterFault) (answer : SingleEnters old k a new x) where
  pub few_stays : (1 ≤ old.workers) × (old.workers ≤ 16) → (1 ≤ new.workers) × (new.workers ≤ 16)
  few_stays few = answered (λ r. (1 ≤ r.workers) × (r.workers ≤ 16)) old new k a x answer (λ e i is. subst (λ (r : Run). (1 ≤ r.workers) × (r.workers ≤ 16)) (sym is) few) few

  pub workers_stay : is_works k ≡ false → (ws : Workers) → AreWorkers old ws → AreWorkers new ws
  workers_stay f ws have = answered (λ r. AreWorkers r ws) old new k a x answer next have
    where
      next : (e : Event) → kind_of e ≡ k → new ≡ with_entry old a e → AreWorkers new ws
      next e i is = (jobs_stay old new a e is ws.jobs.items have.0 (ap is_works i ∙ f), subst (λ (r : Run). ArePrepared r.script ws.prepared.images.items) (sym is) have.1)

  pub drawn_stays : is_draw_kind k ≡ false → (drawn : UnwrittenScenes) → IsShown old drawn → IsShown new drawn
  drawn_stays f drawn are = answered (λ r. IsShown r drawn) old new k a x answer (λ e i is. shown_stays old new a e is drawn drawn refl are (ap is_draw_kind i ∙ f) refl) are

  pub side_stays : is_mains k ≡ false → (side : MainSide) → Legal new.script new.workers (past new) → IsMain old side → IsMain new side
  side_stays f side legal m = answered (λ r. IsMain r side) old new k a x answer next m
    where
      legal_with : (e : Event) → new ≡ with_entry old a e → Legal old.script old.workers (entry a e ∷ past old)
      legal_with e is = subst (Legal old.script old.workers) (past_with old (with_entry old a e) a e refl) (subst (λ (r : Run). Legal r.script r.workers (past r)) is legal)

      next : (e : Event) → kind_of e ≡ k → new ≡ with_entry old a e → IsMain new side
      next e i is = main_after old new a e side is (main_stays old.script old.workers (past old) a side e (legal_with e is) (ap is_mains i ∙ f) m)

  -- all that is not touched stands: where the main side has answered
  pub by_main : is_works k ≡ false → is_draw_kind k ≡ false → (side after : MainSide) (ws : Workers) (drawn : UnwrittenScenes) → IsSingle old side ws drawn → IsMain new after → IsSingle new after ws drawn
  by_main w d side after ws drawn is stands = record { few = few_stays is.few; main = stands; workers = workers_stay w ws is.workers; shown = drawn_stays d drawn is.shown }

  -- where a worker has answered
  pub by_worker : is_mains k ≡ false → is_draw_kind k ≡ false → (side : MainSide) (ws after : Workers) (drawn : UnwrittenScenes) → Legal new.script new.workers (past new) → IsSingle old side ws drawn → AreWorkers new after
      → IsSingle new side after drawn
  by_worker m d side ws after drawn legal is stands = record { few = few_stays is.few; main = side_stays m side legal is.main; workers = stands; shown = drawn_stays d drawn is.shown }

  -- where the compositor itself has answered, and some images that were made ahead are dropped
  pub by_own : is_own k ≡ true → (side : MainSide) (ws left : Workers) (drawn after : UnwrittenScenes) → Legal new.script new.workers (past new) → IsSingle old side ws drawn → (AreWorkers new ws → AreWorkers new left) → IsShown new after
      → IsSingle new side left after
  by_own o side ws left drawn after legal is drops stands = record {
    few = few_stays is.few;
    main = side_stays (own_not_mains k o) side legal is.main;
    workers = drops (workers_stay (own_not_works k o) ws is.workers);
    shown = stands;
  }

-- where an actor has stopped
pub by_stop : (old new : Run) (a : ℕ) → Entered old kind.Stop a new → (side : MainSide) (ws : Workers) (drawn : UnwrittenScenes) → Legal new.script new.workers (past new) → IsSingle old side ws drawn → IsSingle new side ws drawn
by_stop old new a answer side ws drawn legal is =
    by_worker old new kind.Stop a (Ok tt) answer refl refl side ws ws drawn legal is (workers_stay old new kind.Stop a (Ok tt) answer refl ws is.workers)
