-- Which events may come of an actor.
use Rattle.std.proofs.Common.{◌≡◌, ℕ, ◌+◌, true, false, cond, not, ◌&&◌, List, Option, Some, None, refl, sym, ◌∙◌, ap, arith}
use Rattle.model_states.specs.declared.kind.Kind.{Kind}
use Rattle.model_states.specs.declared.kind.Kind.TheVariants as kind
use Rattle.model_history.specs.declared.event.Event.{Event}
use Rattle.model_history.specs.declared.event.Event.TheVariants as event
use Rattle.model_history.specs.declared.history.Entry.{Entry}
use Rattle.model_history.specs.Scripts.{ScriptModel}
use Rattle.model_history.specs.EventFields.{kind_of, actor_of}
use Rattle.model_history.specs.Scans.{held}
use Rattle.model_history.specs.Due.{due}
use Rattle.model_history.specs.Legal.{sched, can, Next}
use Rattle.model_states.specs.Kinds.{is_sent}
use Rattle.model_history.proofs.BoolFacts.{not_both}
use Rattle.model_history.proofs.DueFacts.{entry, at_ready, at_abort, at_done}
use Rattle.impl_core.specs.Replies.{is_own}
use Rattle.proxy_threads.specs.Causes.{is_stop, HasNone}

-- an event that may come is one that is asked for by its kind
next_can : (s : ScriptModel) (n : ℕ) (h : List Entry) (a : ℕ) (e : Event) → Next s n h (entry a e) → can s h (kind_of e) a ≡ Some e
next_can s n h a e x = (λ i. cond (not (x.going i) && x.state i) (due s h (kind_of e) a) None) ∙ x.is_due

apart : {X : Type 0} (o : Option X) (x : X) → o ≡ None → o ≡ Some x → ⊥
apart None x i j = absurd (cc)
apart (Some y) x i j = absurd (cc)

-- ---- the compositor

own_kind : (e : Event) → actor_of e ≡ 0 → is_stop e ≡ false → is_own (kind_of e) ≡ true
own_kind (event.Ready k) a f = absurd (cc (a))
own_kind (event.Abort k) a f = absurd (cc (a))
own_kind (event.Start w q evicted) a f = absurd (omega (arith, a))
own_kind (event.DoneTile w q) a f = absurd (omega (arith, a))
own_kind (event.Stop b) a f = absurd (cc (f))
own_kind _ a f = refl

-- an event of one of its kinds is no giving up
pub own_stays : (e : Event) → is_own (kind_of e) ≡ true → is_stop e ≡ false
own_stays (event.Stop a) own = absurd (cc (own))
own_stays _ own = refl

-- where none of its kinds may come, the compositor has no event
pub comp_none : (s : ScriptModel) (n : ℕ) (h : List Entry) → ((k : Kind) → is_own k ≡ true → can s h k 0 ≡ None) → HasNone s n h 0
comp_none s n h none e f x = apart (can s h (kind_of e) 0) e (none (kind_of e) (own_kind e (sym x.actor) f)) (next_can s n h 0 e x)

-- ---- the main side

-- where no main frame is in flight, the main side has no event
pub main_none : (s : ScriptModel) (n : ℕ) (h : List Entry) → is_sent (sched h).main_state ≡ false → HasNone s n h 1
main_none s n h idle (event.Ready k) f x = not_both (is_sent (sched h).main_state) (at_ready s n h 1 k x).sent idle
main_none s n h idle (event.Abort k) f x = not_both (is_sent (sched h).main_state) (at_abort s n h 1 k x).sent idle
main_none s n h idle (event.Start w q evicted) f x = let a = x.actor in absurd (omega (arith, a))
main_none s n h idle (event.DoneTile w q) f x = let a = x.actor in absurd (omega (arith, a))
main_none s n h idle (event.Stop b) f x = absurd (cc (f))
main_none s n h idle _ f x = let a = x.actor in absurd (cc (a))

-- ---- a worker

-- where it holds nothing and may start nothing, a worker has no event
pub worker_none : (s : ScriptModel) (n : ℕ) (h : List Entry) (w : ℕ) → held w h ≡ None → can s h kind.Start (2 + w) ≡ None → HasNone s n h (2 + w)
worker_none s n h w free none (event.Start v q evicted) f x = apart (can s h kind.Start (2 + w)) (event.Start v q evicted) none (next_can s n h (2 + w) (event.Start v q evicted) x)
worker_none s n h w free none (event.DoneTile v q) f x =
    let a = x.actor in
    let same : w ≡ v = omega (arith, a) in
    apart (held v h) q (ap (λ (u : ℕ). held u h) (sym same) ∙ free) (at_done s n h (2 + w) v q x)
worker_none s n h w free none (event.Ready k) f x = let a = x.actor in absurd (omega (arith, a))
worker_none s n h w free none (event.Abort k) f x = let a = x.actor in absurd (omega (arith, a))
worker_none s n h w free none (event.Stop b) f x = absurd (cc (f))
worker_none s n h w free none _ f x = let a = x.actor in absurd (omega (arith, a))
