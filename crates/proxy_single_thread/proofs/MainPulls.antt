-- The main side of a run, as it runs the frame in flight.
use Rattle.std.proofs.Common.{◌≡◌, ℕ, suc, Bool, true, false, cond, not, ◌&&◌, List, [], ◌∷◌, ◌++◌, length, Option, Some, None, option_map, refl, sym, ◌∙◌, ap, arith}
use Rattle.model_states.specs.declared.kind.Kind.TheVariants as kind
use Rattle.model_states.specs.Kinds.{is_sent}
use Rattle.page_layers.specs.declared.moves.Move.{Move}
use Rattle.model_history.specs.declared.event.Event.TheVariants as event
use Rattle.model_history.specs.declared.history.Entry.{Entry}
use Rattle.model_history.specs.Scripts.{ScriptModel}
use Rattle.model_history.specs.EventFields.{sends}
use Rattle.model_history.specs.Scans.{has_ended, newest, counted}
use Rattle.model_history.specs.Frames.{changes, pulls_in, pulls_of}
use Rattle.model_history.specs.Due.{due, on_if}
use Rattle.model_history.specs.DueParts.{due_ready, due_abort}
use Rattle.model_history.specs.Legal.{sched, can, Legal}
use Rattle.model_history.proofs.Course.{Course, course, sent_not_idle}
use Rattle.main_host.specs.Hosts.{HasRun, MainHostModel, IsEnd}
use Rattle.main_host.specs.declared.main_end.MainEnd.{MainEnd}
use Rattle.main_host.specs.declared.main_end.MainEnd.TheVariants as end
use Rattle.main_host.proofs.FramesRun.{tells}
use Rattle.proxy_single_thread.specs.inner.Ends.{is_ready}
use Rattle.proxy_single_thread.specs.inner.Sides.{IsEndOf}

-- how the frame ends that was run, with the pulls that it got

module _ (s : ScriptModel) (ps : ℕ → List Move) (k : ℕ) (host : MainHostModel) (ms : List Move) (run : HasRun s ps k host) (is : ms ≡ ps k) where
  told : changes host.script (pulls_in (host.sends ++ ms ∷ [])) (length host.sends) ≡ changes s ps k
  told = tells s ps k host ms run is

  pub ends_so : (e : MainEnd) → IsEnd host ms e → IsEndOf s ps k (host.sends ++ ms ∷ []) e
  ends_so (end.Ready c) i = (sym told ∙ i.0, i.1.frame ∙ run.count, i.1.script ∙ run.script, i.1.sends)
  ends_so (end.Abort frame) i = (sym told ∙ i.0, i.1 ∙ run.count)

-- a frame ends by a commit where it changes something
pub ready_tells : (s : ScriptModel) (ps : ℕ → List Move) (k : ℕ) (lists : List (List Move)) (e : MainEnd) → IsEndOf s ps k lists e → is_ready e ≡ changes s ps k
ready_tells s ps k lists (end.Ready c) i = sym i.0
ready_tells s ps k lists (end.Abort frame) i = sym i.0

-- ---- what may come of the main side

module _ (s : ScriptModel) (n : ℕ) (h : List Entry) (legal : Legal s n h) where
  c : Course h
  c = course s n h legal

  -- the frame in flight was sent last
  pub flies : is_sent (sched h).main_state ≡ true → (k : ℕ) → counted sends h ≡ suc k → newest sends h ≡ Some k
  flies t k total =
      let x = c.in_flight (sent_not_idle (sched h).main_state t) in
      let last : counted sends h ≡ suc x.0 = c.last_is x.0 x.1 in
      let same : x.0 ≡ k = omega (arith, last, total) in
      x.1 ∙ ap Some same

  pub some_last : (k : ℕ) → newest sends h ≡ Some k → counted sends h ≡ suc k
  some_last k e = c.last_is k e

  -- where nothing is told, no frame is in flight
  pub none_told : ◌≡◌ {A = Option (ℕ × List Move)} None (cond (is_sent (sched h).main_state) (option_map (λ j. (j, pulls_of h j)) (newest sends h)) None) → is_sent (sched h).main_state ≡ false
  none_told e = by_cases (is_sent (sched h).main_state) refl e
    where
      absent : (o : Option ℕ) (k : ℕ) → o ≡ Some k → ◌≡◌ {A = Option (ℕ × List Move)} None (option_map (λ j. (j, pulls_of h j)) o) → ⊥
      absent None k i e = absurd cc
      absent (Some j) k i e = absurd cc

      by_cases : (b : Bool) → is_sent (sched h).main_state ≡ b → ◌≡◌ {A = Option (ℕ × List Move)} None (cond b (option_map (λ j. (j, pulls_of h j)) (newest sends h)) None) → is_sent (sched h).main_state ≡ false
      by_cases false t e = t
      by_cases true t e = let x = c.in_flight (sent_not_idle (sched h).main_state t) in absurd (absent (newest sends h) x.0 x.1 e)

  module _ (going : has_ended h ≡ false) (t : is_sent (sched h).main_state ≡ true) (k : ℕ) (total : counted sends h ≡ suc k) where
    ready_due : can s h kind.Ready 1 ≡ on_if (changes s (pulls_of h) k) (event.Ready k)
    ready_due = (λ i. cond (not (going i) && t i) (due s h kind.Ready 1) None) ∙ ap (due_ready s h) (flies t k total)

    abort_due : can s h kind.Abort 1 ≡ on_if (not (changes s (pulls_of h) k)) (event.Abort k)
    abort_due = (λ i. cond (not (going i) && t i) (due s h kind.Abort 1) None) ∙ ap (due_abort s h) (flies t k total)

    pub ready_comes : changes s (pulls_of h) k ≡ true → can s h kind.Ready 1 ≡ Some (event.Ready k)
    ready_comes x = ready_due ∙ ap (λ b. on_if b (event.Ready k)) x

    pub abort_comes : changes s (pulls_of h) k ≡ false → can s h kind.Abort 1 ≡ Some (event.Abort k)
    abort_comes x = abort_due ∙ ap (λ b. on_if (not b) (event.Abort k)) x

    pub no_ready : changes s (pulls_of h) k ≡ false → can s h kind.Ready 1 ≡ None
    no_ready x = ready_due ∙ ap (λ b. on_if b (event.Ready k)) x

    pub no_abort : changes s (pulls_of h) k ≡ true → can s h kind.Abort 1 ≡ None
    no_abort x = abort_due ∙ ap (λ b. on_if (not b) (event.Abort k)) x
