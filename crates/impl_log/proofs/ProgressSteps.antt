-- The progress after one event more.
use Rattle.std.proofs.Common.{◌≡◌, ◌⊎◌, inl, inr, ℕ, suc, ◌-◌, ◌<◌, nat_lt, Bool, true, false, cond, List, ◌∷◌, length, Option, Some, None, refl, sym, ◌∙◌, ap, arith}
use Rattle.geom.specs.declared.tile.TileKey.{TileKey}
use Rattle.model_states.specs.Kinds.{is_main_idle}
use Rattle.model_history.specs.declared.event.Event.{Event}
use Rattle.model_history.specs.declared.event.Event.TheVariants as event
use Rattle.model_history.specs.declared.history.Entry.{Entry}
use Rattle.page_layers.specs.declared.moves.Move.{Move}
use Rattle.model_history.specs.Scripts.{ScriptModel}
use Rattle.model_history.specs.EventFields.{sends, commits, aborts, activates, uses}
use Rattle.model_history.specs.Scans.{was_named, newest, counted, one_more}
use Rattle.model_history.specs.Frames.{pending, unless_activated, has_frame_ended}
use Rattle.model_history.specs.Tiles.{in_flight}
use Rattle.model_history.specs.Legal.{sched, Next, Legal}
use Rattle.model_history.proofs.BoolFacts.{not_both, is_false, by_test, is_below, below, is_same, or_left, or_either}
use Rattle.model_history.proofs.DueFacts.{entry, at_commit, at_activate, at_done}
use Rattle.model_history.proofs.Course.{Course, course, flying, ready_not_idle, pending_last}
use Rattle.model_history.proofs.TileCourse.{tile_course}
use Rattle.model_steps.proofs.Picks.{shorter}
use Rattle.impl_log.specs.declared.progress.Progress.{Progress}
use Rattle.impl_log.specs.Progress.{progress, ended_of}
use Rattle.impl_log.specs.inner.Steps.{stepped}

-- a commit is pending once it comes
pub commit_pends : (s : ScriptModel) (n : ℕ) (h : List Entry) (a k : ℕ) → Legal s n h → Next s n h (entry a (event.Commit k)) → pending (entry a (event.Commit k) ∷ h) ≡ Some k
commit_pends s n h a k l x =
    let d = at_commit s n h a k x in
    let c : Course h = course s n h l in
    let f = flying c (ready_not_idle (sched h).main_state d.prepared) k d.last in
    ap (λ b. cond b None (Some k)) (is_false (was_named activates h k) (λ t. not_both (was_named commits h k) (c.activated_committed k t) f.1))

-- none is once it is activated
pub none_pends : (s : ScriptModel) (n : ℕ) (h : List Entry) (a k : ℕ) (ms : List Move) → Next s n h (entry a (event.Activate k ms)) → pending (entry a (event.Activate k ms) ∷ h) ≡ None
none_pends s n h a k ms x =
    let d = at_activate s n h a k ms x in
    ap (unless_activated (entry a (event.Activate k ms) ∷ h)) (pending_last h (newest commits h) k d.frame)
    ∙ ap (λ b. cond b None (Some k)) (or_left (_) (was_named activates h k) (is_same k k refl))

-- one fewer is in flight once a tile is made
pub one_fewer : (s : ScriptModel) (n : ℕ) (h : List Entry) (a w : ℕ) (q : TileKey) → Legal s n h → Next s n h (entry a (event.DoneTile w q))
    → suc (length (in_flight (entry a (event.DoneTile w q) ∷ h))) ≡ length (in_flight h)
one_fewer s n h a w q l x =
    let t = tile_course s n h l in
    shorter (in_flight h) q t.in_flight_once (t.held_in_flight w q (at_done s n h a w q x))

pub progress_step : (s : ScriptModel) (n : ℕ) (h : List Entry) (a : ℕ) (e : Event) → Legal s n h → Next s n h (entry a e) → progress (entry a e ∷ h) ≡ stepped e (progress h)
progress_step s n h a (event.Commit k) l x = ap (λ (o : Option ℕ). record (stepped (event.Commit k) (progress h)) { pending = o }) (commit_pends s n h a k l x)
progress_step s n h a (event.Activate k ms) l x = ap (λ (o : Option ℕ). record (stepped (event.Activate k ms) (progress h)) { pending = o }) (none_pends s n h a k ms x)
progress_step s n h a (event.DoneTile w q) l x =
    let fewer = one_fewer s n h a w q l x in
    let e : length (in_flight (entry a (event.DoneTile w q) ∷ h)) ≡ length (in_flight h) - 1 = omega arith in
    ap (λ (m : ℕ). record (stepped (event.DoneTile w q) (progress h)) { in_flight = m }) e
progress_step s n h a _ l x = refl

-- an event that uses an input counts it
pub inputs_step : (e : Event) (p : Progress) → (stepped e p).inputs ≡ one_more (uses e) p.inputs
inputs_step (event.Begin i) p = refl
inputs_step (event.Send k pulls) p = refl
inputs_step (event.Commit k) p = refl
inputs_step (event.Activate k clamps) p = refl
inputs_step (event.Start w q evicted) p = refl
inputs_step (event.DoneTile w q) p = refl
inputs_step _ p = refl

-- ---- which frames have ended

-- all but the one in flight, which was sent last
pub ended_is : (s : ScriptModel) (n : ℕ) (h : List Entry) (k : ℕ) → Legal s n h → has_frame_ended h k ≡ nat_lt k (ended_of (is_main_idle (sched h).main_state) (counted sends h))
ended_is s n h k l = by_idle (is_main_idle (sched h).main_state) refl
  where
    c : Course h
    c = course s n h l

    ended_below : has_frame_ended h k ≡ true → k < counted sends h
    ended_below t = by_end (or_either (was_named commits h k) (was_named aborts h k) t)
      where
        by_end : (was_named commits h k ≡ true) ⊎ (was_named aborts h k ≡ true) → k < counted sends h
        by_end (inl t) = c.committed_below k t
        by_end (inr t) = c.aborted_below k t

    -- told both ways
    agree : (m : ℕ) → (k < m → has_frame_ended h k ≡ true) → (has_frame_ended h k ≡ true → k < m) → has_frame_ended h k ≡ nat_lt k m
    agree m to from =
        by_test (has_frame_ended h k) (λ t. t ∙ sym (below k m (from t)))
        (λ f. f ∙ sym (is_false (nat_lt k m) (λ t. not_both (has_frame_ended h k) (to (is_below k m t)) f)))

    by_idle : (b : Bool) → is_main_idle (sched h).main_state ≡ b → has_frame_ended h k ≡ nat_lt k (ended_of b (counted sends h))
    by_idle true e = agree (counted sends h) (λ t. ended (c.ended_or_last k t)) ended_below
      where
        ended : (has_frame_ended h k ≡ true) ⊎ ((is_main_idle (sched h).main_state ≡ false) × (newest sends h ≡ Some k)) → has_frame_ended h k ≡ true
        ended (inl t) = t
        ended (inr x) = absurd (not_both (is_main_idle (sched h).main_state) e x.0)
    by_idle false e =
        let x = c.in_flight e in
        let total : counted sends h ≡ suc x.0 = c.last_is x.0 x.1 in
        agree (counted sends h - 1) (λ t. let below_all : k < counted sends h = omega arith in ended x.0 x.1 (omega arith) (c.ended_or_last k below_all)) (λ t. before_last x t (ended_below t) total)
      where
        ended : (j : ℕ) → newest sends h ≡ Some j → (k ≡ j → ⊥) → (has_frame_ended h k ≡ true) ⊎ ((is_main_idle (sched h).main_state ≡ false) × (newest sends h ≡ Some k)) → has_frame_ended h k ≡ true
        ended j last other (inl t) = t
        ended j last other (inr x) = let i : k ≡ j = same (sym x.1 ∙ last) in absurd (other i)
          where
            same : {x y : ℕ} → Some x ≡ Some y → x ≡ y
            same i = cc

        before_last : (x : (j : ℕ) × (newest sends h ≡ Some j) × (was_named commits h j ≡ false) × (was_named aborts h j ≡ false))
            → has_frame_ended h k ≡ true → k < counted sends h → counted sends h ≡ suc x.0 → k < counted sends h - 1
        before_last x t l total =
            let other : k ≡ x.0 → ⊥ = λ i. by_end (or_either (was_named commits h k) (was_named aborts h k) t) i in
            omega arith
          where
            by_end : (was_named commits h k ≡ true) ⊎ (was_named aborts h k ≡ true) → k ≡ x.0 → ⊥
            by_end (inl t) i = not_both (was_named commits h k) t (ap (was_named commits h) i ∙ x.2)
            by_end (inr t) i = not_both (was_named aborts h k) t (ap (was_named aborts h) i ∙ x.3)
