-- Each entry of a legal past moves a scroller by what it accepts, and by the main moves that it makes active.
use Rattle.std.proofs.Common.{ℕ, ℤ, ◌≡◌, ◌⊎◌, inl, inr, zero, suc, ◌<◌, ◌≤◌, ◌==◌, pos, ◌+ℤ◌, Bool, true, false, cond, ◌&&◌, ◌||◌, List, [], ◌∷◌, Option, Some, None, refl, sym, ◌∙◌, ap, arith}
use Rattle.std.specs.Prelude.{nat_le}
use Rattle.std.proofs.lemmas.Int.{ints}
use Rattle.std.proofs.lemmas.Bool.Decides.{nat_tests}
use Rattle.page_layers.specs.Axes.{Axis, amount_in}
use Rattle.page_layers.specs.declared.moves.Move.{Move}
use Rattle.model_history.specs.declared.event.Event.{Event}
use Rattle.model_history.specs.declared.event.Event.TheVariants as event
use Rattle.model_history.specs.declared.history.Entry.{Entry}
use Rattle.model_history.specs.Scripts.{ScriptModel}
use Rattle.model_history.specs.EventFields.{commits, activates, moves}
use Rattle.model_history.specs.Scans.{was_named, counted}
use Rattle.model_history.specs.Frames.{main_move, pulls_of, active, pending, up_to}
use Rattle.model_history.specs.Scrolls.{main_moves, offset, all_moved}
use Rattle.model_history.specs.FrameLaws.{AtEach}
use Rattle.model_history.specs.Legal.{sched, Next, Legal}
use Rattle.model_history.proofs.BoolFacts.{not_both, is_false, by_test, same_number, other_number, is_other}
use Rattle.model_history.proofs.DueFacts.{entry, AtCommit, at_commit, at_activate}
use Rattle.model_history.proofs.Course.{Course, course, ready_not_idle}
use Rattle.model_history.proofs.FrameFacts.{pulls_stay, active_sent}
use Rattle.model_history.proofs.FrameSums.{main_moves_alike, main_moves_stop}
use Rattle.model_history.proofs.PastFacts.{InFlight, in_flight}
use Rattle.model_history.proofs.Sums.{offset_is, all_more}
use Rattle.player_run.specs.Scrolled.{is_committed_later, moves_activated, MovesOnce}

-- ---- main moves from a frame on

plain : (z : ℤ) → z ≡ z +ℤ pos 0
plain z = omega (arith, ints)

to_end : (m k : ℕ) → m ≤ k → nat_le m k ≡ true
to_end m k l = grind (arith, nat_tests)

too_early : (m k : ℕ) → k < m → nat_le m k ≡ false
too_early m k l = grind (arith, nat_tests)

and_true : (a b : Bool) → b ≡ true → a ≡ (a && b)
and_true true b e = sym e
and_true false b e = refl

and_false : (a b : Bool) → b ≡ false → (a && b) ≡ false
and_false true b e = e
and_false false b e = refl

last_or_within : (m n : ℕ) → m ≤ suc n → (m ≡ suc n) ⊎ (m ≤ n)
last_or_within m n l = by_test (m == suc n) (λ t. inl (same_number m (suc n) t)) (λ t. inr (below (other_number m (suc n) t)))
  where
    below : (m ≡ suc n → ⊥) → m ≤ n
    below f = omega arith

regroup : (a b c d : ℤ) → a ≡ b +ℤ c → a +ℤ d ≡ b +ℤ (c +ℤ d)
regroup a b c d e = omega (arith, ints, e)

module _ (s : ScriptModel) (ps : ℕ → List Move) (f : ℕ → Bool) (sc : ℕ) (ax : Axis) (m : ℕ) where
  -- these frames count, from frame m on
  from : ℕ → Bool
  from k = f k && nat_le m k

  -- none does before it
  none_before : main_moves s ps from sc ax m ≡ pos 0
  unfolding from
  none_before = main_moves_stop s ps from sc ax 0 m (omega arith) (λ k l b. and_false (f k) (nat_le m k) (too_early m k b))

  -- the main moves of the first n frames are those of the first m, and those from there on
  main_moves_cut : (n : ℕ) → m ≤ n → main_moves s ps f sc ax n ≡ main_moves s ps f sc ax m +ℤ main_moves s ps from sc ax n
  unfolding from
  main_moves_cut zero l =
      let e : m ≡ 0 = omega arith in
      plain (pos 0) ∙ ap (λ (k : ℕ). main_moves s ps f sc ax k +ℤ pos 0) (sym e)
  main_moves_cut (suc n) l = go (last_or_within m n l) (λ b. main_moves_cut n b)
    where
      go : (m ≡ suc n) ⊎ (m ≤ n) → (m ≤ n → main_moves s ps f sc ax n ≡ main_moves s ps f sc ax m +ℤ main_moves s ps from sc ax n)
          → main_moves s ps f sc ax (suc n) ≡ main_moves s ps f sc ax m +ℤ main_moves s ps from sc ax (suc n)
      go (inl e) rest =
          let none : main_moves s ps from sc ax (suc n) ≡ pos 0 = ap (main_moves s ps from sc ax) (sym e) ∙ none_before in
          let all : main_moves s ps f sc ax (suc n) ≡ main_moves s ps f sc ax m = ap (main_moves s ps f sc ax) (sym e) in
          all ∙ (plain (main_moves s ps f sc ax m) ∙ ap (λ (z : ℤ). main_moves s ps f sc ax m +ℤ z) (sym none))
      go (inr b) rest =
          let more = cond (f n) (main_move s ps n sc ax) (pos 0) in
          regroup (main_moves s ps f sc ax n) (main_moves s ps f sc ax m) (main_moves s ps from sc ax n) more (rest b)
          ∙ ap (λ (t : Bool). main_moves s ps f sc ax m +ℤ (main_moves s ps from sc ax n +ℤ cond t (main_move s ps n sc ax) (pos 0))) (and_true (f n) (nat_le m n) (to_end m n b))

-- ---- the main moves of the committed frames up to the active one, after an entry

abbrev active_moves : ScriptModel → List Entry → ℕ → Axis → ℤ
active_moves s h sc ax = main_moves s (pulls_of h) (was_named commits h) sc ax (up_to (active h))

commit_step : (s : ScriptModel) (n : ℕ) (h : List Entry) (a k : ℕ) (sc : ℕ) (ax : Axis) → Course h → Next s n h (entry a (event.Commit k)) → Course (entry a (event.Commit k) ∷ h)
    → active_moves s (entry a (event.Commit k) ∷ h) sc ax ≡ active_moves s h sc ax
commit_step s n h a k sc ax c x d =
    main_moves_alike s (pulls_of h) (pulls_of h) (was_named commits (entry a (event.Commit k) ∷ h)) (was_named commits h) sc ax (up_to (active h)) (λ j b. refl)
    (λ j b. let l = d.pending_from k pend in ap (λ q. q || was_named commits h j) (is_other k j (λ e. absurd (omega arith))))
  where
    t : AtCommit h k
    t = at_commit s n h a k x

    fl : InFlight h k
    fl = in_flight h k c (ready_not_idle (sched h).main_state t.prepared) t.last

    not_yet : was_named activates h k ≡ false
    not_yet = is_false (was_named activates h k) (λ e. not_both (was_named commits h k) (c.activated_committed k e) fl.no_commit)

    pend : pending (entry a (event.Commit k) ∷ h) ≡ Some k
    pend = ap (λ b. cond b None (Some k)) not_yet

active_step : (s : ScriptModel) (n : ℕ) (h : List Entry) (a : ℕ) (e : Event) (sc : ℕ) (ax : Axis) → Course h → Next s n h (entry a e) → Course (entry a e ∷ h)
    → active_moves s (entry a e ∷ h) sc ax ≡ active_moves s h sc ax +ℤ moves_activated s h e sc ax
unfolding from
active_step s n h a (event.Send k ms) sc ax c x d =
    main_moves_alike s (pulls_of (entry a (event.Send k ms) ∷ h)) (pulls_of h) (was_named commits h) (was_named commits h) sc ax (up_to (active h))
    (λ j b. let l = active_sent h c in pulls_stay s n h a (event.Send k ms) x j (omega arith)) (λ j b. refl)
    ∙ plain (active_moves s h sc ax)
active_step s n h a (event.Commit k) sc ax c x d = commit_step s n h a k sc ax c x d ∙ plain (active_moves s h sc ax)
active_step s n h a (event.Activate k ms) sc ax c x d =
    let l = c.pending_from k (at_activate s n h a k ms x).frame in
    main_moves_cut s (pulls_of h) (was_named commits h) sc ax (up_to (active h)) (suc k) (omega arith)
active_step s n h a _ sc ax c x d = plain (active_moves s h sc ax)

-- ---- an offset after an entry

offset_parts : (new old base base_old all all_old own more : ℤ) → new ≡ base +ℤ all → old ≡ base_old +ℤ all_old → all ≡ own +ℤ all_old → base ≡ base_old +ℤ more → new ≡ (old +ℤ own) +ℤ more
offset_parts new old base base_old all all_old own more e f g i = omega (arith, ints, e, f, g, i)

moved_at : (s : ScriptModel) (n : ℕ) (h : List Entry) (e : Entry) (sc : ℕ) (ax : Axis) → Legal s n (e ∷ h)
    → offset s (e ∷ h) sc ax ≡ (offset s h sc ax +ℤ amount_in sc ax (moves s e.event)) +ℤ moves_activated s h e.event sc ax
moved_at s n h e sc ax l =
    offset_parts (offset s (e ∷ h) sc ax) (offset s h sc ax) (active_moves s (e ∷ h) sc ax) (active_moves s h sc ax) (all_moved s (e ∷ h) sc ax) (all_moved s h sc ax) (amount_in sc ax (moves s e.event)) (moves_activated s h e.event sc ax)
    (offset_is s (e ∷ h) sc ax) (offset_is s h sc ax) (all_more s h e sc ax) (active_step s n h e.actor e.event sc ax (course s n h l.0) l.1 (course s n (e ∷ h) l))

-- at each entry of a legal past
pub moved_at_each : (s : ScriptModel) (n : ℕ) (h : List Entry) → Legal s n h
    → AtEach (MovesOnce s) h
moved_at_each s n [] l = tt
moved_at_each s n (e ∷ h) l = (moved_at_each s n h l.0, λ sc ax. moved_at s n h e sc ax l)

-- before all of them each scroller stands at 0
pub first_at_origin : (s : ScriptModel) (sc : ℕ) (ax : Axis) → offset s [] sc ax ≡ pos 0
first_at_origin s sc ax = refl
