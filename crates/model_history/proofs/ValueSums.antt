-- The five values kept step by step are the sums.
use Rattle.std.proofs.Common.{ℕ, ℤ, ◌≡◌, ◌⊎◌, inl, inr, suc, ◌+◌, ◌<◌, ◌≤◌, ◌==◌, pos, ◌+ℤ◌, ◌-ℤ◌, Bool, true, false, cond, ◌||◌, List, [], ◌∷◌, Option, Some, None, refl, sym, ◌∙◌, ap, arith}
use Rattle.std.specs.Option.{option_or}
use Rattle.std.proofs.lemmas.Int.{ints}
use Rattle.model_states.specs.declared.Synced.{Synced}
use Rattle.model_states.specs.Table as table
use Rattle.model_history.specs.declared.event.Event.{Event}
use Rattle.model_history.specs.declared.event.Event.TheVariants as event
use Rattle.page_layers.specs.declared.moves.Move.{Move}
use Rattle.model_history.specs.declared.history.Entry.{Entry}
use Rattle.model_history.specs.Scripts.{ScriptModel}
use Rattle.model_history.specs.EventFields.{sends, commits, aborts, activates, retires, moves}
use Rattle.model_history.specs.Scans.{names, was_named, counted}
use Rattle.page_layers.specs.Axes.{Axis, across, down, amount_in}
use Rattle.page_layers.specs.Scrollers.{main_value}
use Rattle.model_history.specs.Frames.{blank, page, main_move, pulls_of, active, pending, up_to}
use Rattle.model_history.specs.Scrolls.{plus_counted, sum_of_moves, main_moves, in_base, in_delta, by_send, base_of, base, delta, active_then, retired_then, pending_base, unsent, carried}
use Rattle.model_history.specs.Values.{values}
use Rattle.model_history.specs.ScrollLaws.{frame_in_flight, carried_by, AreSums}
use Rattle.model_history.specs.Legal.{sched, Next, Legal}
use Rattle.model_history.proofs.BoolFacts.{not_both, is_false, by_test, or_neither, same_number, is_same, is_other, none_where}
use Rattle.model_history.proofs.DueFacts.{entry, AtSend, at_send, AtAbort, at_abort, AtCommit, at_commit, AtActivate, at_activate}
use Rattle.model_history.proofs.Course.{Course, course, sent_not_idle, ready_not_idle}
use Rattle.model_history.proofs.PageFacts.{page_alike}
use Rattle.model_history.proofs.FrameFacts.{no_main_move, active_sent, active_then_sent}
use Rattle.model_history.proofs.MoveLists.{or_swap}
use Rattle.model_history.proofs.Sums.{added_is, added_not}
use Rattle.model_history.proofs.FrameSums.{main_moves_alike, main_moves_stop, main_value_after, retired_base, retired_delta, sent_base, sent_delta, sent_unsent, sent_carried, sent_others}
use Rattle.model_history.proofs.PastFacts.{not_retired, later_not_retired, pending_not_retired, pending_within, none_in_flight, InFlight, in_flight, amount_pulled}

-- how many frames have ended: those before the one in flight, or all that were sent
abbrev pub ended_to : Option ℕ → ℕ → ℕ
ended_to None total = total
ended_to (Some k) total = k

-- The five values are base, delta, pending base, and what the frame in flight and the pending commit were told. The delta is what is unsent and those two; what a frame was told is what its send carries; the pending base is the main value after all ended frames.
pub record SumsOf (v : Synced) (b d pb u m p main : ℤ) (lists carries : ℕ → ℤ) (sent : ℕ → Bool) : Type 0 where
  pub active_base : v.active_base ≡ b
  pub active_delta : v.active_delta ≡ d
  pub pending_base : v.pending_base ≡ pb
  pub reflected_main : v.reflected_main ≡ m
  pub reflected_pending : v.reflected_pending ≡ p
  pub parts : d ≡ (u +ℤ m) +ℤ p
  pub pulls : (k : ℕ) → sent k ≡ true → lists k ≡ carries k
  pub main_is : pb ≡ main

-- the main value after all ended frames
abbrev pub ended_value : ScriptModel → List Entry → ℕ → Axis → ℤ
ended_value s h sc ax = main_value (page s (pulls_of h) (ended_to (frame_in_flight h) (counted sends h))) sc ax

abbrev pub Sums : ScriptModel → ℕ → Axis → List Entry → Type 0
Sums s sc ax h = SumsOf (values s sc ax h) (base s h sc ax) (delta s h sc ax) (pending_base s h sc ax) (unsent s h sc ax)
    (carried_by s h (frame_in_flight h) sc ax) (carried_by s h (pending h) sc ax) (ended_value s h sc ax)
    (λ k. amount_in sc ax (pulls_of h k)) (λ k. carried s h k sc ax) (was_named sends h)

-- the frames that have settled, and the pending one
abbrev retired_with : Option ℕ → (ℕ → Bool) → ℕ → Bool
retired_with o f k = names o k || f k

-- arithmetic

told_all : (vd vp d p u m : ℤ) → vd ≡ d → vp ≡ p → d ≡ (u +ℤ m) +ℤ p → m ≡ pos 0 → vd -ℤ vp ≡ u
told_all vd vp d p u m a b e f = omega (arith, ints, a, b, e, f)

nothing_unsent : (d u m p u' m' : ℤ) → d ≡ (u +ℤ m) +ℤ p → m ≡ pos 0 → u' ≡ pos 0 → m' ≡ u → d ≡ (u' +ℤ m') +ℤ p
nothing_unsent d u m p u' m' e a b f = omega (arith, ints, e, a, b, f)

-- a send

send_case : (s : ScriptModel) (n : ℕ) (h : List Entry) (a k : ℕ) (ms : List Move) (sc : ℕ) (ax : Axis) → Course h → Sums s sc ax h
    → Next s n h (entry a (event.Send k ms)) → Sums s sc ax (entry a (event.Send k ms) ∷ h)
send_case s n h a k ms sc ax c m x = record {
  active_base = m.active_base ∙ sym (base_sent (active h) (was_named retires h) (ready (active h) (active_sent h c)) apart);
  active_delta = m.active_delta ∙ sym (sent_delta s h sc ax (was_named retires h) k apart);
  pending_base = m.pending_base ∙ sym pending_same;
  reflected_main = told_all (values s sc ax h).active_delta (values s sc ax h).reflected_pending (delta s h sc ax) (carried_by s h (pending h) sc ax) (unsent s h sc ax) (carried_by s h (frame_in_flight h) sc ax) m.active_delta m.reflected_pending m.parts idle ∙ sym told;
  reflected_pending = m.reflected_pending ∙ sym (pending_told (pending h) refl);
  parts = sent_delta s h sc ax (was_named retires h) k apart
      ∙ (nothing_unsent (delta s h sc ax) (unsent s h sc ax) (carried_by s h (frame_in_flight h) sc ax) (carried_by s h (pending h) sc ax) (unsent s g sc ax) (carried_by s g (frame_in_flight g) sc ax) m.parts idle (sent_unsent s h sc ax k) told
      ∙ ap (λ (z : ℤ). (unsent s g sc ax +ℤ carried_by s g (frame_in_flight g) sc ax) +ℤ z) (sym (pending_told (pending h) refl)));
  pulls = λ j e. by_test (k == j) (lists_new j) (λ t. lists_old j t (or_old (k == j) (was_named sends h j) t e));
  main_is = pending_same ∙ (m.main_is ∙ main_same);
}
  where
    t : AtSend s h k ms
    t = at_send s n h a k ms x

    g : List Entry
    g = entry a (event.Send k ms) ∷ h

    total : k ≡ counted sends h
    total = t.frame

    apart : was_named retires h k ≡ false
    apart = let l = total in later_not_retired h k c (omega arith)

    ready : (o : Option ℕ) → up_to o ≤ counted sends h → up_to o ≤ k
    ready o l = let e = total in omega arith

    pulls_below : (j : ℕ) → j < k → pulls_of g j ≡ pulls_of h j
    pulls_below j l = ap (λ b. cond b ms (pulls_of h j)) (is_other k j (λ e. absurd (omega arith)))

    base_sent : (on : Option ℕ) (f : ℕ → Bool) → up_to on ≤ k → f k ≡ false → base_of s g on f sc ax ≡ base_of s h on f sc ax
    base_sent on f l e =
        let p : main_moves s (pulls_of g) (was_named commits h) sc ax (up_to on) ≡ main_moves s (pulls_of h) (was_named commits h) sc ax (up_to on) =
        main_moves_alike s (pulls_of g) (pulls_of h) (was_named commits h) (was_named commits h) sc ax (up_to on) (λ j b. pulls_below j (omega arith)) (λ j b. refl) in
        let q : sum_of_moves s sc ax (in_base f) (Some k) h ≡ sum_of_moves s sc ax (in_base f) None h = sent_base s h sc ax f k e in
        λ i. p i +ℤ q i

    pending_other : (o : Option ℕ) → pending h ≡ o → names o k ≡ false
    pending_other None e = refl
    pending_other (Some j) e = let l = pending_within h (Some j) c e in let l' = total in is_other j k (λ i. absurd (omega arith))

    pending_same : pending_base s g sc ax ≡ pending_base s h sc ax
    pending_same =
        base_sent (active_then h) (retired_then h)
        (ready (active_then h) (active_then_sent h c))
        (or_neither (names (pending h) k) (was_named retires h k) (pending_other (pending h) refl) apart)

    idle : carried_by s h (frame_in_flight h) sc ax ≡ pos 0
    idle = ap (λ o. carried_by s h o sc ax) (none_in_flight h c t.main)

    flies : frame_in_flight g ≡ Some k
    flies =
        ap (λ b. cond b None (Some k)) (or_neither (was_named commits h k) (was_named aborts h k)
        (is_false (was_named commits h k) (λ e. let l = c.committed_below k e in let l' = total in absurd (omega arith)))
        (is_false (was_named aborts h k) (λ e. let l = c.aborted_below k e in let l' = total in absurd (omega arith))))

    carries_new : sum_of_moves s sc ax (by_send k) (Some k) h ≡ unsent s h sc ax
    carries_new = sent_carried s h sc ax k (λ j e. let l = c.sent_below j e in let l' = total in omega arith)

    told : carried_by s g (frame_in_flight g) sc ax ≡ unsent s h sc ax
    told = ap (λ o. carried_by s g o sc ax) flies ∙ carries_new

    pending_told : (o : Option ℕ) → pending h ≡ o → carried_by s g o sc ax ≡ carried_by s h o sc ax
    pending_told None e = refl
    pending_told (Some j) e = let l = pending_within h (Some j) c e in let l' = total in sent_others s h sc ax k j (is_other k j (λ i. absurd (omega arith)))

    or_old : (p q : Bool) → p ≡ false → (p || q) ≡ true → q ≡ true
    or_old true q f e = absurd (cc)
    or_old false q f e = e

    lists_new : (j : ℕ) → (k == j) ≡ true → amount_in sc ax (pulls_of g j) ≡ carried s g j sc ax
    lists_new j e =
        let i : k ≡ j = same_number k j e in
        ap (λ b. amount_in sc ax (cond b ms (pulls_of h j))) e
        ∙ (ap (amount_in sc ax) t.pulls ∙ (amount_pulled s h sc ax ∙ (sym carries_new ∙ ap (λ z. sum_of_moves s sc ax (by_send z) (Some k) h) i)))

    lists_old : (j : ℕ) → (k == j) ≡ false → was_named sends h j ≡ true → amount_in sc ax (pulls_of g j) ≡ carried s g j sc ax
    lists_old j e f = ap (λ b. amount_in sc ax (cond b ms (pulls_of h j))) e ∙ (m.pulls j f ∙ sym (sent_others s h sc ax k j e))

    main_same : ended_value s h sc ax ≡ ended_value s g sc ax
    main_same =
        ap (λ o. main_value (page s (pulls_of h) (ended_to o (counted sends h))) sc ax) (none_in_flight h c t.main)
        ∙ (ap (λ z. main_value (page s (pulls_of h) z) sc ax) (sym total)
        ∙ (ap (λ p. main_value p sc ax) (sym (page_alike s (pulls_of g) (pulls_of h) k pulls_below))
        ∙ ap (λ o. main_value (page s (pulls_of g) (ended_to o (suc (counted sends h)))) sc ax) (sym flies)))

-- an abort

base_more : (vb vm mm mb c new : ℤ) → vb ≡ mm +ℤ mb → vm ≡ c → new ≡ mb +ℤ c → vb +ℤ vm ≡ mm +ℤ new
base_more vb vm mm mb c new e f g = omega (arith, ints, e, f, g)

delta_less : (vd vm d c new : ℤ) → vd ≡ d → vm ≡ c → d ≡ new +ℤ c → vd -ℤ vm ≡ new
delta_less vd vm d c new e f g = omega (arith, ints, e, f, g)

abort_parts : (d new u m c m' p : ℤ) → d ≡ (u +ℤ m) +ℤ p → m ≡ c → d ≡ new +ℤ c → m' ≡ pos 0 → new ≡ (u +ℤ m') +ℤ p
abort_parts d new u m c m' p e f g i = omega (arith, ints, e, f, g, i)

abort_main : (pb mm mb new c main0 main1 mv pull : ℤ) → pb ≡ mm +ℤ mb → new ≡ mb +ℤ c → pb ≡ main0 → main1 ≡ (main0 +ℤ mv) +ℤ pull → mv ≡ pos 0 → pull ≡ c → mm +ℤ new ≡ main1
abort_main pb mm mb new c main0 main1 mv pull e f g i j k = omega (arith, ints, e, f, g, i, j, k)

abort_case : (s : ScriptModel) (n : ℕ) (h : List Entry) (a k : ℕ) (sc : ℕ) (ax : Axis) → Course h → Sums s sc ax h
    → Next s n h (entry a (event.Abort k)) → Course (entry a (event.Abort k) ∷ h) → Sums s sc ax (entry a (event.Abort k) ∷ h)
abort_case s n h a k sc ax c m x d = record {
  active_base = base_more (values s sc ax h).active_base (values s sc ax h).reflected_main (main_moves s (pulls_of h) (was_named commits h) sc ax (up_to (active h))) (sum_of_moves s sc ax (in_base (was_named retires h)) None h) (carried s h k sc ax)
      (sum_of_moves s sc ax (in_base (was_named retires g)) None h) m.active_base told (retired_base s h sc ax (was_named retires h) (was_named retires g) k (λ j. refl) apart);
  active_delta = delta_less (values s sc ax h).active_delta (values s sc ax h).reflected_main (delta s h sc ax) (carried s h k sc ax) (delta s g sc ax) m.active_delta told less;
  pending_base = base_more (values s sc ax h).pending_base (values s sc ax h).reflected_main (main_moves s (pulls_of h) (was_named commits h) sc ax (up_to (active_then h))) (sum_of_moves s sc ax (in_base (retired_then h)) None h) (carried s h k sc ax)
      (sum_of_moves s sc ax (in_base (retired_then g)) None h) m.pending_base told pending_more;
  reflected_main = sym idle;
  reflected_pending = m.reflected_pending;
  parts = abort_parts (delta s h sc ax) (delta s g sc ax) (unsent s h sc ax) (carried_by s h (frame_in_flight h) sc ax) (carried s h k sc ax) (carried_by s g (frame_in_flight g) sc ax) (carried_by s h (pending h) sc ax) m.parts flight less idle;
  pulls = m.pulls;
  main_is = abort_main (pending_base s h sc ax) (main_moves s (pulls_of h) (was_named commits h) sc ax (up_to (active_then h))) (sum_of_moves s sc ax (in_base (retired_then h)) None h) (sum_of_moves s sc ax (in_base (retired_then g)) None h) (carried s h k sc ax)
      (main_value (page s (pulls_of h) k) sc ax) (ended_value s g sc ax) (main_move s (pulls_of h) k sc ax) (amount_in sc ax (pulls_of h k)) refl pending_more (m.main_is ∙ main_then)
      (main_now ∙ main_value_after s (pulls_of h) k sc ax) (no_main_move s (pulls_of h) k t.unchanged sc ax) (m.pulls k (let z = fl.total in c.below_sent k (omega arith)));
}
  where
    g : List Entry
    g = entry a (event.Abort k) ∷ h

    t : AtAbort s h k
    t = at_abort s n h a k x

    fl : InFlight h k
    fl = in_flight h k c (sent_not_idle (sched h).main_state t.sent) t.last

    apart : was_named retires h k ≡ false
    apart = not_retired h k c fl.no_commit fl.no_abort

    flight : carried_by s h (frame_in_flight h) sc ax ≡ carried s h k sc ax
    flight = ap (λ o. carried_by s h o sc ax) fl.flies

    told : (values s sc ax h).reflected_main ≡ carried s h k sc ax
    told = m.reflected_main ∙ flight

    less : delta s h sc ax ≡ delta s g sc ax +ℤ carried s h k sc ax
    less = retired_delta s h sc ax (was_named retires h) (was_named retires g) k (λ j. refl) apart

    pending_other : (o : Option ℕ) → pending h ≡ o → names o k ≡ false
    pending_other None e = refl
    pending_other (Some j) e = is_other j k (λ i. not_both (was_named commits h k) (ap (was_named commits h) (sym i) ∙ c.pending_committed j e) fl.no_commit)

    pending_more : sum_of_moves s sc ax (in_base (retired_then g)) None h ≡ sum_of_moves s sc ax (in_base (retired_then h)) None h +ℤ carried s h k sc ax
    pending_more = retired_base s h sc ax (retired_then h) (retired_then g) k (λ j. or_swap (names (pending h) j) (k == j) (was_named retires h j))
        (or_neither (names (pending h) k) (was_named retires h k) (pending_other (pending h) refl) apart)

    none : frame_in_flight g ≡ None
    none = none_in_flight g d refl

    idle : carried_by s g (frame_in_flight g) sc ax ≡ pos 0
    idle = ap (λ o. carried_by s g o sc ax) none

    main_then : ended_value s h sc ax ≡ main_value (page s (pulls_of h) k) sc ax
    main_then = ap (λ o. main_value (page s (pulls_of h) (ended_to o (counted sends h))) sc ax) fl.flies

    main_now : ended_value s g sc ax ≡ main_value (page s (pulls_of h) (suc k)) sc ax
    main_now = ap (λ o. main_value (page s (pulls_of h) (ended_to o (counted sends h))) sc ax) none ∙ ap (λ z. main_value (page s (pulls_of h) z) sc ax) fl.total

-- a commit

commit_main : (main1 main0 mv pull mm mb c pb : ℤ) → main1 ≡ (main0 +ℤ mv) +ℤ pull → pb ≡ main0 → pb ≡ mm +ℤ mb → pull ≡ c → main1 ≡ (mm +ℤ mv) +ℤ (mb +ℤ c)
commit_main main1 main0 mv pull mm mb c pb e f g i = omega (arith, ints, e, f, g, i)

commit_parts : (d u m p c m' p' : ℤ) → d ≡ (u +ℤ m) +ℤ p → m ≡ c → p ≡ pos 0 → m' ≡ pos 0 → p' ≡ c → d ≡ (u +ℤ m') +ℤ p'
commit_parts d u m p c m' p' e f g i j = omega (arith, ints, e, f, g, i, j)

commit_case : (s : ScriptModel) (n : ℕ) (h : List Entry) (a k : ℕ) (sc : ℕ) (ax : Axis) → Course h → Sums s sc ax h
    → Next s n h (entry a (event.Commit k)) → Course (entry a (event.Commit k) ∷ h) → Sums s sc ax (entry a (event.Commit k) ∷ h)
commit_case s n h a k sc ax c m x d = record {
  active_base = m.active_base ∙ (λ i. sym (alike (up_to (active h)) (d.pending_from k pend)) i +ℤ sum_of_moves s sc ax (in_base (was_named retires h)) None h);
  active_delta = m.active_delta;
  pending_base = main_new ∙ sym pending_is;
  reflected_main = sym idle;
  reflected_pending = m.reflected_main ∙ (flight ∙ sym waits);
  parts = commit_parts (delta s h sc ax) (unsent s h sc ax) (carried_by s h (frame_in_flight h) sc ax) (carried_by s h (pending h) sc ax) (carried s h k sc ax) (carried_by s g (frame_in_flight g) sc ax) (carried_by s g (pending g) sc ax)
      m.parts flight (ap (λ o. carried_by s h o sc ax) none_pending) idle waits;
  pulls = m.pulls;
  main_is = pending_is ∙ (sym main_new ∙ sym main_now);
}
  where
    g : List Entry
    g = entry a (event.Commit k) ∷ h

    t : AtCommit h k
    t = at_commit s n h a k x

    fl : InFlight h k
    fl = in_flight h k c (ready_not_idle (sched h).main_state t.prepared) t.last

    apart : was_named retires h k ≡ false
    apart = not_retired h k c fl.no_commit fl.no_abort

    flight : carried_by s h (frame_in_flight h) sc ax ≡ carried s h k sc ax
    flight = ap (λ o. carried_by s h o sc ax) fl.flies

    not_yet : was_named activates h k ≡ false
    not_yet = is_false (was_named activates h k) (λ e. not_both (was_named commits h k) (c.activated_committed k e) fl.no_commit)

    pend : pending g ≡ Some k
    pend = ap (λ b. cond b None (Some k)) not_yet

    none_pending : pending h ≡ None
    none_pending = none_where (pending h) (sym c.pending_state ∙ t.none_pending)

    none : frame_in_flight g ≡ None
    none = none_in_flight g d refl

    idle : carried_by s g (frame_in_flight g) sc ax ≡ pos 0
    idle = ap (λ o. carried_by s g o sc ax) none

    waits : carried_by s g (pending g) sc ax ≡ carried s h k sc ax
    waits = ap (λ o. carried_by s g o sc ax) pend

    alike : (z : ℕ) → z ≤ k → main_moves s (pulls_of h) (was_named commits g) sc ax z ≡ main_moves s (pulls_of h) (was_named commits h) sc ax z
    alike z l = main_moves_alike s (pulls_of h) (pulls_of h) (was_named commits g) (was_named commits h) sc ax z (λ j b. refl) (λ j b. ap (λ q. q || was_named commits h j) (is_other k j (λ e. absurd (omega arith))))

    not_between : (j : ℕ) → up_to (active h) ≤ j → j < k → was_named commits h j ≡ false
    not_between j l b = is_false (was_named commits h j) (λ e. contrary (c.activated_or_pending j e))
      where
        contrary : (was_named activates h j ≡ true) ⊎ (pending h ≡ Some j) → ⊥
        contrary (inl e) = let u = c.activated_to j e in absurd (omega arith)
        contrary (inr e) = let u = none_pending in absurd (cc)

    mm : ℤ
    mm = main_moves s (pulls_of h) (was_named commits h) sc ax (up_to (active h))

    mb : ℤ
    mb = sum_of_moves s sc ax (in_base (was_named retires h)) None h

    own : was_named commits g k ≡ true
    own = ap (λ q. q || was_named commits h k) (is_same k k refl)

    pending_is : pending_base s g sc ax ≡ (mm +ℤ main_move s (pulls_of h) k sc ax) +ℤ (mb +ℤ carried s h k sc ax)
    pending_is =
        let e : main_moves s (pulls_of h) (was_named commits g) sc ax k ≡ mm = alike k (omega arith) ∙ main_moves_stop s (pulls_of h) (was_named commits h) sc ax (up_to (active h)) k (d.pending_from k pend) not_between in
        let f : sum_of_moves s sc ax (in_base (retired_with (Some k) (was_named retires h))) None h ≡ mb +ℤ carried s h k sc ax =
        retired_base s h sc ax (was_named retires h) (retired_with (Some k) (was_named retires h)) k (λ j. refl) apart in
        let o = own in
        ap (λ w. base_of s g (option_or w (active h)) (retired_with w (was_named retires h)) sc ax) pend
        ∙ (λ i. (e i +ℤ cond (o i) (main_move s (pulls_of h) k sc ax) (pos 0)) +ℤ f i)

    none_then : pending_base s h sc ax ≡ mm +ℤ mb
    none_then = ap (λ w. base_of s h (option_or w (active h)) (retired_with w (was_named retires h)) sc ax) none_pending

    main_then : ended_value s h sc ax ≡ main_value (page s (pulls_of h) k) sc ax
    main_then = ap (λ o. main_value (page s (pulls_of h) (ended_to o (counted sends h))) sc ax) fl.flies

    main_now : ended_value s g sc ax ≡ main_value (page s (pulls_of h) (suc k)) sc ax
    main_now = ap (λ o. main_value (page s (pulls_of h) (ended_to o (counted sends h))) sc ax) none ∙ ap (λ z. main_value (page s (pulls_of h) z) sc ax) fl.total

    main_new : main_value (page s (pulls_of h) (suc k)) sc ax ≡ (mm +ℤ main_move s (pulls_of h) k sc ax) +ℤ (mb +ℤ carried s h k sc ax)
    main_new = commit_main (main_value (page s (pulls_of h) (suc k)) sc ax) (main_value (page s (pulls_of h) k) sc ax) (main_move s (pulls_of h) k sc ax) (amount_in sc ax (pulls_of h k)) mm mb (carried s h k sc ax) (pending_base s h sc ax)
        (main_value_after s (pulls_of h) k sc ax) (m.main_is ∙ main_then) none_then (m.pulls k (let z = fl.total in c.below_sent k (omega arith)))

-- an activation

delta_moved : (vd vp d c new x : ℤ) → vd ≡ d → vp ≡ c → d ≡ new +ℤ c → (vd -ℤ vp) +ℤ x ≡ x +ℤ new
delta_moved vd vp d c new x e f g = omega (arith, ints, e, f, g)

activate_parts : (d new u m p c x m' p' : ℤ) → d ≡ (u +ℤ m) +ℤ p → p ≡ c → d ≡ new +ℤ c → m' ≡ m → p' ≡ pos 0 → x +ℤ new ≡ ((x +ℤ u) +ℤ m') +ℤ p'
activate_parts d new u m p c x m' p' e f g i j = omega (arith, ints, e, f, g, i, j)

activate_case : (s : ScriptModel) (n : ℕ) (h : List Entry) (a k : ℕ) (ms : List Move) (sc : ℕ) (ax : Axis) → Course h → Sums s sc ax h
    → Next s n h (entry a (event.Activate k ms)) → Course (entry a (event.Activate k ms) ∷ h) → Sums s sc ax (entry a (event.Activate k ms) ∷ h)
activate_case s n h a k ms sc ax c m x d = record {
  active_base = base_is;
  active_delta = delta_moved (values s sc ax h).active_delta (values s sc ax h).reflected_pending (delta s h sc ax) (carried s h k sc ax) (sum_of_moves s sc ax (in_delta (was_named retires g)) None h) (amount_in sc ax ms) m.active_delta (m.reflected_pending ∙ waits) less
      ∙ sym delta_is;
  pending_base = base_is ∙ sym pending_is;
  reflected_main = m.reflected_main ∙ sym (same (frame_in_flight h));
  reflected_pending = sym none_waits;
  parts = delta_is ∙ (activate_parts (delta s h sc ax) (sum_of_moves s sc ax (in_delta (was_named retires g)) None h) (unsent s h sc ax) (carried_by s h (frame_in_flight h) sc ax) (carried_by s h (pending h) sc ax) (carried s h k sc ax) (amount_in sc ax ms)
      (carried_by s g (frame_in_flight g) sc ax) (carried_by s g (pending g) sc ax) m.parts waits less (same (frame_in_flight h)) none_waits
      ∙ ap (λ (z : ℤ). (z +ℤ carried_by s g (frame_in_flight g) sc ax) +ℤ carried_by s g (pending g) sc ax) (sym (added_is sc ax ms true (unsent s h sc ax))));
  pulls = λ j e. m.pulls j e ∙ sym (added_not sc ax ms (carried s h j sc ax));
  main_is = pending_is ∙ (sym base_is ∙ (m.pending_base ∙ m.main_is));
}
  where
    g : List Entry
    g = entry a (event.Activate k ms) ∷ h

    t : AtActivate s h k ms
    t = at_activate s n h a k ms x

    apart : was_named retires h k ≡ false
    apart = pending_not_retired h k c t.frame

    waits : carried_by s h (pending h) sc ax ≡ carried s h k sc ax
    waits = ap (λ o. carried_by s h o sc ax) t.frame

    less : delta s h sc ax ≡ sum_of_moves s sc ax (in_delta (was_named retires g)) None h +ℤ carried s h k sc ax
    less = retired_delta s h sc ax (was_named retires h) (was_named retires g) k (λ j. refl) apart

    base_then : pending_base s h sc ax ≡ main_moves s (pulls_of h) (was_named commits h) sc ax (suc k) +ℤ sum_of_moves s sc ax (in_base (was_named retires g)) None h
    base_then = ap (λ w. base_of s h (option_or w (active h)) (retired_with w (was_named retires h)) sc ax) t.frame

    base_is : (values s sc ax h).pending_base ≡ base s g sc ax
    base_is = m.pending_base ∙ (base_then ∙ ap (λ (z : ℤ). main_moves s (pulls_of h) (was_named commits h) sc ax (suc k) +ℤ z) (sym (added_not sc ax ms (sum_of_moves s sc ax (in_base (was_named retires g)) None h))))

    delta_is : delta s g sc ax ≡ amount_in sc ax ms +ℤ sum_of_moves s sc ax (in_delta (was_named retires g)) None h
    delta_is = added_is sc ax ms true (sum_of_moves s sc ax (in_delta (was_named retires g)) None h)

    none : pending g ≡ None
    none = none_where (pending g) (sym d.pending_state)

    pending_is : pending_base s g sc ax ≡ base s g sc ax
    pending_is = ap (λ w. base_of s g (option_or w (Some k)) (retired_with w (was_named retires g)) sc ax) none

    same : (o : Option ℕ) → carried_by s g o sc ax ≡ carried_by s h o sc ax
    same None = refl
    same (Some j) = added_not sc ax ms (carried s h j sc ax)

    none_waits : carried_by s g (pending g) sc ax ≡ pos 0
    none_waits = ap (λ o. carried_by s g o sc ax) none

-- a scroll and a wheel

delta_added : (vd d x : ℤ) → vd ≡ d → vd +ℤ x ≡ x +ℤ d
delta_added vd d x e = omega (arith, ints, e)

moved_parts : (d u m p x m' p' : ℤ) → d ≡ (u +ℤ m) +ℤ p → m' ≡ m → p' ≡ p → x +ℤ d ≡ ((x +ℤ u) +ℤ m') +ℤ p'
moved_parts d u m p x m' p' e f g = omega (arith, ints, e, f, g)

moving : (sc : ℕ) (ax : Axis) (ms : List Move) (v : Synced) (mm mb d pm pb u m p main m' p' : ℤ) (lists carries carries' : ℕ → ℤ) (sent : ℕ → Bool)
    → SumsOf v (mm +ℤ mb) d (pm +ℤ pb) u m p main lists carries sent → m' ≡ m → p' ≡ p → ((k : ℕ) → carries' k ≡ carries k)
    → SumsOf (table.added (amount_in sc ax ms) v) (mm +ℤ plus_counted sc ax ms false mb) (plus_counted sc ax ms true d) (pm +ℤ plus_counted sc ax ms false pb) (plus_counted sc ax ms true u) m' p' main lists carries' sent
moving sc ax ms v mm mb d pm pb u m p main m' p' lists carries carries' sent c e f g = record {
  active_base = c.active_base ∙ ap (λ (z : ℤ). mm +ℤ z) (sym (added_not sc ax ms mb));
  active_delta = delta_added v.active_delta d (amount_in sc ax ms) c.active_delta ∙ sym (added_is sc ax ms true d);
  pending_base = c.pending_base ∙ ap (λ (z : ℤ). pm +ℤ z) (sym (added_not sc ax ms pb));
  reflected_main = c.reflected_main ∙ sym e;
  reflected_pending = c.reflected_pending ∙ sym f;
  parts = added_is sc ax ms true d ∙ (moved_parts d u m p (amount_in sc ax ms) m' p' c.parts e f ∙ ap (λ (z : ℤ). (z +ℤ m') +ℤ p') (sym (added_is sc ax ms true u)));
  pulls = λ k s. c.pulls k s ∙ sym (g k);
  main_is = ap (λ (z : ℤ). pm +ℤ z) (added_not sc ax ms pb) ∙ c.main_is;
}

moved_case : (s : ScriptModel) (h : List Entry) (ms : List Move) (sc : ℕ) (ax : Axis) (g : List Entry) → Sums s sc ax h → ((o : Option ℕ) → carried_by s g o sc ax ≡ carried_by s h o sc ax)
    → SumsOf (table.added (amount_in sc ax ms) (values s sc ax h))
    (main_moves s (pulls_of h) (was_named commits h) sc ax (up_to (active h)) +ℤ plus_counted sc ax ms false (sum_of_moves s sc ax (in_base (was_named retires h)) None h))
    (plus_counted sc ax ms true (delta s h sc ax))
    (main_moves s (pulls_of h) (was_named commits h) sc ax (up_to (active_then h)) +ℤ plus_counted sc ax ms false (sum_of_moves s sc ax (in_base (retired_then h)) None h))
    (plus_counted sc ax ms true (unsent s h sc ax)) (carried_by s g (frame_in_flight h) sc ax) (carried_by s g (pending h) sc ax) (ended_value s h sc ax)
    (λ k. amount_in sc ax (pulls_of h k)) (λ k. carried_by s g (Some k) sc ax) (was_named sends h)
moved_case s h ms sc ax g m same =
    moving sc ax ms (values s sc ax h) (main_moves s (pulls_of h) (was_named commits h) sc ax (up_to (active h))) (sum_of_moves s sc ax (in_base (was_named retires h)) None h) (delta s h sc ax)
    (main_moves s (pulls_of h) (was_named commits h) sc ax (up_to (active_then h))) (sum_of_moves s sc ax (in_base (retired_then h)) None h) (unsent s h sc ax)
    (carried_by s h (frame_in_flight h) sc ax) (carried_by s h (pending h) sc ax) (ended_value s h sc ax)
    (carried_by s g (frame_in_flight h) sc ax) (carried_by s g (pending h) sc ax)
    (λ k. amount_in sc ax (pulls_of h k)) (λ k. carried s h k sc ax) (λ k. carried_by s g (Some k) sc ax) (was_named sends h)
    m (same (frame_in_flight h)) (same (pending h)) (λ k. same (Some k))

scroll_case : (s : ScriptModel) (h : List Entry) (a i : ℕ) (dx dy : ℤ) (sc : ℕ) (ax : Axis) → Sums s sc ax h → Sums s sc ax (entry a (event.Scroll i dx dy) ∷ h)
scroll_case s h a i dx dy sc ax m = moved_case s h (moves s (event.Scroll i dx dy)) sc ax (entry a (event.Scroll i dx dy) ∷ h) m same
  where
    same : (o : Option ℕ) → carried_by s (entry a (event.Scroll i dx dy) ∷ h) o sc ax ≡ carried_by s h o sc ax
    same None = refl
    same (Some j) = added_not sc ax (moves s (event.Scroll i dx dy)) (carried s h j sc ax)

wheel_case : (s : ScriptModel) (h : List Entry) (a i target : ℕ) (x y : ℤ) (ms : List Move) (sc : ℕ) (ax : Axis) → Sums s sc ax h → Sums s sc ax (entry a (event.Wheel i target x y ms) ∷ h)
wheel_case s h a i target x y ms sc ax m = moved_case s h ms sc ax (entry a (event.Wheel i target x y ms) ∷ h) m same
  where
    same : (o : Option ℕ) → carried_by s (entry a (event.Wheel i target x y ms) ∷ h) o sc ax ≡ carried_by s h o sc ax
    same None = refl
    same (Some j) = added_not sc ax ms (carried s h j sc ax)

one_step : (s : ScriptModel) (n : ℕ) (h : List Entry) (a : ℕ) (e : Event) (sc : ℕ) (ax : Axis) → Course h → Sums s sc ax h → Next s n h (entry a e) → Course (entry a e ∷ h) → Sums s sc ax (entry a e ∷ h)
one_step s n h a (event.Send k ms) sc ax c m x d = send_case s n h a k ms sc ax c m x
one_step s n h a (event.Abort k) sc ax c m x d = abort_case s n h a k sc ax c m x d
one_step s n h a (event.Commit k) sc ax c m x d = commit_case s n h a k sc ax c m x d
one_step s n h a (event.Activate k ms) sc ax c m x d = activate_case s n h a k ms sc ax c m x d
one_step s n h a (event.Scroll i dx dy) sc ax c m x d = scroll_case s h a i dx dy sc ax m
one_step s n h a (event.Wheel i target rest_x rest_y parts) sc ax c m x d = wheel_case s h a i target rest_x rest_y parts sc ax m
one_step s n h a _ sc ax c m x d = m

none_yet : (s : ScriptModel) (sc : ℕ) (ax : Axis) → Sums s sc ax []
none_yet s sc ax = record {
  active_base = refl;
  active_delta = refl;
  pending_base = refl;
  reflected_main = refl;
  reflected_pending = refl;
  parts = refl;
  pulls = λ k e. absurd (cc);
  main_is = at_origin ax;
}
  where
    at_origin : (x : Axis) → pos 0 ≡ main_value (blank s) sc x
    at_origin across = refl
    at_origin down = refl

-- the sums in every legal past
pub sums : (s : ScriptModel) (n : ℕ) (sc : ℕ) (ax : Axis) (h : List Entry) → Legal s n h → Sums s sc ax h
sums s n sc ax [] l = none_yet s sc ax
sums s n sc ax (e ∷ h) l = one_step s n h e.actor e.event sc ax (course s n h l.0) (sums s n sc ax h l.0) l.1 (course s n (e ∷ h) l)

pub are_sums : (s : ScriptModel) (n : ℕ) (h : List Entry) (sc : ℕ) (ax : Axis) → Legal s n h → AreSums s h sc ax (values s sc ax h)
are_sums s n h sc ax l =
    let m = sums s n sc ax h l in
    record { active_base = m.active_base; active_delta = m.active_delta; pending_base = m.pending_base; reflected_main = m.reflected_main; reflected_pending = m.reflected_pending }
