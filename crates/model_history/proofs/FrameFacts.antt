-- Frames that change nothing, and the pages of a legal past.
use Rattle.std.proofs.Common.{◌≡◌, ◌⊎◌, inl, inr, ℕ, suc, ◌<◌, ◌≤◌, ℤ, pos, ◌+ℤ◌, ◌-ℤ◌, Bool, true, false, cond, not, ◌==◌, ◌&&◌, ◌||◌, List, [], ◌∷◌, ◌++◌, Option, Some, None, refl, sym, ◌∙◌, ap, arith}
use Rattle.std.specs.List.{list_any}
use Rattle.std.specs.Option.{option_or}
use Rattle.std.specs.Ordering.{int_eq}
use Rattle.std.proofs.lemmas.Int.{ints}
use Rattle.std.proofs.lemmas.Bool.Decides.{Decides-int_eq}
use Rattle.std.proofs.lemmas.List.Folds.{list_any-append}
use Rattle.geom.specs.declared.rect.Point.{Point}
use Rattle.page_properties.specs.Entries as entries
use Rattle.page_layers.specs.Scrolls.{or_origin}
use Rattle.page_layers.specs.Pages.{Page}
use Rattle.page_layers.specs.Effects.{clamped_in, main_point, scrolled_by, page_after_pulls, commanded}
use Rattle.model_states.specs.Kinds.{is_ready_to_commit}
use Rattle.model_history.specs.declared.event.Event.{Event}
use Rattle.model_history.specs.declared.event.Event.TheVariants as event
use Rattle.page_layers.specs.declared.moves.Move.{Move}
use Rattle.model_history.specs.declared.history.Entry.{Entry}
use Rattle.model_history.specs.Scripts.{ScriptModel}
use Rattle.model_history.specs.EventFields.{sends, commits, aborts}
use Rattle.model_history.specs.Scans.{was_named, newest, counted}
use Rattle.page_layers.specs.Axes.{Axis, across, down, along, amount, amount_in, named_in}
use Rattle.page_layers.specs.Scrollers.{scrollers, main_value}
use Rattle.model_history.specs.Frames.{is_empty, commands_of, page, main_move, moves_main, changes, pulls_of, active, pending, up_to}
use Rattle.model_history.specs.Scrolls.{active_then}
use Rattle.model_history.specs.Legal.{sched, Next, Legal}
use Rattle.model_history.proofs.BoolFacts.{by_test, and_left, and_right, or_left_false, or_right_false, or_either, not_false, same_number, other_number, is_other}
use Rattle.model_history.proofs.DueFacts.{entry, at_send, at_ready, at_abort, at_commit}
use Rattle.model_history.proofs.Course.{Course, course}
use Rattle.model_history.proofs.NodeFacts.{find_other}
use Rattle.model_history.proofs.PageFacts.{page_alike, changes_alike}

-- scrollers that pulls do not name

-- whether the pulls name a scroller
abbrev pub is_named : List Move → ℕ → Bool
is_named ms sc = list_any (λ n. n == sc) (named_in ms)

pub amount_other : (sc : ℕ) (ax : Axis) (ms : List Move) → is_named ms sc ≡ false → amount_in sc ax ms ≡ pos 0
amount_other sc ax [] h = refl
amount_other sc ax (m ∷ ms) h =
    ap (λ b. cond b (amount ax m) (amount_in sc ax ms)) (or_left_false (m.scroller == sc) (is_named ms sc) h)
    ∙ amount_other sc ax ms (or_right_false (m.scroller == sc) (is_named ms sc) h)

scrolled_other : (p : Page) (id : ℕ) (dx dy : ℤ) (sc : ℕ) (ax : Axis) → (id == sc) ≡ false → main_value (scrolled_by p id dx dy) sc ax ≡ main_value p sc ax
scrolled_other p id dx dy sc ax h =
    ap (λ (o : Option Point). along ax (or_origin o))
    (find_other id sc (λ v. clamped_in (entries.find id p.props.scrollers) ((main_point p id).x +ℤ dx) ((main_point p id).y +ℤ dy)) p.values (other_number id sc h))

pub pulled_other : (sc : ℕ) (ax : Axis) (ms : List Move) (p : Page) → is_named ms sc ≡ false → main_value (page_after_pulls ms p) sc ax ≡ main_value p sc ax
pulled_other sc ax [] p h = refl
pulled_other sc ax (m ∷ ms) p h =
    pulled_other sc ax ms (scrolled_by p m.scroller m.dx m.dy) (or_right_false (m.scroller == sc) (is_named ms sc) h)
    ∙ scrolled_other p m.scroller m.dx m.dy sc ax (or_left_false (m.scroller == sc) (is_named ms sc) h)

-- frames that change nothing

empty_list : {A : Type 0} (xs : List A) → is_empty xs ≡ true → xs ≡ []
empty_list [] h = refl
empty_list (x ∷ xs) h = cc

-- it has no commands
pub no_commands : (s : ScriptModel) (ps : ℕ → List Move) (k : ℕ) → changes s ps k ≡ false → commands_of s k ≡ []
no_commands s ps k h =
    empty_list (commands_of s k) (not_false (is_empty (commands_of s k)) (or_left_false (not (is_empty (commands_of s k))) (list_any (moves_main s ps k) (scrollers (page s ps (suc k)) ++ named_in (ps k))) h))

-- so its page is the one before it with its pulls
pub unchanged_page : (s : ScriptModel) (ps : ℕ → List Move) (k : ℕ) → changes s ps k ≡ false → page s ps (suc k) ≡ page_after_pulls (ps k) (page s ps k)
unchanged_page s ps k h = ap (λ cs. commanded cs (page_after_pulls (ps k) (page s ps k))) (no_commands s ps k h)

no_one : (f : ℕ → Bool) (sc : ℕ) (ns : List ℕ) → list_any f ns ≡ false → list_any (λ n. n == sc) ns ≡ true → f sc ≡ false
no_one f sc [] h t = cc
no_one f sc (n ∷ ns) h t = by_test (n == sc)
    (λ e. ap f (sym (same_number n sc e)) ∙ or_left_false (f n) (list_any f ns) h)
    (λ e. no_one f sc ns (or_right_false (f n) (list_any f ns) h) (sym (ap (λ b. b || list_any (λ m. m == sc) ns) e) ∙ t))

is_still : (x y : ℤ) → not (int_eq x (pos 0) && int_eq y (pos 0)) ≡ false → (x ≡ pos 0) × (y ≡ pos 0)
is_still x y h =
    let b = not_false (int_eq x (pos 0) && int_eq y (pos 0)) h in
    let d = Decides-int_eq x (pos 0) in
    let e = Decides-int_eq y (pos 0) in
    (d.0 (and_left (int_eq x (pos 0)) (int_eq y (pos 0)) b), e.0 (and_right (int_eq x (pos 0)) (int_eq y (pos 0)) b))

no_move : (v : ℤ) → (v -ℤ v) -ℤ pos 0 ≡ pos 0
no_move v = omega (arith, ints)

-- it has no main move of any scroller
pub no_main_move : (s : ScriptModel) (ps : ℕ → List Move) (k : ℕ) → changes s ps k ≡ false → (sc : ℕ) (ax : Axis) → main_move s ps k sc ax ≡ pos 0
no_main_move s ps k h sc ax = by_test (is_named (ps k) sc) (λ t. named ax (is_still (main_move s ps k sc across) (main_move s ps k sc down) (still t))) unnamed
  where
    all_still : list_any (moves_main s ps k) (named_in (ps k)) ≡ false
    all_still =
        let ns = scrollers (page s ps (suc k)) in
        or_right_false (list_any (moves_main s ps k) ns) (list_any (moves_main s ps k) (named_in (ps k)))
        (sym (list_any-append (moves_main s ps k) ns (named_in (ps k))) ∙ or_right_false (not (is_empty (commands_of s k))) (list_any (moves_main s ps k) (ns ++ named_in (ps k))) h)

    still : is_named (ps k) sc ≡ true → moves_main s ps k sc ≡ false
    still t = no_one (moves_main s ps k) sc (named_in (ps k)) all_still t

    named : (a : Axis) → (main_move s ps k sc across ≡ pos 0) × (main_move s ps k sc down ≡ pos 0) → main_move s ps k sc a ≡ pos 0
    named across x = x.0
    named down x = x.1

    unnamed : is_named (ps k) sc ≡ false → main_move s ps k sc ax ≡ pos 0
    unnamed t =
        let v : main_value (page s ps (suc k)) sc ax ≡ main_value (page s ps k) sc ax =
        ap (λ (p : Page). main_value p sc ax) (unchanged_page s ps k h) ∙ pulled_other sc ax (ps k) (page s ps k) t in
        let z : amount_in sc ax (ps k) ≡ pos 0 = amount_other sc ax (ps k) t in
        (λ i. (v i -ℤ main_value (page s ps k) sc ax) -ℤ z i) ∙ no_move (main_value (page s ps k) sc ax)

-- the pages of a legal past

-- the pulls of the frames that were sent stay
pub pulls_stay : (s : ScriptModel) (n : ℕ) (h : List Entry) (a : ℕ) (e : Event) → Next s n h (entry a e) → (k : ℕ) → k < counted sends h
    → pulls_of (entry a e ∷ h) k ≡ pulls_of h k
pulls_stay s n h a (event.Send j ms) x k l =
    let d = at_send s n h a j ms x in
    let i : j ≡ counted sends h = d.frame in
    let o : (j == k) ≡ false = is_other j k (λ (m : j ≡ k). omega arith) in
    ap (λ b. cond b ms (pulls_of h k)) o
pulls_stay s n h a _ x k l = refl

-- and the pages after them
pub page_stays : (s : ScriptModel) (n : ℕ) (h : List Entry) (a : ℕ) (e : Event) → Next s n h (entry a e) → (m : ℕ) → m ≤ counted sends h
    → page s (pulls_of (entry a e ∷ h)) m ≡ page s (pulls_of h) m
page_stays s n h a e x m l = page_alike s (pulls_of (entry a e ∷ h)) (pulls_of h) m (λ k j. pulls_stay s n h a e x k (omega arith))

-- the frame of the active commit was sent, and so was the one that is active where the pending commit is
pub active_sent : (h : List Entry) → Course h → up_to (active h) ≤ counted sends h
active_sent h c = sent_to (active h) refl
  where
    sent_to : (o : Option ℕ) → active h ≡ o → up_to o ≤ counted sends h
    sent_to None e = omega arith
    sent_to (Some k) e = let l = c.committed_below k (c.activated_committed k (c.active_activated k e)) in omega arith

pub active_then_sent : (h : List Entry) → Course h → up_to (active_then h) ≤ counted sends h
active_then_sent h c = sent_to (pending h) refl
  where
    sent_to : (o : Option ℕ) → pending h ≡ o → up_to (active_then h) ≤ counted sends h
    sent_to None e = let l = active_sent h c in let i : active_then h ≡ active h = ap (λ o. option_or o (active h)) e in let j : up_to (active_then h) ≡ up_to (active h) = ap up_to i in omega arith
    sent_to (Some k) e =
        let l = c.committed_below k (c.pending_committed k e) in
        let i : active_then h ≡ Some k = ap (λ o. option_or o (active h)) e in
        let j : up_to (active_then h) ≡ suc k = ap up_to i in
        omega arith

-- what changed: an aborted frame changes nothing, a committed one does, and so does one that is ready to be
pub record ChangesOf (changed : ℕ → Bool) (prepared : Bool) (last : Option ℕ) (committed aborted : ℕ → Bool) : Type 0 where
  pub aborted_unchanged : (k : ℕ) → aborted k ≡ true → changed k ≡ false
  pub committed_changed : (k : ℕ) → committed k ≡ true → changed k ≡ true
  pub prepared_changed : (k : ℕ) → prepared ≡ true → last ≡ Some k → changed k ≡ true

abbrev pub Changes : ScriptModel → List Entry → Type 0
Changes s h = ChangesOf (changes s (pulls_of h)) (is_ready_to_commit (sched h).main_state) (newest sends h) (was_named commits h) (was_named aborts h)

named_case : {P : Type 0} (k j : ℕ) (b : Bool) → (k == j) || b ≡ true → (k ≡ j → P) → (b ≡ true → P) → P
named_case {P = P} k j b t f g = by_or (or_either (k == j) b t)
  where
    by_or : ((k == j) ≡ true) ⊎ (b ≡ true) → P
    by_or (inl e) = f (same_number k j e)
    by_or (inr u) = g u

one_step : (s : ScriptModel) (n : ℕ) (h : List Entry) (a : ℕ) (e : Event) → Course h → Changes s h → Next s n h (entry a e) → Changes s (entry a e ∷ h)
one_step s n h a (event.Send j ms) c r x =
    let same : (k : ℕ) → k < counted sends h → changes s (pulls_of (entry a (event.Send j ms) ∷ h)) k ≡ changes s (pulls_of h) k =
    λ k l. changes_alike s (pulls_of (entry a (event.Send j ms) ∷ h)) (pulls_of h) k (λ i m. pulls_stay s n h a (event.Send j ms) x i (omega arith)) in
    record {
      aborted_unchanged = λ k t. same k (c.aborted_below k t) ∙ r.aborted_unchanged k t;
      committed_changed = λ k t. same k (c.committed_below k t) ∙ r.committed_changed k t;
      prepared_changed = λ k t i. absurd cc;
    }
one_step s n h a (event.Ready j) c r x =
    let d = at_ready s n h a j x in
    let last : newest sends h ≡ Some j = d.last in
    record {
      aborted_unchanged = r.aborted_unchanged;
      committed_changed = r.committed_changed;
      prepared_changed = λ k t i. let m : j ≡ k = cc in ap (changes s (pulls_of h)) (sym m) ∙ d.changes;
    }
one_step s n h a (event.Abort j) c r x =
    let d = at_abort s n h a j x in
    record {
      aborted_unchanged = λ k t. named_case j k (was_named aborts h k) t (λ i. ap (changes s (pulls_of h)) (sym i) ∙ d.unchanged) (r.aborted_unchanged k);
      committed_changed = r.committed_changed;
      prepared_changed = λ k t i. absurd cc;
    }
one_step s n h a (event.Commit j) c r x =
    let d = at_commit s n h a j x in
    record {
      aborted_unchanged = r.aborted_unchanged;
      committed_changed = λ k t. named_case j k (was_named commits h k) t (λ i. ap (changes s (pulls_of h)) (sym i) ∙ r.prepared_changed j d.prepared d.last) (r.committed_changed k);
      prepared_changed = λ k t i. absurd cc;
    }
one_step s n h a _ c r x = r

pub changes_course : (s : ScriptModel) (n : ℕ) (h : List Entry) → Legal s n h → Changes s h
changes_course s n [] l = record { aborted_unchanged = λ k t. absurd cc; committed_changed = λ k t. absurd cc; prepared_changed = λ k t i. absurd cc }
changes_course s n (e ∷ h) l = one_step s n h e.actor e.event (course s n h l.0) (changes_course s n h l.0) l.1
