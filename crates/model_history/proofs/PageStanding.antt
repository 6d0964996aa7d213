-- The pages of a legal past: their scrollers and ranges, up to the frames that have ended.
use Rattle.std.proofs.Common.{ℕ, ℤ, ◌≡◌, ◌⊎◌, inl, inr, zero, suc, ◌<◌, ◌≤◌, ◌==◌, nat_lt, pos, Bool, true, false, cond, ◌||◌, List, [], ◌∷◌, Option, Some, None, is_some, refl, sym, ◌∙◌, ap, arith}
use Rattle.std.specs.Option.{option_or}
use Rattle.std.proofs.lemmas.Int.{ints, clamps}
use Rattle.page_properties.specs.declared.nodes.ScrollNode.{ScrollNode}
use Rattle.page_properties.specs.Entries.{ids, put_id, rising, find, knows}
use Rattle.page_layers.specs.Scrolls.{clamp_to}
use Rattle.page_layers.specs.Pages.{Page}
use Rattle.model_states.specs.Kinds.{is_main_idle}
use Rattle.page_layers.specs.declared.moves.Move.{Move}
use Rattle.model_history.specs.declared.history.Entry.{Entry}
use Rattle.model_history.specs.Scripts.{ScriptModel}
use Rattle.model_history.specs.EventFields.{sends, commits, aborts, activates}
use Rattle.model_history.specs.Scans.{was_named, newest, counted}
use Rattle.page_layers.specs.Axes.{Axis}
use Rattle.page_layers.specs.Scrollers.{scrollers, has_scroller, end_of, most}
use Rattle.model_history.specs.Frames.{page, changes, pulls_of, active, pending, up_to, has_frame_ended}
use Rattle.model_history.specs.Scrolls.{active_then, pending_base}
use Rattle.model_history.specs.ScrollLaws.{frame_in_flight}
use Rattle.model_history.specs.Legal.{sched, Legal}
use Rattle.model_history.proofs.BoolFacts.{not_both, by_test, or_either, same_number, other_number}
use Rattle.model_history.proofs.Course.{Course, course}
use Rattle.model_history.proofs.PageRanges.{page_in_range, pulled_has, pulled_most}
use Rattle.model_history.proofs.FrameFacts.{unchanged_page, Changes, changes_course, active_then_sent}
use Rattle.model_history.proofs.MoveLists.{has, or_swap}
use Rattle.model_history.proofs.PastFacts.{InFlight, in_flight, none_in_flight}
use Rattle.model_history.proofs.ValueSums.{ended_to, ended_value, sums}

-- the list of a page's scrollers has those that the page has

has_put : (id sc : ℕ) (xs : List ℕ) → has (put_id id xs) sc ≡ ((id == sc) || has xs sc)
has_put id sc [] = refl
has_put id sc (x ∷ xs) = go (nat_lt x id) (has_put id sc xs)
  where
    go : (b : Bool) → has (put_id id xs) sc ≡ ((id == sc) || has xs sc) → has (cond b (x ∷ put_id id xs) (id ∷ x ∷ xs)) sc ≡ ((id == sc) || ((x == sc) || has xs sc))
    go true rest = ap (λ b. (x == sc) || b) rest ∙ or_swap (x == sc) (id == sc) (has xs sc)
    go false rest = refl

pub has_rising : (sc : ℕ) (xs : List ℕ) → has (rising xs) sc ≡ has xs sc
has_rising sc [] = refl
has_rising sc (x ∷ xs) = has_put x sc (rising xs) ∙ ap (λ b. (x == sc) || b) (has_rising sc xs)

knows_if : {N : Type 0} (b : Bool) (n : N) (o : Option N) → (b || is_some o) ≡ is_some (cond b (Some n) o)
knows_if true n o = refl
knows_if false n o = refl

pub has_ids : {N : Type 0} (sc : ℕ) (nodes : List (ℕ × N)) → has (ids nodes) sc ≡ knows sc nodes
has_ids sc [] = refl
has_ids sc (e ∷ older) = ap (λ b. (e.0 == sc) || b) (has_ids sc older) ∙ knows_if (e.0 == sc) e.1 (find sc older)

pub has_listed : (p : Page) (sc : ℕ) → has (scrollers p) sc ≡ has_scroller p sc
has_listed p sc = has_rising sc (ids p.props.scrollers) ∙ has_ids sc p.props.scrollers

-- a page without a scroller has no range for it, and only 0 fits there

no_range : (o : Option ScrollNode) (ax : Axis) → is_some o ≡ false → end_of o ax ≡ 0
no_range None ax e = refl
no_range (Some n) ax e = absurd (cc)

pub most_absent : (p : Page) (sc : ℕ) (ax : Axis) → has_scroller p sc ≡ false → most p sc ax ≡ 0
most_absent p sc ax e = no_range (find sc p.props.scrollers) ax e

only_zero : (z : ℤ) → clamp_to 0 z ≡ z → z ≡ pos 0
unfolding clamp_to
only_zero z e = omega (arith, ints, clamps, e)

pub zero_absent : (p : Page) (sc : ℕ) (ax : Axis) (z : ℤ) → has_scroller p sc ≡ false → clamp_to (most p sc ax) z ≡ z → z ≡ pos 0
zero_absent p sc ax z e f = only_zero z (ap (λ m. clamp_to m z) (sym (most_absent p sc ax e)) ∙ f)

-- frames that change nothing leave the scrollers and their ranges

pub ranges_stay : (s : ScriptModel) (ps : ℕ → List Move) (m n sc : ℕ) (ax : Axis) → m ≤ n → ((j : ℕ) → m ≤ j → j < n → changes s ps j ≡ false)
    → (has_scroller (page s ps n) sc ≡ has_scroller (page s ps m) sc) × (most (page s ps n) sc ax ≡ most (page s ps m) sc ax)
ranges_stay s ps m zero sc ax l f = let e : m ≡ 0 = omega arith in (ap (λ z. has_scroller (page s ps z) sc) (sym e), ap (λ z. most (page s ps z) sc ax) (sym e))
ranges_stay s ps m (suc n) sc ax l f = by_test (m == suc n) same (λ t. later (lower (other_number m (suc n) t)) (ranges_stay s ps m n sc ax (lower (other_number m (suc n) t)) (λ j a b. f j a (omega arith))))
  where
    lower : (m ≡ suc n → ⊥) → m ≤ n
    lower d = omega arith

    same : (m == suc n) ≡ true → (has_scroller (page s ps (suc n)) sc ≡ has_scroller (page s ps m) sc) × (most (page s ps (suc n)) sc ax ≡ most (page s ps m) sc ax)
    same t = let e : m ≡ suc n = same_number m (suc n) t in (ap (λ z. has_scroller (page s ps z) sc) (sym e), ap (λ z. most (page s ps z) sc ax) (sym e))

    later : m ≤ n → (has_scroller (page s ps n) sc ≡ has_scroller (page s ps m) sc) × (most (page s ps n) sc ax ≡ most (page s ps m) sc ax)
        → (has_scroller (page s ps (suc n)) sc ≡ has_scroller (page s ps m) sc) × (most (page s ps (suc n)) sc ax ≡ most (page s ps m) sc ax)
    later a r =
        let u = unchanged_page s ps n (f n a (omega arith)) in
        (ap (λ (p : Page). has_scroller p sc) u ∙ (pulled_has (ps n) (page s ps n) sc ∙ r.0), ap (λ (p : Page). most p sc ax) u ∙ (pulled_most (ps n) (page s ps n) sc ax ∙ r.1))

-- the frames after the pending commit, or after the active one where none is pending

up_least : (h : List Entry) → Course h → (o : Option ℕ) → pending h ≡ o → up_to (active h) ≤ up_to (option_or o (active h))
up_least h c None e = omega arith
up_least h c (Some k) e = let l = c.pending_from k e in omega arith

pub active_before : (h : List Entry) → Course h → up_to (active h) ≤ up_to (active_then h)
active_before h c = up_least h c (pending h) refl

-- of the frame in flight, if there is one
flight_cases : {P : Type 0} (h : List Entry) → Course h → (frame_in_flight h ≡ None → P) → ((k : ℕ) → InFlight h k → P) → P
flight_cases h c none some =
    by_test (is_main_idle (sched h).main_state) (λ t. none (none_in_flight h c t)) (λ t. let x = c.in_flight t in some x.0 (in_flight h x.0 c t x.1))

-- those that have ended since are aborted
pub aborted_since : (s : ScriptModel) (n : ℕ) (h : List Entry) → Legal s n h → (j : ℕ) → up_to (active_then h) ≤ j → j < ended_to (frame_in_flight h) (counted sends h)
    → changes s (pulls_of h) j ≡ false
aborted_since s n h legal j from below = flight_cases h c all_ended but_last
  where
    c : Course h
    c = course s n h legal

    r : Changes s h
    r = changes_course s n h legal

    no_commit : was_named commits h j ≡ true → ⊥
    no_commit t = go (c.activated_or_pending j t)
      where
        go : (was_named activates h j ≡ true) ⊎ (pending h ≡ Some j) → ⊥
        go (inl a) = let l = c.activated_to j a in let m = active_before h c in absurd (omega arith)
        go (inr e) = let i : up_to (active_then h) ≡ suc j = ap (λ o. up_to (option_or o (active h))) e in absurd (omega arith)

    ended : has_frame_ended h j ≡ true → changes s (pulls_of h) j ≡ false
    ended t = go (or_either (was_named commits h j) (was_named aborts h j) t)
      where
        go : (was_named commits h j ≡ true) ⊎ (was_named aborts h j ≡ true) → changes s (pulls_of h) j ≡ false
        go (inl a) = absurd (no_commit a)
        go (inr b) = r.aborted_unchanged j b

    all_ended : frame_in_flight h ≡ None → changes s (pulls_of h) j ≡ false
    all_ended e =
        let i : ended_to (frame_in_flight h) (counted sends h) ≡ counted sends h = ap (λ o. ended_to o (counted sends h)) e in
        go (c.ended_or_last j (omega arith))
      where
        go : (has_frame_ended h j ≡ true) ⊎ ((is_main_idle (sched h).main_state ≡ false) × (newest sends h ≡ Some j)) → changes s (pulls_of h) j ≡ false
        go (inl t) = ended t
        go (inr x) = let fl = in_flight h j c x.0 x.1 in let f : frame_in_flight h ≡ Some j = fl.flies in absurd (cc)

    but_last : (k : ℕ) → InFlight h k → changes s (pulls_of h) j ≡ false
    but_last k fl =
        let i : ended_to (frame_in_flight h) (counted sends h) ≡ k = ap (λ o. ended_to o (counted sends h)) fl.flies in
        let l : j < k = omega arith in
        let t = fl.total in
        go (c.ended_or_last j (omega arith)) l
      where
        go : (has_frame_ended h j ≡ true) ⊎ ((is_main_idle (sched h).main_state ≡ false) × (newest sends h ≡ Some j)) → j < k → changes s (pulls_of h) j ≡ false
        go (inl t) l = ended t
        go (inr x) l = let e = c.last_is j x.1 in let t = fl.total in absurd (omega arith)

-- and there may be some
pub ended_since : (s : ScriptModel) (n : ℕ) (h : List Entry) → Legal s n h → up_to (active_then h) ≤ ended_to (frame_in_flight h) (counted sends h)
ended_since s n h legal = flight_cases h c none some
  where
    c : Course h
    c = course s n h legal

    none : frame_in_flight h ≡ None → up_to (active_then h) ≤ ended_to (frame_in_flight h) (counted sends h)
    none e =
        let i : ended_to (frame_in_flight h) (counted sends h) ≡ counted sends h = ap (λ o. ended_to o (counted sends h)) e in
        let l = active_then_sent h c in omega arith

    committed_then : (o w : Option ℕ) → pending h ≡ w → active h ≡ o → (k : ℕ) → InFlight h k → up_to (option_or w o) ≤ k
    committed_then o (Some j) e f k fl = let t = c.pending_committed j e in below j t k fl
      where
        below : (i : ℕ) → was_named commits h i ≡ true → (m : ℕ) → InFlight h m → suc i ≤ m
        below i t m fl = let l = c.committed_below i t in let u = fl.total in let d : i ≡ m → ⊥ = λ e. not_both (was_named commits h i) t (ap (was_named commits h) e ∙ fl.no_commit) in omega arith
    committed_then (Some j) None e f k fl = let t = c.activated_committed j (c.active_activated j f) in below j t k fl
      where
        below : (i : ℕ) → was_named commits h i ≡ true → (m : ℕ) → InFlight h m → suc i ≤ m
        below i t m fl = let l = c.committed_below i t in let u = fl.total in let d : i ≡ m → ⊥ = λ e. not_both (was_named commits h i) t (ap (was_named commits h) e ∙ fl.no_commit) in omega arith
    committed_then None None e f k fl = omega arith

    some : (k : ℕ) → InFlight h k → up_to (active_then h) ≤ ended_to (frame_in_flight h) (counted sends h)
    some k fl =
        let i : ended_to (frame_in_flight h) (counted sends h) ≡ k = ap (λ o. ended_to o (counted sends h)) fl.flies in
        let l = committed_then (active h) (pending h) refl refl k fl in omega arith

-- the pending base is in the range of the page that is pending, or active where none is
pub pending_base_fits : (s : ScriptModel) (n : ℕ) (h : List Entry) (sc : ℕ) (ax : Axis) → Legal s n h
    → clamp_to (most (page s (pulls_of h) (up_to (active_then h))) sc ax) (pending_base s h sc ax) ≡ pending_base s h sc ax
pending_base_fits s n h sc ax legal =
    let e : pending_base s h sc ax ≡ ended_value s h sc ax = (sums s n sc ax h legal).main_is in
    let r = ranges_stay s (pulls_of h) (up_to (active_then h)) (ended_to (frame_in_flight h) (counted sends h)) sc ax (ended_since s n h legal) (aborted_since s n h legal) in
    let m : most (page s (pulls_of h) (ended_to (frame_in_flight h) (counted sends h))) sc ax ≡ most (page s (pulls_of h) (up_to (active_then h))) sc ax = r.1 in
    (λ i. clamp_to (sym m i) (e i)) ∙ (page_in_range s (pulls_of h) (ended_to (frame_in_flight h) (counted sends h)) sc ax ∙ sym e)
