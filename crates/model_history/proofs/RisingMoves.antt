-- The moves that sends and activations list stand by rising scroller, each once, and none is (0, 0).
use Rattle.std.proofs.Common.{ℕ, ◌≡◌, zero, suc, ◌<◌, ◌==◌, nat_lt, Bool, true, false, not, cond, List, [], ◌∷◌, Ok, refl, sym, ◌∙◌, subst}
use Rattle.page_properties.specs.Entries.{ids, put_id, rising, knows, is_known, AreDistinctIds}
use Rattle.page_properties.specs.Entries as entries
use Rattle.page_layers.specs.declared.fault.EditFault.TheVariants as fault
use Rattle.page_layers.specs.declared.command.Command.{Command}
use Rattle.page_layers.specs.declared.command.Command.TheVariants as command
use Rattle.page_layers.specs.Tests.{require}
use Rattle.page_layers.specs.Refusals.{takes, test_of}
use Rattle.page_layers.specs.Pages.{Page}
use Rattle.page_layers.specs.Effects.{page_after_command, scrolled_by, page_after_pulls, commanded}
use Rattle.page_layers.proofs.TestFacts.{passed, held, is_not}
use Rattle.model_history.specs.declared.event.Event.{Event}
use Rattle.model_history.specs.declared.event.Event.TheVariants as event
use Rattle.page_layers.specs.declared.moves.Move.{Move}
use Rattle.model_history.specs.declared.history.Entry.{Entry}
use Rattle.model_history.specs.Scripts.{ScriptModel}
use Rattle.model_history.specs.EventFields.{pulls, moves}
use Rattle.page_layers.specs.Axes.{named_in}
use Rattle.page_layers.specs.Scrollers.{scrollers}
use Rattle.model_history.specs.Frames.{commands_of, page, page_before, pulls_of, pending, up_to, pending_page}
use Rattle.model_history.specs.Scrolls.{scrollers_moved, unsent, next_pulls, clamp_move, next_clamps}
use Rattle.model_history.specs.ScrollLaws.{clamps, AreRising}
use Rattle.model_history.specs.FrameLaws.{AtEach}
use Rattle.model_history.specs.Accepted.{TakesAll, IsPlayable}
use Rattle.model_history.specs.Legal.{Next, Legal}
use Rattle.model_history.proofs.BoolFacts.{or_left_false, or_right_false}
use Rattle.model_history.proofs.DueFacts.{entry, at_send, at_activate}
use Rattle.model_history.proofs.NodeFacts.{knows_changed}
use Rattle.model_history.proofs.PageFacts.{takes_frame}
use Rattle.model_history.proofs.MoveLists.{has, NumbersAbove, AreRisingNumbers, numbers_lower, below_of, above_of, rising_numbers, rising_listed}
use Rattle.model_history.proofs.PageStanding.{has_rising, has_ids}

-- sends

moved_rise : (s : ScriptModel) (h : List Entry) → AreRisingNumbers (scrollers_moved s h)
moved_rise s [] = tt
moved_rise s (e ∷ h) = rising_numbers (named_in (moves s e.event)) (scrollers_moved s h) (moved_rise s h)

pub pulls_rise : (s : ScriptModel) (h : List Entry) → AreRising (next_pulls s h)
pulls_rise s h = rising_listed (unsent s h) (scrollers_moved s h) (moved_rise s h)

-- ids by rising id

above_put : (m id : ℕ) (xs : List ℕ) → m < id → NumbersAbove m xs → NumbersAbove m (put_id id xs)
above_put m id [] l a = (l, tt)
above_put m id (x ∷ xs) l a = go (nat_lt x id) (above_put m id xs l a.1)
  where
    go : (b : Bool) → NumbersAbove m (put_id id xs) → NumbersAbove m (cond b (x ∷ put_id id xs) (id ∷ x ∷ xs))
    go true rest = (a.0, rest)
    go false rest = (l, a)

rising_put : (id : ℕ) (xs : List ℕ) → has xs id ≡ false → AreRisingNumbers xs → AreRisingNumbers (put_id id xs)
rising_put id [] n r = (tt, tt)
rising_put id (x ∷ xs) n r = go (nat_lt x id) refl (rising_put id xs (or_right_false (x == id) (has xs id) n) r.1)
  where
    go : (b : Bool) → nat_lt x id ≡ b → AreRisingNumbers (put_id id xs) → AreRisingNumbers (cond b (x ∷ put_id id xs) (id ∷ x ∷ xs))
    go true e rest = (above_put x id xs (below_of x id e) r.0, rest)
    go false e rest = let l = above_of x id e (or_left_false (x == id) (has xs id) n) in ((l, numbers_lower id x xs l r.0), r)

rising_ids : {N : Type 0} (nodes : List (ℕ × N)) → AreDistinctIds nodes → AreRisingNumbers (rising (ids nodes))
rising_ids [] d = tt
rising_ids (e ∷ older) d = rising_put e.0 (rising (ids older)) (has_rising e.0 (ids older) ∙ (has_ids e.0 older ∙ d.0)) (rising_ids older d.1)

-- the ids of a page's scrollers are distinct

distinct_changed : {N : Type 0} (id : ℕ) (f : N → N) (nodes : List (ℕ × N)) → AreDistinctIds nodes → AreDistinctIds (entries.with_node_changed id f nodes)
distinct_changed id f [] d = tt
distinct_changed id f (e ∷ older) d = go (e.0 == id) (distinct_changed id f older d.1)
  where
    go : (b : Bool) → AreDistinctIds (entries.with_node_changed id f older) → AreDistinctIds (cond b ((e.0, f e.1) ∷ older) (e ∷ entries.with_node_changed id f older))
    go true rest = d
    go false rest = (knows_changed id e.0 f older ∙ d.0, rest)

fresh_id : (p : Page) (id parent x y : ℕ) → test_of p (command.AddScroller (record { id = id; parent = parent; max_x = x; max_y = y })) ≡ Ok tt → knows id p.props.scrollers ≡ false
unfolding test_of takes
fresh_id p id parent x y ok =
    let known = passed (require (is_known parent p.props.scrollers) fault.UnknownId) _ tt ok in
    let rest = passed (takes id p.props.scrollers) _ tt known.2 in
    let fresh = passed (require (not (knows id p.props.scrollers)) fault.IdUsed) _ tt rest.1 in
    is_not (knows id p.props.scrollers) (held (not (knows id p.props.scrollers)) fault.IdUsed fresh.1)

abbrev HasDistinct : Page → Type 0
HasDistinct p = AreDistinctIds p.props.scrollers

after_distinct : (p : Page) (c : Command) → HasDistinct p → test_of p c ≡ Ok tt → HasDistinct (page_after_command p c)
after_distinct p (command.AddScroller c) d ok = (fresh_id p c.id c.parent c.max_x c.max_y ok, d)
after_distinct p (command.SetRange c) d ok = distinct_changed c.id (λ n. record n { max_x = c.max_x; max_y = c.max_y }) p.props.scrollers d
after_distinct p _ d ok = d

commanded_distinct : (cs : List Command) (p : Page) → HasDistinct p → TakesAll p cs → HasDistinct (commanded cs p)
commanded_distinct [] p d t = d
commanded_distinct (c ∷ cs) p d t = commanded_distinct cs (page_after_command p c) (after_distinct p c d t.0.passes) t.1

pulled_distinct : (ms : List Move) (p : Page) → HasDistinct p → HasDistinct (page_after_pulls ms p)
pulled_distinct [] p d = d
pulled_distinct (m ∷ ms) p d = pulled_distinct ms (scrolled_by p m.scroller m.dx m.dy) d

pub page_distinct : (s : ScriptModel) → IsPlayable s → (ps : ℕ → List Move) (n : ℕ) → AreDistinctIds (page s ps n).props.scrollers
page_distinct s a ps zero = tt
page_distinct s a ps (suc n) = commanded_distinct (commands_of s n) (page_before s ps n) (pulled_distinct (ps n) (page s ps n) (page_distinct s a ps n)) (takes_frame s a ps n)

-- activations

pub clamps_rise : (s : ScriptModel) (h : List Entry) → IsPlayable s → AreRising (next_clamps s h)
clamps_rise s h a = rising_listed (clamp_move s h) (scrollers (pending_page s h)) (rising_ids (pending_page s h).props.scrollers (page_distinct s a (pulls_of h) (up_to (pending h))))

-- every entry

lists_rise : (s : ScriptModel) (n : ℕ) (h : List Entry) (a : ℕ) (e : Event) → IsPlayable s → Next s n h (entry a e) → AreRising (pulls e) × AreRising (clamps e)
lists_rise s n h a (event.Send k ms) acc x = (subst AreRising (sym (at_send s n h a k ms x).pulls) (pulls_rise s h), tt)
lists_rise s n h a (event.Activate k ms) acc x = (tt, subst AreRising (sym (at_activate s n h a k ms x).clamps) (clamps_rise s h acc))
lists_rise s n h a _ acc x = (tt, tt)

pub all_rise : (s : ScriptModel) (n : ℕ) (h : List Entry) → IsPlayable s → Legal s n h → AtEach (λ g e. AreRising (pulls e.event) × AreRising (clamps e.event)) h
all_rise s n [] acc l = tt
all_rise s n (e ∷ h) acc l = (all_rise s n h acc l.0, lists_rise s n h e.actor e.event acc l.1)
