-- The ranges of the pages of a playable script end at 2^20 at most, and no more main frames are sent than there are.
use Rattle.std.proofs.Common.{ℕ, ◌≡◌, zero, suc, ◌≤◌, ◌==◌, nat_lt, Bool, true, false, cond, List, [], ◌∷◌, length, Option, Some, None, option_map, Ok, sym, subst, arith}
use Rattle.std.proofs.lemmas.Bool.Decides.{nat_tests}
use Rattle.page_properties.specs.declared.nodes.ScrollNode.{ScrollNode}
use Rattle.page_properties.specs.Entries.{find, knows, is_known}
use Rattle.page_properties.specs.Entries as entries
use Rattle.page_layers.specs.declared.fault.EditFault.TheVariants as fault
use Rattle.page_layers.specs.declared.command.Command.{Command}
use Rattle.page_layers.specs.declared.command.Command.TheVariants as command
use Rattle.page_layers.specs.Tests.{require}
use Rattle.page_layers.specs.Refusals.{takes, test_of}
use Rattle.page_layers.specs.Pages.{Page}
use Rattle.page_layers.specs.Effects.{page_after_command, commanded}
use Rattle.page_layers.proofs.TestFacts.{passed, scroll_range_facts}
use Rattle.model_history.specs.declared.event.Event.{Event}
use Rattle.model_history.specs.declared.event.Event.TheVariants as event
use Rattle.page_layers.specs.declared.moves.Move.{Move}
use Rattle.model_history.specs.declared.history.Entry.{Entry}
use Rattle.model_history.specs.Scripts.{ScriptModel}
use Rattle.model_history.specs.EventFields.{sends}
use Rattle.model_history.specs.Scans.{counted}
use Rattle.page_layers.specs.Axes.{Axis, across, down}
use Rattle.page_layers.specs.Scrollers.{end_of, most}
use Rattle.model_history.specs.Frames.{commands_of, page, page_before}
use Rattle.model_history.specs.Accepted.{TakesAll, IsPlayable}
use Rattle.model_history.specs.Legal.{Next, Legal}
use Rattle.model_history.proofs.BoolFacts.{by_test, same_number, other_number}
use Rattle.model_history.proofs.DueFacts.{entry, at_send}
use Rattle.model_history.proofs.NodeFacts.{find_changed, find_other}
use Rattle.model_history.proofs.PageFacts.{takes_frame}
use Rattle.model_history.proofs.PageRanges.{pulled_most}

-- all ranges of a page end at 2^20 at most
abbrev pub AreShort : Page → Type 0
AreShort p = (sc : ℕ) (ax : Axis) → most p sc ax ≤ 1048576

short_node : (parent x y : ℕ) → x ≤ 1048576 → y ≤ 1048576 → (ax : Axis) → end_of (Some (record { parent = parent; max_x = x; max_y = y })) ax ≤ 1048576
short_node parent x y a b across = a
short_node parent x y a b down = b

-- a range that passes the tests
add_range : (p : Page) (id parent x y : ℕ) → test_of p (command.AddScroller (record { id = id; parent = parent; max_x = x; max_y = y })) ≡ Ok tt → (x ≤ 1048576) × (y ≤ 1048576)
unfolding test_of
add_range p id parent x y ok =
    let known = passed (require (is_known parent p.props.scrollers) fault.UnknownId) _ tt ok in
    let fresh = passed (takes id p.props.scrollers) _ tt known.2 in
    scroll_range_facts x y fresh.2

set_range : (p : Page) (id x y : ℕ) → test_of p (command.SetRange (record { id = id; max_x = x; max_y = y })) ≡ Ok tt → (x ≤ 1048576) × (y ≤ 1048576)
unfolding test_of
set_range p id x y ok = let known = passed (require (knows id p.props.scrollers) fault.UnknownId) _ tt ok in scroll_range_facts x y known.2

added_short : (b : Bool) (node : ScrollNode) (o : Option ScrollNode) (ax : Axis) → end_of (Some node) ax ≤ 1048576 → end_of o ax ≤ 1048576 → end_of (cond b (Some node) o) ax ≤ 1048576
added_short true node o ax l m = l
added_short false node o ax l m = m

ranged_short : (o : Option ScrollNode) (x y : ℕ) (ax : Axis) → x ≤ 1048576 → y ≤ 1048576 → end_of (option_map (λ (n : ScrollNode). record n { max_x = x; max_y = y }) o) ax ≤ 1048576
ranged_short None x y ax a b = omega arith
ranged_short (Some n) x y across a b = a
ranged_short (Some n) x y down a b = b

changed_short : (id sc x y : ℕ) (nodes : List (ℕ × ScrollNode)) (ax : Axis) → x ≤ 1048576 → y ≤ 1048576 → end_of (find sc nodes) ax ≤ 1048576
    → end_of (find sc (entries.with_node_changed id (λ n. record n { max_x = x; max_y = y }) nodes)) ax ≤ 1048576
changed_short id sc x y nodes ax a b l = by_test (id == sc) same other
  where
    same : (id == sc) ≡ true → end_of (find sc (entries.with_node_changed id (λ n. record n { max_x = x; max_y = y }) nodes)) ax ≤ 1048576
    same t =
        let i : id ≡ sc = same_number id sc t in
        subst (λ k. end_of (find k (entries.with_node_changed id (λ n. record n { max_x = x; max_y = y }) nodes)) ax ≤ 1048576) i
        (subst (λ (o : Option ScrollNode). end_of o ax ≤ 1048576) (sym (find_changed id (λ n. record n { max_x = x; max_y = y }) nodes)) (ranged_short (find id nodes) x y ax a b))

    other : (id == sc) ≡ false → end_of (find sc (entries.with_node_changed id (λ n. record n { max_x = x; max_y = y }) nodes)) ax ≤ 1048576
    other t = subst (λ (o : Option ScrollNode). end_of o ax ≤ 1048576) (sym (find_other id sc (λ n. record n { max_x = x; max_y = y }) nodes (other_number id sc t))) l

after_short : (p : Page) (c : Command) → AreShort p → test_of p c ≡ Ok tt → AreShort (page_after_command p c)
after_short p (command.AddScroller c) r ok =
    let l = add_range p c.id c.parent c.max_x c.max_y ok in
    λ sc ax. added_short (c.id == sc) (record { parent = c.parent; max_x = c.max_x; max_y = c.max_y }) (find sc p.props.scrollers) ax (short_node c.parent c.max_x c.max_y l.0 l.1 ax) (r sc ax)
after_short p (command.SetRange c) r ok =
    let l = set_range p c.id c.max_x c.max_y ok in
    λ sc ax. changed_short c.id sc c.max_x c.max_y p.props.scrollers ax l.0 l.1 (r sc ax)
after_short p _ r ok = r

commanded_short : (cs : List Command) (p : Page) → AreShort p → TakesAll p cs → AreShort (commanded cs p)
commanded_short [] p r t = r
commanded_short (c ∷ cs) p r t = commanded_short cs (page_after_command p c) (after_short p c r t.0.passes) t.1

-- all pages of a playable script have such ranges
pub page_short : (s : ScriptModel) → IsPlayable s → (ps : ℕ → List Move) (n : ℕ) → AreShort (page s ps n)
page_short s a ps zero = λ sc ax. omega arith
page_short s a ps (suc n) =
    let r : AreShort (page s ps n) = page_short s a ps n in
    commanded_short (commands_of s n) (page_before s ps n) (λ sc ax. subst (λ z. z ≤ 1048576) (sym (pulled_most (ps n) (page s ps n) sc ax)) (r sc ax)) (takes_frame s a ps n)

-- no more frames are sent than there are

one_step : (s : ScriptModel) (n : ℕ) (h : List Entry) (a : ℕ) (e : Event) → counted sends h ≤ length s.main → Next s n h (entry a e) → counted sends (entry a e ∷ h) ≤ length s.main
one_step s n h a (event.Send k ms) l x = let t = (at_send s n h a k ms x).left in below (counted sends h) (length s.main) t
  where
    below : (m k : ℕ) → nat_lt m k ≡ true → suc m ≤ k
    below m k e = grind (arith, nat_tests, e)
one_step s n h a _ l x = l

pub sent_few : (s : ScriptModel) (n : ℕ) (h : List Entry) → Legal s n h → counted sends h ≤ length s.main
sent_few s n [] l = omega arith
sent_few s n (e ∷ h) l = one_step s n h e.actor e.event (sent_few s n h l.0) l.1
