-- The scrollers of pages: each main value is in its range, and scrollers stay.
use Rattle.std.proofs.Common.{◌≡◌, ℕ, zero, suc, ◌≤◌, ℤ, pos, ◌+ℤ◌, Bool, true, false, cond, ◌==◌, List, [], ◌∷◌, Option, Some, None, is_some, option_map, refl, sym, ◌∙◌, subst, arith}
use Rattle.std.proofs.lemmas.Int.{ints, clamps}
use Rattle.geom.specs.declared.rect.Point.{Point}
use Rattle.page_properties.specs.declared.nodes.ScrollNode.{ScrollNode}
use Rattle.page_properties.specs.Entries.{find}
use Rattle.page_properties.specs.Entries as entries
use Rattle.page_layers.specs.declared.command.Command.{Command}
use Rattle.page_layers.specs.declared.command.Command.TheVariants as command
use Rattle.page_layers.specs.Scrolls.{clamp_to, or_origin}
use Rattle.page_properties.specs.OffsetMap.{origin}
use Rattle.page_layers.specs.Pages.{Page}
use Rattle.page_layers.specs.Effects.{page_after_command, with_props, clamped_in, scrolled_to, scrolled_by, main_point, page_after_pulls, commanded}
use Rattle.page_layers.specs.declared.moves.Move.{Move}
use Rattle.model_history.specs.Scripts.{ScriptModel}
use Rattle.page_layers.specs.Axes.{Axis, across, down, along}
use Rattle.page_layers.specs.Scrollers.{has_scroller, end_of, most, main_value}
use Rattle.page_layers.proofs.NodeKeeps.{clamp_again}
use Rattle.model_history.specs.Frames.{commands_of, page, page_before}
use Rattle.model_history.proofs.BoolFacts.{by_test, same_number, other_number}
use Rattle.model_history.proofs.NodeFacts.{find_changed, find_other, knows_changed}

-- zero is in every range
pub clamp_zero : (m : ℕ) → clamp_to m (pos 0) ≡ pos 0
unfolding clamp_to
clamp_zero m = omega (arith, ints, clamps)

-- the main values of a page are in their ranges, all or all but one

abbrev pub InRange : Page → Type 0
InRange p = (sc : ℕ) (ax : Axis) → clamp_to (most p sc ax) (main_value p sc ax) ≡ main_value p sc ax

abbrev InRangeBut : Page → ℕ → Type 0
InRangeBut p id = (sc : ℕ) (ax : Axis) → (id ≡ sc → ⊥) → clamp_to (most p sc ax) (main_value p sc ax) ≡ main_value p sc ax

-- the value of a node is in the node's range
abbrev Fits : Option ScrollNode → Option Point → Axis → Type 0
Fits n o ax = clamp_to (end_of n ax) (along ax (or_origin o)) ≡ along ax (or_origin o)

at_origin : (n : Option ScrollNode) (ax : Axis) → Fits n (Some origin) ax
at_origin n across = clamp_zero (end_of n across)
at_origin n down = clamp_zero (end_of n down)

set_value : (o : Option Point) (n : Option ScrollNode) (x y : ℤ) (ax : Axis) → Fits n (option_map (λ v. clamped_in n x y) o) ax
set_value None n x y ax = at_origin n ax
set_value (Some v) None x y ax = at_origin None ax
set_value (Some v) (Some n) x y across = clamp_again n.max_x x
set_value (Some v) (Some n) x y down = clamp_again n.max_y y

set_in_range : (p : Page) (id : ℕ) (x y : ℤ) → InRangeBut p id → InRange (scrolled_to p id x y)
set_in_range p id x y r sc ax = by_test (id == sc) (λ h. at_same (same_number id sc h)) (λ h. at_other (other_number id sc h))
  where
    f : Point → Point
    f v = clamped_in (find id p.props.scrollers) x y

    at_same : id ≡ sc → Fits (find sc p.props.scrollers) (find sc (entries.with_node_changed id (λ v. clamped_in (find id p.props.scrollers) x y) p.values)) ax
    at_same i =
        let e : find id (entries.with_node_changed id (λ v. clamped_in (find id p.props.scrollers) x y) p.values) ≡ option_map (λ v. clamped_in (find id p.props.scrollers) x y) (find id p.values) =
        find_changed id (λ v. clamped_in (find id p.props.scrollers) x y) p.values in
        subst (λ z. Fits (find z p.props.scrollers) (find z (entries.with_node_changed id (λ v. clamped_in (find id p.props.scrollers) x y) p.values)) ax) i
        (subst (λ (o : Option Point). Fits (find id p.props.scrollers) o ax) (sym e) (set_value (find id p.values) (find id p.props.scrollers) x y ax))

    at_other : (id ≡ sc → ⊥) → Fits (find sc p.props.scrollers) (find sc (entries.with_node_changed id (λ v. clamped_in (find id p.props.scrollers) x y) p.values)) ax
    at_other n =
        let e : find sc (entries.with_node_changed id (λ v. clamped_in (find id p.props.scrollers) x y) p.values) ≡ find sc p.values =
        find_other id sc (λ v. clamped_in (find id p.props.scrollers) x y) p.values n in
        subst (λ (o : Option Point). Fits (find sc p.props.scrollers) o ax) (sym e) (r sc ax n)

added_value : (b : Bool) (node : ScrollNode) (n : Option ScrollNode) (o : Option Point) (ax : Axis) → Fits n o ax → Fits (cond b (Some node) n) (cond b (Some origin) o) ax
added_value true node n o ax r = at_origin (Some node) ax
added_value false node n o ax r = r

-- a command keeps the main values in their ranges
after_in_range : (p : Page) (c : Command) → InRange p → InRange (page_after_command p c)
after_in_range p (command.AddScroller c) r = λ sc ax. added_value (c.id == sc) (record { parent = c.parent; max_x = c.max_x; max_y = c.max_y }) (find sc p.props.scrollers) (find sc p.values) ax (r sc ax)
after_in_range p (command.SetRange c) r =
    let f : ScrollNode → ScrollNode = λ n. record n { max_x = c.max_x; max_y = c.max_y } in
    set_in_range (with_props p (record p.props { scrollers = entries.with_node_changed c.id (λ n. record n { max_x = c.max_x; max_y = c.max_y }) p.props.scrollers })) c.id (main_point p c.id).x (main_point p c.id).y
    (λ sc ax n. subst (λ (o : Option ScrollNode). Fits o (find sc p.values) ax) (sym (find_other c.id sc (λ n. record n { max_x = c.max_x; max_y = c.max_y }) p.props.scrollers n)) (r sc ax))
after_in_range p (command.ScrollBy c) r = set_in_range p c.id ((main_point p c.id).x +ℤ c.dx) ((main_point p c.id).y +ℤ c.dy) (λ sc ax n. r sc ax)
after_in_range p (command.ScrollTo c) r = set_in_range p c.id (pos c.x) (pos c.y) (λ sc ax n. r sc ax)
after_in_range p _ r = r

commanded_in_range : (cs : List Command) (p : Page) → InRange p → InRange (commanded cs p)
commanded_in_range [] p r = r
commanded_in_range (c ∷ cs) p r = commanded_in_range cs (page_after_command p c) (after_in_range p c r)

pub pulled_in_range : (ms : List Move) (p : Page) → InRange p → InRange (page_after_pulls ms p)
pulled_in_range [] p r = r
pulled_in_range (m ∷ ms) p r =
    pulled_in_range ms (scrolled_by p m.scroller m.dx m.dy)
    (set_in_range p m.scroller ((main_point p m.scroller).x +ℤ m.dx) ((main_point p m.scroller).y +ℤ m.dy) (λ sc ax n. r sc ax))

-- every main value of every page is in its range, in any script
pub page_in_range : (s : ScriptModel) (ps : ℕ → List Move) (n : ℕ) → InRange (page s ps n)
page_in_range s ps zero = λ sc ax. at_origin None ax
page_in_range s ps (suc n) = commanded_in_range (commands_of s n) (page_before s ps n) (pulled_in_range (ps n) (page s ps n) (page_in_range s ps n))

-- scrollers stay

pub pulled_has : (ms : List Move) (p : Page) (sc : ℕ) → has_scroller (page_after_pulls ms p) sc ≡ has_scroller p sc
pulled_has [] p sc = refl
pulled_has (m ∷ ms) p sc = pulled_has ms (scrolled_by p m.scroller m.dx m.dy) sc

-- pulls leave the ranges
pub pulled_most : (ms : List Move) (p : Page) (sc : ℕ) (ax : Axis) → most (page_after_pulls ms p) sc ax ≡ most p sc ax
pulled_most [] p sc ax = refl
pulled_most (m ∷ ms) p sc ax = pulled_most ms (scrolled_by p m.scroller m.dx m.dy) sc ax

added_has : (b : Bool) (node : ScrollNode) (n : Option ScrollNode) → is_some n ≡ true → is_some (cond b (Some node) n) ≡ true
added_has true node n h = refl
added_has false node n h = h

after_has : (p : Page) (c : Command) (sc : ℕ) → has_scroller p sc ≡ true → has_scroller (page_after_command p c) sc ≡ true
after_has p (command.AddScroller c) sc h = added_has (c.id == sc) (record { parent = c.parent; max_x = c.max_x; max_y = c.max_y }) (find sc p.props.scrollers) h
after_has p (command.SetRange c) sc h = knows_changed c.id sc (λ n. record n { max_x = c.max_x; max_y = c.max_y }) p.props.scrollers ∙ h
after_has p _ sc h = h

commanded_has : (cs : List Command) (p : Page) (sc : ℕ) → has_scroller p sc ≡ true → has_scroller (commanded cs p) sc ≡ true
commanded_has [] p sc h = h
commanded_has (c ∷ cs) p sc h = commanded_has cs (page_after_command p c) sc (after_has p c sc h)

pub page_has_next : (s : ScriptModel) (ps : ℕ → List Move) (n sc : ℕ) → has_scroller (page s ps n) sc ≡ true → has_scroller (page s ps (suc n)) sc ≡ true
page_has_next s ps n sc h = commanded_has (commands_of s n) (page_before s ps n) sc (pulled_has (ps n) (page s ps n) sc ∙ h)

-- a scroller of a page is one of each later page
pub page_has_later : (s : ScriptModel) (ps : ℕ → List Move) (m n sc : ℕ) → m ≤ n → has_scroller (page s ps m) sc ≡ true → has_scroller (page s ps n) sc ≡ true
page_has_later s ps m zero sc l h = let e : m ≡ 0 = omega arith in subst (λ z. has_scroller (page s ps z) sc ≡ true) e h
page_has_later s ps m (suc n) sc l h =
    by_test (m == suc n) (λ t. subst (λ z. has_scroller (page s ps z) sc ≡ true) (same_number m (suc n) t) h)
    (λ t. let d = other_number m (suc n) t in page_has_next s ps n sc (page_has_later s ps m n sc (lower d) h))
  where
    lower : (m ≡ suc n → ⊥) → m ≤ n
    lower d = omega arith
