-- The moves that events list, and the amounts of scrolls and wheels, fit the format.
use Rattle.std.proofs.Common.{◌≡◌, ℕ, zero, suc, ◌≤◌, ◌==◌, Bool, true, false, cond, Option, Some, None, List, [], ◌∷◌, sym, subst, arith, Ok}
use Rattle.std.specs.Prelude.{ℤ, pos, ◌+ℤ◌, ◌-ℤ◌, ◌≤ℤ◌, FitsSigned, nat_lt, find}
use Rattle.std.specs.Int.{w32, w64}
use Rattle.std.proofs.lemmas.Int.{ints, clamps}
use Rattle.page_properties.specs.declared.nodes.ScrollNode.{ScrollNode}
use Rattle.page_properties.specs.Entries.{ids, rising, put_id}
use Rattle.page_properties.specs.Entries as entries
use Rattle.page_layers.specs.declared.command.Command.{Command}
use Rattle.page_layers.specs.declared.command.Command.TheVariants as command
use Rattle.page_layers.specs.declared.moves.Move.{Move}
use Rattle.page_layers.specs.Axes.{Axis, across, down, move_of, is_still, listed, named_in, with_number, with_numbers}
use Rattle.page_layers.specs.Effects.{page_after_command, commanded}
use Rattle.page_layers.specs.Hits.{scrollers_from, nearest_scroller, chain}
use Rattle.page_layers.specs.Layers.{PageLayer, has_id}
use Rattle.page_layers.specs.Pages.{Page}
use Rattle.page_layers.specs.Refusals.{test_of}
use Rattle.page_layers.specs.Scrollers.{scrollers, has_scroller, most, amount_taken}
use Rattle.page_layers.specs.Scrolls.{clamp_to, IsInRange}
use Rattle.page_layers.specs.Wheels.{chain_parts, chain_rest, chain_at}
use Rattle.page_layers.specs.IfThere.{chain_or_none}
use Rattle.page_layers.proofs.TestFacts.{add_scroller_facts}
use Rattle.model_history.specs.Scripts.{ScriptModel}
use Rattle.model_history.specs.Accepted.{IsPlayable, TakesAll}
use Rattle.model_history.specs.Frames.{commands_of, page}
use Rattle.model_history.specs.ScrollLaws.{IsSmall, AreSmall}
use Rattle.model_history.proofs.BarePages.{page_bare}
use Rattle.model_history.proofs.ScriptPages.{plain, plain_takes}
use Rattle.recording_text.specs.Fits.{FitMoves}

-- ---- the scrollers of a page: their ids are low

abbrev pub AreLow : List ℕ → Type 0
AreLow [] = Unit {0}
AreLow (n ∷ ns) = (n ≤ 65535) × AreLow ns

abbrev HasLow : Page → Type 0
HasLow p = AreLow (ids p.props.scrollers)

low_changed : {N : Type 0} (id : ℕ) (f : N → N) (nodes : List (ℕ × N)) → AreLow (ids nodes) → AreLow (ids (entries.with_node_changed id f nodes))
low_changed id f [] low = tt
low_changed id f (e ∷ older) low = go (e.0 == id) (low_changed id f older low.1)
  where
    go : (b : Bool) → AreLow (ids (entries.with_node_changed id f older)) → AreLow (ids (cond b ((e.0, f e.1) ∷ older) (e ∷ entries.with_node_changed id f older)))
    go true rest = low
    go false rest = (low.0, rest)

low_after : (p : Page) (c : Command) → HasLow p → test_of p c ≡ Ok tt → HasLow (page_after_command p c)
low_after p (command.AddScroller c) low ok = ((add_scroller_facts p c.id c.parent c.max_x c.max_y ok).id_high, low)
low_after p (command.SetRange c) low ok = low_changed c.id (λ n. record n { max_x = c.max_x; max_y = c.max_y }) p.props.scrollers low
low_after p _ low ok = low

low_commanded : (cs : List Command) (p : Page) → HasLow p → TakesAll p cs → HasLow (commanded cs p)
low_commanded [] p low t = low
low_commanded (c ∷ cs) p low t = low_commanded cs (page_after_command p c) (low_after p c low t.0.passes) t.1

plain_low : (s : ScriptModel) → IsPlayable s → (n : ℕ) → HasLow (plain s n)
plain_low s playable zero = tt
plain_low s playable (suc k) = low_commanded (commands_of s k) (plain s k) (plain_low s playable k) (plain_takes s playable k)

pub page_low : (s : ScriptModel) (ps : ℕ → List Move) (n : ℕ) → IsPlayable s → AreLow (ids (page s ps n).props.scrollers)
page_low s ps n playable = subst (λ (z : Page). AreLow (ids z.props.scrollers)) (sym (page_bare s ps n)) (plain_low s playable n)

low_put : (id : ℕ) (ns : List ℕ) → id ≤ 65535 → AreLow ns → AreLow (put_id id ns)
low_put id [] one low = (one, tt)
low_put id (n ∷ ns) one low = go (nat_lt n id) (low_put id ns one low.1)
  where
    go : (b : Bool) → AreLow (put_id id ns) → AreLow (cond b (n ∷ put_id id ns) (id ∷ n ∷ ns))
    go true rest = (low.0, rest)
    go false rest = (one, low)

pub low_rising : (ns : List ℕ) → AreLow ns → AreLow (rising ns)
low_rising [] low = tt
low_rising (n ∷ ns) low = low_put n (rising ns) low.0 (low_rising ns low.1)

-- ---- the scrollers of a chain

low_from : (nodes : List (ℕ × ScrollNode)) (id : ℕ) → AreLow (ids nodes) → AreLow (scrollers_from nodes id)
low_from [] id low = tt
low_from (e ∷ older) id low = go (e.0 == id) (low_from older e.1.parent low.1) (low_from older id low.1)
  where
    go : (b : Bool) → AreLow (scrollers_from older e.1.parent) → AreLow (scrollers_from older id) → AreLow (cond b (e.0 ∷ scrollers_from older e.1.parent) (scrollers_from older id))
    go true up rest = (low.0, up)
    go false up rest = rest

low_chain : (p : Page) (l : PageLayer) → HasLow p → AreLow (chain p l)
unfolding chain
low_chain p l low = low_from p.props.scrollers (nearest_scroller p.props.transforms l.transform) low

pub low_chain_at : (p : Page) (layer : ℕ) → AreLow (ids p.props.scrollers) → AreLow (chain_at p layer)
low_chain_at p layer low = go (find (has_id layer) p.layers)
  where
    go : (o : Option PageLayer) → AreLow (chain_or_none p o)
    go None = tt
    go (Some l) = low_chain p l low

-- ---- the scrollers that moves name

low_if : (m : Move) (ms : List Move) (b : Bool) → m.scroller ≤ 65535 → AreLow (named_in ms) → AreLow (named_in (cond b ms (m ∷ ms)))
low_if m ms true one low = low
low_if m ms false one low = (one, low)

pub low_listed : (f : ℕ → Axis → ℤ) (scs : List ℕ) → AreLow scs → AreLow (named_in (listed f scs))
low_listed f [] low = tt
low_listed f (sc ∷ scs) low = low_if (move_of f sc) (listed f scs) (is_still (move_of f sc)) low.0 (low_listed f scs low.1)

pub low_parts : (takes : ℕ → Axis → ℤ → ℤ) (scs : List ℕ) (dx dy : ℤ) → AreLow scs → AreLow (named_in (chain_parts takes scs dx dy))
low_parts takes [] dx dy low = tt
low_parts takes (sc ∷ scs) dx dy low =
    low_if (record { scroller = sc; dx = takes sc across dx; dy = takes sc down dy }) (chain_parts takes scs (dx -ℤ takes sc across dx) (dy -ℤ takes sc down dy))
    (is_still (record { scroller = sc; dx = takes sc across dx; dy = takes sc down dy })) low.0 (low_parts takes scs (dx -ℤ takes sc across dx) (dy -ℤ takes sc down dy) low.1)

low_number : (n : ℕ) (ns : List ℕ) → n ≤ 65535 → AreLow ns → AreLow (with_number n ns)
low_number n [] one low = (one, tt)
low_number n (m ∷ ms) one low = go (nat_lt m n) (m == n) (low_number n ms one low.1)
  where
    go : (a b : Bool) → AreLow (with_number n ms) → AreLow (cond a (m ∷ with_number n ms) (cond b (m ∷ ms) (n ∷ m ∷ ms)))
    go true b rest = (low.0, rest)
    go false true rest = low
    go false false rest = (one, low)

pub low_numbers : (ns ms : List ℕ) → AreLow ns → AreLow ms → AreLow (with_numbers ns ms)
low_numbers [] ms a b = b
low_numbers (n ∷ ns) ms a b = low_number n (with_numbers ns ms) a.0 (low_numbers ns ms a.1 b)

-- ---- moves

small_fits : (z : ℤ) → IsSmall z → FitsSigned w64 z
small_fits z small = omega (arith, ints, small.above, small.below)

pub moves_fit : (ms : List Move) → AreSmall ms → AreLow (named_in ms) → FitMoves ms
moves_fit [] small low = tt
moves_fit (m ∷ ms) small low = ((omega (arith, low.0), small_fits m.dx small.0, small_fits m.dy small.1), moves_fit ms small.2 low.1)

-- ---- what is taken of an amount of 2^20 at most, and what is left

pub record IsAmount (z : ℤ) : Type 0 where
  pub low : pos 0 ≤ℤ (z +ℤ pos 1048576)
  pub high : z ≤ℤ pos 1048576

pub amount_fits : (z : ℤ) → IsAmount z → FitsSigned w32 z
amount_fits z is = omega (arith, ints, is.low, is.high)

moved_amount : (m : ℕ) (at z : ℤ) → IsInRange m at → IsAmount z → IsAmount (clamp_to m (at +ℤ z) -ℤ at) × IsAmount (z -ℤ (clamp_to m (at +ℤ z) -ℤ at))
unfolding clamp_to
moved_amount m at z range is = (
  record { low = omega (arith, ints, clamps, range.low, range.high, range.bounded, is.low, is.high); high = omega (arith, ints, clamps, range.low, range.high, range.bounded, is.low, is.high) },
  record { low = omega (arith, ints, clamps, range.low, range.high, range.bounded, is.low, is.high); high = omega (arith, ints, clamps, range.low, range.high, range.bounded, is.low, is.high) },
)

nothing_taken : (z : ℤ) → IsAmount z → IsAmount (pos 0) × IsAmount (z -ℤ pos 0)
nothing_taken z is = (record { low = omega (arith, ints); high = omega (arith, ints) }, record { low = omega (arith, ints, is.low); high = omega (arith, ints, is.high) })

pub taken_amount : (p : Page) (at : ℕ → Axis → ℤ) (sc : ℕ) (ax : Axis) (z : ℤ) → IsInRange (most p sc ax) (at sc ax) → IsAmount z → IsAmount (amount_taken p at sc ax z) × IsAmount (z -ℤ amount_taken p at sc ax z)
taken_amount p at sc ax z range is = go (has_scroller p sc)
  where
    go : (b : Bool) → IsAmount (cond b (clamp_to (most p sc ax) (at sc ax +ℤ z) -ℤ at sc ax) (pos 0)) × IsAmount (z -ℤ cond b (clamp_to (most p sc ax) (at sc ax +ℤ z) -ℤ at sc ax) (pos 0))
    go true = moved_amount (most p sc ax) (at sc ax) z range is
    go false = nothing_taken z is

pub rest_amount : (takes : ℕ → Axis → ℤ → ℤ) (ax : Axis) → ((sc : ℕ) (z : ℤ) → IsAmount z → IsAmount (z -ℤ takes sc ax z)) → (scs : List ℕ) (z : ℤ) → IsAmount z → IsAmount (chain_rest takes ax scs z)
rest_amount takes ax each [] z is = is
rest_amount takes ax each (sc ∷ scs) z is = rest_amount takes ax each scs (z -ℤ takes sc ax z) (each sc z is)
