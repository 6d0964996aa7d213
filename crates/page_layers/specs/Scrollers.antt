-- The scrollers of a page: their ranges, their main values, and where they stand.
use Rattle.std.specs.Prelude.{ℕ, ℤ, pos, ◌+ℤ◌, ◌-ℤ◌, Bool, cond, List, Option, Some, None}
use Rattle.geom.specs.declared.rect.Point.{Point}
use Rattle.page_properties.specs.declared.nodes.ScrollNode.{ScrollNode}
use Rattle.page_properties.specs.Entries.{ids, rising, find, knows}
use Rattle.page_layers.specs.Scrolls.{clamp_to}
use Rattle.page_properties.specs.OffsetMap.{origin}
use Rattle.page_layers.specs.Effects.{main_point}
use Rattle.page_layers.specs.Pages.{Page}
use Rattle.page_layers.specs.Axes.{Axis, across, down, along}

-- the scrollers of a page by rising id; whether it has this one
abbrev pub scrollers : Page → List ℕ
scrollers p = rising (ids p.props.scrollers)

abbrev pub has_scroller : Page → ℕ → Bool
has_scroller p sc = knows sc p.props.scrollers

-- the end of a scroller's range along an axis; 0 if the page lacks it
abbrev pub end_of : Option ScrollNode → Axis → ℕ
end_of None ax = 0
end_of (Some n) across = n.max_x
end_of (Some n) down = n.max_y

abbrev pub most : Page → ℕ → Axis → ℕ
most p sc ax = end_of (find sc p.props.scrollers) ax

-- the main value of a scroller along an axis
abbrev pub main_value : Page → ℕ → Axis → ℤ
main_value p sc ax = along ax (main_point p sc)

-- the offsets of a page: its own scrollers stand at these numbers, all others at the origin
abbrev pub offsets_in : Page → (ℕ → Axis → ℤ) → ℕ → Point
offsets_in p at sc = cond (has_scroller p sc) (record { x = at sc across; y = at sc down }) origin

-- how far a scroller of the page that stands at this number moves if this much is asked: to the place asked for, clamped to its range; not at all if the page lacks it
abbrev pub amount_taken : Page → (ℕ → Axis → ℤ) → ℕ → Axis → ℤ → ℤ
amount_taken p at sc ax asked = cond (has_scroller p sc) (clamp_to (most p sc ax) (at sc ax +ℤ asked) -ℤ at sc ax) (pos 0)
