-- The row of the scroller holds its values.
use Rattle.std.proofs.Common.{rules}
use Rattle.std.specs.Prelude.{FitsSigned}
use Rattle.std.specs.Int.{w32}
use Rattle.std.proofs.lemmas.Int.{to_z-of_z}
use Rattle.page_layers.specs.Axes.{across, down}
use Rattle.impl_scroll.proofs.scroll_values.ScrollValues.accepted.Goals as goal

pub taken_by-requires-clause-x_bounded : goal.taken_by-requires-clause-x_bounded
taken_by-requires-clause-x_bounded c = rw (c.row_of-row.ensures, c.as_slice.ensures.value, c.self.view_is) (c.requires.bounded c.args.scroller across)

pub taken_by-requires-clause-y_bounded : goal.taken_by-requires-clause-y_bounded
taken_by-requires-clause-y_bounded c = rw (c.row_of-row.ensures, c.as_slice.ensures.value, c.self.view_is) (c.requires.bounded c.args.scroller down)

pub taken_by-requires-clause-x_in_range : goal.taken_by-requires-clause-x_in_range
taken_by-requires-clause-x_in_range c = rw (c.row_of-row.ensures, c.as_slice.ensures.value, c.self.view_is) (c.requires.in_range c.args.scroller across)

pub taken_by-requires-clause-y_in_range : goal.taken_by-requires-clause-y_in_range
taken_by-requires-clause-y_in_range c = rw (c.row_of-row.ensures, c.as_slice.ensures.value, c.self.view_is) (c.requires.in_range c.args.scroller down)

pub returns-clause-x : goal.returns-clause-x
returns-clause-x c =
    let fits : FitsSigned w32 c.args.dx = search rules in
    let taken = simp to_z-of_z at c.taken_by.ensures.x in
    rw (c.row_of-row.ensures, c.as_slice.ensures.value, c.self.view_is) at taken

pub returns-clause-y : goal.returns-clause-y
returns-clause-y c =
    let fits : FitsSigned w32 c.args.dy = search rules in
    let taken = simp to_z-of_z at c.taken_by.ensures.y in
    rw (c.row_of-row.ensures, c.as_slice.ensures.value, c.self.view_is) at taken
