-- Rows of one part alone are damaged, those of both are compared.
use Rattle.std.proofs.Common.{◌≡◌, ◌∷◌, [], subst, arith}
use Rattle.std.proofs.lemmas.Int.{ints}
use Rattle.geom.specs.declared.Rect.{Rect}
use Rattle.viz_damage.specs.inner.Areas.{HoldAll}
use Rattle.viz_damage.specs.inner.Moved.{rows_of}
use Rattle.viz_damage.proofs.QuadSteps.{same_rects}
use Rattle.viz_damage.proofs.MovedSteps.{common_bounds, parts_alike, three_held, all_held}
use Rattle.viz_damage.proofs.moved.add_moved.Goals as goal

pub rows_between-requires-clause-low : goal.rows_between-requires-clause-low
rows_between-requires-clause-low c =
    let e = c.common_rows-rows.ensures in
    let bounds = common_bounds c.args.old.at c.args.new.at _ _ _ _ c.requires.old.0 c.requires.new.0 e.first e.top e.end e.last in
    let low = bounds.low in
    omega (arith, ints)

pub rows_between-requires-clause-order : goal.rows_between-requires-clause-order
rows_between-requires-clause-order c =
    let e = c.common_rows-rows.ensures in
    let bounds = common_bounds c.args.old.at c.args.new.at _ _ _ _ c.requires.old.0 c.requires.new.0 e.first e.top e.end e.last in
    let above = bounds.above in
    omega (arith, ints)

pub rows_between-requires-clause-high : goal.rows_between-requires-clause-high
rows_between-requires-clause-high c =
    let e = c.common_rows-rows.ensures in
    let bounds = common_bounds c.args.old.at c.args.new.at _ _ _ _ c.requires.old.0 c.requires.new.0 e.first e.top e.end e.last in
    let order = bounds.order in
    let below = bounds.below in
    let high = bounds.high in
    omega (arith, ints)

pub rows_between-requires-2-clause-low : goal.rows_between-requires-2-clause-low
rows_between-requires-2-clause-low c =
    let e = c.common_rows-rows.ensures in
    let bounds = common_bounds c.args.old.at c.args.new.at _ _ _ _ c.requires.old.0 c.requires.new.0 e.first e.top e.end e.last in
    let low = bounds.low in
    let above = bounds.above in
    let order = bounds.order in
    omega (arith, ints)

pub rows_between-requires-2-clause-order : goal.rows_between-requires-2-clause-order
rows_between-requires-2-clause-order c =
    let e = c.common_rows-rows.ensures in
    let bounds = common_bounds c.args.old.at c.args.new.at _ _ _ _ c.requires.old.0 c.requires.new.0 e.first e.top e.end e.last in
    let below = bounds.below in
    omega (arith, ints)

pub rows_between-requires-2-clause-high : goal.rows_between-requires-2-clause-high
rows_between-requires-2-clause-high c =
    let e = c.common_rows-rows.ensures in
    let bounds = common_bounds c.args.old.at c.args.new.at _ _ _ _ c.requires.old.0 c.requires.new.0 e.first e.top e.end e.last in
    let high = bounds.high in
    omega (arith, ints)

pub add_common-requires-clause-rows : goal.add_common-requires-clause-rows
add_common-requires-clause-rows c =
    let e = c.common_rows-rows.ensures in
    common_bounds c.args.old.at c.args.new.at _ _ _ _ c.requires.old.0 c.requires.new.0 e.first e.top e.end e.last

pub returns-clause-alike : goal.returns-clause-alike
returns-clause-alike c =
    let rows = c.common_rows-rows.result in
    let e = c.common_rows-rows.ensures in
    let bounds = common_bounds c.args.old.at c.args.new.at _ _ _ _ c.requires.old.0 c.requires.new.0 e.first e.top e.end e.last in
    let y = c.rows_between.ensures.y in
    let h = c.rows_between.ensures.h in
    let other_y = c.rows_between-2.ensures.y in
    let other_h = c.rows_between-2.ensures.h in
    let above : c.rows_between.result ≡ rows_of c.args.old.at rows.first rows.top =
    same_rects c.rows_between.result (rows_of c.args.old.at rows.first rows.top) c.rows_between.ensures.x (omega (arith, ints)) c.rows_between.ensures.w (omega (arith, ints)) in
    let below : c.rows_between-2.result ≡ rows_of c.args.old.at rows.end rows.last =
    same_rects c.rows_between-2.result (rows_of c.args.old.at rows.end rows.last) c.rows_between-2.ensures.x (omega (arith, ints)) c.rows_between-2.ensures.w (omega (arith, ints)) in
    let held = three_held c.args.damage.now.items c.add_rows.new.damage.items c.add_rows-2.new.damage.items c.add_common.new.damage.items _ _ c.in_ok-add_rows.ensures.held c.in_ok-add_rows-2.ensures.held c.in_ok-add_common.ensures.held in
    parts_alike c.args.image.now c.args.old.at c.args.new.at c.args.old.from c.args.new.from c.add_common.new.damage.items rows.first rows.top rows.end rows.last
    (c.requires.place, (c.requires.width, c.requires.column)) bounds
    (subst (λ (r : Rect). HoldAll c.add_common.new.damage.items (r ∷ rows_of c.args.old.at rows.end rows.last ∷ [])) above
    (subst (λ (r : Rect). HoldAll c.add_common.new.damage.items (c.rows_between.result ∷ r ∷ [])) below held))
    c.in_ok-add_common.ensures.alike

pub returns-clause-held : goal.returns-clause-held
returns-clause-held c =
    all_held c.args.damage.now.items c.add_rows.new.damage.items c.add_rows-2.new.damage.items c.add_common.new.damage.items _ _ c.in_ok-add_rows.ensures.held c.in_ok-add_rows-2.ensures.held c.in_ok-add_common.ensures.held
