-- What is left, and what leaves nothing.
use Rattle.std.proofs.Common.{◌≡◌, ◌<ℤ◌, ◌≤ℤ◌, ◌+ℤ◌, ◌-ℤ◌, rules, arith, FitsSigned, w32}
use Rattle.std.specs.Int.{int_max, int_min}
use Rattle.std.proofs.lemmas.Int.{ints, clamps, to_z-of_z}
use Rattle.viz_damage.proofs.Moving.{some_rest, no_rest}
use Rattle.viz_damage.proofs.moved_rows.rest_of.Goals as goal

pub rect_of-requires-clause-start : goal.rect_of-requires-clause-start
rect_of-requires-clause-start c =
    let f : FitsSigned w32 c.first_row-start.result = search rules in
    let t : FitsSigned w32 c.args.cut.top = search rules in
    let e = c.first_row-start.ensures in
    let low = c.requires.cut.start in
    omega (arith, ints, clamps)

pub rect_of-requires-clause-end : goal.rect_of-requires-clause-end
rect_of-requires-clause-end c =
    let f : FitsSigned w32 c.last_row-stop.result = search rules in
    let t : FitsSigned w32 c.args.cut.end = search rules in
    let e = c.last_row-stop.ensures in
    let high = c.requires.cut.stop in
    omega (arith, ints, clamps)

pub returns-then-start-stop : goal.returns-then-start-stop
returns-then-start-stop c =
    let f : FitsSigned w32 c.first_row-start.result = search rules in
    let g : FitsSigned w32 c.last_row-stop.result = search rules in
    let y : FitsSigned w32 c.args.at.y = search rules in
    let h : FitsSigned w32 c.args.at.h = search rules in
    let b : FitsSigned w32 c.args.cut.by = search rules in
    let t : FitsSigned w32 c.args.cut.top = search rules in
    let e : FitsSigned w32 c.args.cut.end = search rules in
    let start : c.first_row-start.result ≡ int_max (c.args.at.y +ℤ c.args.cut.by) c.args.cut.top = simp to_z-of_z at c.first_row-start.ensures in
    let stop : c.last_row-stop.result ≡ int_min (c.args.at.y +ℤ c.args.at.h +ℤ c.args.cut.by) c.args.cut.end = simp to_z-of_z at c.last_row-stop.ensures in
    let before = c.if-start-stop.true in
    let lt : c.first_row-start.result <ℤ c.last_row-stop.result = omega (arith, ints) in
    let v = c.rect_of.ensures.y in
    let row : c.rect_of.result.y ≡ c.first_row-start.result = omega (arith, ints) in
    let u = c.rect_of.ensures.h in
    let rows : c.rect_of.result.h ≡ c.last_row-stop.result -ℤ c.first_row-start.result = omega (arith, ints) in
    some_rest c.args.cut.by c.args.cut.top c.args.cut.end c.first_row-start.result c.last_row-stop.result c.args.at c.rect_of.result start stop lt
    c.rect_of.ensures.x row c.rect_of.ensures.w rows

pub returns-else-start-stop : goal.returns-else-start-stop
returns-else-start-stop c =
    let f : FitsSigned w32 c.first_row-start.result = search rules in
    let g : FitsSigned w32 c.last_row-stop.result = search rules in
    let y : FitsSigned w32 c.args.at.y = search rules in
    let h : FitsSigned w32 c.args.at.h = search rules in
    let b : FitsSigned w32 c.args.cut.by = search rules in
    let t : FitsSigned w32 c.args.cut.top = search rules in
    let e : FitsSigned w32 c.args.cut.end = search rules in
    let start : c.first_row-start.result ≡ int_max (c.args.at.y +ℤ c.args.cut.by) c.args.cut.top = simp to_z-of_z at c.first_row-start.ensures in
    let stop : c.last_row-stop.result ≡ int_min (c.args.at.y +ℤ c.args.at.h +ℤ c.args.cut.by) c.args.cut.end = simp to_z-of_z at c.last_row-stop.ensures in
    let behind = c.if-start-stop.false in
    let le : c.last_row-stop.result ≤ℤ c.first_row-start.result = omega (arith, ints) in
    no_rest c.args.at.y c.args.at.h c.args.cut.by c.args.cut.top c.args.cut.end c.first_row-start.result c.last_row-stop.result start stop le
