-- The bounds of the rows.
use Rattle.std.proofs.Common.{◌≡◌, ℤ, ◌+ℤ◌, ◌∙◌, ap, arith, to_z, of_z, w32}
use Rattle.std.specs.Int.{int_max, int_min}
use Rattle.std.proofs.lemmas.Int.{ints, clamps}
use Rattle.viz_damage.proofs.moved.common_rows.Goals as goal

pub returns-clause-first : goal.returns-clause-first
returns-clause-first c =
    let first = c.lower.ensures in
    omega (arith, ints, clamps)

pub returns-clause-top : goal.returns-clause-top
returns-clause-top c =
    let top = c.upper-top.ensures in
    omega (arith, ints, clamps)

pub returns-clause-end : goal.returns-clause-end
returns-clause-end c =
    let a = c.args.a in
    let b = c.args.b in
    let whole : to_z w32 (of_z w32 c.upper.result) ≡ c.upper.result = omega (arith, ints) in
    let end : to_z w32 (of_z w32 c.lower-end.result) ≡ c.lower-end.result = omega (arith, ints) in
    let top : to_z w32 (of_z w32 c.upper-top.result) ≡ c.upper-top.result = omega (arith, ints) in
    let one : to_z w32 (of_z w32 c.end_of.result) ≡ c.end_of.result = omega (arith, ints) in
    let other : to_z w32 (of_z w32 c.end_of-2.result) ≡ c.end_of-2.result = omega (arith, ints) in
    let least : c.lower-end.result ≡ int_min (a.y +ℤ a.h) (b.y +ℤ b.h) =
    c.lower-end.ensures
    ∙ ap (λ (z : ℤ). int_min z (to_z w32 (of_z w32 c.end_of-2.result))) (one ∙ c.end_of.ensures)
    ∙ ap (int_min (a.y +ℤ a.h)) (other ∙ c.end_of-2.ensures) in
    let most : c.upper-top.result ≡ int_max a.y b.y = (let e = c.upper-top.ensures in omega (arith, ints, clamps)) in
    whole ∙ c.upper.ensures
    ∙ ap (λ (z : ℤ). int_max z (to_z w32 (of_z w32 c.upper-top.result))) (end ∙ least)
    ∙ ap (int_max (int_min (a.y +ℤ a.h) (b.y +ℤ b.h))) (top ∙ most)

pub returns-clause-last : goal.returns-clause-last
returns-clause-last c =
    let a = c.end_of-3.ensures in
    let b = c.end_of-4.ensures in
    let last = c.upper-2.ensures in
    omega (arith, ints, clamps)
