-- The row fits.
use Rattle.std.proofs.Common.{rules, arith, FitsSigned, w32}
use Rattle.std.proofs.lemmas.Int.{ints}
use Rattle.viz_damage.proofs.moved_rows.start_of.Goals as goal

pub returns-clause-y : goal.returns-clause-y
returns-clause-y c =
    let f : FitsSigned w32 c.start_row.result = search rules in
    let e = c.start_row.ensures in
    omega (arith, ints)
