-- The gaps from the area's start and from the span's start.
use Rattle.std.proofs.Common.{rules, FitsSigned}
use Rattle.std.proofs.lemmas.Int.{to_z-of_z}
use mir.Syntax.{w32}
use Rattle.page_display_list.proofs.Runs.{run_made}
use Rattle.page_display_list.proofs.covered_area.shared_run.Goals as goal

pub returns-then-start-end : goal.returns-then-start-end
returns-then-start-end c =
    let s : FitsSigned w32 c.max-start.result = search rules in
    let e : FitsSigned w32 c.min-end.result = search rules in
    let p : FitsSigned w32 c.end_of.result = search rules in
    let q : FitsSigned w32 c.end_of-2.result = search rules in
    let a = c.ranges.at in
    let f = c.ranges.from in
    let t = c.ranges.len in
    let n = c.ranges.count in
    run_made c.args.at c.args.len c.args.from c.args.count c.max-start.result c.min-end.result c.end_of.result c.end_of-2.result
    c.gap.result c.gap-then-start-end.result c.gap-then-start-end-2.result
    (simp to_z-of_z at c.max-start.ensures.value)
    (simp to_z-of_z at c.end_of.ensures)
    (simp to_z-of_z at c.end_of-2.ensures)
    (simp to_z-of_z at c.min-end.ensures.value)
    (simp to_z-of_z at c.gap.ensures)
    (simp to_z-of_z at c.gap-then-start-end.ensures)
    (simp to_z-of_z at c.gap-then-start-end-2.ensures)
