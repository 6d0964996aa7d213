-- A part has a run on each axis.
use Rattle.std.proofs.Common.{arith, FitsSigned}
use Rattle.std.proofs.lemmas.Int.{ints, to_z-of_z}
use mir.Syntax.{w32}
use Rattle.page_display_list.proofs.Runs.{part_of_runs, outside_across, outside_down}
use Rattle.page_display_list.proofs.covered_area.shared_part.Goals as goal

pub returns-in_default : goal.returns-in_default
returns-in_default c =
    let a : FitsSigned w32 c.args.rect.x = omega (arith, ints) in
    let b : FitsSigned w32 c.args.rect.w = omega (arith, ints) in
    let d : FitsSigned w32 c.args.area.x = omega (arith, ints) in
    let e : FitsSigned w32 c.args.area.w = omega (arith, ints) in
    outside_across c.args.rect c.args.area c.requires.area (simp to_z-of_z at c.in_default.ensures)

pub returns-in_default-shared_run : goal.returns-in_default-shared_run
returns-in_default-shared_run c =
    let a : FitsSigned w32 c.args.rect.y = omega (arith, ints) in
    let b : FitsSigned w32 c.args.rect.h = omega (arith, ints) in
    let d : FitsSigned w32 c.args.area.y = omega (arith, ints) in
    let e : FitsSigned w32 c.args.area.h = omega (arith, ints) in
    outside_down c.args.rect c.args.area c.requires.area (simp to_z-of_z at c.in_default-shared_run.ensures)

pub returns : goal.returns
returns c =
    let a : FitsSigned w32 c.args.rect.x = omega (arith, ints) in
    let b : FitsSigned w32 c.args.rect.w = omega (arith, ints) in
    let d : FitsSigned w32 c.args.area.x = omega (arith, ints) in
    let e : FitsSigned w32 c.args.area.w = omega (arith, ints) in
    let f : FitsSigned w32 c.args.rect.y = omega (arith, ints) in
    let g : FitsSigned w32 c.args.rect.h = omega (arith, ints) in
    let h : FitsSigned w32 c.args.area.y = omega (arith, ints) in
    let k : FitsSigned w32 c.args.area.h = omega (arith, ints) in
    part_of_runs c.args.rect c.args.area c.in-Some.across c.in-Some-shared_run.down c.requires.rect c.requires.area
    (simp to_z-of_z at c.in-Some.ensures) (simp to_z-of_z at c.in-Some-shared_run.ensures)
