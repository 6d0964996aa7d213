-- The common span with the side is a proper one, whose quotients bound the run.
use Rattle.std.proofs.Common.{◌<◌, ◌^◌, ◌∙◌, sym, rules, arith, FitsSigned}
use Rattle.std.proofs.lemmas.Int.{to_z-of_z, to_z_pos}
use Rattle.geom.proofs.Runs.{meeting_some, meeting_none}
use mir.Syntax.{w32}
use Rattle.geom.proofs.cut.tiles_meeting.Goals as goal

pub returns-in-Some : goal.returns-in-Some
returns-in-Some c =
    let b : c.args.side < 2 ^ 31 = omega arith in
    let f : FitsSigned w32 c.args.at = c.ranges.at in
    let g : FitsSigned w32 c.args.len = c.ranges.len in
    let i : FitsSigned w32 c.in-Some.common.at = search rules in
    let j : FitsSigned w32 c.in-Some.common.len = search rules in
    let h = simp (to_z-of_z, to_z_pos) at c.common_span.ensures.value in
    let first = simp to_z-of_z at c.run_of.ensures.first in
    let end = simp to_z-of_z at c.run_of.ensures.end in
    meeting_some c.args.side c.args.tile c.args.at c.args.len c.in-Some.common c.run_of.result c.requires.whole c.requires.cut c.requires.span
    (sym h ∙ c.in-Some.is) first end

pub returns-in-None : goal.returns-in-None
returns-in-None c =
    let b : c.args.side < 2 ^ 31 = omega arith in
    let f : FitsSigned w32 c.args.at = c.ranges.at in
    let g : FitsSigned w32 c.args.len = c.ranges.len in
    let h = simp (to_z-of_z, to_z_pos) at c.common_span.ensures.value in
    meeting_none c.args.side c.args.tile c.args.at c.args.len (sym h ∙ c.in-None.is)
