-- The line up to the newline that was found.
use Rattle.std.proofs.Common.{sym, ◌∙◌}
use Rattle.recording_check.proofs.LineEnds.{first_line}
use Rattle.recording_check.proofs.opening.first_line.Goals as goal

pub returns-in-Some : goal.returns-in-Some
returns-in-Some c = first_line c.args.bytes.now c.in-Some.end c.front.result (sym c.newline_in.ensures.place ∙ c.in-Some.is) c.front.ensures
