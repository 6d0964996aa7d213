-- The area is the run.
use Rattle.recording_check.proofs.MissingFacts.{filled_there, filled_elsewhere}
use Rattle.recording_check.proofs.missing.fill_run.Goals as goal

pub returns-clause-there : goal.returns-clause-there
returns-clause-there c = filled_there c.args.run.first c.args.run.len c.args.width c.args.colour c.args.row.now c.fill_area.new.surface c.requires.inside c.fill_area.ensures.pixels

pub returns-clause-others : goal.returns-clause-others
returns-clause-others c = filled_elsewhere c.args.run.first c.args.run.len c.args.width c.args.colour c.args.row.now c.fill_area.new.surface c.fill_area.ensures.pixels
