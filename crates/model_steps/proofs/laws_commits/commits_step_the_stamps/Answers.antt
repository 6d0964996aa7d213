use Rattle.model_steps.proofs.QuietFrames.{stamps, page_stamp}
use Rattle.model_steps.proofs.laws_commits.commits_step_the_stamps.Goals as goal

pub returns-clause-stepped : goal.returns-clause-stepped
returns-clause-stepped c s workers h actor k layer r d legal same rising = stamps s workers h actor k legal d same rising layer r

pub returns-clause-page : goal.returns-clause-page
returns-clause-page c s ps n l t q found stamped there = page_stamp s ps n l t found stamped q there
