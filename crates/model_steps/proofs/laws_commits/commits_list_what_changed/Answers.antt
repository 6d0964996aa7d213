use Rattle.model_steps.proofs.QuietFrames.{sizes, items, tile, first}
use Rattle.model_steps.proofs.laws_commits.commits_list_what_changed.Goals as goal

pub returns-clause-sizes : goal.returns-clause-sizes
returns-clause-sizes c s workers h actor k id a legal there out = sizes s workers h actor k legal a id there out

pub returns-clause-items : goal.returns-clause-items
returns-clause-items c s workers h actor k id a legal there out = items s workers h actor k legal a id there out

pub returns-clause-tile : goal.returns-clause-tile
returns-clause-tile c s workers h actor k legal out = tile s workers h actor k legal out

pub returns-clause-first : goal.returns-clause-first
returns-clause-first c s workers h actor k id a legal none there = first s workers h actor k legal a none id there
