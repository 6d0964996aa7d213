-- The key of the rank that starts first.
use Rattle.std.proofs.Common.{None, Some, sym, ◌∙◌, ap}
use Rattle.std.specs.Prelude.{option_map}
use Rattle.tile_priority.specs.declared.rank.Rank.{Rank}
use Rattle.tile_queue.proofs.Picking.{none_iff}
use Rattle.tile_queue.proofs.queue.RasterQueue.first.Goals as goal

pub returns-in-Some-clause-key : goal.returns-in-Some-clause-key
returns-in-Some-clause-key c = ap (option_map (λ (r : Rank). r.key)) (sym c.in-Some.is ∙ c.first_rank.ensures)

pub returns-in-None-clause-key : goal.returns-in-None-clause-key
returns-in-None-clause-key c = ap (option_map (λ (r : Rank). r.key)) (sym c.in-None.is ∙ c.first_rank.ensures)

pub returns-in-Some-clause-none : goal.returns-in-Some-clause-none
returns-in-Some-clause-none c = none_iff c.args.self.now (Some c.in-Some.rank.key) (returns-in-Some-clause-key c)

pub returns-in-None-clause-none : goal.returns-in-None-clause-none
returns-in-None-clause-none c = none_iff c.args.self.now None (returns-in-None-clause-key c)
