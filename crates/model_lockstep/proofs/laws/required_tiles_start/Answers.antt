use Rattle.model_history.specs.Tiles.{required}
use Rattle.model_history.proofs.KeyFacts.{in_has}
use Rattle.model_lockstep.proofs.Visibles.{required_wanted, stuck_first}
use Rattle.model_lockstep.proofs.laws.required_tiles_start.Goals as goal

pub returns : goal.returns
returns c = record {
  wanted = λ s h q a flies t out. let w = required_wanted s a h q flies (in_has (required s h) q t) out in (w.rank, w.ranked, w.now, w.wanted);
  first = λ s n h a l flies o f. stuck_first s n h a l flies o f;
}
