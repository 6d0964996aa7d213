-- What an abort takes from the delta it gives to both bases.
use Rattle.std.proofs.Common.{arith}
use Rattle.std.proofs.lemmas.Int.{ints}
use Rattle.model_states.proofs.laws.values_survive.Goals as goal

pub returns-clause-abort : goal.returns-clause-abort
returns-clause-abort c = record { active = λ s. omega (arith, ints); pending = λ s. omega (arith, ints) }
