use Rattle.model_history.proofs.RangeBounds.{sent_few}
use Rattle.model_history.proofs.UsedInputs.{uses_few}
use Rattle.impl_log.proofs.ShortRuns.{in_flight_few}
use Rattle.impl_log.proofs.laws.runs_are_short.Goals as goal

pub returns-clause-inputs : goal.returns-clause-inputs
returns-clause-inputs c = λ s n h l. uses_few s n h l

pub returns-clause-sends : goal.returns-clause-sends
returns-clause-sends c = λ s n h l. sent_few s n h l

pub returns-clause-in_flight : goal.returns-clause-in_flight
returns-clause-in_flight c = λ s n h l. in_flight_few s n h l
