use Rattle.model_lockstep.proofs.Falls.{round_does, round_falls}
use Rattle.model_lockstep.proofs.laws.rounds_are_few.Goals as goal

pub returns : goal.returns
returns c = record { does = round_does; fewer = round_falls }
