use Rattle.player_run.proofs.OneOutput.{stepped_once, filmed_once, shot_once}
use Rattle.player_run.proofs.laws.outputs_are_one.Goals as goal

pub returns : goal.returns
returns c = record { step = stepped_once; film = filmed_once; shot = shot_once }
