use Rattle.model_history.proofs.GrownPlays.{playable_input, playable_main_frame, playable_commands}
use Rattle.model_history.proofs.laws_growth.grown_scripts_are_playable.Goals as goal

pub returns : goal.returns
returns c = record { input = playable_input; main_frame = playable_main_frame; commands = playable_commands }
