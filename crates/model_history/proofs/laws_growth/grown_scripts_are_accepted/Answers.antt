use Rattle.model_history.proofs.GrownScripts.{accepted_input, accepted_main_frame, accepted_commands, short_commands}
use Rattle.model_history.proofs.laws_growth.grown_scripts_are_accepted.Goals as goal

pub returns : goal.returns
returns c = record { input = accepted_input; main_frame = accepted_main_frame; commands = accepted_commands; short = short_commands }
