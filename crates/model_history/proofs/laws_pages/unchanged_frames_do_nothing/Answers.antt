use Rattle.model_history.proofs.FrameFacts.{no_commands, no_main_move, unchanged_page}
use Rattle.model_history.proofs.laws_pages.unchanged_frames_do_nothing.Goals as goal

pub returns : goal.returns
returns c = record { commands = no_commands; moves = λ s ps k sc ax h. no_main_move s ps k h sc ax; page = unchanged_page }
