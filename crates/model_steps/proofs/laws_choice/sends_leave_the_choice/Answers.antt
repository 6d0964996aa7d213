use Rattle.model_steps.proofs.TreesAfter.{send_active, send_pending, send_choice}
use Rattle.model_steps.proofs.laws_choice.sends_leave_the_choice.Goals as goal

pub returns : goal.returns
returns c = record { active = send_active; pending = send_pending; choice = send_choice }
