use Rattle.model_steps.proofs.TreesAfter.{abort_active, abort_pending, abort_choice}
use Rattle.model_steps.proofs.laws_choice.aborts_leave_the_choice.Goals as goal

pub returns : goal.returns
returns c = record { active = abort_active; pending = abort_pending; choice = abort_choice }
