use Rattle.model_steps.proofs.TreesAfter.{commit_is_pending, commit_active}
use Rattle.model_steps.proofs.ReadyAfter.{commit_ready}
use Rattle.model_steps.proofs.laws_choice.commits_leave_the_ready_keys.Goals as goal

pub returns : goal.returns
returns c = record { pending = commit_is_pending; active = commit_active; ready = commit_ready }
