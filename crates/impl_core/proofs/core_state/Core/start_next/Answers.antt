-- The next key is live.
use Rattle.std.proofs.Common.{◌≡◌, Some, sym, ◌∙◌, subst}
use Rattle.impl_log.specs.Runs.{Run}
use Rattle.impl_core.specs.Replies.{next_key}
use Rattle.impl_core.proofs.MayCome.{next_live}
use Rattle.impl_core.proofs.core_state.Core.start_next.Goals as goal

pub live_job-requires : goal.live_job-requires
live_job-requires c =
    next_live c.next_start.new.self c.in-Some.key (subst (λ (z : Run). next_key z ≡ Some c.in-Some.key) (sym c.next_start.ensures.same) (sym c.in_ok-next_start.ensures.key ∙ c.in-Some.is))
