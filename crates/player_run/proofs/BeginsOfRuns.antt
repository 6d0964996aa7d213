-- What holds of a run of actors before its first turn.
use Rattle.std.proofs.Common.{◌∙◌}
use Rattle.proxy_threads.specs.Seats.{Seat}
use Rattle.player_run.specs.inner.Actors.{IsSame}

-- what is the same as the same is the same
pub same_again : (p q r : Seat) → IsSame p q → IsSame q r → IsSame p r
same_again p q r a b = record { lock = b.lock ∙ a.lock; stem = b.stem ∙ a.stem; actor = b.actor ∙ a.actor; mine = b.mine ∙ a.mine }
