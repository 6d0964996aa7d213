use Rattle.player_run.proofs.Activated.{first_at_origin, moved_at_each}
use Rattle.player_run.proofs.laws.each_entry_moves_once.Goals as goal

pub returns : goal.returns
returns c = record { first = first_at_origin; each = moved_at_each }
