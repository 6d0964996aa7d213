use Rattle.std.proofs.Common.{refl}
use Rattle.model_history.specs.EventFields.{retires}
use Rattle.model_history.specs.Scans.{was_named}
use Rattle.model_history.proofs.Sums.{offset_is, all_more, moves_part}
use Rattle.model_history.proofs.MovesOnce.{one_carrier, pulls_are, moves_once}
use Rattle.model_history.proofs.laws_scrolls.scrolls_count_once.Goals as goal

pub returns : goal.returns
returns c = record {
  offset = offset_is;
  each_event = all_more;
  one_part = λ retired carrier. refl;
  both_parts = λ s h sc ax. moves_part s sc ax (was_named retires h) h;
  one_send = one_carrier;
  pulls = pulls_are;
  all_moves = moves_once;
}
