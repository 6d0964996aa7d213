-- Where one digit more is too much, so is the whole.
use Rattle.std.proofs.Common.{◌^◌}
use Rattle.player_uses.proofs.RightWords.{value_passes}
use Rattle.player_uses.proofs.words.value_of.Goals as goal

pub returns-in_default-value_behind : goal.returns-in_default-value_behind
returns-in_default-value_behind c =
    value_passes (2 ^ 64) c.loop-digit.value c.in-Some.digit.now c.loop-digit.rest.now c.in-Some.after.now _ c.in-Some.ensures.cases.0 c.loop-digit.invariant c.in_default-value_behind.ensures
