-- The value of the digits so far and the digits that are left say what all say.
use Rattle.std.proofs.Common.{◌≡◌, length}
use Rattle.player_uses.specs.Words.{digits_value}
use Rattle.player_uses.proofs.words.value_of.Given as goal

abbrev pub invariant-loop-digit : goal.invariant-loop-digit
invariant-loop-digit l = digits_value l.value l.rest ≡ digits_value 0 l.word

abbrev pub decreases-loop-digit : goal.decreases-loop-digit
decreases-loop-digit l = length l.rest
