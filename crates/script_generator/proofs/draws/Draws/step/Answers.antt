-- The product is cut to 64 bits before the sum is.
use Rattle.std.proofs.Common.{◌*◌}
use Rattle.std.proofs.Math.Nat.{mod-add-mod}
use Rattle.script_generator.specs.Draws.{next}
use Rattle.script_generator.proofs.draws.Draws.step.Goals as goal

pub returns : goal.returns
unfolding next
returns c = mod-add-mod (c.args.self.now.kept * 6364136223846793005) 18446744073709551616 1442695040888963407
