use Rattle.std.proofs.Common.{FitsSigned, rules}
use Rattle.std.proofs.lemmas.Int.{to_z-of_z}
use mir.Syntax.{w32}
use Rattle.viz_render.proofs.tile.taken_part.Goals as goal

pub later-requires-clause-by : goal.later-requires-clause-by
later-requires-clause-by c = let f : FitsSigned w32 c.args.from.x = search rules in simp to_z-of_z (c.requires.from_left)
