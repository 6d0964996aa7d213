-- The moved bounds are sound.
use Rattle.std.proofs.Common.{sym, subst, rules}
use Rattle.geom.specs.Covers.{IsSound}
use Rattle.page_layers.proofs.Placing.{bounds_sound}
use Rattle.page_layers.proofs.placed_layer.moved_bounds.Goals as goal

pub returns-clause-value : goal.returns-clause-value
returns-clause-value c = search rules

pub returns-clause-sound : goal.returns-clause-sound
returns-clause-sound c = subst IsSound (sym (returns-clause-value c)) (bounds_sound c.args.w c.args.h c.args.by c.requires.wide c.requires.tall c.requires.near)
