-- The tree finds what its list has.
use Rattle.std.proofs.Common.{◌∙◌, ap}
use Rattle.geom.specs.KeyLists.{has_key}
use Rattle.recording_judge.proofs.KeySets.{there}
use Rattle.recording_judge.proofs.key_set.KeySet.has.Goals as goal

pub returns : goal.returns
returns c = c.contains.ensures ∙ (there c.self.inside.keys c.args.key ∙ ap (λ ks. has_key ks c.args.key) c.self.view_is)
