-- The tree has one key fewer.
use Rattle.std.proofs.Common.{not, ◌&&◌, ◌∙◌, ap}
use Rattle.geom.specs.KeyLists.{same_key, has_key}
use Rattle.recording_judge.proofs.KeySets.{taken_out}
use Rattle.recording_judge.proofs.key_set.KeySet.remove.Goals as goal

pub returns : goal.returns
returns c = λ q. taken_out c.self.inside.keys c.remove.new.self c.args.key c.remove.ensures.updates q ∙ ap (λ ks. has_key ks q && not (same_key c.args.key q)) c.self.view_is
