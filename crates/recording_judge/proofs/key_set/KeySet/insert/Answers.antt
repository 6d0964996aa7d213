-- The tree has one key more.
use Rattle.std.proofs.Common.{◌||◌, ◌∙◌, ap}
use Rattle.geom.specs.KeyLists.{same_key, has_key}
use Rattle.recording_judge.proofs.KeySets.{put_in}
use Rattle.recording_judge.proofs.key_set.KeySet.insert.Goals as goal

pub returns : goal.returns
returns c = λ q. put_in c.self.inside.keys c.insert.new.self c.args.key c.in_ok-insert.ensures.updates q ∙ ap (λ ks. same_key c.args.key q || has_key ks q) c.self.view_is
