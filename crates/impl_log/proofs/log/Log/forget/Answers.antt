-- Only entries that may be forgotten are, and the run stays.
use Rattle.std.proofs.Common.{◌≤◌, List, reverse, arith}
use Rattle.std.proofs.lemmas.List.{length-reverse}
use Rattle.model_history.specs.declared.history.Entry.{Entry}
use Rattle.impl_log.specs.Kept.{forgettable}
use Rattle.impl_log.proofs.Forgetting.{before_shorter, newest_front}
use Rattle.impl_log.proofs.LogSteps.{still_log}
use Rattle.impl_log.proofs.log.Log.forget.Goals as goal

pub forget-requires : goal.forget-requires
forget-requires c =
    let es : List Entry = c.self.inside.history.entries in
    let older = c.self.invariant.0.older in
    let twice = newest_front (reverse es) in
    let once = before_shorter (reverse es) in
    let long = length-reverse es in
    omega (arith, older, twice, once, long)

pub invariant_of-self : goal.invariant_of-self
invariant_of-self c =
    let es : List Entry = c.self.inside.history.entries in
    let older = c.self.invariant.0.older in
    let first = c.self.invariant.0.first in
    let forgot = c.forget.ensures.first in
    let few : c.forget.new.self.first ≤ forgettable (reverse es) = grind (arith, older, first, forgot) in (
      still_log c.self.inside.plan c.self.inside.workers c.self.inside.progress c.self.inside.places c.self.inside.history c.forget.new.self c.self.invariant.0 c.forget.ensures.entries few c.forget.ensures.spare,
      c.self.invariant.1,
    )
