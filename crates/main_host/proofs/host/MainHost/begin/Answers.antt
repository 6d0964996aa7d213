-- A script has few frames.
use Rattle.std.proofs.Common.{◌<◌, length, sym, subst, arith}
use Rattle.model_history.specs.Accepted.{IsAccepted}
use Rattle.model_history.proofs.Ranged.{has_few_frames}
use Rattle.main_host.specs.Hosts.{MainHostModel}
use Rattle.main_host.proofs.host.MainHost.begin.Goals as goal

pub overflow_add-self : goal.overflow_add-self
overflow_add-self c =
    let s = c.self.inside.script.value in
    let accepted : IsAccepted s = subst IsAccepted c.deref.ensures c.is_accepted.ensures.accepted in
    let most = has_few_frames s accepted.ranges in
    let left = subst (λ (h : MainHostModel). length h.sends < length h.script.main) (sym c.self.view_is) c.requires.left in
    let long = c.self.invariant.0 in
    omega (arith, most, left, long)
