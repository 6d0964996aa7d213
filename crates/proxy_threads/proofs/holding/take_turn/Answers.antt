-- The pass tells of the core that it found.
use Rattle.std.proofs.Common.{◌≡◌, ◌+◌, ℕ, ◌∙◌, sym, ap, subst, arith}
use mathlib.Core.List.{IsPrefix}
use Rattle.thread_lock.specs.Lists.{entries_by}
use Rattle.impl_log.specs.Runs.{Run}
use Rattle.proxy_threads.specs.Seats.{Seat, pairs}
use Rattle.proxy_threads.proofs.holding.take_turn.Goals as goal

pub returns : goal.returns
returns g c =
    let entered = c.enter-held.ensures.entered in
    let place = c.take-core.ensures.place in
    let taken : c.enter-held.result.pass.taken ≡ c.args.pass.taken + 1 = ap (λ (z : Seat). z.taken) entered in
    let later : c.take-core.result.1.taken ≡ c.enter-held.result.pass.taken = ap (λ (z : Seat). z.taken) place in
    record {
      lock = ap (λ (z : Seat). z.lock) (place ∙ entered);
      actor = ap (λ (z : Seat). z.actor) (place ∙ entered);
      stem = ap (λ (z : Seat). z.stem) (place ∙ entered);
      most = ap (λ (z : Seat). z.most) (place ∙ entered);
      taken = omega (arith, taken, later);
      mine = ap (λ (z : Seat). z.mine) (place ∙ entered);
      seen = ap (λ (z : Seat). z.seen) place ∙ sym c.take-core.ensures.seen;
      sees = record {
        began = subst (λ (r : Run). IsPrefix c.args.pass.seen (pairs r.entries)) (sym c.take-core.ensures.value) c.enter-held.ensures.seen;
        own = ap (λ (a : ℕ). entries_by a (pairs c.take-core.result.0.entries)) (sym (ap (λ (z : Seat). z.actor) entered)) ∙ (c.take-core.ensures.mine ∙ ap (λ (z : Seat). z.mine) entered);
        origin = sym (ap (λ (z : Seat). z.stem) entered) ∙ c.take-core.ensures.stem;
        legal = c.is_legal.ensures.legal;
        playable = c.is_legal.ensures.playable;
      };
    }
