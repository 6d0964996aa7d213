-- The last in front tells.
use Rattle.std.proofs.Common.{◌≡◌, ◌-◌, inr, get_or, subst, arith}
use Rattle.tile_queue.proofs.Parting.{last_after, last_before, before_last, behind_last}
use Rattle.tile_queue.proofs.wanted.is_in_front.Goals as goal

pub returns-clause-before : goal.returns-clause-before
returns-clause-before c =
    λ t y f.
    let fs = c.args.front.now.items in
    let e = subst (λ n. c.get-last.result ≡ get_or fs (n - 1) c.get-last.result) c.len-many.ensures c.get-last.ensures in
    inr (before_last fs c.args.rank.now c.get-last.result y (omega (arith, c.if-many-eq0.false, c.len-many.ensures)) e (last_after c.is_up_to.result c.args.rank.now c.get-last.result c.is_up_to.ensures t) f)

pub returns-clause-behind : goal.returns-clause-behind
returns-clause-behind c =
    λ t x i out.
    let fs = c.args.front.now.items in
    let e = subst (λ n. c.get-last.result ≡ get_or fs (n - 1) c.get-last.result) c.len-many.ensures c.get-last.ensures in
    behind_last fs c.args.rank.now c.get-last.result x c.requires e (last_before c.is_up_to.result c.args.rank.now c.get-last.result c.is_up_to.ensures t) i out
