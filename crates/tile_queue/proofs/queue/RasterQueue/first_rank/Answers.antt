-- The best of the wanted ranks starts first, where it may.
use Rattle.std.proofs.Common.{◌≡◌, ◌∙◌, true, false, cond, None, Some, [], ◌∷◌, drop, refl, sym, ap, subst, arith}
use Rattle.tile_priority.specs.declared.rank.Rank.{Rank}
use Rattle.tile_priority.specs.Ranks.{rank_cmp}
use Rattle.tile_priority.specs.Ordered.{IsInOrder}
use Rattle.tile_priority.specs.Choice.{Choice}
use Rattle.tile_queue.proofs.Picking.{first_none, first_some, nothing_in, head_is}
use Rattle.tile_queue.proofs.queue.RasterQueue.first_rank.Goals as goal

pub returns-in_default : goal.returns-in_default
returns-in_default c =
    let e : c.self.inside.wanted.items ≡ [] = nothing_in c.self.inside.wanted.items (λ h. let t : false ≡ true = c.in_default.ensures.variant.1 (omega (arith, h)) in cc) in
    sym (first_none c.args.self.now (ap (λ (z : Choice). z.wanted) (sym c.self.view_is) ∙ e))

pub returns-then-may_start : goal.returns-then-may_start
returns-then-may_start c =
    let q : Rank = c.in-Some.rank in
    let h : c.self.inside.wanted.items ≡ q ∷ drop 1 c.self.inside.wanted.items = head_is c.self.inside.wanted.items q (omega (arith, c.in-Some.ensures.variant.0 refl)) c.in-Some.ensures.lookup in
    let w = ap (λ (z : Choice). z.wanted) (sym c.self.view_is) in
    sym
    (first_some c.args.self.now q (drop 1 c.self.inside.wanted.items) (w ∙ h) (subst (IsInOrder rank_cmp) (sym w) c.self.invariant.best_first)
    ∙ ap (λ t. cond t (Some q) None) (sym (c.may_start.ensures q refl) ∙ c.if-may_start.true))

pub returns-else-may_start : goal.returns-else-may_start
returns-else-may_start c =
    let q : Rank = c.in-Some.rank in
    let h : c.self.inside.wanted.items ≡ q ∷ drop 1 c.self.inside.wanted.items = head_is c.self.inside.wanted.items q (omega (arith, c.in-Some.ensures.variant.0 refl)) c.in-Some.ensures.lookup in
    let w = ap (λ (z : Choice). z.wanted) (sym c.self.view_is) in
    sym
    (first_some c.args.self.now q (drop 1 c.self.inside.wanted.items) (w ∙ h) (subst (IsInOrder rank_cmp) (sym w) c.self.invariant.best_first)
    ∙ ap (λ t. cond t (Some q) None) (sym (c.may_start.ensures q refl) ∙ c.if-may_start.false))
