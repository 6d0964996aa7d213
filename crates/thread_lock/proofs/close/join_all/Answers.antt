use Rattle.std.proofs.Common.{rules, ◌≡◌, ◌∷◌, [], ◌++◌, map, Some, ap, sym, ◌∙◌}
use Rattle.std.proofs.lemmas.List.Elements.{All-pop}
use Rattle.thread_lock.specs.PassModels.{PassModel, old_of}
use Rattle.thread_lock.specs.inner.Steps.{old_at}
use Rattle.thread_lock.proofs.Seats.{some_of}
use Rattle.thread_lock.proofs.Closing.{joins, one_more, same_pass}
use Rattle.thread_lock.proofs.close.join_all.Goals as goal

pub join_seat-requires : goal.join_seat-requires
join_seat-requires g c =
    let IsHere : PassModel g.row.T-Stem.Denot g.row.T-Entry.Denot → Type 0 = λ p. p.lock ≡ c.args.table.now.shared.table_id in
    let items : c.loop-pass.passes.items ≡ c.pop.new.self.items ++ c.in-Some.pass ∷ [] = search rules in
    let here = (All-pop IsHere c.loop-pass.passes.items c.pop.new.self.items (Some c.in-Some.pass) items c.loop-pass.invariant.passes).1 in
    let stem = some_of _ c.pass.invariant.live in (
      search rules,
      ap (λ p. p.lock) c.pass.view_is ∙ here,
      search rules,
      search rules,
      joins g.T.Turn.stem g.T.Turn.history _ _ _ _ stem.0 _ stem.1 c.pass.invariant.number c.pass.invariant.waits c.pass.invariant.fresh,
    )

pub loop-pass-preserved : goal.loop-pass-preserved
loop-pass-preserved g c =
    let IsHere : PassModel g.row.T-Stem.Denot g.row.T-Entry.Denot → Type 0 = λ p. p.lock ≡ c.args.table.now.shared.table_id in
    let before = c.loop-pass.invariant in
    let joined = ap (λ m. m.0) c.join_seat.ensures.2 in
    let left = c.pop.new.self.items in
    let items : c.loop-pass.passes.items ≡ left ++ c.in-Some.pass ∷ [] = search rules in
    let w = c.pass.inside.place.me.0 in
    let olds = c.loop-pass.place.me.0.olds in
    let old_is : old_at w.number w ≡ old_of c.in-Some.pass ∷ [] = ap (λ z. old_at z w) c.pass.invariant.number ∙ ap (λ p. old_of p ∷ []) c.pass.view_is in
    record {
      table = search rules;
      passes = (All-pop IsHere c.loop-pass.passes.items left (Some c.in-Some.pass) items before.passes).0;
      olds = ap (λ v. map old_of left ++ v.olds) joined ∙ (ap (λ os. map old_of left ++ (os ++ olds)) old_is ∙ (one_more left c.in-Some.pass olds ∙ (ap (λ ps. map old_of ps ++ olds) (sym items) ∙ before.olds)));
      took = same_pass c.args.place.now.me.0 c.loop-pass.place.me.0 w c.join_seat.new.seat.me.0 before.took joined;
    }
