use Rattle.std.proofs.Common.{rules, ◌≡◌, ◌∷◌, [], Some, length, ap, sym, ◌∙◌}
use Rattle.atomic_table.specs.Table.{rest}
use Rattle.thread_lock.proofs.Keeps.{releases}
use Rattle.thread_lock.proofs.pass.Empty.put.Goals as goal

pub stamp-requires-clause-value : goal.stamp-requires-clause-value
stamp-requires-clause-value g c =
    let now = c.exchange-out.ensures.3 in
    let was = c.self.invariant.0 in
    let seen : c.exchange-out.new.seat.me.0.seen ≡ c.args.self.seen = ap (λ m. m.0.seen) now ∙ ap (λ s. s.seen) c.self.view_is in
    let actor : c.self.inside.actor ≡ c.args.self.actor = ap (λ s. s.actor) c.self.view_is in
    record {
      value = c.args.new;
      actor = c.self.inside.actor;
      hand = ap (λ m. m.1) now ∙ ap (λ cs. (0, Some c.args.new) ∷ rest cs) was.hand;
      number = ap (λ m. m.0.number) now ∙ was.number;
      holds = ap (λ m. m.0.holds) now ∙ was.holds;
      fresh = ap (λ m. m.0.olds) now ∙ was.fresh;
      history = rw (seen, actor) c.requires.history;
      count_is = c.self.invariant.1 ∙ sym (ap (λ m. length m.0.seen) now);
      entries_are = c.entries-entries.ensures;
    }

pub store-requires : goal.store-requires
store-requires g c =
    let now = c.exchange-out.ensures.3 in
    let was = c.self.invariant.0 in
    let hand : c.exchange-out.new.seat.me.1 ≡ (0, Some c.args.new) ∷ [] = ap (λ m. m.1) now ∙ ap (λ cs. (0, Some c.args.new) ∷ rest cs) was.hand in
    let stamped = c.stamp.ensures.stamped c.args.new hand in (
      search rules,
      search rules,
      releases g.T.Turn.stem g.T.Turn.history _ _ _ c.args.new (ap (λ m. m.0.holds) stamped ∙ (ap (λ m. m.0.holds) now ∙ was.holds)) (ap (λ m. m.1) stamped ∙ hand) (ap (λ m. m.0.seen) stamped)
          (ap (λ m. m.0.stem) stamped ∙ (ap (λ m. m.0.stem) now ∙ (ap (λ s. s.stem) c.self.view_is ∙ c.requires.stem))),
    )
