use Rattle.std.proofs.Common.{rules, ⊎_elim, ap, sym, ◌∙◌, length}
use Rattle.thread_lock.proofs.Keeps.{stamps}
use Rattle.thread_lock.proofs.pass.stamp.Goals as goal

pub store-requires : goal.store-requires
store-requires g c = let b = c.requires.value in (
  search rules,
  search rules,
  ⊎_elim
      (λ same. absurd (c.if-entries-count.true (b.entries_are ∙ (ap length same ∙ sym b.count_is))))
      (λ more. stamps g.T.Turn.stem g.T.Turn.history _ _ _ b.actor b.value more.0 _ b.number b.holds b.fresh b.hand more.1 b.entries_are)
      b.history,
)
