use Rattle.std.proofs.Common.{rules, ◌∷◌, Some, ap, sym, ◌∙◌}
use Rattle.atomic_table.specs.Table.{rest}
use Rattle.thread_lock.proofs.lock.TurnLock.try_enter.Goals as goal

pub exchange-requires : goal.exchange-requires
exchange-requires g c = let found = c.if-not-knock.ensures.took in let hand = ap (λ m. m.1) found.1 in
    (search rules, (Some found.0, hand ∙ ap (λ cs. (0, Some found.0) ∷ rest cs) (sym hand)))
