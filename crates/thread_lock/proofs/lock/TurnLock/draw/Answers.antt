use Rattle.std.proofs.Common.{rules, arith, ◌≡◌, ap, ◌∙◌}
use Rattle.thread_lock.proofs.Seats.{some_of}
use Rattle.thread_lock.proofs.Keeps.{learns, splits, draws}
use Rattle.thread_lock.proofs.lock.TurnLock.draw.Goals as goal

pub load-given-requires : goal.load-given-requires
load-given-requires g c = let stem = some_of _ c.pass.invariant.live in (search rules, search rules, learns g.T.Turn.stem g.T.Turn.history _ _ _ stem.0 stem.1)

pub split_seat-place-requires : goal.split_seat-place-requires
split_seat-place-requires g c = (search rules, search rules, splits g.T.Turn.stem g.T.Turn.history _ _)

pub compare_exchange-found-requires : goal.compare_exchange-found-requires
compare_exchange-found-requires g c =
    let stem = some_of _ c.pass.invariant.live in
    let learned = c.load-given.ensures.2.0 in
    let new = c.split_seat-place.ensures.4 in
    let most : c.split_seat-place.result.me.0.most ≡ c.pass.inside.most = ap (λ m. m.0.most) new ∙ (ap (λ m. m.0.most) learned ∙ c.pass.invariant.most_is) in
    (search rules, search rules, draws g.T.Turn.stem g.T.Turn.history _ _ _ stem.0 _ (ap (λ m. m.0.stem) new ∙ (ap (λ m. m.0.stem) learned ∙ stem.1)) (ap (λ m. m.0.number) new) (ap (λ m. m.0.olds) new) (omega (arith, most)))
