use Rattle.std.proofs.Common.{rules}
use Rattle.thread_lock.proofs.Seats.{some_of}
use Rattle.thread_lock.proofs.Keeps.{tries}
use Rattle.thread_lock.proofs.lock.TurnLock.knock.Goals as goal

pub compare_exchange-requires : goal.compare_exchange-requires
compare_exchange-requires g c =
    let stem = some_of _ c.requires.pass.0 in
    let number = some_of _ c.requires.pass.1 in
    (search rules, search rules, tries g.T.Turn.stem g.T.Turn.history _ _ _ stem.0 number.0 stem.1 number.1)
