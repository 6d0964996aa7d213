-- The frame in flight is the next one of the host.
use Rattle.std.proofs.Common.{None, refl, sym}
use Rattle.proxy_single_thread.proofs.MainEnds.{frame_left, told_bounded}
use Rattle.proxy_threads.proofs.MainFacts.{held_by, stop_turn}
use Rattle.proxy_threads.proofs.main_actor.end_frame.Goals as goal

pub begin-requires-clause-left : goal.begin-requires-clause-left
begin-requires-clause-left g c =
    let s = c.requires.sent in
    frame_left s.run (record { host = c.args.host.now; end = None; changed = s.changed }) s.stands.legal s.main refl s.frame c.args.pulls.now (sym s.told)

pub begin-requires-clause-bounded : goal.begin-requires-clause-bounded
begin-requires-clause-bounded g c =
    let s = c.requires.sent in
    told_bounded s.run (record { host = c.args.host.now; end = None; changed = s.changed }) s.stands.legal s.main refl s.frame c.args.pulls.now (sym s.told) s.playable

pub finish-requires-clause-held : goal.finish-requires-clause-held
finish-requires-clause-held g c = (c.begin.new.self, held_by c.args.pass c.args.host.now c.begin.new.self c.args.pulls.now c.in-Ok.end c.requires.sent c.in-Ok.ensures.0 c.in-Ok.ensures.1)

pub returns-in-Ok : goal.returns-in-Ok
returns-in-Ok g c = c.finish.ensures c.begin.new.self (held_by c.args.pass c.args.host.now c.begin.new.self c.args.pulls.now c.in-Ok.end c.requires.sent c.in-Ok.ensures.0 c.in-Ok.ensures.1)

pub returns-in-Err : goal.returns-in-Err
returns-in-Err g c = stop_turn c.args.pass c.stop.result c.begin.new.self c.stop.ensures
