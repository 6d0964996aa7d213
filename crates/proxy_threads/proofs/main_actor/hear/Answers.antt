-- The run was found, and was put back as it was.
use Rattle.std.proofs.Common.{inl, refl}
use Rattle.proxy_threads.specs.inner.Mains.{Listens}
use Rattle.proxy_threads.proofs.Holds.{can_put, holds}
use Rattle.proxy_threads.proofs.main_actor.hear.Goals as goal

pub put_back-pass-requires-clause-put : goal.put_back-pass-requires-clause-put
put_back-pass-requires-clause-put g c = can_put c.args.pass c.take_turn-core.result.1 c.take_turn-core.result.0 c.take_turn-core.result.0 c.take_turn-core.ensures (inl refl)

pub returns : goal.returns
returns g c =
    holds c.args.pass c.take_turn-core.result.1 c.put_back-pass.result c.take_turn-core.result.0 c.take_turn-core.result.0 (Listens c.listen-told.result) c.take_turn-core.ensures (inl refl) c.put_back-pass.ensures
    (record { same = refl; tells = c.listen-told.ensures })
