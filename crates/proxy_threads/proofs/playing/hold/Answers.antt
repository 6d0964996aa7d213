-- The run was found, and was put back as it was played.
use Rattle.std.proofs.Common.{ℕ, sym, subst}
use Rattle.proxy_threads.specs.inner.Holdings.{Steps}
use Rattle.proxy_threads.specs.inner.Steps.{Composes}
use Rattle.proxy_threads.proofs.Holds.{can_put, holds}
use Rattle.proxy_threads.proofs.CompTurns.{plays_steps}
use Rattle.proxy_threads.proofs.KeptLines.{found_old}
use Rattle.proxy_threads.proofs.playing.hold.Goals as goal

pub compose-played-requires : goal.compose-played-requires
compose-played-requires g c = found_old c.args.pass c.args.lines.now.written c.requires.written c.take_turn-core.result.0 c.requires.actor c.take_turn-core.ensures.sees

pub put_back-pass-requires-clause-put : goal.put_back-pass-requires-clause-put
put_back-pass-requires-clause-put g c =
    let found = c.take_turn-core.result.0 in
    let left = c.compose-played.new.core in
    can_put c.args.pass c.take_turn-core.result.1 found left c.take_turn-core.ensures (subst (λ (a : ℕ). Steps a found left) (sym c.requires.actor) (plays_steps found left c.compose-played.result c.compose-played.ensures.plays))

pub returns : goal.returns
returns g c =
    let found = c.take_turn-core.result.0 in
    let left = c.compose-played.new.core in
    holds c.args.pass c.take_turn-core.result.1 c.put_back-pass.result found left (Composes c.args.lines.now.written c.compose-played.new.lines c.compose-played.result) c.take_turn-core.ensures
    (subst (λ (a : ℕ). Steps a found left) (sym c.requires.actor) (plays_steps found left c.compose-played.result c.compose-played.ensures.plays)) c.put_back-pass.ensures
    (record { plays = c.compose-played.ensures.plays; gathers = c.compose-played.ensures.gathers; over = c.compose-played.ensures.over })
