-- What the main side heard decides the turn.
use Rattle.std.proofs.Common.{subst}
use Rattle.proxy_threads.specs.declared.turned.Turned.TheVariants as turned
use Rattle.proxy_threads.specs.declared.main_actor.Told.{Told}
use Rattle.proxy_threads.specs.declared.main_actor.Told.TheVariants as told
use Rattle.proxy_threads.specs.inner.Holdings.{Holding}
use Rattle.proxy_threads.specs.inner.Mains.{Listens}
use Rattle.proxy_threads.proofs.MainFacts.{ended_turn, waits_turn, sent_turn, then_turn, stop_turn}
use Rattle.proxy_threads.proofs.main_actor.main_turn.Goals as goal

pub end_frame-requires-clause-sent : goal.end_frame-requires-clause-sent
end_frame-requires-clause-sent g c =
    let x : Told = told.Sent c.in-Sent.pulls in
    let hold : Holding c.args.pass c.hear-pass.result.0 (Listens x) = subst (λ (m : Told). Holding c.args.pass c.hear-pass.result.0 (Listens m)) c.in-Sent.is c.hear-pass.ensures in
    sent_turn c.args.pass c.hear-pass.result.0 x hold c.requires.actor c.args.host.now c.requires.in_step c.in-Sent.pulls hold.acts.tells

pub returns-in-Sent : goal.returns-in-Sent
returns-in-Sent g c =
    then_turn c.args.pass c.hear-pass.result.0 c.hear-pass.result.1 c.hear-pass.ensures c.requires.actor c.args.host.now c.requires.in_step c.end_frame.result.0 c.end_frame.new.host c.end_frame.result.1 c.end_frame.ensures

pub returns-in-Ended : goal.returns-in-Ended
returns-in-Ended g c =
    let hold : Holding c.args.pass c.hear-pass.result.0 (Listens told.Ended) = subst (λ (m : Told). Holding c.args.pass c.hear-pass.result.0 (Listens m)) c.in-Ended.is c.hear-pass.ensures in
    ended_turn c.args.pass c.hear-pass.result.0 told.Ended hold c.requires.actor c.args.host.now c.requires.in_step hold.acts.tells

pub returns-in-Waits : goal.returns-in-Waits
returns-in-Waits g c =
    let hold : Holding c.args.pass c.hear-pass.result.0 (Listens told.Waits) = subst (λ (m : Told). Holding c.args.pass c.hear-pass.result.0 (Listens m)) c.in-Waits.is c.hear-pass.ensures in
    waits_turn c.args.pass c.hear-pass.result.0 told.Waits hold c.requires.actor c.args.host.now c.requires.in_step hold.acts.tells

pub returns-in-Memory : goal.returns-in-Memory
returns-in-Memory g c =
    then_turn c.args.pass c.hear-pass.result.0 c.hear-pass.result.1 c.hear-pass.ensures c.requires.actor c.args.host.now c.requires.in_step c.stop.result c.args.host.now turned.Memory
    (stop_turn c.hear-pass.result.0 c.stop.result c.args.host.now c.stop.ensures)
