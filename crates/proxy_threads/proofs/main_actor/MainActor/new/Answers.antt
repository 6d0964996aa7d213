-- Before all main frames the host is tied to the pass.
use Rattle.std.proofs.Common.{inr, refl}
use Rattle.proxy_threads.proofs.MainFacts.{fresh_tied}
use Rattle.proxy_threads.proofs.main_actor.MainActor.new.Goals as goal

pub returns-clause-ready : goal.returns-clause-ready
returns-clause-ready c = record {
  lock = refl;
  actor = c.requires.actor;
  in_step = inr (fresh_tied c.args.pass c.args.host c.requires.script.0 c.requires.fresh c.requires.script.1 c.requires.script.2 c.requires.before);
}
