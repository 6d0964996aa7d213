-- The script was filmed; or where the beginning takes memory that is not there, nothing was put.
use Rattle.std.proofs.Common.{subst}
use Rattle.std.specs.Prelude.{⊤}
use Rattle.model_history.specs.Accepted.{IsAccepted}
use Rattle.model_history.specs.Scripts.{ScriptModel}
use Rattle.player_lockstep.specs.Films.{Films}
use Rattle.player_lockstep.proofs.FilmedRuns.{films_nothing}
use Rattle.player_lockstep.proofs.film.film_lockstep.Goals as goal

pub returns-in-Ok-clause-bytes : goal.returns-in-Ok-clause-bytes
returns-in-Ok-clause-bytes g c = subst (λ (s : ScriptModel). Films {X = ⊤} s (g.K.Sink.held c.args.out.now) (g.K.Sink.held c.film_run.new.out) c.film_run.result) c.deref-in-Ok.ensures c.film_run.ensures.bytes

pub returns-clause-bytes : goal.returns-clause-bytes
returns-clause-bytes g c = films_nothing c.args.script.value (g.K.Sink.held c.args.out.now) (subst IsAccepted c.deref.ensures c.is_accepted.ensures.accepted)
