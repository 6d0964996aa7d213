-- What the actors did, and what the notes gained; nothing passed with a client.
use Rattle.std.specs.Prelude.{ℕ, Result}
use Rattle.std.proofs.Common.{refl, sym, subst}
use Rattle.player_uses.specs.declared.words.Use.{Use}
use Rattle.player_run.specs.Ran.{Ran}
use Rattle.player_run.proofs.program.run_played.Goals as goal

pub returns : goal.returns
returns g c =
    subst (λ (asked : Result Use ℕ). Ran g.S.Source g.K.Sink g.E.Sink g.C.Client asked c.args.streams.now (record c.args.streams.now { source = c.run_play-outcome.new.source; out = c.run_play-outcome.new.out; notes = c.tell.new.notes }) c.run_play-outcome.result) (sym c.in-Some.ensures.workers)
    (record { did = c.run_play-outcome.ensures; serves = refl; told = c.tell.ensures })
