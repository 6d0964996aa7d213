-- What was done, what passed with a client, and what the notes gained.
use Rattle.std.specs.Prelude.{◌≡◌, ℕ, Result, Ok, Err}
use Rattle.std.proofs.Common.{refl, subst}
use Rattle.player_uses.specs.declared.words.Use.{Use}
use Rattle.player_uses.specs.declared.outcome.Outcome.TheVariants.{Usage}
use Rattle.player_run.specs.Ran.{Ran}
use Rattle.player_run.proofs.DoneUses.{did_nothing}
use Rattle.player_run.proofs.program.run_alone.Goals as goal

pub returns-in-Err-clause-ran : goal.returns-in-Err-clause-ran
returns-in-Err-clause-ran g c =
    subst (λ (asked : Result Use ℕ). Ran g.S.Source g.K.Sink g.E.Sink g.C.Client asked c.args.streams.now (record c.args.streams.now { notes = c.tell.new.notes }) (Usage c.in-Err.word)) c.in-Err.ensures.found
    (record { did = did_nothing g.S.Source g.K.Sink c.in-Err.word c.args.streams.now.source c.args.streams.now.out; serves = refl; told = c.tell.ensures })

pub returns-in-Some-clause-ran : goal.returns-in-Some-clause-ran
returns-in-Some-clause-ran g c =
    subst (λ (asked : Result Use ℕ). Ran g.S.Source g.K.Sink g.E.Sink g.C.Client asked c.args.streams.now (record c.args.streams.now { source = c.run_use.new.source; out = c.run_use.new.out; notes = c.tell-in-Some.new.notes; session = c.run_use.new.session }) c.in-Some.outcome) c.in-Ok.ensures.found
    (record { did = c.in-Some.ensures.did; serves = c.in-Some.ensures.serves; told = c.tell-in-Some.ensures })
