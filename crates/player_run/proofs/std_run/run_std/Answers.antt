-- What is said of any source, sink and client is said of these.
use Rattle.std.specs.Prelude.{List, Some}
use Rattle.std.proofs.Common.{ap}
use Rattle.player_lines.specs.Passings.{acts}
use Rattle.player_lines.specs.declared.passed.Passed.{Passed}
use Rattle.player_run.proofs.DoneUses.{served}
use Rattle.player_run.proofs.std_run.run_std.Goals as goal

pub returns-in-Some-clause-input : goal.returns-in-Some-clause-input
returns-in-Some-clause-input g c = c.in-Some.ensures.ran.did.input

pub returns-in-Some-clause-end : goal.returns-in-Some-clause-end
returns-in-Some-clause-end g c = c.in-Some.ensures.ran.did.end

pub returns-in-Some-clause-output : goal.returns-in-Some-clause-output
returns-in-Some-clause-output g c = c.in-Some.ensures.ran.did.output

pub returns-in-Some-clause-serves : goal.returns-in-Some-clause-serves
returns-in-Some-clause-serves g c = λ workers is new. served _ _ workers _ _ c.in-Some.outcome is c.in-Some.ensures.ran.serves (ap (λ (ps : List Passed). Some (acts ps)) new)

pub returns-in-Some-clause-told : goal.returns-in-Some-clause-told
returns-in-Some-clause-told g c = c.in-Some.ensures.ran.told
