-- The line of the counts is that of the run.
use Rattle.script_generator.specs.Generated.{script_of_number}
use Rattle.player_run.proofs.Summed.{demo_written}
use Rattle.player_run.proofs.demo.run_demo.Goals as goal

pub returns-in-Some-clause-output : goal.returns-in-Some-clause-output
returns-in-Some-clause-output g c =
    demo_written (script_of_number c.args.number) c.in-Some.summary (g.K.Sink.held c.args.out.now) (g.K.Sink.held c.put_summary.new.out) c.put_summary.result c.in-Some.ensures c.put_summary.ensures.output
