-- The counts are those of the recording.
use Rattle.std.proofs.Common.{◌≡◌, [], List, rules, subst}
use Rattle.std.specs.Prelude.{IfSome}
use Rattle.model_history.specs.declared.history.Entry.{Entry}
use Rattle.player_uses.specs.Summaries.{IsSummary}
use Rattle.player_run.proofs.Summed.{summed}
use Rattle.player_run.proofs.demo.play_summed.Goals as goal

pub returns-in-Ok : goal.returns-in-Ok
returns-in-Ok g c =
    let empty : c.new-sink.result.taken.items ≡ [] = search rules in
    let counts = subst (λ (h : List Entry). IfSome c.summary_of.result (IsSummary h c.record_lockstep.new.out.taken.items)) c.history.ensures c.summary_of.ensures.some in
    summed c.args.script.value c.in-Ok.run' c.new-sink.result.taken.items c.record_lockstep.new.out.taken.items c.summary_of.result empty c.in-Ok.ensures.history c.in-Ok.ensures.bytes counts
