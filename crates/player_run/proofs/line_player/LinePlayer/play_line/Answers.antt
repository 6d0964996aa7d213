-- What was played is what the line is answered.
use Rattle.std.proofs.Common.{rules, ◌≡◌, false}
use Rattle.player_uses.specs.Outcomes.{is_write_fault}
use Rattle.player_run.proofs.ServedLines.{played_failed, played_answer}
use Rattle.player_run.proofs.line_player.LinePlayer.play_line.Goals as goal

pub returns-then-is_torn-clause-answered : goal.returns-then-is_torn-clause-answered
returns-then-is_torn-clause-answered g c = λ line short text accepted. played_failed _ _ _ line _ _ _ _ _ c.play_lockstep-outcome.result _ c.requires short text accepted c.play_lockstep-outcome.ensures.plays

pub returns-then-is_write_fault-clause-answered : goal.returns-then-is_write_fault-clause-answered
returns-then-is_write_fault-clause-answered g c = λ line short text accepted. played_failed _ _ _ line _ _ _ _ _ c.play_lockstep-outcome.result _ c.requires short text accepted c.play_lockstep-outcome.ensures.plays

pub returns-clause-answered : goal.returns-clause-answered
returns-clause-answered g c =
    let whole : c.play_lockstep-outcome.new.out.torn ≡ false = search rules in
    let calm : is_write_fault c.play_lockstep-outcome.result ≡ false = search rules in
    λ line short text accepted. played_answer _ _ line _ _ _ _ _ _ c.play_lockstep-outcome.result c.put_verdict.result c.requires whole calm short text accepted c.play_lockstep-outcome.ensures.plays c.put_verdict.ensures.said
