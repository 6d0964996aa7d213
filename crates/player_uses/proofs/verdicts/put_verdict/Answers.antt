-- The line of the outcome stands after what begins the last line.
use Rattle.player_lines.proofs.Telling.{said_then}
use Rattle.player_uses.specs.Outcomes.{joined_texts, line_of}
use Rattle.player_uses.specs.Verdicts.{verdict_head}
use Rattle.player_uses.proofs.SaidTexts.{said_all, said_as}
use Rattle.player_uses.proofs.verdicts.put_verdict.Goals as goal

pub returns-in-Ok-clause-said : goal.returns-in-Ok-clause-said
returns-in-Ok-clause-said g c =
    let line = said_as _ _ _ (line_of c.args.outcome) c.put_texts.result c.line.ensures c.put_texts.ensures.said in
    said_then _ _ _ (joined_texts (verdict_head c.args.number c.args.outcome)) (line_of c.args.outcome) c.put_texts.result (said_all _ _ _ _ c.in-Ok.field-0 c.in-Ok.ensures.said) line
