-- The pieces so far are judged, and what is left stands after them.
use Rattle.std.proofs.Common.{◌≡◌, ◌-◌, List, length}
use Rattle.recording_text.specs.Pieces.{Piece}
use Rattle.recording_text.specs.Taking.{IsAmong}
use Rattle.recording_check.specs.inner.Judgements.{AreJudged}
use Rattle.recording_check.proofs.JudgedPieces.{StandsBehind}
use Rattle.recording_check.proofs.judging.judge_parts.Given as goal

abbrev pub invariant-parts : goal.invariant-parts
invariant-parts l = (ps : List Piece)
    × StandsBehind l.bytes l.views l.start l.cursor ps
    × IsAmong l.bytes l.cursor
    × (l.judge.script ≡ l.fn.judge.script)
    × (l.judge.workers ≡ l.fn.judge.workers)
    × AreJudged ps l.judge l.wrong

abbrev pub decreases-parts : goal.decreases-parts
decreases-parts l = length l.bytes - l.cursor.at
