-- A prefix of the bytes is a prefix of the bytes and the rows after them.
use Rattle.std.proofs.Common.{rules}
use Rattle.byte_io.specs.Pieces.{GainsPrefix}
use Rattle.byte_io.proofs.Puts.{piece_cause, piece_stops}
use Rattle.thread_pieces.specs.Shots.{bytes_if}
use Rattle.thread_pieces.proofs.Gains.{gains_longer}
use Rattle.thread_pieces.proofs.hands.Hand.put.Goals as goal

pub returns-in-Err : goal.returns-in-Err
returns-in-Err g c =
    let front : GainsPrefix (g.K.Sink.held c.args.out.now) (g.K.Sink.held c.put-2.new.self) c.args.self.now.made.items = search (rules, piece_stops) in
    record {
      bytes = gains_longer _ _ c.args.self.now.made.items (bytes_if c.args.self.now.waits (g.P.ScenePainter.rows c.args.self.now.painter)) front;
      grows = search rules;
      refusals = search rules;
      cause = search (rules, piece_cause);
      place = search rules;
    }
