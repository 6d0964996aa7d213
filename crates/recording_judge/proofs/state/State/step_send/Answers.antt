-- The main side runs the frame, and the host is told.
use Rattle.std.proofs.Common.{refl}
use Rattle.impl_log.specs.Runs.{past}
use Rattle.recording_judge.proofs.StateFacts.{send_tiles}
use Rattle.recording_judge.proofs.state.State.step_send.Goals as goal

pub send-requires : goal.send-requires
send-requires c =
    let r = c.args.self.now.log in
    record { script = r.script; workers = r.workers; past = past r; actor = c.args.actor; frame = c.args.frame; playable = c.requires.playable; legal = c.requires.legal; main = c.requires.state.main }

pub sent-requires : goal.sent-requires
sent-requires c =
    let r = c.args.self.now.log in
    record {
      script = r.script;
      workers = r.workers;
      past = past r;
      actor = c.args.actor;
      frame = c.args.frame;
      pulls = c.args.pulls.now;
      playable = c.requires.playable;
      legal = c.requires.legal;
      hosts = c.requires.state.host;
    }

pub returns : goal.returns
returns c =
    let r = c.args.self.now.log in
    record {
      log = refl;
      keeps = record {
        host = c.sent.ensures r.script r.workers (past r) c.args.actor c.args.frame c.args.pulls.now c.requires.legal c.requires.state.host;
        tiles = send_tiles r.script r.workers (past r) c.args.actor c.args.frame c.args.pulls.now c.args.self.now.tiles c.requires.legal c.requires.state.tiles;
        main = c.in_ok-send.ensures r.script r.workers (past r) c.args.actor c.args.frame c.requires.playable c.requires.legal c.requires.state.main;
      };
    }
