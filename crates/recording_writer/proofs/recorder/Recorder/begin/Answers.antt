-- The name of the format and the text were put, and the end of the line is held back.
use Rattle.std.proofs.Common.{◌≡◌, ℕ, List, ◌++◌, ap, sym, subst}
use Rattle.std.specs.Prelude.{codes, Option}
use Rattle.byte_io.specs.Pieces.{GainsPrefix}
use Rattle.model_history.specs.Recordings.{header}
use Rattle.recording_writer.specs.Parts.{Half}
use Rattle.thread_pieces.proofs.Gains.{gains_longer}
use Rattle.recording_writer.proofs.Gains.{half_longer}
use Rattle.recording_writer.proofs.recorder.Recorder.begin.Goals as goal

header_parts : (lines script : List ℕ) → lines ≡ codes "cc1\n" → (lines ++ script) ++ codes "\n" ≡ header script
unfolding header
header_parts lines script is = ap (λ (w : List ℕ). (w ++ script) ++ codes "\n") is

pub returns-in-Err-clause-bytes : goal.returns-in-Err-clause-bytes
returns-in-Err-clause-bytes g c =
    subst (λ (w : List ℕ). GainsPrefix (g.K.Sink.held c.args.out.now) (g.K.Sink.held c.put_behind.new.out) w) (header_parts c.args.self.now.lines.items c.args.script.now c.requires)
    (gains_longer _ _ (c.args.self.now.lines.items ++ c.args.script.now) (codes "\n") c.in-Err.ensures.bytes)

-- the end of the line is held back too
ended : (old new : Option (List ℕ)) (lines script held : List ℕ) → lines ≡ codes "cc1\n" → Half old new (lines ++ script) held → Half old new (header script) (held ++ codes "\n")
ended old new lines script held is half =
    subst (λ (w : List ℕ). Half old new w (held ++ codes "\n")) (header_parts lines script is) (half_longer old new (lines ++ script) (codes "\n") held half)

pub returns-in-Ok-clause-bytes : goal.returns-in-Ok-clause-bytes
returns-in-Ok-clause-bytes g c =
    subst (λ (w : List ℕ). Half (g.K.Sink.held c.args.out.now) (g.K.Sink.held c.put_behind.new.out) (header c.args.script.now) w) (sym c.in-Ok.ensures.items)
    (ended _ _ c.args.self.now.lines.items c.args.script.now c.put_behind.new.lines.items c.requires c.in_default.ensures.bytes)

pub returns-in-Err-push-clause-bytes : goal.returns-in-Err-push-clause-bytes
returns-in-Err-push-clause-bytes g c =
    let half : Half (g.K.Sink.held c.args.out.now) (g.K.Sink.held c.put_behind.new.out) (header c.args.script.now) (c.put_behind.new.lines.items ++ codes "\n") =
    ended _ _ c.args.self.now.lines.items c.args.script.now c.put_behind.new.lines.items c.requires c.in_default.ensures.bytes in
    (half.0, c.put_behind.new.lines.items ++ codes "\n", half.1, half.2)
