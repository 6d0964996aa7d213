-- The bytes of the run were copied.
use Rattle.viz_canvas.proofs.PixelRuns.{part_copied}
use Rattle.viz_canvas.proofs.runs.copy_run.Goals as goal

pub returns : goal.returns
returns g c =
    let copied = rw (c.DEPTH-depth.ensures) at c.copy_bytes.ensures.copied in
    part_copied g.F.PixelFormat.DEPTH c.args.from c.args.to c.args.n c.args.bytes.now c.copy_bytes.new.bytes c.copy_bytes.ensures.size
    c.requires.given c.requires.there copied
