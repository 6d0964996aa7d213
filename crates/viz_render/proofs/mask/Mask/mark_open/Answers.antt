-- The vector holds what was marked.
use Rattle.std.proofs.Common.{◌≡◌, ◌++◌, length, drop, take, arith}
use Rattle.std.proofs.lemmas.List.{take_at}
use Rattle.viz_render.proofs.mask.Mask.mark_open.Goals as goal

pub returns : goal.returns
returns c =
    let new = c.open_marked-self-inside.new.tops in
    let whole : take c.self.inside.tops.len (new ++ drop (length new) c.self.inside.tops.items) ≡ new =
    take_at new (drop (length new) c.self.inside.tops.items) c.self.inside.tops.len (omega arith) in
    rw whole (record { marked = c.open_marked-self-inside.ensures.marked; numbers = c.open_marked-self-inside.ensures.numbers })
