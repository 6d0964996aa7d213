-- One more byte is read.
use Rattle.std.proofs.Common.{sym, ◌∙◌}
use Rattle.script_fields.proofs.Eights.{one_read}
use Rattle.script_fields.proofs.hex.bytes.Goals as goal

pub loop-rest-preserved : goal.loop-rest-preserved
loop-rest-preserved c =
    one_read c.loop-rest.bytes.items c.loop-rest.rest.now c.push.new.self.items c.in-Some.b c.in-len2-up.len_at_least (sym c.in-Some.ensures)
    c.in_ok-push.ensures.items
    ∙ c.loop-rest.invariant
