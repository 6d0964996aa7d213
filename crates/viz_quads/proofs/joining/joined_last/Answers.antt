-- What acts as the last quad and another acts so after the rest.
use Rattle.viz_quads.proofs.Acts.{act_last}
use Rattle.viz_quads.proofs.joining.joined_last.Goals as goal

pub returns-clause-acts : goal.returns-clause-acts
returns-clause-acts c = act_last c.args.quads.now c.in_ok-last.field-0-1.now c.in_ok-last.last.now c.args.quad.now c.joined.result c.in_ok-last.ensures.cases.0 c.in_ok-last.ensures.cases.1 c.joined.ensures
