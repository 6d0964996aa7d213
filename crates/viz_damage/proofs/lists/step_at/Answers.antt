-- Quads that act alike go on alike.
use Rattle.std.proofs.Common.{rules}
use Rattle.viz_damage.proofs.QuadSteps.{fits_at}
use Rattle.viz_damage.proofs.ListSteps.{go_on}
use Rattle.viz_damage.proofs.lists.step_at.Goals as goal

pub act_alike-requires : goal.act_alike-requires
act_alike-requires c = record {
  fits = fits_at c.args.passes c.args.old.now c.args.i c.index-old-i.result c.requires.old c.requires.i c.index-old-i.is;
}

pub returns-then-act_alike-clause-alike : goal.returns-then-act_alike-clause-alike
returns-then-act_alike-clause-alike c = λ t.
    go_on c.args.old.now c.args.new.now c.args.i c.args.j c.index-old-i.result c.index-new-j.result c.requires.i c.requires.j c.index-old-i.is
    c.index-new-j.is (c.act_alike.ensures (search rules))
