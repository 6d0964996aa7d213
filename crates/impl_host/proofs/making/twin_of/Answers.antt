-- The spare tilings that are left.
use Rattle.impl_host.proofs.making.twin_of.Goals as goal

pub returns-in-Some-clause-spares : goal.returns-in-Some-clause-spares
returns-in-Some-clause-spares c = c.take.ensures.left c.args.last.now c.requires.spares

pub returns-in-None-clause-spares : goal.returns-in-None-clause-spares
returns-in-None-clause-spares c = c.take.ensures.left c.args.last.now c.requires.spares
