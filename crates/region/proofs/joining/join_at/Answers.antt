use Rattle.region.proofs.JoinedLists.{joined_place, rising_place}
use Rattle.region.proofs.joining.join_at.Goals as goal

pub returns-clause-ok : goal.returns-clause-ok
returns-clause-ok c = joined_place c.join.result c.args.list.now.items c.args.place c.index_mut.result.now c.args.change.now c.join.new.self c.requires.inside c.index_mut.ensures.value c.requires.layer c.join.ensures.ok

pub returns-clause-rising : goal.returns-clause-rising
returns-clause-rising c = rising_place c.join.result c.args.list.now.items c.args.place c.index_mut.result.now c.args.change.now c.join.new.self c.requires.inside c.index_mut.ensures.value c.join.ensures.ok c.join.ensures.err c.requires.rising
