use Rattle.std.proofs.Common.{rules}
use Rattle.std.proofs.lemmas.Fn.{filter_same}
use Rattle.region.proofs.JoinedLists.{rising_without}
use Rattle.region.proofs.joining.remove_layer.Goals as goal

pub returns-clause-list : goal.returns-clause-list
returns-clause-list c = filter_same _ _ _ (λ x b f' k. search rules) _ _ c.retain.ensures.filtered

pub returns-clause-rising : goal.returns-clause-rising
returns-clause-rising c = rw (returns-clause-list c) (rising_without c.args.layer c.args.list.now.items c.requires)
