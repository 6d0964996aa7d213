use Rattle.std.proofs.Common.{rules, ◌≡◌, ◌++◌, ◌∷◌, []}
use Rattle.region.proofs.JoinedLists.{rising_push, all_below}
use Rattle.region.proofs.joining.push_change.Goals as goal

pub returns-in-Ok-clause-rising : goal.returns-in-Ok-clause-rising
returns-in-Ok-clause-rising c =
    let e : c.push.new.self.items ≡ c.args.list.now.items ++ c.args.change ∷ [] = search rules in
    rw e (rising_push c.args.list.now.items c.args.change c.requires.rising (all_below c.args.list.now.items c.args.change.layer c.requires.rising c.requires.above))
