use Rattle.std.proofs.Common.{rules, ◌≡◌, ◌++◌, ◌∷◌, take, drop}
use Rattle.region.proofs.JoinedLists.{joined_at, rising_at}
use Rattle.region.proofs.joining.insert_at.Goals as goal

pub returns-clause-ok : goal.returns-clause-ok
returns-clause-ok c =
    let e : c.insert.new.self.items ≡ take c.args.place c.args.list.now.items ++ c.args.change.now ∷ drop c.args.place c.args.list.now.items = search rules in
    rw e (joined_at c.args.list.now.items c.args.place c.args.change.now)

pub returns-clause-rising : goal.returns-clause-rising
returns-clause-rising c =
    let e : c.insert.new.self.items ≡ take c.args.place c.args.list.now.items ++ c.args.change.now ∷ drop c.args.place c.args.list.now.items = search rules in
    rw e (rising_at c.args.list.now.items c.args.place c.args.change.now c.requires.rising c.requires.below c.requires.above)
