use Rattle.std.proofs.Common.{rules, arith, ◌≡◌, ap, ◌∙◌, [], ◌∷◌, Some}
use Rattle.std.proofs.lemmas.Grind.{common_steps}
use Rattle.thread_lock.proofs.Keeps.{opens}
use Rattle.thread_lock.proofs.lock.TurnLock.new.Goals as goal

pub new-requires : goal.new-requires
new-requires g c =
    let first : c.of.result.value ≡ c.args.first = search rules in
    let here : c.push.new.self.items ≡ Some c.of.result.value ∷ [] = first_of (search rules, grind (arith, common_steps)) in
    opens g.T.Turn.stem g.T.Turn.history c.of.result.value c.args.most c.push.new.self.items here (ap g.T.Turn.history first ∙ c.requires.0) c.requires.1
