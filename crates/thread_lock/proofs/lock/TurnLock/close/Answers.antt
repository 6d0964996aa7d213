use Rattle.std.proofs.Common.{rules, ◌≡◌, ◌++◌, ◌∷◌, []}
use Rattle.std.proofs.lemmas.List.Elements.{All-same}
use Rattle.thread_lock.specs.PassModels.{IsToldBy}
use Rattle.thread_lock.proofs.lock.TurnLock.close.Goals as goal

pub returns-clause-told : goal.returns-clause-told
returns-clause-told g c =
    let items : c.args.passes.items ≡ c.pop.new.self.items ++ c.unwrap-last.result ∷ [] = search rules in
    All-same (IsToldBy g.T.Turn.stem g.T.Turn.history c.reunite.result) _ _ items c.reunite.ensures.told
