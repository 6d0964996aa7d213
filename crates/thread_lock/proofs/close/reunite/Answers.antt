use Rattle.std.proofs.Common.{◌≡◌, ◌++◌, ◌∷◌, [], unwrap_or, sym, ap, ◌∙◌, subst}
use Rattle.std.specs.Option.{is_some}
use Rattle.std.specs.List.{All}
use Rattle.thread_lock.specs.PassModels.{IsToldBy, HasAllActors}
use Rattle.thread_lock.proofs.Closing.{ends}
use Rattle.thread_lock.proofs.close.reunite.Goals as goal

pub unwrap-requires : goal.unwrap-requires
unwrap-requires g c =
    let last = ends g.T.Turn.stem g.T.Turn.history _ _ _ _ c.args.others.items c.args.last _ _ _ _ c.take-home.result c.close_with-closed.ensures.values.2 c.last.invariant c.last.view_is c.join_all.ensures.took c.requires.enough c.take-home.ensures.value in
    ap is_some last.found

pub returns-clause-told : goal.returns-clause-told
returns-clause-told g c =
    let last = ends g.T.Turn.stem g.T.Turn.history _ _ _ _ c.args.others.items c.args.last _ _ _ _ c.take-home.result c.close_with-closed.ensures.values.2 c.last.invariant c.last.view_is c.join_all.ensures.took c.requires.enough c.take-home.ensures.value in
    let same : last.value ≡ c.unwrap.result = ap (λ o. unwrap_or o last.value) (sym last.found ∙ c.unwrap.ensures) in
    subst (λ x. All (IsToldBy g.T.Turn.stem g.T.Turn.history x) (c.args.others.items ++ c.args.last ∷ [])) same last.told

pub returns-clause-named : goal.returns-clause-named
returns-clause-named g c =
    let last = ends g.T.Turn.stem g.T.Turn.history _ _ _ _ c.args.others.items c.args.last _ _ _ _ c.take-home.result c.close_with-closed.ensures.values.2 c.last.invariant c.last.view_is c.join_all.ensures.took c.requires.enough c.take-home.ensures.value in
    let same : last.value ≡ c.unwrap.result = ap (λ o. unwrap_or o last.value) (sym last.found ∙ c.unwrap.ensures) in
    subst (λ x. HasAllActors (g.T.Turn.history x) (c.args.others.items ++ c.args.last ∷ [])) same last.named
