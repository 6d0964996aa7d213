-- One act more.
use Rattle.std.specs.Prelude.{◌≡◌, List, [], ◌∷◌, ◌++◌}
use Rattle.std.proofs.Common.{refl, ap, ◌∙◌}
use Rattle.player_lines.specs.Sessions.{Act}
use Rattle.player_lines.specs.declared.passed.Passed.{Passed}
use Rattle.player_lines.specs.Passings.{act_of, acts_after, acts}

after_more : (h : List Act) (ps : List Passed) (p : Passed) → acts_after h (ps ++ p ∷ []) ≡ act_of p ∷ acts_after h ps
after_more h [] p = refl
after_more h (q ∷ ps) p = after_more (act_of q ∷ h) ps p

pub one_more : (new old : List Passed) (p : Passed) (a : Act) → new ≡ old ++ p ∷ [] → act_of p ≡ a → acts new ≡ a ∷ acts old
one_more new old p a is act = ap acts is ∙ after_more [] old p ∙ ap (λ (x : Act). x ∷ acts old) act
