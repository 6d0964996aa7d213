-- Where there is no tree, the tree has no layer.
use Rattle.std.proofs.Common.{sym, ◌∙◌, ap, subst}
use Rattle.std.specs.Prelude.{option_copied}
use Rattle.impl_ranks.specs.SeenTrees.{IsSeenWhere}
use Rattle.impl_choice.proofs.EmptyTrees.{shows_nothing}
use Rattle.impl_choice.proofs.visible.visible_of.Goals as goal

pub returns-in-None : goal.returns-in-None
returns-in-None c = λ t none. c.new.ensures ∙ sym (shows_nothing t (subst (IsSeenWhere t) (ap option_copied c.in-None.is) none))
