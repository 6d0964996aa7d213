-- The effects are those of the trees.
use Rattle.std.proofs.Common.{subst, ◌↔◌, IsTrue}
use Rattle.page_properties.specs.Nesting.{AreNested}
use Rattle.page_properties.specs.Trees.{Trees}
use Rattle.page_properties.proofs.trees.PropertyTrees.is_nested.Goals as goal

pub returns : goal.returns
returns c = subst (λ (t : Trees). IsTrue c.nested_in.result ↔ AreNested t.effects c.args.effects.now) c.self.view_is c.nested_in.ensures
