-- The change keeps every parent and the ranges.
use Rattle.std.proofs.Common.{◌≡◌, ◌∙◌, ap, sym, subst, refl, rules, Some}
use Rattle.page_properties.specs.declared.nodes.ScrollNode.{ScrollNode}
use Rattle.page_properties.specs.Entries.{find, with_node_changed}
use Rattle.page_properties.specs.Trees.{AreScrollers, IsRange}
use Rattle.page_properties.proofs.Families.{family_changed, changed_rule}
use Rattle.page_properties.proofs.trees.PropertyTrees.set_range.Goals as goal

after : (c : goal.After-set) → c.set.new.self ≡ with_node_changed c.args.id (λ n. record n { max_x = c.args.max_x; max_y = c.args.max_y }) c.self.inside.scrollers
after c =
    let found : find c.args.id c.self.inside.scrollers ≡ Some c.in-Some.node.now = search rules in
    let m = c.with_range-node.ensures in
    c.set.ensures
    ∙ (ap (λ (n : ScrollNode). with_node_changed c.args.id (λ _. n) c.self.inside.scrollers) m
    ∙ changed_rule c.args.id (λ n. record n { max_x = c.args.max_x; max_y = c.args.max_y }) c.in-Some.node.now c.self.inside.scrollers found)

pub invariant_of-self : goal.invariant_of-self
invariant_of-self c =
    let i = c.self.invariant in
    record {
      scrollers = subst AreScrollers (sym (after c))
          (family_changed (λ n. n.parent) IsRange c.args.id (λ n. record n { max_x = c.args.max_x; max_y = c.args.max_y }) c.self.inside.scrollers
          (λ n. refl) (λ n. record { across = c.requires.across; down = c.requires.down }) i.scrollers);
      transforms = i.transforms;
      clips = i.clips;
      effects = i.effects;
    }

pub returns-in-Some : goal.returns-in-Some
returns-in-Some c = rw (← c.self.view_is, after c) refl
