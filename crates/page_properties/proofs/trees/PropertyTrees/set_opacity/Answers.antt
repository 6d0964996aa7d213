-- The change keeps every parent and the ranges.
use Rattle.std.proofs.Common.{◌≡◌, ◌∙◌, ap, sym, subst, refl, rules, Some}
use Rattle.page_properties.specs.declared.nodes.EffectNode.{EffectNode}
use Rattle.page_properties.specs.Entries.{find, with_node_changed}
use Rattle.page_properties.specs.Trees.{AreEffects, IsEffect}
use Rattle.page_properties.proofs.Families.{family_changed, changed_rule}
use Rattle.page_properties.proofs.trees.PropertyTrees.set_opacity.Goals as goal

after : (c : goal.After-set) → c.set.new.self ≡ with_node_changed c.args.id (λ n. record n { opacity = c.args.opacity }) c.self.inside.effects
after c =
    let found : find c.args.id c.self.inside.effects ≡ Some c.in-Some.node.now = search rules in
    let m = c.with_opacity-node.ensures in
    c.set.ensures
    ∙ (ap (λ (n : EffectNode). with_node_changed c.args.id (λ _. n) c.self.inside.effects) m
    ∙ changed_rule c.args.id (λ n. record n { opacity = c.args.opacity }) c.in-Some.node.now c.self.inside.effects found)

pub invariant_of-self : goal.invariant_of-self
invariant_of-self c =
    let i = c.self.invariant in
    record {
      effects = subst AreEffects (sym (after c))
          (family_changed (λ n. n.parent) IsEffect c.args.id (λ n. record n { opacity = c.args.opacity }) c.self.inside.effects
          (λ n. refl) (λ n. tt) i.effects);
      transforms = i.transforms;
      clips = i.clips;
      scrollers = i.scrollers;
    }

pub returns-in-Some : goal.returns-in-Some
returns-in-Some c = rw (← c.self.view_is, after c) refl
