-- The change keeps every parent and the ranges.
use Rattle.std.proofs.Common.{◌≡◌, ◌∙◌, ap, sym, subst, refl, rules, Some, FitsSigned}
use Rattle.std.proofs.lemmas.Int.{to_z-of_z}
use mir.Syntax.{w32}
use Rattle.page_properties.specs.declared.nodes.TransformNode.{TransformNode}
use Rattle.page_properties.specs.Entries.{find, with_node_changed}
use Rattle.page_properties.specs.Trees.{AreTransforms, IsTransform}
use Rattle.page_properties.proofs.Families.{family_changed, changed_rule}
use Rattle.page_properties.proofs.trees.PropertyTrees.set_transform.Goals as goal

after : (c : goal.After-set) → c.set.new.self ≡ with_node_changed c.args.id (λ n. record n { x = c.args.x; y = c.args.y }) c.self.inside.transforms
after c =
    let a : FitsSigned w32 c.args.x = c.ranges.x in
    let b : FitsSigned w32 c.args.y = c.ranges.y in
    let found : find c.args.id c.self.inside.transforms ≡ Some c.in-Some.node.now = search rules in
    let m = simp to_z-of_z at c.moved-node.ensures in
    c.set.ensures
    ∙ (ap (λ (n : TransformNode). with_node_changed c.args.id (λ _. n) c.self.inside.transforms) m
    ∙ changed_rule c.args.id (λ n. record n { x = c.args.x; y = c.args.y }) c.in-Some.node.now c.self.inside.transforms found)

pub invariant_of-self : goal.invariant_of-self
invariant_of-self c =
    let i = c.self.invariant in
    record {
      transforms = subst AreTransforms (sym (after c))
          (family_changed (λ n. n.parent) IsTransform c.args.id (λ n. record n { x = c.args.x; y = c.args.y }) c.self.inside.transforms
          (λ n. refl) (λ n. record { across = c.requires.across; down = c.requires.down }) i.transforms);
      clips = i.clips;
      effects = i.effects;
      scrollers = i.scrollers;
    }

pub returns-in-Some : goal.returns-in-Some
returns-in-Some c = rw (← c.self.view_is, after c) refl
