-- The change keeps every parent and the ranges.
use Rattle.std.proofs.Common.{◌≡◌, ◌∙◌, ap, sym, subst, refl, rules, Some}
use Rattle.page_properties.specs.declared.nodes.ClipNode.{ClipNode}
use Rattle.page_properties.specs.Entries.{find, with_node_changed}
use Rattle.page_properties.specs.Trees.{AreClips, IsClip}
use Rattle.page_properties.proofs.Families.{family_changed, changed_rule}
use Rattle.page_properties.proofs.trees.PropertyTrees.set_clip.Goals as goal

after : (c : goal.After-set) → c.set.new.self ≡ with_node_changed c.args.id (λ n. record n { rect = c.args.rect }) c.self.inside.clips
after c =
    let found : find c.args.id c.self.inside.clips ≡ Some c.in-Some.node.now = search rules in
    let m = c.with_rect-node.ensures in
    c.set.ensures
    ∙ (ap (λ (n : ClipNode). with_node_changed c.args.id (λ _. n) c.self.inside.clips) m
    ∙ changed_rule c.args.id (λ n. record n { rect = c.args.rect }) c.in-Some.node.now c.self.inside.clips found)

pub invariant_of-self : goal.invariant_of-self
invariant_of-self c =
    let i = c.self.invariant in
    record {
      clips = subst AreClips (sym (after c))
          (family_changed (λ n. n.parent) IsClip c.args.id (λ n. record n { rect = c.args.rect }) c.self.inside.clips
          (λ n. refl) (λ n. c.requires.in_range) i.clips);
      transforms = i.transforms;
      effects = i.effects;
      scrollers = i.scrollers;
    }

pub returns-in-Some : goal.returns-in-Some
returns-in-Some c = rw (← c.self.view_is, after c) refl
