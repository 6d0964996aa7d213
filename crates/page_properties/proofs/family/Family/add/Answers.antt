-- The new entry stands where the index of the new list has it.
use Rattle.std.proofs.Common.{◌≡◌, ◌∙◌, ap, arith, length, refl}
use Rattle.page_properties.specs.Entries.{knows}
use Rattle.page_properties.specs.inner.Index.{front}
use Rattle.page_properties.proofs.Indexes.{added}
use Rattle.page_properties.proofs.family.Family.add.Goals as goal

pub invariant_of-self-2 : goal.invariant_of-self-2
invariant_of-self-2 g c =
    let kept : c.reserve.new.self.items ≡ c.self.inside.entries.items = c.reserve.ensures.items in
    let place : c.len-place.result ≡ length c.self.inside.nodes.items = omega arith in
    let below : c.count_below-below.result ≡ front c.args.id c.self.inside.entries.items =
    c.count_below-below.ensures.value ∙ ap (front c.args.id) (c.deref.ensures.value ∙ kept) in
    added c.args.id c.args.node c.self.inside.nodes.items c.self.inside.entries.items c.push.new.self.items c.insert.new.self.items
    c.self.invariant.0 c.self.invariant.1 (ap (knows c.args.id) c.self.view_is ∙ c.requires) c.in_ok-push.ensures.items
    (c.in_ok-insert.ensures.items ∙ rw (kept, below, place) refl)
