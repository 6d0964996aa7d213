-- The new list has the old items and one more sound item.
use Rattle.std.proofs.Common.{arith}
use Rattle.std.proofs.lemmas.List.Edits.{length-insert}
use Rattle.page_display_list.specs.Content.{IsSoundItem}
use Rattle.page_display_list.proofs.Edits.{All-insert}
use Rattle.page_display_list.proofs.list.DisplayList.insert.Goals as goal

pub invariant_of-self-2 : goal.invariant_of-self-2
invariant_of-self-2 c =
    let place = rw (← c.self.view_is) at c.requires.place in
    let room = rw (← c.self.view_is) at c.requires.room in
    rw c.in_default.ensures.items (
      All-insert IsSoundItem c.self.inside.items.items c.args.at c.args.item c.self.invariant.0 c.requires.sound,
      rw (length-insert c.self.inside.items.items c.args.at c.args.item place) (omega arith),
    )
