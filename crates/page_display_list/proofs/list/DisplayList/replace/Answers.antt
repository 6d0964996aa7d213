-- The new list has a sound item in the place of another.
use Rattle.std.proofs.lemmas.List.{length-set}
use Rattle.std.proofs.lemmas.List.Elements.{All-set}
use Rattle.page_display_list.specs.Content.{IsSoundItem}
use Rattle.page_display_list.proofs.list.DisplayList.replace.Goals as goal

pub invariant_of-self : goal.invariant_of-self
invariant_of-self c =
    rw c.replace.ensures.after (
      All-set IsSoundItem c.self.inside.items.items c.args.at c.args.item c.requires.sound c.self.invariant.0,
      simp length-set (c.self.invariant.1),
    )
