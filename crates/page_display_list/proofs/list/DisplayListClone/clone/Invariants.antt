use Rattle.std.specs.Prelude.{◌≡◌, take}
use Rattle.page_display_list.proofs.list.DisplayListClone.clone.Given as given

abbrev pub invariant-loop-item : given.invariant-loop-item
invariant-loop-item l = l.items.items ≡ take l.item-index l.item-items
