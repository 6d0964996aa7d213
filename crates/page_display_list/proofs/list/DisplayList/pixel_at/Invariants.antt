use Rattle.std.specs.Prelude.{◌≡◌, fold, take}
use Rattle.pixel.specs.Colours.{clear}
use Rattle.page_display_list.specs.Content.{painted}
use Rattle.page_display_list.proofs.list.DisplayList.pixel_at.Given as given

abbrev pub invariant-loop-item : given.invariant-loop-item
invariant-loop-item l = l.pixel ≡ fold (painted l.x l.y) clear (take l.item-index l.item-items)
