-- An item that does not cover a point changes nothing there.
use Rattle.std.proofs.Common.{ℕ, suc, ℤ, ◌≡◌, ◌<◌, Bool, false, cond, List, ◌∷◌, ◌++◌, length, take, drop, get_or, set, sym, ap, ◌∙◌}
use Rattle.std.specs.List.{fold, insert, remove}
use Rattle.std.proofs.lemmas.List.{take-append-drop, set_split}
use Rattle.std.proofs.lemmas.List.Sums.{fold-append}
use Rattle.std.proofs.Math.Seq.{split_at}
use Rattle.geom.specs.Covers.{covers}
use Rattle.pixel.specs.Colours.{Parts, blend, clear}
use Rattle.page_display_list.specs.declared.item.Item.{Item}
use Rattle.page_display_list.specs.Content.{content, painted, rect_of_item, colour_of}

-- an item that does not cover the point lies over nothing there
skipped : (x y : ℤ) (below : Parts) (item : Item) → covers (rect_of_item item) x y ≡ false → painted x y below item ≡ below
skipped x y below item out = ap (λ (b : Bool). cond b (blend below (colour_of item x y)) below) out

-- nor does it matter between others
between : (x y : ℤ) (front back : List Item) (item : Item) → covers (rect_of_item item) x y ≡ false → content (front ++ item ∷ back) x y ≡ content (front ++ back) x y
between x y front back item out =
    fold-append (painted x y) clear front (item ∷ back)
    ∙ ap (λ (c : Parts). fold (painted x y) c back) (skipped x y (fold (painted x y) clear front) item out)
    ∙ sym (fold-append (painted x y) clear front back)

-- an item that is inserted changes nothing where its rect does not cover the point
pub content-insert : (items : List Item) (at : ℕ) (item : Item) (x y : ℤ) → covers (rect_of_item item) x y ≡ false → content (insert items at item) x y ≡ content items x y
content-insert items at item x y out =
    between x y (take at items) (drop at items) item out
    ∙ ap (λ (xs : List Item). content xs x y) (take-append-drop at items)

-- an item that is removed changes nothing where its rect does not cover the point
pub content-remove : (items : List Item) (at : ℕ) (d : Item) (x y : ℤ) → at < length items → covers (rect_of_item (get_or items at d)) x y ≡ false → content (remove items at) x y ≡ content items x y
content-remove items at d x y lt out =
    sym (between x y (take at items) (drop (suc at) items) (get_or items at d) out)
    ∙ ap (λ (xs : List Item). content xs x y) (sym (split_at items at d lt))

-- an item that is replaced changes nothing where neither rect covers the point
pub content-set : (items : List Item) (at : ℕ) (item d : Item) (x y : ℤ) → at < length items → covers (rect_of_item item) x y ≡ false → covers (rect_of_item (get_or items at d)) x y ≡ false → content (set items at item) x y ≡ content items x y
content-set items at item d x y lt out out_old =
    ap (λ (xs : List Item). content xs x y) (set_split items at item lt)
    ∙ between x y (take at items) (drop (suc at) items) item out
    ∙ content-remove items at d x y lt out_old
