-- Tables of what was found.
use Rattle.std.proofs.Common.{◌≡◌, ℕ, ◌<◌, ◌≤◌, List, length, replicate, Some, sym, ◌∙◌, ap, arith}
use Rattle.std.proofs.lemmas.List.{length-replicate}
use Rattle.std.proofs.lemmas.List.Elements.{All-replicate}
use Rattle.geom.specs.declared.rect.Point.{Point}
use Rattle.page_properties.specs.declared.nodes.TransformNode.{TransformNode}
use Rattle.page_properties.specs.Entries.{find}
use Rattle.page_properties.specs.Placement.{plus, own_translation, translation}
use Rattle.page_properties.specs.Trees.{AreTransforms, IsTransform}
use Rattle.page_properties.specs.inner.Index.{IsEntryOf}
use Rattle.page_properties.specs.inner.Tables.{IsTable}
use Rattle.page_properties.proofs.Chains.{translation_law}
use Rattle.page_properties.proofs.Families.{family_few}

-- a table of one entry, 256 times
pub table_of : {V : Type 0} (f : ℕ → V) (v : V) → f 0 ≡ v → IsTable f (replicate 256 (0, v))
table_of {V} f v h =
    let root : ℕ × V = (0, v) in
    record { room = length-replicate 256 root; known = All-replicate (λ (e : ℕ × V). e.1 ≡ f e.0) 256 root (sym h) }

-- a table has room at the place of each transform
pub has_room : (f : ℕ → Point) (table : List (ℕ × Point)) (nodes : List (ℕ × TransformNode)) (id p : ℕ) (n : TransformNode) → IsTable f table → AreTransforms nodes → IsEntryOf id nodes p n → p < length table
has_room f table nodes id p n t j e =
    let few = family_few (λ (m : TransformNode). m.parent) IsTransform nodes j in
    omega (arith, few, t.room, e.inside)

-- the translation of a transform, by its parent's
pub place_more : (offset : ℕ → Point) (nodes : List (ℕ × TransformNode)) → AreTransforms nodes → (id : ℕ) (n : TransformNode) → find id nodes ≡ Some n
    → (above sum : Point) → above ≡ translation offset nodes n.parent → sum ≡ plus above (own_translation offset n) → sum ≡ translation offset nodes id
place_more offset nodes j id n h above sum ea es =
    es ∙ ap (λ (p : Point). plus p (own_translation offset n)) ea ∙ sym (translation_law offset nodes j id n h)
