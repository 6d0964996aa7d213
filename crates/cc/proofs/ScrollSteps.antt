-- Scrolls: of a scroller that a page lacks, by what is taken, and by nothing.
use Rattle.std.proofs.Common.{◌≡◌, ℕ, ℤ, pos, ◌+ℤ◌, ◌-ℤ◌, ◌==◌, Bool, true, false, cond, Option, Some, None, option_map, List, [], ◌∷◌, refl, sym, ◌∙◌, ap, arith}
use Rattle.std.specs.Prelude.{is_some}
use Rattle.std.proofs.lemmas.Bool.Decides.{nat_tests}
use Rattle.std.proofs.lemmas.Int.{ints}
use Rattle.geom.specs.declared.rect.Point.{Point}
use Rattle.page_properties.specs.declared.nodes.ScrollNode.{ScrollNode}
use Rattle.page_properties.specs.Entries.{find, with_node_changed}
use Rattle.page_properties.specs.Placement.{minus}
use Rattle.page_layers.specs.Pages.{Page}
use Rattle.page_layers.specs.Sound.{IsPage}
use Rattle.page_layers.specs.Scrolls.{or_origin}
use Rattle.page_properties.specs.OffsetMap.{origin}
use Rattle.page_layers.specs.Effects.{scrolled_by, main_point, clamped_in}
use Rattle.page_properties.proofs.Families.{find_changed}
use Rattle.page_layers.proofs.NodeKeeps.{not_changed, values-known, clamp_again}
use Rattle.cc.specs.Compositors.{amount_scrolled}

pub unknown_stays : (p : Page) (id : ℕ) (dx dy : ℤ) → IsPage p → find id p.props.scrollers ≡ None → scrolled_by p id dx dy ≡ p
unknown_stays p id dx dy sound none =
    ap (λ (vs : List (ℕ × Point)). record p { values = vs }) (not_changed id (λ (v : Point). clamped_in (find id p.props.scrollers) ((main_point p id).x +ℤ dx) ((main_point p id).y +ℤ dy)) p.values
    (values-known id p.props.scrollers p.values sound.values ∙ ap is_some none))

-- a place in a range stays there
clamped_again : (o : Option ScrollNode) (x y : ℤ) → clamped_in o (clamped_in o x y).x (clamped_in o x y).y ≡ clamped_in o x y
clamped_again None x y = refl
clamped_again (Some n) x y = λ i. record { x = clamp_again n.max_x x i; y = clamp_again n.max_y y i }

there_and_back : (v c : ℤ) → v +ℤ (c -ℤ v) ≡ c
there_and_back v c = omega (arith, ints)

same_number : (c v : ℤ) → c -ℤ v ≡ pos 0 → c ≡ v
same_number c v e = omega (arith, ints)

some_point : (a b : Point) → Some a ≡ Some b → a ≡ b
some_point a b e = cc

-- a value that is changed, found under its id
found_changed : (id : ℕ) (f : Point → Point) (vs : List (ℕ × Point)) → find id (with_node_changed id f vs) ≡ option_map f (find id vs)
found_changed id f vs =
    let same : id == id ≡ true = grind (arith, nat_tests) in
    find_changed id id f vs ∙ ap (λ (b : Bool). cond b (option_map f (find id vs)) (find id vs)) same

-- a value that is set to itself
set_same : (id : ℕ) (v : Point) (vs : List (ℕ × Point)) → find id vs ≡ Some v → with_node_changed id (λ u. v) vs ≡ vs
set_same id v [] e = absurd (cc)
set_same id v (e ∷ older) found = go (e.0 == id) found (set_same id v older)
  where
    go : (b : Bool) → cond b (Some e.1) (find id older) ≡ Some v → (find id older ≡ Some v → with_node_changed id (λ u. v) older ≡ older) → cond b ((e.0, v) ∷ older) (e ∷ with_node_changed id (λ u. v) older) ≡ e ∷ older
    go true is rest = ap (λ (z : Point). (e.0, z) ∷ older) (sym (some_point e.1 v is))
    go false is rest = ap (λ (ns : List (ℕ × Point)). e ∷ ns) (rest is)

module _ (id : ℕ) (o : Option ScrollNode) (dx dy : ℤ) (vs : List (ℕ × Point)) where
  -- where a scroller that stands at this point comes to
  abbrev pub comes_to : Point → Point
  comes_to v = clamped_in o (v.x +ℤ dx) (v.y +ℤ dy)

  abbrev pub goes : Option Point → Point
  goes f = minus (or_origin (option_map (λ u. comes_to (or_origin f)) f)) (or_origin f)

  pub same_values : (f : Option Point) → find id vs ≡ f
      → with_node_changed id (λ u. comes_to (or_origin f)) vs ≡ with_node_changed id (λ u. clamped_in o ((or_origin f).x +ℤ (goes f).x) ((or_origin f).y +ℤ (goes f).y)) vs
  same_values (Some v) e = ap (λ (z : Point). with_node_changed id (λ u. z) vs)
      (sym ((λ i. clamped_in o (there_and_back v.x (comes_to v).x i) (there_and_back v.y (comes_to v).y i)) ∙ clamped_again o (v.x +ℤ dx) (v.y +ℤ dy)))
  same_values None e =
      not_changed id (λ u. comes_to origin) vs (ap is_some e) ∙ sym (not_changed id (λ u. clamped_in o (origin.x +ℤ (goes None).x) (origin.y +ℤ (goes None).y)) vs (ap is_some e))

  pub still_values : (f : Option Point) → find id vs ≡ f → goes f ≡ origin → with_node_changed id (λ u. comes_to (or_origin f)) vs ≡ vs
  still_values (Some v) e none =
      let stays : comes_to v ≡ v = λ i. record { x = same_number (comes_to v).x v.x (ap (λ (p : Point). p.x) none) i; y = same_number (comes_to v).y v.y (ap (λ (p : Point). p.y) none) i } in
      ap (λ (z : Point). with_node_changed id (λ u. z) vs) stays ∙ set_same id v vs e
  still_values None e none = not_changed id (λ u. comes_to origin) vs (ap is_some e)

  pub found_after : goes (find id vs) ≡ minus (or_origin (find id (with_node_changed id (λ u. comes_to (or_origin (find id vs))) vs))) (or_origin (find id vs))
  found_after = ap (λ (f : Option Point). minus (or_origin f) (or_origin (find id vs))) (sym (found_changed id (λ u. comes_to (or_origin (find id vs))) vs))

-- a scroll by what it takes is the scroll
pub same_scroll : (p : Page) (id : ℕ) (dx dy : ℤ) → scrolled_by p id dx dy ≡ scrolled_by p id (amount_scrolled p id dx dy).x (amount_scrolled p id dx dy).y
same_scroll p id dx dy =
    let o : Option ScrollNode = find id p.props.scrollers in
    let v : Point = main_point p id in
    ap (λ (vs : List (ℕ × Point)). record p { values = vs }) (same_values id o dx dy p.values (find id p.values) refl)
    ∙ ap (λ (by : Point). record p { values = with_node_changed id (λ u. clamped_in o (v.x +ℤ by.x) (v.y +ℤ by.y)) p.values }) (found_after id o dx dy p.values)

-- a scroll that takes nothing changes nothing
pub still_scroll : (p : Page) (id : ℕ) (dx dy : ℤ) → amount_scrolled p id dx dy ≡ origin → scrolled_by p id dx dy ≡ p
still_scroll p id dx dy none =
    let o : Option ScrollNode = find id p.props.scrollers in
    ap (λ (vs : List (ℕ × Point)). record p { values = vs }) (still_values id o dx dy p.values (find id p.values) refl (found_after id o dx dy p.values ∙ none))
