-- One turn of laying sheets over a pixel: a group's run, or a layer alone.
use Rattle.std.proofs.Common.{ℕ, ℤ, suc, ◌≡◌, ◌<◌, ◌≤◌, ◌==◌, List, [], ◌∷◌, All, length, take, drop, get_or, map, ap, sym, ◌∙◌, subst, arith, true, refl}
use Rattle.std.specs.List.{prefix_len}
use Rattle.std.proofs.lemmas.List.Elements.{All-take, All-head, All-same}
use Rattle.std.proofs.lemmas.Bool.Decides.{nat_tests}
use Rattle.std.proofs.lemmas.List.{get_or-map, length-map}
use Rattle.std.proofs.lemmas.Simd.{map-map}
use Rattle.geom.specs.declared.rect.Point.{Point}
use Rattle.geom.specs.declared.tile.TileKey.{TileKey}
use Rattle.pixel.specs.Colours.{Parts, blend, scaled, clear}
use Rattle.page_layers.specs.declared.paint.Group.{Group}
use Rattle.page_layers.specs.Layers.{PageLayer}
use Rattle.page_layers.specs.Pages.{Page}
use Rattle.page_layers.specs.Painting.{Items, folded, items_at}
use Rattle.page_layers.specs.Paintings.{ReadyShows, placed_colour}
use Rattle.page_layers.specs.TreePainting.{groups_in, opacity_in, layer_colour_at, paint}
use Rattle.page_layers.specs.inner.Runs.{lies_in}
use Rattle.page_layers.proofs.PaintSteps.{first_here, drop_past, group_step, layer_step, run_some}
use Rattle.page_layers.proofs.SampleColours.{same_items}
use Rattle.recording_check.specs.inner.Sheets.{SheetModel, effects_of, colour_in, ready, HaveOpacities}

-- a sheet lies in the group that it has at the depth
lies_here : (s : SheetModel) (depth : ℕ) (g : Group) → depth < length s.groups → g ≡ get_or s.groups depth g → lies_in effects_of depth g.effect s ≡ true
lies_here s depth g lt is =
    first_here (λ (x : Group). x.effect) g.effect depth s.groups g lt
    ∙ ap (λ (x : Group). g.effect == x.effect) (sym is)
    ∙ grind (arith, nat_tests)

-- the run of a sheet's group has at least that sheet
pub run_not_empty : (depth n : ℕ) (rest tail : List SheetModel) (first : SheetModel) (g : Group) → rest ≡ first ∷ tail → depth < length first.groups → g ≡ get_or first.groups depth g
    → n ≡ prefix_len (lies_in effects_of depth g.effect) rest → 1 ≤ n
run_not_empty depth n rest tail first g is lt here len =
    let some : 1 ≤ prefix_len (lies_in effects_of depth g.effect) rest = run_some (lies_in effects_of depth g.effect) rest first tail is (lies_here first depth g lt here) in
    omega (arith, len, some)

module _ (colour_of : SheetModel → Parts) where
  -- where the first sheet lies in a group, its run is laid over the colour as one
  pub group_turn : (opacity : ℕ → ℕ) (depth n : ℕ) (rest run after tail : List SheetModel) (first : SheetModel) (g : Group) (colour inner new : Parts)
      → rest ≡ first ∷ tail → depth < length first.groups → g ≡ get_or first.groups depth g
      → n ≡ prefix_len (lies_in effects_of depth g.effect) rest → run ≡ take n rest → after ≡ drop n rest
      → HaveOpacities opacity rest
      → (HaveOpacities opacity run → inner ≡ folded opacity (items_at effects_of colour_of (suc depth) run) clear)
      → new ≡ blend colour (scaled inner g.opacity)
      → folded opacity (items_at effects_of colour_of depth after) new ≡ folded opacity (items_at effects_of colour_of depth rest) colour
  group_turn opacity depth n rest run after tail first g colour inner new is lt here len run-is after-is have inner-is new-is =
      let p : SheetModel → Type 0 = λ s. All (λ (x : Group). opacity x.effect ≡ x.opacity) s.groups in
      let of_first : All (λ (x : Group). opacity x.effect ≡ x.opacity) first.groups = All-head p first tail (All-same p (first ∷ tail) rest (sym is) have) in
      let of_group : opacity g.effect ≡ g.opacity = subst (λ (x : Group). opacity x.effect ≡ x.opacity) (sym here) (of_first depth g lt) in
      let of_run : HaveOpacities opacity run = All-same p run (take n rest) run-is (All-take p n rest have) in
      let inside_is : inner ≡ folded opacity (items_at effects_of colour_of (suc depth) (take n rest)) clear = inner-is of_run ∙ ap (λ (xs : List SheetModel). folded opacity (items_at effects_of colour_of (suc depth) xs) clear) run-is in
      let step = group_step effects_of colour_of opacity depth g.effect rest first tail colour is (lies_here first depth g lt here) in
      ap (λ (xs : List SheetModel). folded opacity (items_at effects_of colour_of depth xs) new) after-is
      ∙ ap (λ (c : Parts). folded opacity (items_at effects_of colour_of depth (drop n rest)) c) (new-is ∙ ap (λ (c : Parts). blend colour c) (ap (λ (c : Parts). scaled c g.opacity) inside_is ∙ ap (λ (o : ℕ). scaled (folded opacity (items_at effects_of colour_of (suc depth) (take n rest)) clear) o) (sym of_group)))
      ∙ ap (λ (m : ℕ). folded opacity (items_at effects_of colour_of depth (drop m rest)) (blend colour (scaled (folded opacity (items_at effects_of colour_of (suc depth) (take m rest)) clear) (opacity g.effect)))) len
      ∙ sym step

  -- where the first sheet lies in no further group, its colour is laid over
  pub layer_turn : (opacity : ℕ → ℕ) (depth : ℕ) (rest tail : List SheetModel) (first : SheetModel) (colour new : Parts)
      → rest ≡ first ∷ tail → length first.groups ≤ depth → new ≡ blend colour (colour_of first)
      → folded opacity (items_at effects_of colour_of depth tail) new ≡ folded opacity (items_at effects_of colour_of depth rest) colour
  layer_turn opacity depth rest tail first colour new is past new-is =
      ap (λ (c : Parts). folded opacity (items_at effects_of colour_of depth tail) c) new-is
      ∙ sym (layer_step effects_of colour_of opacity depth rest first tail colour is (drop_past (λ (x : Group). x.effect) depth first.groups past))

-- sheets that are laid over a background show the page that they are of
pub painted : (p : Page) (offset : ℕ → Point) (missing : List TileKey) (tile : ℕ) (ss : List SheetModel) (background result : Parts) (x y : ℤ) → ReadyShows p offset missing (ready tile ss)
    → ((opacity : ℕ → ℕ) → HaveOpacities opacity ss → result ≡ folded opacity (items_at effects_of (colour_in tile x y) 0 ss) background)
    → result ≡ paint p offset missing background x y
unfolding paint
painted p offset missing tile ss background result x y shows is =
    let opacity : ℕ → ℕ = opacity_in p.props.effects in
    let have : HaveOpacities opacity ss = opacities opacity ss shows.opacities in
    let groups : map effects_of ss ≡ map (λ (l : PageLayer). groups_in p.props.effects l.effect) p.layers =
    sym (map-map (λ (gs : List Group). map (λ (g : Group). g.effect) gs) (λ (s : SheetModel). s.groups) ss) ∙ shows.groups in
    let colours : map (colour_in tile x y) ss ≡ map (layer_colour_at p offset missing x y) p.layers =
    sym (map-map (placed_colour tile x y) (λ (s : SheetModel). s.placed) ss) ∙ shows.colours x y in
    is opacity have
    ∙ ap (λ (items : Items). folded opacity items background) (same_items effects_of (colour_in tile x y) (λ (l : PageLayer). groups_in p.props.effects l.effect) (layer_colour_at p offset missing x y) 0 ss p.layers groups colours)
  where
    opacities : (opacity : ℕ → ℕ) (ss : List SheetModel) → All (λ (gs : List Group). All (λ (g : Group). opacity g.effect ≡ g.opacity) gs) (map (λ (s : SheetModel). s.groups) ss) → HaveOpacities opacity ss
    opacities opacity ss all k d lt =
        let there : k < length (map (λ (s : SheetModel). s.groups) ss) = grind (arith, length-map, lt) in
        subst (λ (gs : List Group). All (λ (g : Group). opacity g.effect ≡ g.opacity) gs) (get_or-map (λ (s : SheetModel). s.groups) ss k d d.groups lt) (all k d.groups there)

-- no sheet is left
pub past_all : (colour_of : SheetModel → Parts) (opacity : ℕ → ℕ) (depth : ℕ) (rest : List SheetModel) (colour : Parts) → length rest ≡ 0 → colour ≡ folded opacity (items_at effects_of colour_of depth rest) colour
past_all colour_of opacity depth [] colour none = refl
past_all colour_of opacity depth (s ∷ ss) colour none = absurd (omega (arith, none))
