-- One turn of the painting over samples: a group's run, or a layer alone.
use Rattle.std.proofs.Common.{ℕ, suc, ◌≡◌, ◌<◌, ◌≤◌, ◌==◌, List, ◌∷◌, All, length, take, drop, get_or, ap, sym, ◌∙◌, subst, arith, true}
use Rattle.std.specs.List.{prefix_len}
use Rattle.std.proofs.lemmas.List.Elements.{All-take, All-head, All-same}
use Rattle.std.proofs.lemmas.Bool.Decides.{nat_tests}
use Rattle.pixel.specs.Colours.{Parts, blend, scaled, clear}
use Rattle.page_layers.specs.declared.paint.LayerSample.{LayerSample}
use Rattle.page_layers.specs.declared.paint.Group.{Group}
use Rattle.page_layers.specs.Painting.{folded, items_at}
use Rattle.page_layers.specs.inner.Runs.{lies_in}
use Rattle.page_layers.specs.inner.LayerSamples.{groups_of, colour_of, HaveOpacities}
use Rattle.page_layers.proofs.PaintSteps.{first_here, drop_past, group_step, layer_step, run_some}

-- a sample lies in the group that it has at the depth
lies_here : (s : LayerSample) (depth : ℕ) (g : Group) → depth < length s.groups.items → g ≡ get_or s.groups.items depth g → lies_in groups_of depth g.effect s ≡ true
lies_here s depth g lt is =
    first_here (λ (x : Group). x.effect) g.effect depth s.groups.items g lt
    ∙ ap (λ (x : Group). g.effect == x.effect) (sym is)
    ∙ grind (arith, nat_tests)

-- the run of a sample's group has at least that sample
pub run_not_empty : (depth n : ℕ) (rest tail : List LayerSample) (first : LayerSample) (g : Group) → rest ≡ first ∷ tail → depth < length first.groups.items → g ≡ get_or first.groups.items depth g
    → n ≡ prefix_len (lies_in groups_of depth g.effect) rest → 1 ≤ n
run_not_empty depth n rest tail first g is lt here len =
    let some : 1 ≤ prefix_len (lies_in groups_of depth g.effect) rest = run_some (lies_in groups_of depth g.effect) rest first tail is (lies_here first depth g lt here) in
    omega (arith, len, some)

-- where the first sample lies in a group, its run is laid over the colour as one
pub group_turn : (opacity : ℕ → ℕ) (depth n : ℕ) (rest run after tail : List LayerSample) (first : LayerSample) (g : Group) (colour inner faded new : Parts)
    → rest ≡ first ∷ tail → depth < length first.groups.items → g ≡ get_or first.groups.items depth g
    → n ≡ prefix_len (lies_in groups_of depth g.effect) rest → run ≡ take n rest → after ≡ drop n rest
    → HaveOpacities opacity rest
    → (HaveOpacities opacity run → inner ≡ folded opacity (items_at groups_of colour_of (suc depth) run) clear)
    → faded ≡ scaled inner g.opacity → new ≡ blend colour faded
    → folded opacity (items_at groups_of colour_of depth after) new ≡ folded opacity (items_at groups_of colour_of depth rest) colour
group_turn opacity depth n rest run after tail first g colour inner faded new is lt here len run-is after-is have inner-is faded-is new-is =
    let p : LayerSample → Type 0 = λ s. All (λ (x : Group). opacity x.effect ≡ x.opacity) s.groups.items in
    let of_first : All (λ (x : Group). opacity x.effect ≡ x.opacity) first.groups.items = All-head p first tail (All-same p (first ∷ tail) rest (sym is) have) in
    let of_group : opacity g.effect ≡ g.opacity = subst (λ (x : Group). opacity x.effect ≡ x.opacity) (sym here) (of_first depth g lt) in
    let of_run : HaveOpacities opacity run = All-same p run (take n rest) run-is (All-take p n rest have) in
    let inside_is : inner ≡ folded opacity (items_at groups_of colour_of (suc depth) (take n rest)) clear = inner-is of_run ∙ ap (λ (xs : List LayerSample). folded opacity (items_at groups_of colour_of (suc depth) xs) clear) run-is in
    let step = group_step groups_of colour_of opacity depth g.effect rest first tail colour is (lies_here first depth g lt here) in
    ap (λ (xs : List LayerSample). folded opacity (items_at groups_of colour_of depth xs) new) after-is
    ∙ ap (λ (c : Parts). folded opacity (items_at groups_of colour_of depth (drop n rest)) c) (new-is ∙ ap (λ (c : Parts). blend colour c) (faded-is ∙ ap (λ (c : Parts). scaled c g.opacity) inside_is ∙ ap (λ (o : ℕ). scaled (folded opacity (items_at groups_of colour_of (suc depth) (take n rest)) clear) o) (sym of_group)))
    ∙ ap (λ (m : ℕ). folded opacity (items_at groups_of colour_of depth (drop m rest)) (blend colour (scaled (folded opacity (items_at groups_of colour_of (suc depth) (take m rest)) clear) (opacity g.effect)))) len
    ∙ sym step

-- where the first sample lies in no further group, its colour is laid over
pub layer_turn : (opacity : ℕ → ℕ) (depth : ℕ) (rest tail : List LayerSample) (first : LayerSample) (colour new : Parts)
    → rest ≡ first ∷ tail → length first.groups.items ≤ depth → new ≡ blend colour first.colour
    → folded opacity (items_at groups_of colour_of depth tail) new ≡ folded opacity (items_at groups_of colour_of depth rest) colour
layer_turn opacity depth rest tail first colour new is past new-is =
    ap (λ (c : Parts). folded opacity (items_at groups_of colour_of depth tail) c) new-is
    ∙ sym (layer_step groups_of colour_of opacity depth rest first tail colour is (drop_past (λ (x : Group). x.effect) depth first.groups.items past))
