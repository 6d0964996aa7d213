-- One turn of the painting: a layer, or the run of layers that lie in one group.
use Rattle.std.proofs.Common.{ℕ, zero, suc, ◌≡◌, ◌+◌, ◌<◌, ◌≤◌, ◌==◌, Bool, true, false, cond, List, [], ◌∷◌, length, take, drop, get_or, map, refl, ap, sym, ◌∙◌, subst, arith}
use Rattle.std.specs.List.{prefix_len}
use Rattle.std.proofs.lemmas.Bool.Decides.{nat_tests}
use Rattle.pixel.specs.Colours.{Parts, blend, scaled, clear}
use Rattle.page_layers.specs.Painting.{Items, none, layer, group, folded, inside, after_group, layer_before, items_at}
use Rattle.page_layers.specs.inner.Runs.{first_is, lies_in}

-- the first of the groups from a depth on, where there is one
pub first_here : {G : Type 0} (f : G → ℕ) (e depth : ℕ) (gs : List G) (d : G) → depth < length gs → first_is e (drop depth (map f gs)) ≡ (e == f (get_or gs depth d))
first_here f e zero [] d lt = absurd (omega arith)
first_here f e (suc n) [] d lt = absurd (omega arith)
first_here f e zero (g ∷ gs) d lt = refl
first_here f e (suc n) (g ∷ gs) d lt = first_here f e n gs d (omega arith)

-- past the last group no effect is the first
pub first_past : {G : Type 0} (f : G → ℕ) (e depth : ℕ) (gs : List G) → length gs ≤ depth → first_is e (drop depth (map f gs)) ≡ false
first_past f e zero [] le = refl
first_past f e (suc n) [] le = refl
first_past f e zero (g ∷ gs) le = absurd (omega arith)
first_past f e (suc n) (g ∷ gs) le = first_past f e n gs (omega arith)

-- past the last group there is none
pub drop_past : {G : Type 0} (f : G → ℕ) (depth : ℕ) (gs : List G) → length gs ≤ depth → drop depth (map f gs) ≡ []
drop_past f zero [] le = refl
drop_past f (suc n) [] le = refl
drop_past f zero (g ∷ gs) le = absurd (omega arith)
drop_past f (suc n) (g ∷ gs) le = drop_past f n gs (omega arith)

-- the groups from one depth further on
drop_one : (depth f : ℕ) (gs fs : List ℕ) → drop depth gs ≡ f ∷ fs → drop (suc depth) gs ≡ fs
drop_one zero f [] fs e = absurd (cc)
drop_one (suc n) f [] fs e = absurd (cc)
drop_one zero f (g ∷ gs) fs e = cc
drop_one (suc n) f (g ∷ gs) fs e = drop_one n f gs fs e

-- a layer whose first group is the effect's begins that effect's group
is_group : (e : ℕ) (gs : List ℕ) (c : Parts) (items : Items) → first_is e gs ≡ true → layer_before gs c items ≡ group e (inside e (layer_before gs c items)) (after_group e (layer_before gs c items))
is_group e [] c items h = absurd (cc)
is_group e (f ∷ fs) c items h =
    let same : e ≡ f = grind (arith, nat_tests, h) in
    subst (λ (g : ℕ). group g (layer_before fs c (inside g items)) (after_group g items) ≡ group e (inside e (group g (layer_before fs c (inside g items)) (after_group g items))) (after_group e (group g (layer_before fs c (inside g items)) (after_group g items)))) same (own e (e == e) (grind (arith, nat_tests)) (layer_before fs c (inside e items)) (after_group e items))
  where
    own : (e : ℕ) (b : Bool) → b ≡ true → (x y : Items) → group e x y ≡ group e (cond b x none) (cond b y (group e x y))
    own e true h x y = refl
    own e false h x y = absurd (cc)

module _ {A : Type 0} (groups_of : A → List ℕ) (colour_of : A → Parts) where
  -- the effect's group where it stands first holds the run of layers that lie in it
  pub inside_is : (e depth : ℕ) (ls : List A) → inside e (items_at groups_of colour_of depth ls) ≡ items_at groups_of colour_of (suc depth) (take (prefix_len (lies_in groups_of depth e) ls) ls)
  inside_is e depth [] = refl
  inside_is e depth (l ∷ more) = step (items_at groups_of colour_of depth more) (prefix_len (lies_in groups_of depth e) more) (inside_is e depth more) (drop depth (groups_of l)) refl
    where
      pick : (items : Items) (n : ℕ) → inside e items ≡ items_at groups_of colour_of (suc depth) (take n more) → (f : ℕ) (fs : List ℕ) (b : Bool) → (b ≡ true → e ≡ f) → drop (suc depth) (groups_of l) ≡ fs
          → cond b (layer_before fs (colour_of l) (inside f items)) none ≡ items_at groups_of colour_of (suc depth) (take (cond b (1 + n) 0) (l ∷ more))
      pick items n rest f fs false same next = refl
      pick items n rest f fs true same next =
          let one : 1 + n ≡ suc n = omega arith in
          let here : inside f items ≡ items_at groups_of colour_of (suc depth) (take n more) = ap (λ (g : ℕ). inside g items) (sym (same refl)) ∙ rest in
          rw one (ap (λ (x : Items). layer_before fs (colour_of l) x) here ∙ ap (λ (gs : List ℕ). layer_before gs (colour_of l) (items_at groups_of colour_of (suc depth) (take n more))) (sym next))

      step : (items : Items) (n : ℕ) → inside e items ≡ items_at groups_of colour_of (suc depth) (take n more) → (gs : List ℕ) → drop depth (groups_of l) ≡ gs
          → inside e (layer_before gs (colour_of l) items) ≡ items_at groups_of colour_of (suc depth) (take (cond (first_is e gs) (1 + n) 0) (l ∷ more))
      step items n rest [] at = refl
      step items n rest (f ∷ fs) at = pick items n rest f fs (e == f) (λ h. grind (arith, nat_tests, h)) (drop_one depth f (groups_of l) fs at)

  -- the layers after that run make what follows the group
  pub after_is : (e depth : ℕ) (ls : List A) → after_group e (items_at groups_of colour_of depth ls) ≡ items_at groups_of colour_of depth (drop (prefix_len (lies_in groups_of depth e) ls) ls)
  after_is e depth [] = refl
  after_is e depth (l ∷ more) = step (items_at groups_of colour_of depth more) refl (prefix_len (lies_in groups_of depth e) more) (after_is e depth more) (drop depth (groups_of l)) refl
    where
      pick : (items : Items) → items_at groups_of colour_of depth more ≡ items → (n : ℕ) → after_group e items ≡ items_at groups_of colour_of depth (drop n more) → (f : ℕ) (fs : List ℕ) (b : Bool) → (b ≡ true → e ≡ f) → drop depth (groups_of l) ≡ f ∷ fs
          → cond b (after_group f items) (group f (layer_before fs (colour_of l) (inside f items)) (after_group f items)) ≡ items_at groups_of colour_of depth (drop (cond b (1 + n) 0) (l ∷ more))
      pick items is n rest f fs false same at = ap (λ (gs : List ℕ). layer_before gs (colour_of l) items) (sym at) ∙ ap (λ (x : Items). layer_before (drop depth (groups_of l)) (colour_of l) x) (sym is)
      pick items is n rest f fs true same at =
          let one : 1 + n ≡ suc n = omega arith in
          rw one (ap (λ (g : ℕ). after_group g items) (sym (same refl)) ∙ rest)

      step : (items : Items) → items_at groups_of colour_of depth more ≡ items → (n : ℕ) → after_group e items ≡ items_at groups_of colour_of depth (drop n more) → (gs : List ℕ) → drop depth (groups_of l) ≡ gs
          → after_group e (layer_before gs (colour_of l) items) ≡ items_at groups_of colour_of depth (drop (cond (first_is e gs) (1 + n) 0) (l ∷ more))
      step items is n rest [] at = ap (λ (x : Items). layer (colour_of l) x) (sym is) ∙ ap (λ (gs : List ℕ). layer_before gs (colour_of l) (items_at groups_of colour_of depth more)) (sym at)
      step items is n rest (f ∷ fs) at = pick items is n rest f fs (e == f) (λ h. grind (arith, nat_tests, h)) at

  -- a layer that lies in no further group is laid over what stands below it
  pub layer_step : (opacity : ℕ → ℕ) (depth : ℕ) (ls : List A) (l : A) (more : List A) (below : Parts) → ls ≡ l ∷ more → drop depth (groups_of l) ≡ []
      → folded opacity (items_at groups_of colour_of depth ls) below ≡ folded opacity (items_at groups_of colour_of depth more) (blend below (colour_of l))
  layer_step opacity depth ls l more below is past =
      ap (λ (xs : List A). folded opacity (items_at groups_of colour_of depth xs) below) is
      ∙ ap (λ (gs : List ℕ). folded opacity (layer_before gs (colour_of l) (items_at groups_of colour_of depth more)) below) past

  -- a run of layers in one group is folded from transparent, scaled, and laid over what stands below it
  pub group_step : (opacity : ℕ → ℕ) (depth e : ℕ) (ls : List A) (l : A) (more : List A) (below : Parts) → ls ≡ l ∷ more → lies_in groups_of depth e l ≡ true
      → folded opacity (items_at groups_of colour_of depth ls) below ≡ folded opacity (items_at groups_of colour_of depth (drop (prefix_len (lies_in groups_of depth e) ls) ls)) (blend below (scaled (folded opacity (items_at groups_of colour_of (suc depth) (take (prefix_len (lies_in groups_of depth e) ls) ls)) clear) (opacity e)))
  group_step opacity depth e ls l more below is first =
      let parts : items_at groups_of colour_of depth (l ∷ more) ≡ group e (inside e (items_at groups_of colour_of depth (l ∷ more))) (after_group e (items_at groups_of colour_of depth (l ∷ more))) = is_group e (drop depth (groups_of l)) (colour_of l) (items_at groups_of colour_of depth more) first in
      let whole : items_at groups_of colour_of depth ls ≡ group e (inside e (items_at groups_of colour_of depth ls)) (after_group e (items_at groups_of colour_of depth ls)) = subst (λ (xs : List A). items_at groups_of colour_of depth xs ≡ group e (inside e (items_at groups_of colour_of depth xs)) (after_group e (items_at groups_of colour_of depth xs))) (sym is) parts in
      ap (λ (items : Items). folded opacity items below) (whole ∙ ap (λ (x : Items). group e x (after_group e (items_at groups_of colour_of depth ls))) (inside_is e depth ls) ∙ ap (λ (x : Items). group e (items_at groups_of colour_of (suc depth) (take (prefix_len (lies_in groups_of depth e) ls) ls)) x) (after_is e depth ls))

-- a run whose first layer lies in the group is not empty
pub run_some : {A : Type 0} (p : A → Bool) (ls : List A) (l : A) (more : List A) → ls ≡ l ∷ more → p l ≡ true → 1 ≤ prefix_len p ls
run_some p ls l more is here = rw is (rw here (omega arith))
