-- Items that differ only inside groups of opacity 0 are folded to the same colour.
use Rattle.std.proofs.Common.{ℕ, ◌≡◌, ◌==◌, ◌⊎◌, inl, inr, Bool, true, false, cond, ◌||◌, List, [], ◌∷◌, refl, ap, sym, ◌∙◌, eqb-true, arith}
use Rattle.std.specs.List.{list_any}
use Rattle.pixel.specs.Colours.{Parts, blend, scaled, clear, times_255}
use Rattle.page_layers.specs.Painting.{Items, none, layer, group, folded, inside, after_group, layer_before, items_at}

module _ (opacity : ℕ → ℕ) where
  -- equal layers, and groups that are alike or of opacity 0
  Alike : Items → Items → Type 0
  Alike none none = Unit {0}
  Alike (layer c r) (layer d s) = (c ≡ d) × Alike r s
  Alike (group e i r) (group f j s) = (e ≡ f) × (Alike i j ⊎ (opacity e ≡ 0)) × Alike r s
  Alike _ _ = ⊥

  faded_out : (c : Parts) (o : ℕ) → o ≡ 0 → scaled c o ≡ clear
  faded_out c o e = ap (λ (n : ℕ). scaled c n) e ∙ (λ i. record { r = part c.r i; g = part c.g i; b = part c.b i; a = part c.a i })
    where
      part : (n : ℕ) → times_255 n 0 ≡ 0
      part n = omega arith

  alike_folded : (i j : Items) (below : Parts) → Alike i j → folded opacity i below ≡ folded opacity j below
  unfolding Alike
  alike_folded none none below h = refl
  alike_folded (layer c r) (layer d s) below h = alike_folded r s (blend below c) h.1 ∙ ap (λ (e : Parts). folded opacity s (blend below e)) h.0
  alike_folded (group e i r) (group f j s) below h =
      ap (λ (c : Parts). folded opacity r (blend below c)) (same (alike_folded i j clear) h.1)
      ∙ alike_folded r s (blend below (scaled (folded opacity j clear) (opacity f))) h.2
    where
      same : (Alike i j → folded opacity i clear ≡ folded opacity j clear) → Alike i j ⊎ (opacity e ≡ 0) → scaled (folded opacity i clear) (opacity e) ≡ scaled (folded opacity j clear) (opacity f)
      same deeper (inl k) = ap (λ (c : Parts). scaled c (opacity e)) (deeper k) ∙ ap (λ (n : ℕ). scaled (folded opacity j clear) (opacity n)) h.0
      same deeper (inr z) = faded_out (folded opacity i clear) (opacity e) z ∙ sym (faded_out (folded opacity j clear) (opacity f) (ap opacity (sym h.0) ∙ z))
  alike_folded none (layer d s) below h = absurd h
  alike_folded none (group f j s) below h = absurd h
  alike_folded (layer c r) none below h = absurd h
  alike_folded (layer c r) (group f j s) below h = absurd h
  alike_folded (group e i r) none below h = absurd h
  alike_folded (group e i r) (layer d s) below h = absurd h

  alike_inside : (e : ℕ) (i j : Items) → Alike i j → Alike (inside e i) (inside e j) ⊎ (opacity e ≡ 0)
  unfolding Alike
  alike_inside e none none h = inl tt
  alike_inside e (layer c r) (layer d s) h = inl tt
  alike_inside e (group f i r) (group g j s) h = go (e == f) refl
    where
      go : (b : Bool) → (e == f) ≡ b → Alike (cond b i none) (cond (e == g) j none) ⊎ (opacity e ≡ 0)
      go b is = by b is (e == g) (sym (ap (λ (n : ℕ). e == n) h.0) ∙ is)
        where
          by : (b : Bool) → (e == f) ≡ b → (t : Bool) → t ≡ b → Alike (cond b i none) (cond t j none) ⊎ (opacity e ≡ 0)
          by true is true k = own (h.1)
            where
              own : Alike i j ⊎ (opacity f ≡ 0) → Alike i j ⊎ (opacity e ≡ 0)
              own (inl a) = inl a
              own (inr z) = inr (ap opacity (eqb-true e f is) ∙ z)
          by true is false k = absurd (cc)
          by false is true k = absurd (cc)
          by false is false k = inl tt
  alike_inside e none (layer d s) h = absurd h
  alike_inside e none (group f j s) h = absurd h
  alike_inside e (layer c r) none h = absurd h
  alike_inside e (layer c r) (group f j s) h = absurd h
  alike_inside e (group f i r) none h = absurd h
  alike_inside e (group f i r) (layer d s) h = absurd h

  alike_after : (e : ℕ) (i j : Items) → Alike i j → Alike (after_group e i) (after_group e j)
  unfolding Alike
  alike_after e none none h = tt
  alike_after e (layer c r) (layer d s) h = h
  alike_after e (group f i r) (group g j s) h = by (e == f) (e == g) (ap (λ (n : ℕ). e == n) h.0)
    where
      by : (b t : Bool) → b ≡ t → Alike (cond b r (group f i r)) (cond t s (group g j s))
      by true true k = h.2
      by true false k = absurd (cc)
      by false true k = absurd (cc)
      by false false k = h
  alike_after e none (layer d s) h = absurd h
  alike_after e none (group f j s) h = absurd h
  alike_after e (layer c r) none h = absurd h
  alike_after e (layer c r) (group f j s) h = absurd h
  alike_after e (group f i r) none h = absurd h
  alike_after e (group f i r) (layer d s) h = absurd h

  -- one layer more: its colours are equal, or one of its groups has opacity 0
  alike_layer : (gs : List ℕ) (c d : Parts) (i j : Items) → (c ≡ d) ⊎ (list_any (λ e. opacity e == 0) gs ≡ true) → Alike i j → Alike (layer_before gs c i) (layer_before gs d j)
  unfolding Alike
  alike_layer [] c d i j (inl e) h = (e, h)
  alike_layer [] c d i j (inr e) h = absurd (cc)
  alike_layer (g ∷ gs) c d i j same h = (refl, in_group (opacity g == 0) refl (alike_layer gs c d (inside g i) (inside g j)), alike_after g i j h)
    where
      rest : (b : Bool) → (opacity g == 0) ≡ b → b ≡ false → (c ≡ d) ⊎ ((opacity g == 0) || list_any (λ e. opacity e == 0) gs ≡ true) → (c ≡ d) ⊎ (list_any (λ e. opacity e == 0) gs ≡ true)
      rest b is off (inl e) = inl e
      rest b is off (inr e) = inr (ap (λ (t : Bool). t || list_any (λ e. opacity e == 0) gs) (sym (is ∙ off)) ∙ e)

      deeper : (Alike (inside g i) (inside g j) → Alike (layer_before gs c (inside g i)) (layer_before gs d (inside g j))) → Alike (inside g i) (inside g j) ⊎ (opacity g ≡ 0) → Alike (layer_before gs c (inside g i)) (layer_before gs d (inside g j)) ⊎ (opacity g ≡ 0)
      deeper f (inl a) = inl (f a)
      deeper f (inr z) = inr z

      in_group : (b : Bool) → (opacity g == 0) ≡ b → ((c ≡ d) ⊎ (list_any (λ e. opacity e == 0) gs ≡ true) → Alike (inside g i) (inside g j) → Alike (layer_before gs c (inside g i)) (layer_before gs d (inside g j))) → Alike (layer_before gs c (inside g i)) (layer_before gs d (inside g j)) ⊎ (opacity g ≡ 0)
      in_group true is f = inr (eqb-true (opacity g) 0 is)
      in_group false is f = deeper (f (rest false is refl same)) (alike_inside g i j h)

  module _ {A : Type 0} (groups : A → List ℕ) (c d : A → Parts) where
    -- each layer has the same colour twice, or lies in a group of opacity 0
    abbrev pub AreAlike : List A → Type 0
    AreAlike [] = Unit {0}
    AreAlike (l ∷ ls) = ((c l ≡ d l) ⊎ (list_any (λ e. opacity e == 0) (groups l) ≡ true)) × AreAlike ls

    alike_items : (ls : List A) → AreAlike ls → Alike (items_at groups c 0 ls) (items_at groups d 0 ls)
    unfolding Alike
    alike_items [] h = tt
    alike_items (l ∷ ls) h = alike_layer (groups l) (c l) (d l) (items_at groups c 0 ls) (items_at groups d 0 ls) h.0 (alike_items ls h.1)

    -- so the layers are folded to the same colour
    pub alike_painted : (ls : List A) (below : Parts) → AreAlike ls → folded opacity (items_at groups c 0 ls) below ≡ folded opacity (items_at groups d 0 ls) below
    alike_painted ls below h = alike_folded (items_at groups c 0 ls) (items_at groups d 0 ls) below (alike_items ls h)
