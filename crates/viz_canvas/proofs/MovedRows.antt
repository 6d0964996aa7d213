-- Rows that were copied to other rows of a picture.
use Rattle.std.proofs.Common.{◌≡◌, ℕ, ◌+◌, ◌-◌, ◌*◌, ◌<◌, ◌≤◌, List, inl, inr, refl, sym, ◌∙◌, ap, arith}
use Rattle.std.proofs.Math.Nat.{mul-le-mul_left}
use Rattle.std.proofs.lemmas.Bool.{cases_lt}
use Rattle.std.proofs.lemmas.Bool.Decides.{nat_tests}
use Rattle.viz_canvas.specs.CopiedRows.{row_before}
use Rattle.viz_canvas.specs.inner.Parts.{PartOf}

-- ---- where a row was before

row_above : (from to n y : ℕ) → y < to → row_before from to n y ≡ y
unfolding row_before
row_above from to n y lt = grind (arith, nat_tests)

row_behind : (from to n y : ℕ) → to + n ≤ y → row_before from to n y ≡ y
unfolding row_before
row_behind from to n y le = grind (arith, nat_tests)

pub row_in : (from to n y j : ℕ) → y ≡ to + j → j < n → row_before from to n y ≡ from + j
unfolding row_before
row_in from to n y j e lt = grind (arith, nat_tests)

-- ---- where rows begin and end

above_rows : (w x y top : ℕ) → x < w → y < top → y * w + x < top * w
above_rows w x y top xw less = grind arith

among_rows : (w x row n : ℕ) → x < w → row < n → row * w + x < n * w
among_rows w x row n xw less = grind arith

pub rows_end : (w top n end : ℕ) → top + n ≤ end → top * w + n * w ≤ w * end
rows_end w top n end le = omega (arith, mul-le-mul_left w le)

below_rows : (w x y top n : ℕ) → top + n ≤ y → top * w + n * w ≤ y * w + x
below_rows w x y top n le = omega (arith, rows_end w top n y le)

row_place : (w x row top y : ℕ) → top + row ≡ y → top * w + (row * w + x) ≡ y * w + x
row_place w x row top y e = rw (sym e) (grind arith)

-- rows are one run of pixels
pub rows_moved : {C : Type 0} (read : List ℕ → ℕ → C) (w from to n first place len : ℕ) (old new : List ℕ) → first ≡ from * w → place ≡ to * w → len ≡ n * w
    → PartOf read place len (λ j below. read old (first + j)) old new
    → (x y : ℕ) → x < w → read new (y * w + x) ≡ read old (row_before from to n y * w + x)
rows_moved read w from to n first place len old new f p l part x y xw =
    let k = y * w + x in
    let Goal : Type 0 = read new k ≡ read old (row_before from to n y * w + x) in
    let stays : row_before from to n y ≡ y → read new k ≡ read old k → Goal = λ e same. same ∙ ap (λ (r : ℕ). read old (r * w + x)) (sym e) in
    elim (cases_lt y to) as (λ _. Goal) [
      | inl high ↦ stays (row_above from to n y high) (part.before k (let h = above_rows w x y to xw high in omega arith))
      | inr le ↦ elim (cases_lt y (to + n)) as (λ _. Goal) [
        | inl lt ↦
            let r = y - to in
            let j = r * w + x in
            let there : place + j ≡ k = ap (λ (q : ℕ). q + j) p ∙ row_place w x r to y (omega arith) in
            let source : first + j ≡ (from + r) * w + x = ap (λ (q : ℕ). q + j) f ∙ row_place w x r from (from + r) refl in
            let short : j < n * w = among_rows w x r n xw (omega arith) in
            sym (ap (read new) there) ∙ part.inside j (omega arith) ∙ ap (read old) source
            ∙ ap (λ (q : ℕ). read old (q * w + x)) (sym (row_in from to n y r (omega arith) (omega arith)))
        | inr low ↦ stays (row_behind from to n y low) (part.behind k (let h = below_rows w x y to n low in omega arith))
      ]
    ]
