-- No more tiles are in flight than there are workers.
use Rattle.std.proofs.Common.{◌≡◌, ℕ, zero, suc, ◌<◌, ◌≤◌, true, false, not, ◌&&◌, ◌||◌, List, [], ◌∷◌, length, filter, Option, Some, None, refl, sym, ◌∙◌, ap, arith}
use Rattle.geom.specs.declared.tile.TileKey.{TileKey}
use Rattle.geom.specs.KeyLists.{same_key, has_key, AreDistinctKeys}
use Rattle.model_history.specs.declared.history.Entry.{Entry}
use Rattle.model_history.specs.Scripts.{ScriptModel}
use Rattle.model_history.specs.Scans.{held}
use Rattle.model_history.specs.Tiles.{in_flight}
use Rattle.model_history.specs.Legal.{Legal}
use Rattle.model_history.proofs.BoolFacts.{not_both, by_test, and_left, and_right, not_true}
use Rattle.model_history.proofs.KeyFacts.{key_itself, has_filter, distinct_filter}
use Rattle.model_history.proofs.TileCourse.{holder, tile_course}
use Rattle.model_steps.proofs.Picks.{shorter}

-- each of these keys is held by one of the first n workers
abbrev AreHeld : ℕ → (ℕ → Option TileKey) → List TileKey → Type 0
AreHeld n holds ks = (q : TileKey) → has_key ks q ≡ true → (w : ℕ) × (w < n) × (holds w ≡ Some q)

-- what is held, but not by the last worker, is held by one before it
before_last : (m : ℕ) (holds : ℕ → Option TileKey) (q : TileKey) → (holds m ≡ Some q → ⊥) → (w : ℕ) × (w < suc m) × (holds w ≡ Some q) → (w : ℕ) × (w < m) × (holds w ≡ Some q)
before_last m holds q other (w, l, e) =
    let d : w ≡ m → ⊥ = λ i. other (ap holds (sym i) ∙ e) in
    (w, omega arith, e)

-- keys that stand once and are held are as few as the workers
few_held : (n : ℕ) (holds : ℕ → Option TileKey) (ks : List TileKey) → AreDistinctKeys ks → AreHeld n holds ks → length ks ≤ n
few_held zero holds [] d f = omega arith
few_held zero holds (k ∷ ks) d f = let x = f k (ap (λ b. b || has_key ks k) (key_itself k)) in let l = x.1 in absurd (omega arith)
few_held (suc m) holds ks d f = by_last (holds m) refl (few_held m holds)
  where
    by_last : (o : Option TileKey) → holds m ≡ o → ((ls : List TileKey) → AreDistinctKeys ls → AreHeld m holds ls → length ls ≤ m) → length ks ≤ suc m
    by_last None e fewer =
        let l : length ks ≤ m = fewer ks d (λ q t. before_last m holds q (λ i. let j = sym e ∙ i in cc) (f q t)) in
        omega arith
    by_last (Some k) e fewer = by_test (has_key ks k) (there) (missing)
      where
        rest : List TileKey
        rest = filter (λ q. not (has_key (k ∷ []) q)) ks

        -- what is left is not that key
        left : (q : TileKey) → has_key rest q ≡ true → (has_key ks q ≡ true) × (holds m ≡ Some q → ⊥)
        left q t =
            let b : has_key ks q && not (has_key (k ∷ []) q) ≡ true = sym (has_filter (λ q. not (has_key (k ∷ []) q)) ks q) ∙ t in
            let o : has_key (k ∷ []) q ≡ false = not_true (has_key (k ∷ []) q) (and_right (has_key ks q) (not (has_key (k ∷ []) q)) b) in
            (and_left (has_key ks q) (not (has_key (k ∷ []) q)) b, λ i. let j : k ≡ q = same (sym e ∙ i) in not_both (has_key (k ∷ []) q) (ap (λ z. same_key z q || false) j ∙ ap (λ b. b || false) (key_itself q)) o)
          where
            same : {x y : TileKey} → Some x ≡ Some y → x ≡ y
            same i = cc

        there : has_key ks k ≡ true → length ks ≤ suc m
        there t =
            let l : length rest ≤ m = fewer rest (distinct_filter (λ q. not (has_key (k ∷ []) q)) ks d) (λ q u. let v = left q u in before_last m holds q v.1 (f q v.0)) in
            let s : suc (length rest) ≡ length ks = shorter ks k d t in
            omega arith

        missing : has_key ks k ≡ false → length ks ≤ suc m
        missing t =
            let l : length ks ≤ m = fewer ks d (λ q u. before_last m holds q (λ i. not_both (has_key ks k) (ap (has_key ks) (same (sym e ∙ i)) ∙ u) t) (f q u)) in
            omega arith
          where
            same : {x y : TileKey} → Some x ≡ Some y → x ≡ y
            same i = cc

pub in_flight_few : (s : ScriptModel) (n : ℕ) (h : List Entry) → Legal s n h → length (in_flight h) ≤ n
in_flight_few s n h l = few_held n (λ w. held w h) (in_flight h) (tile_course s n h l).in_flight_once (λ q t. holder s n h l q t)
