-- The ranks without that of one key.
use Rattle.std.proofs.Common.{◌≡◌, inl, inr, ℕ, ◌+◌, ◌<◌, ◌≤◌, suc, Bool, true, false, cond, not, Some, None, List, [], ◌∷◌, length, filter, map, get_or, refl, sym, ◌∙◌, ap, subst, arith}
use Rattle.std.specs.List.{remove, position, position_from}
use Rattle.std.proofs.lemmas.Iterator.Adapters.{position_from-zero}
use Rattle.geom.specs.declared.tile.TileKey.{TileKey}
use Rattle.geom.specs.KeyLists.{same_key}
use Rattle.geom.proofs.KeyLists.{same_from}
use Rattle.tile_priority.specs.declared.rank.Rank.{Rank}
use Rattle.tile_priority.specs.Ordered.{In}
use Rattle.tile_priority.specs.Alike.{is_of}
use Rattle.tile_priority.proofs.InOrder.{in_filter, map_in}
use Rattle.tile_queue.specs.Queues.{rank_key}
use Rattle.tile_queue.specs.inner.Orders.{times}
use Rattle.tile_queue.proofs.Times.{one_if, if_same, times_cons, times_in}

-- no element passes, so none is taken out
pub none_out : {X : Type 0} (p : X → Bool) (xs : List X) → ((x : X) → In x xs → p x ≡ false) → filter (λ x. not (p x)) xs ≡ xs
none_out p [] f = refl
none_out p (x ∷ xs) f =
    let e : p x ≡ false = f x (inl refl) in
    rw e (ap (λ zs. x ∷ zs) (none_out p xs (λ y i. f y (inr i))))

-- a key that stands nowhere is taken out of nothing
pub absent_out : (q : TileKey) (rs : List Rank) → times q (map rank_key rs) ≡ 0 → filter (λ r. not (is_of q r)) rs ≡ rs
absent_out q [] z = refl
absent_out q (r ∷ rs) z = by_test (is_of q r) z (times_cons q r.key (map rank_key rs)) (absent_out q rs)
  where
    by_test : (t : Bool) → length (cond t (r.key ∷ filter (λ k. same_key k q) (map rank_key rs)) (filter (λ k. same_key k q) (map rank_key rs))) ≡ 0 → times q (map rank_key (r ∷ rs)) ≡ one_if (same_key r.key q) + times q (map rank_key rs)
        → (times q (map rank_key rs) ≡ 0 → filter (λ r. not (is_of q r)) rs ≡ rs)
        → cond (not t) (r ∷ filter (λ r. not (is_of q r)) rs) (filter (λ r. not (is_of q r)) rs) ≡ r ∷ rs
    by_test true z a f = absurd (omega arith)
    by_test false z a f = ap (λ zs. r ∷ zs) (f z)

-- the place counts on
from_more : (p : Rank → Bool) (i n : ℕ) (rs : List Rank) → position_from p (suc i) rs ≡ Some n → (m : ℕ) × (n ≡ suc m) × (position_from p i rs ≡ Some m)
from_more p i n [] e = absurd cc
from_more p i n (r ∷ rs) e = by_test (p r) e (λ f. from_more p (i + 1) n rs f)
  where
    by_test : (t : Bool) → cond t (Some (suc i)) (position_from p (suc i + 1) rs) ≡ Some n
        → (position_from p (suc (i + 1)) rs ≡ Some n → (m : ℕ) × (n ≡ suc m) × (position_from p (i + 1) rs ≡ Some m))
        → (m : ℕ) × (n ≡ suc m) × (cond t (Some i) (position_from p (i + 1) rs) ≡ Some m)
    by_test true e f = (i, (let k : suc i ≡ n = cc in sym k), refl)
    by_test false e f = let k : suc i + 1 ≡ suc (i + 1) = omega arith in f (subst (λ (m : ℕ). position_from p m rs ≡ Some n) k e)

-- the one rank of the key is taken out
one_out : (q : TileKey) (rs : List Rank) (n : ℕ) → times q (map rank_key rs) ≤ 1 → position_from (is_of q) 0 rs ≡ Some n → remove rs n ≡ filter (λ r. not (is_of q r)) rs
one_out q [] n t e = absurd cc
one_out q (r ∷ rs) n t e = by_test (is_of q r) refl t e (times_cons q r.key (map rank_key rs)) (one_out q rs)
  where
    by_test : (b : Bool) → is_of q r ≡ b → times q (map rank_key (r ∷ rs)) ≤ 1 → cond b (Some 0) (position_from (is_of q) (0 + 1) rs) ≡ Some n
        → times q (map rank_key (r ∷ rs)) ≡ one_if (same_key r.key q) + times q (map rank_key rs)
        → ((m : ℕ) → times q (map rank_key rs) ≤ 1 → position_from (is_of q) 0 rs ≡ Some m → remove rs m ≡ filter (λ r. not (is_of q r)) rs)
        → remove (r ∷ rs) n ≡ cond (not b) (r ∷ filter (λ r. not (is_of q r)) rs) (filter (λ r. not (is_of q r)) rs)
    by_test true h t e a f =
        let z : 0 ≡ n = cc in
        let o : one_if (same_key r.key q) ≡ 1 = ap one_if h in
        subst (λ (m : ℕ). remove (r ∷ rs) m ≡ filter (λ r. not (is_of q r)) rs) z (sym (absent_out q rs (omega arith)))
    by_test false h t e a f =
        let (m, k, g) = from_more (is_of q) 0 n rs e in
        subst (λ (i : ℕ). remove (r ∷ rs) i ≡ r ∷ filter (λ r. not (is_of q r)) rs) (sym k) (ap (λ zs. r ∷ zs) (f m (omega arith) g))

pub removed_is : (q : TileKey) (rs : List Rank) (n : ℕ) → times q (map rank_key rs) ≤ 1 → Some n ≡ position (is_of q) rs → remove rs n ≡ filter (λ r. not (is_of q r)) rs
removed_is q rs n t e = one_out q rs n t (sym (e ∙ position_from-zero (is_of q) rs))

absent_from : (q : TileKey) (rs : List Rank) (i : ℕ) → position_from (is_of q) i rs ≡ None → filter (λ r. not (is_of q r)) rs ≡ rs
absent_from q [] i e = refl
absent_from q (r ∷ rs) i e = by_test (is_of q r) e (absent_from q rs (i + 1))
  where
    by_test : (b : Bool) → cond b (Some i) (position_from (is_of q) (i + 1) rs) ≡ None
        → (position_from (is_of q) (i + 1) rs ≡ None → filter (λ r. not (is_of q r)) rs ≡ rs)
        → cond (not b) (r ∷ filter (λ r. not (is_of q r)) rs) (filter (λ r. not (is_of q r)) rs) ≡ r ∷ rs
    by_test true e f = absurd cc
    by_test false e f = ap (λ zs. r ∷ zs) (f e)

pub absent_is : (q : TileKey) (rs : List Rank) → position (is_of q) rs ≡ None → rs ≡ filter (λ r. not (is_of q r)) rs
absent_is q rs e = sym (absent_from q rs 0 (sym (position_from-zero (is_of q) rs) ∙ e))

-- the rank at the place is of the key
pub found_at : (q : TileKey) (rs : List Rank) (n : ℕ) → position (is_of q) rs ≡ Some n → (n < length rs) × ((d : Rank) → is_of q (get_or rs n d) ≡ true)
found_at q rs n e = from_zero rs n (sym (position_from-zero (is_of q) rs) ∙ e)
  where
    from_zero : (rs : List Rank) (n : ℕ) → position_from (is_of q) 0 rs ≡ Some n → (n < length rs) × ((d : Rank) → is_of q (get_or rs n d) ≡ true)
    from_zero [] n e = absurd cc
    from_zero (r ∷ rs) n e = by_test (is_of q r) refl e (from_zero rs)
      where
        by_test : (b : Bool) → is_of q r ≡ b → cond b (Some 0) (position_from (is_of q) (0 + 1) rs) ≡ Some n
            → ((m : ℕ) → position_from (is_of q) 0 rs ≡ Some m → (m < length rs) × ((d : Rank) → is_of q (get_or rs m d) ≡ true))
            → (n < length (r ∷ rs)) × ((d : Rank) → is_of q (get_or (r ∷ rs) n d) ≡ true)
        by_test true h e f =
            let z : 0 ≡ n = cc in
            subst (λ (m : ℕ). (m < length (r ∷ rs)) × ((d : Rank) → is_of q (get_or (r ∷ rs) m d) ≡ true)) z (omega arith, λ d. h)
        by_test false h e f =
            let (m, k, g) = from_more (is_of q) 0 n rs e in
            let (l, t) = f m g in
            subst (λ (i : ℕ). (i < length (r ∷ rs)) × ((d : Rank) → is_of q (get_or (r ∷ rs) i d) ≡ true)) (sym k) (omega arith, t)

-- where no place is found no rank is of the key
pub found_nowhere : (q : TileKey) (rs : List Rank) → position (is_of q) rs ≡ None → (r : Rank) → In r rs → r.key ≡ q → ⊥
found_nowhere q rs e r i k =
    let j : In r (filter (λ r. not (is_of q r)) rs) = subst (In r) (absent_is q rs e) i in
    let t : not (is_of q r) ≡ true = (in_filter (λ r. not (is_of q r)) r rs j).1 in
    let u : is_of q r ≡ true = same_from r.key q k in
    cc

twice : (q : TileKey) (u : Rank) (rs : List Rank) → times q (map rank_key (u ∷ rs)) ≤ 1 → u.key ≡ q → (s : Rank) → In s rs → s.key ≡ q → ⊥
twice q u rs t k s i l =
    let a = times_cons q u.key (map rank_key rs) in
    let b = if_same u.key q (same_from u.key q k) in
    let d : 1 ≤ times q (map rank_key rs) = times_in q (map rank_key rs) (subst (λ (z : TileKey). In z (map rank_key rs)) l (map_in rank_key s rs i)) in
    omega arith

-- two ranks of a key that stands once are one
pub one_rank : (q : TileKey) (rs : List Rank) → times q (map rank_key rs) ≤ 1 → (r s : Rank) → In r rs → In s rs → r.key ≡ q → s.key ≡ q → r ≡ s
one_rank q [] t r s i j k l = absurd i
one_rank q (u ∷ rs) t r s (inl d) (inl e) k l = d ∙ sym e
one_rank q (u ∷ rs) t r s (inl d) (inr j) k l = absurd (twice q u rs t (ap (λ (z : Rank). z.key) (sym d) ∙ k) s j l)
one_rank q (u ∷ rs) t r s (inr i) (inl e) k l = absurd (twice q u rs t (ap (λ (z : Rank). z.key) (sym e) ∙ l) r i k)
one_rank q (u ∷ rs) t r s (inr i) (inr j) k l = one_rank q rs (let a = times_cons q u.key (map rank_key rs) in omega arith) r s i j k l
