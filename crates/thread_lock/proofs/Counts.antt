-- How often numbers stand in a list. As many numbers below m as m, none of them twice, are all numbers below m.
use Rattle.std.proofs.Common.{◌≡◌, ◌≢◌, ℕ, zero, suc, ◌+◌, ◌<◌, ◌≤◌, ◌==◌, Bool, true, false, List, [], ◌∷◌, ◌++◌, length, refl, ap, sym, ◌∙◌, subst, arith, eq-eqb, ne_eqb}
use mathlib.Core.Logic.{dite}
use native.Mathlib.Decide.{ℕ_discrete}
use Rattle.std.specs.List.{AllByRecursion, Contains}
use Rattle.thread_lock.specs.Lists.{one_if, times}

pub one_at_most : (b : Bool) → one_if b ≤ 1
one_at_most true = omega arith
one_at_most false = omega arith

pub one_here : (n k : ℕ) → n ≡ k → one_if (n == k) ≡ 1
one_here n k e = ap one_if (eq-eqb n k e)

pub one_else : (n k : ℕ) → n ≢ k → one_if (n == k) ≡ 0
one_else n k e = ap one_if (ne_eqb n k e)

-- a number that goes between
pub times_between : (k n : ℕ) (xs ys : List ℕ) → times k (xs ++ n ∷ ys) ≡ one_if (n == k) + times k (xs ++ ys)
times_between k n [] ys = refl
times_between k n (x ∷ xs) ys = let h = times_between k n xs ys in omega (arith, h)

-- what each number of the list has, and k has not
pub times_none : (owner : ℕ → ℕ) (id k : ℕ) (ns : List ℕ) → AllByRecursion (λ n. owner n ≡ id) ns → owner k ≢ id → times k ns ≡ 0
times_none owner id k [] all other = refl
times_none owner id k (n ∷ ns) all other = let h = times_none owner id k ns all.1 other in let o = one_else n k (λ e. other (ap owner (sym e) ∙ all.0)) in omega (arith, h, o)

-- how often the numbers below m stand in the list
total : ℕ → List ℕ → ℕ
total zero ns = 0
total (suc m) ns = total m ns + times m ns

total_nil : (m : ℕ) → total m [] ≡ 0
unfolding total
total_nil zero = refl
total_nil (suc m) = let h = total_nil m in omega (arith, h)

-- a number that is not below m does not count
total_above : (m n : ℕ) (ns : List ℕ) → m ≤ n → total m (n ∷ ns) ≡ total m ns
unfolding total
total_above zero n ns high = refl
total_above (suc m) n ns high = let h = total_above m n ns (omega arith) in let o = one_else n m (λ e. omega arith) in omega (arith, h, o)

total_below : (m n : ℕ) (ns : List ℕ) → n < m → total m (n ∷ ns) ≡ total m ns + 1
unfolding total
total_below zero n ns low = absurd (omega arith)
total_below (suc m) n ns low = dite (ℕ_discrete n m)
    (λ (e : n ≡ m). let h = total_above m n ns (omega arith) in let o = one_here n m e in omega (arith, h, o))
    (λ (e : n ≢ m). let h = total_below m n ns (omega arith) in let o = one_else n m e in omega (arith, h, o))

total_all : (m : ℕ) (ns : List ℕ) → AllByRecursion (λ n. n < m) ns → total m ns ≡ length ns
total_all m [] all = total_nil m
total_all m (n ∷ ns) all = let h = total_all m ns all.1 in let t = total_below m n ns all.0 in omega (arith, h, t)

total_at_most : (m : ℕ) (ns : List ℕ) → ((k : ℕ) → times k ns ≤ 1) → total m ns ≤ m
unfolding total
total_at_most zero ns once = omega arith
total_at_most (suc m) ns once = let h = total_at_most m ns once in let o = once m in omega (arith, h, o)

total_full : (m : ℕ) (ns : List ℕ) → ((k : ℕ) → times k ns ≤ 1) → m ≤ total m ns → (k : ℕ) → k < m → 0 < times k ns
unfolding total
total_full zero ns once full k low = absurd (omega arith)
total_full (suc m) ns once full k low = let o = once m in let t = total_at_most m ns once in dite (ℕ_discrete k m)
    (λ (e : k ≡ m). subst (λ (j : ℕ). 0 < times j ns) (sym e) (let g : 0 < times m ns = omega (arith, o, t, full) in g))
    (λ (e : k ≢ m). total_full m ns once (omega (arith, o, t, full)) k (omega arith))

-- enough numbers below m, none of them twice, are all of them
pub all_there : (m : ℕ) (ns : List ℕ) → AllByRecursion (λ n. n < m) ns → ((k : ℕ) → times k ns ≤ 1) → m ≤ length ns → (k : ℕ) → k < m → 0 < times k ns
all_there m ns below once enough k low = let t = total_all m ns below in total_full m ns once (omega (arith, t, enough)) k low

-- what stands in the list at least once is in it
pub contains_times : (k : ℕ) (ns : List ℕ) → 0 < times k ns → Contains ns k
contains_times k [] some_there = absurd (omega arith)
contains_times k (n ∷ ns) some_there = dite (ℕ_discrete n k) (λ e. (0, omega arith, e))
    (λ e. let none_here = one_else n k e in let r = contains_times k ns (omega (arith, some_there, none_here)) in (suc r.0, (let l = r.1 in omega (arith, l)), r.2))
