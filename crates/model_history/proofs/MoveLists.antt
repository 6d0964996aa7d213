-- Lists of moves: what they have for a scroller, and that only one rising list has it.
use Rattle.std.proofs.Common.{ℕ, ℤ, ◌⊎◌, inl, inr, ◌==◌, ◌<◌, pos, ◌≡◌, Bool, true, false, cond, ◌&&◌, ◌||◌, List, [], ◌∷◌, refl, ap, sym, ◌∙◌, subst, arith, eqb-true}
use Rattle.std.specs.Prelude.{nat_lt}
use Rattle.std.specs.Ordering.{int_eq}
use Rattle.std.proofs.lemmas.Bool.Decides.{nat_tests, Decides-int_eq}
use Rattle.page_layers.specs.declared.moves.Move.{Move}
use Rattle.model_history.specs.ScrollLaws.{AreMovesAbove, AreRising}
use Rattle.page_layers.specs.Axes.{Axis, across, down, amount, amount_in, move_of, is_still, with_move, listed, named_in, with_number, with_numbers}

-- a list of numbers has this one
abbrev pub has : List ℕ → ℕ → Bool
has [] n = false
has (m ∷ ms) n = (m == n) || has ms n

-- a number among numbers

cond_same : (b : Bool) (x y z : ℤ) → x ≡ z → y ≡ z → cond b x y ≡ z
cond_same true x y z e f = e
cond_same false x y z e f = f

pub or_swap : (a b c : Bool) → (a || (b || c)) ≡ (b || (a || c))
or_swap true true c = refl
or_swap true false c = refl
or_swap false b c = refl

or_known : (a b c : Bool) → a ≡ b → (b || c) ≡ (a || (b || c))
or_known true b c e = ap (λ x. x || c) (sym e)
or_known false b c e = refl

pub has-number : (k n : ℕ) (ms : List ℕ) → has (with_number n ms) k ≡ ((n == k) || has ms k)
has-number k n [] = refl
has-number k n (m ∷ ms) = go (nat_lt m n) (m == n) refl (has-number k n ms)
  where
    more : (b : Bool) → (m == n) ≡ b → has (cond b (m ∷ ms) (n ∷ m ∷ ms)) k ≡ ((n == k) || ((m == k) || has ms k))
    more true e = or_known (n == k) (m == k) (has ms k) (ap (λ x. x == k) (sym (eqb-true m n e)))
    more false e = refl

    go : (b c : Bool) → (m == n) ≡ c → has (with_number n ms) k ≡ ((n == k) || has ms k) → has (cond b (m ∷ with_number n ms) (cond c (m ∷ ms) (n ∷ m ∷ ms))) k ≡ ((n == k) || ((m == k) || has ms k))
    go true c e later = ap (λ x. (m == k) || x) later ∙ or_swap (m == k) (n == k) (has ms k)
    go false c e later = more c e

or_assoc : (a b c : Bool) → (a || (b || c)) ≡ ((a || b) || c)
or_assoc true b c = refl
or_assoc false b c = refl

pub has-numbers : (k : ℕ) (ns ms : List ℕ) → has (with_numbers ns ms) k ≡ (has ns k || has ms k)
has-numbers k [] ms = refl
has-numbers k (n ∷ ns) ms = has-number k n (with_numbers ns ms) ∙ (ap (λ x. (n == k) || x) (has-numbers k ns ms) ∙ or_assoc (n == k) (has ns k) (has ms k))

-- what a list has for a scroller

both_true : (a b : Bool) → (a && b) ≡ true → (a ≡ true) × (b ≡ true)
both_true true b h = (refl, h)
both_true false b h = absurd (cc)

zero_if : (z : ℤ) → int_eq z (pos 0) ≡ true → z ≡ pos 0
zero_if z h = (Decides-int_eq z (pos 0)).0 h

still_amount : (ax : Axis) (m : Move) → is_still m ≡ true → amount ax m ≡ pos 0
still_amount across m h = zero_if m.dx (both_true (int_eq m.dx (pos 0)) (int_eq m.dy (pos 0)) h).0
still_amount down m h = zero_if m.dy (both_true (int_eq m.dx (pos 0)) (int_eq m.dy (pos 0)) h).1

-- a move of (0, 0) may be left out where the rest has nothing for its scroller
pub amount_with : (sc : ℕ) (ax : Axis) (m : Move) (ms : List Move) → ((is_still m) ≡ true → (m.scroller == sc) ≡ true → amount_in sc ax ms ≡ pos 0)
    → amount_in sc ax (with_move m ms) ≡ cond (m.scroller == sc) (amount ax m) (amount_in sc ax ms)
amount_with sc ax m ms rest = go (is_still m) refl
  where
    none : (c : Bool) → (m.scroller == sc) ≡ c → is_still m ≡ true → amount_in sc ax ms ≡ cond c (amount ax m) (amount_in sc ax ms)
    none true e still = rest still e ∙ sym (still_amount ax m still)
    none false e still = refl

    go : (b : Bool) → is_still m ≡ b → amount_in sc ax (cond b ms (m ∷ ms)) ≡ cond (m.scroller == sc) (amount ax m) (amount_in sc ax ms)
    go true still = none (m.scroller == sc) refl still
    go false still = refl

pub amount_of : (ax : Axis) (f : ℕ → Axis → ℤ) (sc : ℕ) → amount ax (move_of f sc) ≡ f sc ax
amount_of across f sc = refl
amount_of down f sc = refl

amount_at : (ax : Axis) (f : ℕ → Axis → ℤ) (n sc : ℕ) → (n == sc) ≡ true → amount ax (move_of f n) ≡ f sc ax
amount_at ax f n sc e = amount_of ax f n ∙ ap (λ (m : ℕ). f m ax) (eqb-true n sc e)

pub amount_listed : (sc : ℕ) (ax : Axis) (f : ℕ → Axis → ℤ) (scs : List ℕ) → amount_in sc ax (listed f scs) ≡ cond (has scs sc) (f sc ax) (pos 0)
amount_listed sc ax f [] = refl
amount_listed sc ax f (n ∷ scs) =
    amount_with sc ax (move_of f n) (listed f scs)
    (λ still e. amount_listed sc ax f scs ∙ cond_same (has scs sc) (f sc ax) (pos 0) (pos 0) (sym (amount_at ax f n sc e) ∙ still_amount ax (move_of f n) still) refl)
    ∙ go (n == sc) refl (amount_listed sc ax f scs)
  where
    go : (b : Bool) → (n == sc) ≡ b → amount_in sc ax (listed f scs) ≡ cond (has scs sc) (f sc ax) (pos 0) → cond b (amount ax (move_of f n)) (amount_in sc ax (listed f scs)) ≡ cond (b || has scs sc) (f sc ax) (pos 0)
    go true e rest = amount_at ax f n sc e
    go false e rest = rest

-- a scroller that a list does not name has nothing in it
pub amount_absent : (sc : ℕ) (ax : Axis) (ms : List Move) → has (named_in ms) sc ≡ false → amount_in sc ax ms ≡ pos 0
amount_absent sc ax [] h = refl
amount_absent sc ax (m ∷ ms) h = go (m.scroller == sc) h (amount_absent sc ax ms)
  where
    go : (b : Bool) → (b || has (named_in ms) sc) ≡ false → (has (named_in ms) sc ≡ false → amount_in sc ax ms ≡ pos 0) → cond b (amount ax m) (amount_in sc ax ms) ≡ pos 0
    go true e rest = absurd (cc)
    go false e rest = rest e

-- rising lists

-- numbers above a number, and rising numbers
abbrev pub NumbersAbove : ℕ → List ℕ → Type 0
NumbersAbove n [] = Unit {0}
NumbersAbove n (m ∷ ms) = (n < m) × NumbersAbove n ms

abbrev pub AreRisingNumbers : List ℕ → Type 0
AreRisingNumbers [] = Unit {0}
AreRisingNumbers (m ∷ ms) = NumbersAbove m ms × AreRisingNumbers ms

above_cond : (n : ℕ) (m : Move) (ms : List Move) (b : Bool) → n < m.scroller → AreMovesAbove n ms → AreMovesAbove n (cond b ms (m ∷ ms))
above_cond n m ms true l a = a
above_cond n m ms false l a = (l, a)

above_listed : (n : ℕ) (f : ℕ → Axis → ℤ) (scs : List ℕ) → NumbersAbove n scs → AreMovesAbove n (listed f scs)
above_listed n f [] a = tt
above_listed n f (sc ∷ scs) a = above_cond n (move_of f sc) (listed f scs) (is_still (move_of f sc)) a.0 (above_listed n f scs a.1)

rising_cond : (m : Move) (ms : List Move) (b : Bool) → is_still m ≡ b → AreMovesAbove m.scroller ms → AreRising ms → AreRising (cond b ms (m ∷ ms))
rising_cond m ms true e a r = r
rising_cond m ms false e a r = (e, a, r)

-- the moves of rising scrollers rise
pub rising_listed : (f : ℕ → Axis → ℤ) (scs : List ℕ) → AreRisingNumbers scs → AreRising (listed f scs)
rising_listed f [] r = tt
rising_listed f (sc ∷ scs) r = rising_cond (move_of f sc) (listed f scs) (is_still (move_of f sc)) refl (above_listed sc f scs r.0) (rising_listed f scs r.1)

pub numbers_lower : (m n : ℕ) (ns : List ℕ) → m < n → NumbersAbove n ns → NumbersAbove m ns
numbers_lower m n [] l a = tt
numbers_lower m n (k ∷ ks) l a = let b = a.0 in (omega arith, numbers_lower m n ks l a.1)

above_put : (m n : ℕ) (ns : List ℕ) → m < n → NumbersAbove m ns → NumbersAbove m (with_number n ns)
above_put m n [] l a = (l, tt)
above_put m n (k ∷ ks) l a = go (nat_lt k n) (k == n) (above_put m n ks l a.1)
  where
    go : (b c : Bool) → NumbersAbove m (with_number n ks) → NumbersAbove m (cond b (k ∷ with_number n ks) (cond c (k ∷ ks) (n ∷ k ∷ ks)))
    go true c rest = (a.0, rest)
    go false true rest = a
    go false false rest = (l, a)

pub below_of : (m n : ℕ) → nat_lt m n ≡ true → m < n
below_of m n e = grind (arith, nat_tests)

pub above_of : (m n : ℕ) → nat_lt m n ≡ false → (m == n) ≡ false → n < m
above_of m n e f = grind (arith, nat_tests)

-- numbers put in their places rise
pub rising_number : (n : ℕ) (ns : List ℕ) → AreRisingNumbers ns → AreRisingNumbers (with_number n ns)
rising_number n [] r = (tt, tt)
rising_number n (m ∷ ms) r = go (nat_lt m n) (m == n) refl refl (rising_number n ms r.1)
  where
    go : (b c : Bool) → nat_lt m n ≡ b → (m == n) ≡ c → AreRisingNumbers (with_number n ms) → AreRisingNumbers (cond b (m ∷ with_number n ms) (cond c (m ∷ ms) (n ∷ m ∷ ms)))
    go true c e f rest = (above_put m n ms (below_of m n e) r.0, rest)
    go false true e f rest = r
    go false false e f rest = let l = above_of m n e f in ((l, numbers_lower n m ms l r.0), r)

pub rising_numbers : (ns ms : List ℕ) → AreRisingNumbers ms → AreRisingNumbers (with_numbers ns ms)
rising_numbers [] ms r = r
rising_numbers (n ∷ ns) ms r = rising_number n (with_numbers ns ms) (rising_numbers ns ms r)

-- a list above a scroller has nothing for it
nothing_below : (sc : ℕ) (ax : Axis) (ms : List Move) → AreMovesAbove sc ms → amount_in sc ax ms ≡ pos 0
nothing_below sc ax [] a = refl
nothing_below sc ax (m ∷ ms) a = go (m.scroller == sc) refl (nothing_below sc ax ms a.1)
  where
    go : (b : Bool) → (m.scroller == sc) ≡ b → amount_in sc ax ms ≡ pos 0 → cond b (amount ax m) (amount_in sc ax ms) ≡ pos 0
    go true e rest = let l = a.0 in let same : m.scroller ≡ sc = eqb-true m.scroller sc e in absurd (omega arith)
    go false e rest = rest

-- two lists have the same for each scroller
abbrev pub HaveSame : List Move → List Move → Type 0
HaveSame ms ns = (sc : ℕ) (ax : Axis) → amount_in sc ax ms ≡ amount_in sc ax ns

self : (n : ℕ) → (n == n) ≡ true
self n = grind (arith, nat_tests)

head_amount : (ax : Axis) (m : Move) (ms : List Move) → amount_in m.scroller ax (m ∷ ms) ≡ amount ax m
head_amount ax m ms = ap (λ b. cond b (amount ax m) (amount_in m.scroller ax ms)) (self m.scroller)

zero_test : (z : ℤ) → z ≡ pos 0 → int_eq z (pos 0) ≡ true
zero_test z e = (Decides-int_eq z (pos 0)).1 e

still_of : (m : Move) → amount across m ≡ pos 0 → amount down m ≡ pos 0 → is_still m ≡ true
still_of m x y = ap (λ b. b && int_eq m.dy (pos 0)) (zero_test m.dx x) ∙ zero_test m.dy y

-- a move that is not (0, 0) is nothing that a list above its scroller has
not_above : (m : Move) (ms ns : List Move) → is_still m ≡ false → HaveSame (m ∷ ms) ns → AreMovesAbove m.scroller ns → ⊥
not_above m ms ns e same above =
    let x : amount across m ≡ pos 0 = sym (head_amount across m ms) ∙ (same m.scroller across ∙ nothing_below m.scroller across ns above) in
    let y : amount down m ≡ pos 0 = sym (head_amount down m ms) ∙ (same m.scroller down ∙ nothing_below m.scroller down ns above) in
    let still = still_of m x y in
    cc

same_sym : (ms ns : List Move) → HaveSame ms ns → HaveSame ns ms
same_sym ms ns h sc ax = sym (h sc ax)

above_first : (n : ℕ) (m : Move) (ms : List Move) → n < m.scroller → AreRising (m ∷ ms) → AreMovesAbove n (m ∷ ms)
above_first n m ms l r = (l, lower n m.scroller ms l r.1)
  where
    lower : (a b : ℕ) (ks : List Move) → a < b → AreMovesAbove b ks → AreMovesAbove a ks
    lower a b [] l h = tt
    lower a b (k ∷ ks) l h = let x = h.0 in (omega arith, lower a b ks l h.1)

-- a move of these numbers
abbrev move : ℕ → ℤ → ℤ → Move
move sc x y = record { scroller = sc; dx = x; dy = y }

move_same : (m n : Move) → m.scroller ≡ n.scroller → amount across m ≡ amount across n → amount down m ≡ amount down n → m ≡ n
move_same m n a x y = ap (λ (k : ℕ). move k m.dx m.dy) a ∙ (ap (λ (z : ℤ). move n.scroller z m.dy) x ∙ ap (λ (z : ℤ). move n.scroller n.dx z) y)

cases_order : (m n : ℕ) → (m ≡ n) ⊎ ((m < n) ⊎ (n < m))
cases_order m n = go (nat_lt m n) (m == n) refl refl
  where
    go : (b c : Bool) → nat_lt m n ≡ b → (m == n) ≡ c → (m ≡ n) ⊎ ((m < n) ⊎ (n < m))
    go b true e f = inl (eqb-true m n f)
    go true false e f = inr (inl (below_of m n e))
    go false false e f = inr (inr (above_of m n e f))

-- the rests of two such lists have the same
same_rest : (m : Move) (ms ns : List Move) → HaveSame (m ∷ ms) (m ∷ ns) → AreMovesAbove m.scroller ms → AreMovesAbove m.scroller ns → HaveSame ms ns
same_rest m ms ns same a b sc ax = go (m.scroller == sc) refl (same sc ax)
  where
    go : (c : Bool) → (m.scroller == sc) ≡ c → cond c (amount ax m) (amount_in sc ax ms) ≡ cond c (amount ax m) (amount_in sc ax ns) → amount_in sc ax ms ≡ amount_in sc ax ns
    go true e f =
        let i = eqb-true m.scroller sc e in
        nothing_below sc ax ms (subst (λ k. AreMovesAbove k ms) i a) ∙ sym (nothing_below sc ax ns (subst (λ k. AreMovesAbove k ns) i b))
    go false e f = f

-- only one rising list has this much for each scroller
pub one_rising_list : (ms ns : List Move) → AreRising ms → AreRising ns → HaveSame ms ns → ms ≡ ns
one_rising_list [] [] r q same = refl
one_rising_list [] (n ∷ ns) r q same = absurd (not_above n ns [] q.0 (same_sym [] (n ∷ ns) same) tt)
one_rising_list (m ∷ ms) [] r q same = absurd (not_above m ms [] r.0 same tt)
one_rising_list (m ∷ ms) (n ∷ ns) r q same = go (cases_order m.scroller n.scroller) (one_rising_list ms ns r.2 q.2)
  where
    go : (m.scroller ≡ n.scroller) ⊎ ((m.scroller < n.scroller) ⊎ (n.scroller < m.scroller)) → (HaveSame ms ns → ms ≡ ns) → m ∷ ms ≡ n ∷ ns
    go (inl e) rest =
        let along_both : (ax : Axis) → amount ax m ≡ amount ax n =
        λ ax. sym (head_amount ax m ms) ∙ (same m.scroller ax ∙ (ap (λ k. amount_in k ax (n ∷ ns)) e ∙ head_amount ax n ns)) in
        let one : m ≡ n = move_same m n e (along_both across) (along_both down) in
        let aligned : HaveSame (m ∷ ms) (m ∷ ns) = subst (λ k. HaveSame (m ∷ ms) (k ∷ ns)) (sym one) same in
        let tails : ms ≡ ns = rest (same_rest m ms ns aligned r.1 (subst (λ (k : Move). AreMovesAbove k.scroller ns) (sym one) q.1)) in
        cc
    go (inr (inl l)) rest = absurd (not_above m ms (n ∷ ns) r.0 same (above_first m.scroller n ns l q))
    go (inr (inr l)) rest = absurd (not_above n ns (m ∷ ms) q.0 (same_sym (m ∷ ms) (n ∷ ns) same) (above_first n.scroller m ms l r))
