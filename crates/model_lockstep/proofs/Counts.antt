-- Counting the elements of a list that pass a test.
use Rattle.std.proofs.Common.{ℕ, zero, suc, ◌≡◌, inl, inr, ◌<◌, ◌≤◌, ◌+◌, ◌*◌, Bool, true, false, cond, List, [], ◌∷◌, filter, length, refl, ap, sym, ◌∙◌, arith}
use Rattle.tile_priority.specs.Ordered.{In}
use Rattle.model_lockstep.specs.Measures.{weighed}

-- that many where one more comes first, if it passes
abbrev one_before : Bool → ℕ → ℕ
one_before b n = cond b (suc n) n

count_cons : {X : Type 0} (f : X → Bool) (x : X) (xs : List X) → length (filter f (x ∷ xs)) ≡ one_before (f x) (length (filter f xs))
count_cons {X = X} f x xs = by_test (f x)
  where
    by_test : (b : Bool) → length (cond b (x ∷ filter f xs) (filter f xs)) ≡ one_before b (length (filter f xs))
    by_test true = refl
    by_test false = refl

at_most_before : (a b : Bool) (m n : ℕ) → (a ≡ true → b ≡ true) → m ≤ n → one_before a m ≤ one_before b n
at_most_before true true m n f l = omega (arith, l)
at_most_before true false m n f l = let t : false ≡ true = f refl in absurd cc
at_most_before false true m n f l = omega (arith, l)
at_most_before false false m n f l = l

-- no more pass a test than another that passes where it does
pub no_more_pass : {X : Type 0} (f g : X → Bool) (xs : List X) → ((x : X) → In x xs → f x ≡ true → g x ≡ true) → length (filter f xs) ≤ length (filter g xs)
no_more_pass f g [] h = omega arith
no_more_pass f g (x ∷ xs) h =
    let l = at_most_before (f x) (g x) (length (filter f xs)) (length (filter g xs)) (h x (inl refl)) (no_more_pass f g xs (λ y i. h y (inr i))) in
    let a = count_cons f x xs in
    let b = count_cons g x xs in
    omega (arith, l, a, b)

fewer_before : (a b : Bool) (m n : ℕ) → (a ≡ true → b ≡ true) → m < n → one_before a m < one_before b n
fewer_before true true m n f l = omega (arith, l)
fewer_before true false m n f l = let t : false ≡ true = f refl in absurd cc
fewer_before false true m n f l = omega (arith, l)
fewer_before false false m n f l = l

fewer_at : (a b : Bool) (m n : ℕ) → a ≡ false → b ≡ true → m ≤ n → one_before a m < one_before b n
fewer_at true b m n e f l = absurd cc
fewer_at false true m n e f l = omega (arith, l)
fewer_at false false m n e f l = absurd cc

-- and fewer where the other passes one more
pub fewer_pass : {X : Type 0} (f g : X → Bool) (x : X) (xs : List X) → ((y : X) → In y xs → f y ≡ true → g y ≡ true) → In x xs → f x ≡ false → g x ≡ true → length (filter f xs) < length (filter g xs)
fewer_pass f g x [] h i e t = absurd i
fewer_pass f g x (y ∷ ys) h (inl same) e t =
    let no : f y ≡ false = ap f (sym same) ∙ e in
    let yes : g y ≡ true = ap g (sym same) ∙ t in
    let l = fewer_at (f y) (g y) (length (filter f ys)) (length (filter g ys)) no yes (no_more_pass f g ys (λ z i. h z (inr i))) in
    let a = count_cons f y ys in
    let b = count_cons g y ys in
    omega (arith, l, a, b)
fewer_pass f g x (y ∷ ys) h (inr i) e t =
    let l = fewer_before (f y) (g y) (length (filter f ys)) (length (filter g ys)) (h y (inl refl)) (fewer_pass f g x ys (λ z j. h z (inr j)) i e t) in
    let a = count_cons f y ys in
    let b = count_cons g y ys in
    omega (arith, l, a, b)

-- not more than there are
pub filter_short : {X : Type 0} (f : X → Bool) (xs : List X) → length (filter f xs) ≤ length xs
filter_short f [] = omega arith
filter_short f (x ∷ xs) = by_test (f x) (filter_short f xs) (count_cons f x xs)
  where
    by_test : (b : Bool) → length (filter f xs) ≤ length xs → length (filter f (x ∷ xs)) ≡ one_before b (length (filter f xs)) → length (filter f (x ∷ xs)) ≤ suc (length xs)
    by_test true l e = omega (arith, l, e)
    by_test false l e = omega (arith, l, e)

-- ---- digits

more_times : (m n k : ℕ) → m ≤ n → m * k ≤ n * k
more_times zero n k l = omega arith
more_times (suc m) zero k l = absurd (omega (arith, l))
more_times (suc m) (suc n) k l = let r = more_times m n k (omega (arith, l)) in omega (arith, r)

-- a higher digit counts for more than all lower ones
digit_falls : (m n c d b : ℕ) → m < n → c ≤ b → m * suc b + c < n * suc b + d
digit_falls m n c d b l le = let r = more_times (suc m) n (suc b) l in omega (arith, r, le)

digit_stays : (m n c d b : ℕ) → m ≤ n → c < d → m * suc b + c < n * suc b + d
digit_stays m n c d b l le = let r = more_times m n (suc b) l in omega (arith, r, le)

pub now_falls : (b now soon later n s l : ℕ) → now < n → soon ≤ b → later ≤ b → weighed (suc b) now soon later < weighed (suc b) n s l
now_falls b now soon later n s l f g h = digit_falls (now * suc b + soon) (n * suc b + s) later l b (digit_falls now n soon s b f g) h

pub soon_falls : (b now soon later n s l : ℕ) → now ≤ n → soon < s → later ≤ b → weighed (suc b) now soon later < weighed (suc b) n s l
soon_falls b now soon later n s l f g h = digit_falls (now * suc b + soon) (n * suc b + s) later l b (digit_stays now n soon s b f g) h

pub last_falls : (b now soon later n s l : ℕ) → now ≤ n → soon ≤ s → later < l → weighed (suc b) now soon later < weighed (suc b) n s l
last_falls b now soon later n s l f g h =
    let r = more_times now n (suc b) f in
    digit_stays (now * suc b + soon) (n * suc b + s) later l b (omega (arith, r, g)) h
