-- Lists of changes: their order, and two made into one.
use Rattle.std.proofs.Common.{◌≡◌, ℕ, ◌<◌, nat_eq, ℤ, Bool, true, false, cond, ◌&&◌, ◌||◌, not, List, [], ◌∷◌, ◌++◌, length, take, drop, get_or, set, zero, suc, ◌+◌, refl, subst, sym, ◌∙◌, ap, arith, append-nil, Some, Result, Ok, Err, OnOk, OnErr, IfSome, slice_get}
use Rattle.std.specs.declared.alloc.AllocError.{AllocError}
use Rattle.std.proofs.Math.Seq.{drop-cons}
use Rattle.std.proofs.lemmas.List.{take-append-drop, take_more, set_split}
use Rattle.region.specs.declared.change.LayerChange.{LayerChange}
use Rattle.std.proofs.lemmas.Bool.Decides.{nat_tests}
use Rattle.region.specs.Laws.{EachLayerOnce}
use Rattle.region.specs.Points.{covered}
use Rattle.region.specs.Lists.{AreChangesAbove, AllBelow, IsRising, IsAboveLast, StartsAbove, change_of, is_listed, is_listed_whole, has_changed, IsJoined, AreJoined, without_layer}
use Rattle.region.proofs.Covering.{or_assoc}

-- the order

above_trans : (m n : ℕ) (cs : List LayerChange) → m < n → AreChangesAbove n cs → AreChangesAbove m cs
above_trans m n [] h a = tt
above_trans m n (c ∷ cs) h a = let k = a.0 in (omega arith, above_trans m n cs h a.1)

-- one more element in the middle of a list that is above a number
above_insert : (n : ℕ) (xs ys : List LayerChange) (d : LayerChange) → n < d.layer → AreChangesAbove n (xs ++ ys) → AreChangesAbove n (xs ++ d ∷ ys)
above_insert n [] ys d h a = (h, a)
above_insert n (x ∷ xs) ys d h a = (a.0, above_insert n xs ys d h a.1)

pub rising_insert : (xs ys : List LayerChange) (d : LayerChange) → IsRising (xs ++ ys) → AllBelow d.layer xs → AreChangesAbove d.layer ys → IsRising (xs ++ d ∷ ys)
rising_insert [] ys d r b a = (a, r)
rising_insert (x ∷ xs) ys d r b a = (above_insert x.layer xs ys d b.0 r.0, rising_insert xs ys d r.1 b.1 a)

above_replace : (n : ℕ) (xs ys : List LayerChange) (c d : LayerChange) → d.layer ≡ c.layer → AreChangesAbove n (xs ++ c ∷ ys) → AreChangesAbove n (xs ++ d ∷ ys)
above_replace n [] ys c d e a = (rw e a.0, a.1)
above_replace n (x ∷ xs) ys c d e a = (a.0, above_replace n xs ys c d e a.1)

pub rising_replace : (xs ys : List LayerChange) (c d : LayerChange) → d.layer ≡ c.layer → IsRising (xs ++ c ∷ ys) → IsRising (xs ++ d ∷ ys)
rising_replace [] ys c d e r = (rw e r.0, r.1)
rising_replace (x ∷ xs) ys c d e r = (above_replace x.layer xs ys c d e r.0, rising_replace xs ys c d e r.1)

pub rising_rest : (xs ys : List LayerChange) → IsRising (xs ++ ys) → IsRising ys
rising_rest [] ys r = r
rising_rest (x ∷ xs) ys r = rising_rest xs ys r.1

-- above the last of a rising list is above all
below_last : (c : LayerChange) (cs : List LayerChange) (n : ℕ) → IsRising (c ∷ cs) → IsAboveLast (c ∷ cs) n → AllBelow n (c ∷ cs)
below_last c [] n r h = (h, tt)
below_last c (d ∷ ds) n r h = let b = below_last d ds n r.1 h in let l = b.0 in let k = r.0.0 in (omega arith, b)

pub all_below : (cs : List LayerChange) (n : ℕ) → IsRising cs → IsAboveLast cs n → AllBelow n cs
all_below [] n r h = tt
all_below (c ∷ cs) n r h = below_last c cs n r h

pub rising_push : (cs : List LayerChange) (d : LayerChange) → IsRising cs → AllBelow d.layer cs → IsRising (cs ++ d ∷ [])
rising_push cs d r b = rising_insert cs [] d (rw (append-nil cs) r) b tt

pub below_push : (n : ℕ) (cs : List LayerChange) (d : LayerChange) → AllBelow n cs → d.layer < n → AllBelow n (cs ++ d ∷ [])
below_push n [] d b h = (h, tt)
below_push n (c ∷ cs) d b h = (b.0, below_push n cs d b.1 h)

above_filter_by : (n : ℕ) (c : LayerChange) (cs : List LayerChange) (t : Bool) → n < c.layer → AreChangesAbove n cs → AreChangesAbove n (cond t (c ∷ cs) cs)
above_filter_by n c cs true h a = (h, a)
above_filter_by n c cs false h a = a

above_filter : (n m : ℕ) (cs : List LayerChange) → AreChangesAbove n cs → AreChangesAbove n (without_layer m cs)
above_filter n m [] a = tt
above_filter n m (c ∷ cs) a = above_filter_by n c (without_layer m cs) (not (nat_eq c.layer m)) a.0 (above_filter n m cs a.1)

rising_filter_by : (c : LayerChange) (cs : List LayerChange) (t : Bool) → AreChangesAbove c.layer cs → IsRising cs → IsRising (cond t (c ∷ cs) cs)
rising_filter_by c cs true a r = (a, r)
rising_filter_by c cs false a r = r

pub rising_without : (m : ℕ) (cs : List LayerChange) → IsRising cs → IsRising (without_layer m cs)
rising_without m [] r = tt
rising_without m (c ∷ cs) r = rising_filter_by c (without_layer m cs) (not (nat_eq c.layer m)) (above_filter c.layer m cs r.0) (rising_without m cs r.1)

-- two lists made into one

-- a part that both have is moved out of the one
moved_out : (e z d : Bool) → (e || (z || d)) ≡ ((e || z) || d)
moved_out true z d = refl
moved_out false z d = refl

-- the new part stands first, and then last
to_back : (z d : Bool) → (d || z) ≡ (z || (d || false))
to_back true true = refl
to_back true false = refl
to_back false true = refl
to_back false false = refl

-- joined with one more
listed_push : (cs : List LayerChange) (d : LayerChange) (n : ℕ) → is_listed (cs ++ d ∷ []) n ≡ (is_listed cs n || is_listed (d ∷ []) n)
listed_push [] d n = refl
listed_push (c ∷ cs) d n = ap (λ b. nat_eq c.layer n || b) (listed_push cs d n) ∙ moved_out (nat_eq c.layer n) (is_listed cs n) (is_listed (d ∷ []) n)

whole_push : (cs : List LayerChange) (d : LayerChange) (n : ℕ) → is_listed_whole (cs ++ d ∷ []) n ≡ (is_listed_whole cs n || is_listed_whole (d ∷ []) n)
whole_push [] d n = refl
whole_push (c ∷ cs) d n = ap (λ b. (nat_eq c.layer n && c.whole) || b) (whole_push cs d n) ∙ moved_out (nat_eq c.layer n && c.whole) (is_listed_whole cs n) (is_listed_whole (d ∷ []) n)

changed_push : (cs : List LayerChange) (d : LayerChange) (n : ℕ) (x y : ℤ) → has_changed (cs ++ d ∷ []) n x y ≡ (has_changed cs n x y || has_changed (d ∷ []) n x y)
changed_push [] d n x y = refl
changed_push (c ∷ cs) d n x y =
    ap (λ b. (nat_eq c.layer n && covered c.region x y) || b) (changed_push cs d n x y)
    ∙ moved_out (nat_eq c.layer n && covered c.region x y) (has_changed cs n x y) (has_changed (d ∷ []) n x y)

pub joined_more : (xs ds bs cs : List LayerChange) (d : LayerChange) → AreJoined xs ds bs → AreJoined bs (d ∷ []) cs → AreJoined xs (ds ++ d ∷ []) cs
joined_more xs ds bs cs d j k = record {
  listed = λ n. k.listed n ∙ (ap (λ b. b || is_listed (d ∷ []) n) (j.listed n) ∙ (or_assoc (is_listed xs n) (is_listed ds n) (is_listed (d ∷ []) n) ∙ ap (λ b. is_listed xs n || b) (sym (listed_push ds d n))));
  whole = λ n. k.whole n ∙ (ap (λ b. b || is_listed_whole (d ∷ []) n) (j.whole n) ∙ (or_assoc (is_listed_whole xs n) (is_listed_whole ds n) (is_listed_whole (d ∷ []) n) ∙ ap (λ b. is_listed_whole xs n || b) (sym (whole_push ds d n))));
  points = λ n x y. k.points n x y ∙ (ap (λ b. b || has_changed (d ∷ []) n x y) (j.points n x y) ∙ (or_assoc (has_changed xs n x y) (has_changed ds n x y) (has_changed (d ∷ []) n x y) ∙ ap (λ b. has_changed xs n x y || b) (sym (changed_push ds d n x y))));
}

-- an element put into the list
listed_insert : (xs ys : List LayerChange) (d : LayerChange) (n : ℕ) → is_listed (xs ++ d ∷ ys) n ≡ (is_listed (xs ++ ys) n || is_listed (d ∷ []) n)
listed_insert [] ys d n = to_back (is_listed ys n) (nat_eq d.layer n)
listed_insert (x ∷ xs) ys d n = ap (λ b. nat_eq x.layer n || b) (listed_insert xs ys d n) ∙ moved_out (nat_eq x.layer n) (is_listed (xs ++ ys) n) (is_listed (d ∷ []) n)

whole_insert : (xs ys : List LayerChange) (d : LayerChange) (n : ℕ) → is_listed_whole (xs ++ d ∷ ys) n ≡ (is_listed_whole (xs ++ ys) n || is_listed_whole (d ∷ []) n)
whole_insert [] ys d n = to_back (is_listed_whole ys n) (nat_eq d.layer n && d.whole)
whole_insert (x ∷ xs) ys d n = ap (λ b. (nat_eq x.layer n && x.whole) || b) (whole_insert xs ys d n) ∙ moved_out (nat_eq x.layer n && x.whole) (is_listed_whole (xs ++ ys) n) (is_listed_whole (d ∷ []) n)

changed_insert : (xs ys : List LayerChange) (d : LayerChange) (n : ℕ) (x y : ℤ) → has_changed (xs ++ d ∷ ys) n x y ≡ (has_changed (xs ++ ys) n x y || has_changed (d ∷ []) n x y)
changed_insert [] ys d n x y = to_back (has_changed ys n x y) (nat_eq d.layer n && covered d.region x y)
changed_insert (z ∷ xs) ys d n x y =
    ap (λ b. (nat_eq z.layer n && covered z.region x y) || b) (changed_insert xs ys d n x y)
    ∙ moved_out (nat_eq z.layer n && covered z.region x y) (has_changed (xs ++ ys) n x y) (has_changed (d ∷ []) n x y)

pub joined_insert : (xs ys : List LayerChange) (d : LayerChange) → AreJoined (xs ++ ys) (d ∷ []) (xs ++ d ∷ ys)
joined_insert xs ys d = record { listed = listed_insert xs ys d; whole = whole_insert xs ys d; points = changed_insert xs ys d }

-- an element of the list joined with a later one of its layer
same_listed : (e z : Bool) → (e || z) ≡ ((e || z) || (e || false))
same_listed true z = refl
same_listed false true = refl
same_listed false false = refl

same_part : (e a b z : Bool) → ((e && (a || b)) || z) ≡ (((e && a) || z) || ((e && b) || false))
same_part true true b z = refl
same_part true false true true = refl
same_part true false true false = refl
same_part true false false true = refl
same_part true false false false = refl
same_part false a b true = refl
same_part false a b false = refl

listed_replace : (xs ys : List LayerChange) (c d f : LayerChange) → IsJoined c d f → c.layer ≡ d.layer → (n : ℕ)
    → is_listed (xs ++ f ∷ ys) n ≡ (is_listed (xs ++ c ∷ ys) n || is_listed (d ∷ []) n)
listed_replace [] ys c d f j e n = rw (j.layer, ← e) (same_listed (nat_eq c.layer n) (is_listed ys n))
listed_replace (x ∷ xs) ys c d f j e n = ap (λ b. nat_eq x.layer n || b) (listed_replace xs ys c d f j e n) ∙ moved_out (nat_eq x.layer n) (is_listed (xs ++ c ∷ ys) n) (is_listed (d ∷ []) n)

whole_replace : (xs ys : List LayerChange) (c d f : LayerChange) → IsJoined c d f → c.layer ≡ d.layer → (n : ℕ)
    → is_listed_whole (xs ++ f ∷ ys) n ≡ (is_listed_whole (xs ++ c ∷ ys) n || is_listed_whole (d ∷ []) n)
whole_replace [] ys c d f j e n = rw (j.layer, j.whole, ← e) (same_part (nat_eq c.layer n) c.whole d.whole (is_listed_whole ys n))
whole_replace (x ∷ xs) ys c d f j e n = ap (λ b. (nat_eq x.layer n && x.whole) || b) (whole_replace xs ys c d f j e n) ∙ moved_out (nat_eq x.layer n && x.whole) (is_listed_whole (xs ++ c ∷ ys) n) (is_listed_whole (d ∷ []) n)

changed_replace : (xs ys : List LayerChange) (c d f : LayerChange) → IsJoined c d f → c.layer ≡ d.layer → (n : ℕ) (x y : ℤ)
    → has_changed (xs ++ f ∷ ys) n x y ≡ (has_changed (xs ++ c ∷ ys) n x y || has_changed (d ∷ []) n x y)
changed_replace [] ys c d f j e n x y = rw (j.layer, j.points x y, ← e) (same_part (nat_eq c.layer n) (covered c.region x y) (covered d.region x y) (has_changed ys n x y))
changed_replace (z ∷ xs) ys c d f j e n x y =
    ap (λ b. (nat_eq z.layer n && covered z.region x y) || b) (changed_replace xs ys c d f j e n x y)
    ∙ moved_out (nat_eq z.layer n && covered z.region x y) (has_changed (xs ++ c ∷ ys) n x y) (has_changed (d ∷ []) n x y)

pub joined_replace : (xs ys : List LayerChange) (c d f : LayerChange) → IsJoined c d f → c.layer ≡ d.layer → AreJoined (xs ++ c ∷ ys) (d ∷ []) (xs ++ f ∷ ys)
joined_replace xs ys c d f j e = record { listed = listed_replace xs ys c d f j e; whole = whole_replace xs ys c d f j e; points = changed_replace xs ys c d f j e }

-- at a place of the list

split_at : (cs : List LayerChange) (i : ℕ) (z : LayerChange) → i < length cs → take i cs ++ get_or cs i z ∷ drop (suc i) cs ≡ cs
split_at cs i z lt = ap (λ r. take i cs ++ r) (sym (drop-cons cs i z lt)) ∙ take-append-drop i cs

pub joined_set : (cs : List LayerChange) (i : ℕ) (z d f : LayerChange) → i < length cs → IsJoined (get_or cs i z) d f
    → (get_or cs i z).layer ≡ d.layer → AreJoined cs (d ∷ []) (set cs i f)
joined_set cs i z d f lt j e =
    let w : AreJoined (take i cs ++ get_or cs i z ∷ drop (suc i) cs) (d ∷ []) (take i cs ++ f ∷ drop (suc i) cs) = joined_replace (take i cs) (drop (suc i) cs) (get_or cs i z) d f j e in
    rw (set_split cs i f lt) (subst (λ vs. AreJoined vs (d ∷ []) (take i cs ++ f ∷ drop (suc i) cs)) (split_at cs i z lt) w)

pub rising_set : (cs : List LayerChange) (i : ℕ) (z f : LayerChange) → i < length cs → f.layer ≡ (get_or cs i z).layer → IsRising cs → IsRising (set cs i f)
rising_set cs i z f lt e r =
    let w : IsRising (take i cs ++ get_or cs i z ∷ drop (suc i) cs) = subst IsRising (sym (split_at cs i z lt)) r in
    rw (set_split cs i f lt) (rising_replace (take i cs) (drop (suc i) cs) (get_or cs i z) f e w)

pub joined_at : (cs : List LayerChange) (i : ℕ) (d : LayerChange) → AreJoined cs (d ∷ []) (take i cs ++ d ∷ drop i cs)
joined_at cs i d = subst (λ vs. AreJoined vs (d ∷ []) (take i cs ++ d ∷ drop i cs)) (take-append-drop i cs) (joined_insert (take i cs) (drop i cs) d)

above_start : (n : ℕ) (cs : List LayerChange) → StartsAbove n cs → IsRising cs → AreChangesAbove n cs
above_start n [] h r = tt
above_start n (c ∷ cs) h r = (h, above_trans n c.layer cs h r.0)

pub rising_at : (cs : List LayerChange) (i : ℕ) (d : LayerChange) → IsRising cs → AllBelow d.layer (take i cs) → StartsAbove d.layer (drop i cs)
    → IsRising (take i cs ++ d ∷ drop i cs)
rising_at cs i d r b a =
    let w : IsRising (take i cs ++ drop i cs) = subst IsRising (sym (take-append-drop i cs)) r in
    rising_insert (take i cs) (drop i cs) d w b (above_start d.layer (drop i cs) a (rising_rest (take i cs) (drop i cs) w))

pub below_more : (cs : List LayerChange) (i n : ℕ) (d : LayerChange) → AllBelow n (take i cs) → i < length cs → d ≡ get_or cs i d → d.layer < n → AllBelow n (take (i + 1) cs)
below_more cs i n d b lt e h =
    subst (AllBelow n) (sym (take_more cs i d lt ∙ ap (λ z. take i cs ++ z ∷ []) (sym e))) (below_push n (take i cs) d b h)

pub joined_next : (xs ds bs cs : List LayerChange) (i : ℕ) (d : LayerChange) → AreJoined xs (take i ds) bs → i < length ds → d ≡ get_or ds i d
    → AreJoined bs (d ∷ []) cs → AreJoined xs (take (i + 1) ds) cs
joined_next xs ds bs cs i d j lt e k =
    subst (λ vs. AreJoined xs vs cs) (sym (take_more ds i d lt ∙ ap (λ z. take i ds ++ z ∷ []) (sym e))) (joined_more xs (take i ds) bs cs d j k)

-- an element that was joined, or that was left alone where memory ran out
at_some : (cs : List LayerChange) (i n : ℕ) (z : LayerChange) → i < length cs → IfSome (slice_get cs i) (λ c. c.layer ≡ n) → (get_or cs i z).layer ≡ n
at_some [] i n z lt h = absurd (omega arith)
at_some (c ∷ cs) zero n z lt h = h
at_some (c ∷ cs) (suc i) n z lt h = at_some cs i n z (omega arith) h

pub joined_place : (r : Result (Unit {0}) AllocError) (cs : List LayerChange) (i : ℕ) (c d f : LayerChange) → i < length cs → c ≡ get_or cs i c
    → IfSome (slice_get cs i) (λ z. z.layer ≡ d.layer) → OnOk r (IsJoined c d f) → OnOk r (AreJoined cs (d ∷ []) (set cs i f))
joined_place (Ok u) cs i c d f lt e h j = joined_set cs i c d f lt (subst (λ z. IsJoined z d f) e j) (at_some cs i d.layer c lt h)
joined_place (Err a) cs i c d f lt e h j = tt

same_layer : (r : Result (Unit {0}) AllocError) (c d f : LayerChange) → OnOk r (IsJoined c d f) → OnErr r (f ≡ c) → f.layer ≡ c.layer
same_layer (Ok u) c d f j e = j.layer
same_layer (Err a) c d f j e = ap (λ (z : LayerChange). z.layer) e

pub rising_place : (r : Result (Unit {0}) AllocError) (cs : List LayerChange) (i : ℕ) (c d f : LayerChange) → i < length cs → c ≡ get_or cs i c
    → OnOk r (IsJoined c d f) → OnErr r (f ≡ c) → IsRising cs → IsRising (set cs i f)
rising_place r cs i c d f lt e j k rise = rising_set cs i c f lt (same_layer r c d f j k ∙ ap (λ (z : LayerChange). z.layer) e) rise

-- each layer once

above_at : (n : ℕ) (cs : List LayerChange) (i : ℕ) (c : LayerChange) → AreChangesAbove n cs → slice_get cs i ≡ Some c → n < c.layer
above_at n [] i c a h = cc
above_at n (d ∷ ds) zero c a h = let e : d ≡ c = cc in subst (λ (z : LayerChange). n < z.layer) e a.0
above_at n (d ∷ ds) (suc i) c a h = above_at n ds i c a.1 h

pub each_once : EachLayerOnce
each_once [] i c r h = cc
each_once (d ∷ ds) zero c r h =
    let e : d ≡ c = cc in
    let t : nat_eq d.layer c.layer ≡ true = subst (λ (z : LayerChange). nat_eq d.layer z.layer ≡ true) e (nat_eq_self d.layer) in
    ap (λ b. cond b (Some d) (change_of ds c.layer)) t ∙ h
  where
    nat_eq_self : (n : ℕ) → nat_eq n n ≡ true
    nat_eq_self n = grind (arith, nat_tests)
each_once (d ∷ ds) (suc i) c r h =
    let lt : d.layer < c.layer = above_at d.layer ds i c r.0 h in
    let t : nat_eq d.layer c.layer ≡ false = grind (arith, nat_tests) in
    ap (λ b. cond b (Some d) (change_of ds c.layer)) t ∙ each_once ds i c r.1 h
