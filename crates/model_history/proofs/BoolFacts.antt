-- What tests say, and what joined tests say.
use Rattle.std.proofs.Common.{◌≡◌, ◌⊎◌, inl, inr, ℕ, ◌<◌, ◌==◌, nat_lt, Bool, true, false, not, ◌&&◌, ◌||◌, Option, Some, None, is_some, refl, arith}
use Rattle.std.proofs.lemmas.Bool.Decides.{nat_tests}

pub not_both : (a : Bool) → a ≡ true → a ≡ false → ⊥
not_both a t f = cc

pub is_false : (a : Bool) → (a ≡ true → ⊥) → a ≡ false
is_false true h = absurd (h refl)
is_false false h = refl

pub by_test : {P : Type 0} (a : Bool) → (a ≡ true → P) → (a ≡ false → P) → P
by_test true t f = t refl
by_test false t f = f refl

pub and_left : (a b : Bool) → a && b ≡ true → a ≡ true
and_left true b h = refl
and_left false b h = h

pub and_right : (a b : Bool) → a && b ≡ true → b ≡ true
and_right true b h = h
and_right false b h = cc

pub and_both : (a b : Bool) → a ≡ true → b ≡ true → a && b ≡ true
and_both true b s t = t
and_both false b s t = s

pub and_first : (a b c : Bool) → (a && b) && c ≡ true → a ≡ true
and_first a b c h = and_left a b (and_left (a && b) c h)

pub and_second : (a b c : Bool) → (a && b) && c ≡ true → b ≡ true
and_second a b c h = and_right a b (and_left (a && b) c h)

pub and_third : (a b c : Bool) → (a && b) && c ≡ true → c ≡ true
and_third a b c h = and_right (a && b) c h

pub or_either : (a b : Bool) → a || b ≡ true → (a ≡ true) ⊎ (b ≡ true)
or_either true b h = inl refl
or_either false b h = inr h

pub or_left : (a b : Bool) → a ≡ true → a || b ≡ true
or_left true b h = refl
or_left false b h = cc

pub or_right : (a b : Bool) → b ≡ true → a || b ≡ true
or_right true b h = refl
or_right false b h = h

pub or_neither : (a b : Bool) → a ≡ false → b ≡ false → a || b ≡ false
or_neither true b s t = s
or_neither false b s t = t

pub or_left_false : (a b : Bool) → a || b ≡ false → a ≡ false
or_left_false true b h = h
or_left_false false b h = refl

pub or_right_false : (a b : Bool) → a || b ≡ false → b ≡ false
or_right_false true b h = cc
or_right_false false b h = h

pub not_true : (a : Bool) → not a ≡ true → a ≡ false
not_true true h = cc
not_true false h = refl

pub not_false : (a : Bool) → not a ≡ false → a ≡ true
not_false true h = refl
not_false false h = cc

pub same_number : (k j : ℕ) → (k == j) ≡ true → k ≡ j
same_number k j h = grind (arith, nat_tests)

pub other_number : (k j : ℕ) → (k == j) ≡ false → k ≡ j → ⊥
other_number k j h e = grind (arith, nat_tests)

pub is_same : (k j : ℕ) → k ≡ j → (k == j) ≡ true
is_same k j e = grind (arith, nat_tests)

pub is_other : (k j : ℕ) → (k ≡ j → ⊥) → (k == j) ≡ false
is_other k j f = is_false (k == j) (λ h. f (same_number k j h))

pub is_below : (k j : ℕ) → nat_lt k j ≡ true → k < j
is_below k j h = grind (arith, nat_tests)

pub below : (k j : ℕ) → k < j → nat_lt k j ≡ true
below k j h = grind (arith, nat_tests)

pub none_or_some : {A : Type 0} (o : Option A) → is_some o ≡ true → (x : A) × (o ≡ Some x)
none_or_some None h = cc
none_or_some (Some x) h = (x, refl)

pub none_where : {A : Type 0} (o : Option A) → is_some o ≡ false → o ≡ None
none_where None h = refl
none_where (Some x) h = cc
