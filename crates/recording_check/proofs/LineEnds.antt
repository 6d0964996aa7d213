-- Where the first line of bytes ends.
use Rattle.std.proofs.Common.{◌≡◌, ℕ, suc, ◌+◌, true, false, List, [], ◌∷◌, ◌++◌, take, length, refl, ap, sym, ◌∙◌, arith, None, Some, subst, Bor}
use Rattle.std.specs.Prelude.{Bool, cond, Option}
use Rattle.std.specs.List.{position_from}
use Rattle.std.proofs.Math.Seq.{take-append_seam}
use Rattle.std.proofs.lemmas.Bool.Decides.{nat_tests}
use Rattle.recording_check.specs.Openings.{IsOneLine, FirstLine, is_newline}

-- the newline at n, counted from k, has a prefix before it

found_in : (b : Bool) (k c : ℕ) (xs : List ℕ) (n : ℕ) → is_newline c ≡ b → cond b (Some k) (position_from is_newline (k + 1) xs) ≡ Some n
    → (position_from is_newline (k + 1) xs ≡ Some n → (front : List ℕ) × (rest : List ℕ) × (xs ≡ front ++ (10 ∷ rest)) × (n ≡ (k + 1) + length front))
    → (front : List ℕ) × (rest : List ℕ) × (c ∷ xs ≡ front ++ (10 ∷ rest)) × (n ≡ k + length front)
found_in true k c xs n is there rest =
    let at : k ≡ n = cc (there) in
    let newline : c ≡ 10 = grind (arith, nat_tests) in
    ([], xs, ap (λ (d : ℕ). d ∷ xs) newline, omega (arith, at))
found_in false k c xs n is there rest =
    let more = rest there in
    (c ∷ more.0, more.1, ap (λ (ys : List ℕ). c ∷ ys) more.2, omega (arith, more.3))

found : (k : ℕ) (xs : List ℕ) (n : ℕ) → position_from is_newline k xs ≡ Some n → (front : List ℕ) × (rest : List ℕ) × (xs ≡ front ++ (10 ∷ rest)) × (n ≡ k + length front)
found k [] n is = absurd (cc (is))
found k (c ∷ xs) n is = found_in (is_newline c) k c xs n refl is (found (k + 1) xs n)

-- a line of its own ends at the first newline
only : (k : ℕ) (line rest : List ℕ) → IsOneLine line → position_from is_newline k (line ++ (10 ∷ rest)) ≡ Some (k + length line)
only k [] rest one = let same : k ≡ k + 0 = omega arith in ap (λ (n : ℕ). Some n) same
only k (c ∷ line) rest one =
    let same : (k + 1) + length line ≡ k + suc (length line) = omega arith in
    rw one.0 (only (k + 1) line rest one.1 ∙ ap (λ (n : ℕ). Some n) same)

some_newline_in : (b : Bool) (k : ℕ) (o : Option ℕ) → cond b (Some k) o ≡ None → o ≡ None
some_newline_in true k o is = absurd (cc (is))
some_newline_in false k o is = is

some_newline : (k : ℕ) (line rest : List ℕ) → position_from is_newline k (line ++ (10 ∷ rest)) ≡ None → ⊥
some_newline k [] rest is = absurd (cc (is))
some_newline k (c ∷ line) rest is = some_newline (k + 1) line rest (some_newline_in (is_newline c) k _ is)

-- the first line is that up to the newline that was found
pub first_line : (bytes : List ℕ) (n : ℕ) (l : Bor (List ℕ)) → position_from is_newline 0 bytes ≡ Some n → l.now ≡ take n bytes → FirstLine bytes (Some l)
first_line bytes n l is taken =
    let at = found 0 bytes n is in
    let long : n ≡ length at.0 = omega (arith, at.3) in
    let front : l.now ≡ at.0 = taken ∙ ap (λ (k : ℕ). take k bytes) long ∙ ap (take (length at.0)) at.2 ∙ take-append_seam at.0 (10 ∷ at.1) in (
      (at.1, subst (λ (f : List ℕ). bytes ≡ f ++ (10 ∷ at.1)) (sym front) at.2),
      λ line rest one same.
          let there : position_from is_newline 0 bytes ≡ Some (0 + length line) = ap (position_from is_newline 0) same ∙ only 0 line rest one in
          let size : n ≡ 0 + length line = cc (is, there) in
          let short : n ≡ length line = omega (arith, size) in
          sym (taken ∙ ap (λ (k : ℕ). take k bytes) short ∙ ap (take (length line)) same ∙ take-append_seam line (10 ∷ rest)),
    )

-- where none was found no line ends
pub no_line : (bytes : List ℕ) → position_from is_newline 0 bytes ≡ None → FirstLine bytes None
no_line bytes is = λ line rest same. some_newline 0 line rest (ap (position_from is_newline 0) (sym same) ∙ is)
