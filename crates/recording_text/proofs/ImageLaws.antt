-- Images read back, and what reads as an image is one.
use Rattle.std.proofs.Common.{◌≡◌, ℕ, ◌+◌, ◌-◌, ◌≤◌, true, false, List, ◌++◌, length, take, drop, refl, ap, sym, ◌∙◌, append_assoc, arith, None, Some, length-append, Bor}
use Rattle.std.specs.Prelude.{Bool, Option, option_copied, MatchOption, nat_eq, nat_le, codes, decimal, if◌then◌else◌}
use Rattle.std.specs.List.{starts_with}
use Rattle.std.proofs.Math.Seq.{drop-append_seam}
use Rattle.std.proofs.lemmas.List.{take_at, take-append-drop, length-take-le}
use Rattle.std.proofs.lemmas.Bool.Decides.{nat_tests}
use Rattle.model_history.specs.Recordings.{image_head}
use Rattle.recording_text.specs.Numbers.{◌>>=◌}
use Rattle.recording_text.specs.Images.{picture_size, BeginsWithImage, after_front, behind_head, first_bytes, picture_at, image_length}
use Rattle.recording_text.proofs.Binds.{bind_some}
use Rattle.recording_text.proofs.ReadLines.{starts_again, starts_exact}

after_again : (front rest : List ℕ) → after_front front (front ++ rest) ≡ Some rest
unfolding after_front
after_again front rest = rw (starts_again front rest) (ap (λ (r : List ℕ). Some r) (drop-append_seam front rest))

begun : (b : Bool) (front xs r : List ℕ) → starts_with nat_eq xs front ≡ b → (if b then Some (drop (length front) xs) else None) ≡ Some r → xs ≡ front ++ r
begun true front xs r is same =
    let one : drop (length front) xs ≡ r = cc (same) in
    starts_exact xs front is ∙ ap (λ (z : List ℕ). front ++ z) one
begun false front xs r is same = absurd (cc (same))

after_exact : (front xs r : List ℕ) → after_front front xs ≡ Some r → xs ≡ front ++ r
unfolding after_front
after_exact front xs r is = begun (starts_with nat_eq xs front) front xs r refl is

-- five prefixes one after another
abbrev behind_five : List ℕ → List ℕ → List ℕ → List ℕ → List ℕ → List ℕ → Option (List ℕ)
behind_five a b c d e xs = do
  p ← after_front a xs
  q ← after_front b p
  r ← after_front c q
  s ← after_front d r
  after_front e s

five_again : (a b c d e rest : List ℕ) → behind_five a b c d e (a ++ (b ++ (c ++ (d ++ (e ++ rest))))) ≡ Some rest
five_again a b c d e rest =
    rw (after_again a (b ++ (c ++ (d ++ (e ++ rest))))) (rw (after_again b (c ++ (d ++ (e ++ rest)))) (rw (after_again c (d ++ (e ++ rest))) (rw (after_again d (e ++ rest)) (after_again e rest))))

five_exact : (a b c d e xs rest : List ℕ) → behind_five a b c d e xs ≡ Some rest → xs ≡ a ++ (b ++ (c ++ (d ++ (e ++ rest))))
five_exact a b c d e xs rest is =
    let p = bind_some (after_front a xs) _ rest is in
    let q = bind_some (after_front b p.0) _ rest p.2 in
    let r = bind_some (after_front c q.0) _ rest q.2 in
    let s = bind_some (after_front d r.0) _ rest r.2 in
    after_exact a xs p.0 p.1 ∙ ap (λ (z : List ℕ). a ++ z) (after_exact b p.0 q.0 q.1 ∙ ap (λ (z : List ℕ). b ++ z) (after_exact c q.0 r.0 r.1 ∙ ap (λ (z : List ℕ). c ++ z) (after_exact d r.0 s.0 s.1 ∙ ap (λ (z : List ℕ). d ++ z) (after_exact e s.0 rest s.2))))

five_right : (a b c d e rest : List ℕ) → ((((a ++ b) ++ c) ++ d) ++ e) ++ rest ≡ a ++ (b ++ (c ++ (d ++ (e ++ rest))))
five_right a b c d e rest = simp append_assoc

head_right : (w h : ℕ) (rest : List ℕ) → image_head w h ++ rest ≡ codes "P6\n" ++ (decimal w ++ (codes " " ++ (decimal h ++ (codes "\n255\n" ++ rest))))
unfolding image_head
head_right w h rest = five_right (codes "P6\n") (decimal w) (codes " ") (decimal h) (codes "\n255\n") rest

-- what stands after the head of an image
pub head_again : (w h : ℕ) (rest : List ℕ) → behind_head w h (image_head w h ++ rest) ≡ Some rest
unfolding behind_head
head_again w h rest = ap (behind_five (codes "P6\n") (decimal w) (codes " ") (decimal h) (codes "\n255\n")) (head_right w h rest) ∙ five_again (codes "P6\n") (decimal w) (codes " ") (decimal h) (codes "\n255\n") rest

pub head_exact : (w h : ℕ) (xs rest : List ℕ) → behind_head w h xs ≡ Some rest → xs ≡ image_head w h ++ rest
unfolding behind_head
head_exact w h xs rest is = five_exact (codes "P6\n") (decimal w) (codes " ") (decimal h) (codes "\n255\n") xs rest is ∙ sym (head_right w h rest)

first_again : (n : ℕ) (p rest : List ℕ) → length p ≡ n → first_bytes n (p ++ rest) ≡ Some p
unfolding first_bytes
first_again n p rest is =
    let few : nat_le n (length (p ++ rest)) ≡ true = grind (arith, nat_tests, length-append p rest) in
    rw few (ap (λ (z : List ℕ). Some z) (take_at p rest n is))

firsts : (b : Bool) (n : ℕ) (xs p : List ℕ) → nat_le n (length xs) ≡ b → (if b then Some (take n xs) else None) ≡ Some p → (length p ≡ n) × (xs ≡ p ++ drop n xs)
firsts true n xs p is same =
    let one : take n xs ≡ p = cc (same) in
    let few : n ≤ length xs = grind (arith, nat_tests) in
    (ap length (sym one) ∙ length-take-le n xs few, sym (take-append-drop n xs) ∙ ap (λ (z : List ℕ). z ++ drop n xs) one)
firsts false n xs p is same = absurd (cc (same))

first_exact : (n : ℕ) (xs p : List ℕ) → first_bytes n xs ≡ Some p → (length p ≡ n) × (xs ≡ p ++ drop n xs)
unfolding first_bytes
first_exact n xs p is = firsts (nat_le n (length xs)) n xs p refl is

-- the pixels of an image read back
pub picture_again : (w h : ℕ) (p rest : List ℕ) → length p ≡ picture_size w h → picture_at w h ((image_head w h ++ p) ++ rest) ≡ Some p
unfolding picture_at
picture_again w h p rest is =
    ap (λ (z : List ℕ). behind_head w h z >>= first_bytes (picture_size w h)) (append_assoc (image_head w h) p rest)
    ∙ ap (λ (o : Option (List ℕ)). o >>= first_bytes (picture_size w h)) (head_again w h (p ++ rest))
    ∙ first_again (picture_size w h) p rest is

-- what reads as an image is one
pub picture_exact : (w h : ℕ) (xs p : List ℕ) → picture_at w h xs ≡ Some p → BeginsWithImage xs w h p
unfolding picture_at
picture_exact w h xs p is =
    let r = bind_some (behind_head w h xs) _ p is in
    let q = first_exact (picture_size w h) r.0 p r.2 in
    (q.0, (drop (picture_size w h) r.0, head_exact w h xs r.0 r.1 ∙ ap (λ (z : List ℕ). image_head w h ++ z) q.1 ∙ sym (append_assoc (image_head w h) p (drop (picture_size w h) r.0))))

-- the same for its length
pub length_again : (w h : ℕ) (p rest : List ℕ) → length p ≡ picture_size w h → image_length w h ((image_head w h ++ p) ++ rest) ≡ Some (length (image_head w h ++ p))
unfolding image_length
length_again w h p rest is =
    rw (picture_again w h p rest is) (ap (λ (n : ℕ). Some n) (sym (length-append (image_head w h) p)))

pub length_exact : (w h : ℕ) (xs : List ℕ) (n : ℕ) → image_length w h xs ≡ Some n → (p : List ℕ) × BeginsWithImage xs w h p × (n ≡ length (image_head w h ++ p))
unfolding image_length
length_exact w h xs n is =
    let r = bind_some (picture_at w h xs) _ n is in
    let size : length (image_head w h) + length r.0 ≡ n = cc (r.2) in
    (r.0, picture_exact w h xs r.0 r.1, sym size ∙ sym (length-append (image_head w h) r.0))

-- bytes that begin with an image read as it
pub image_reads : (xs : List ℕ) (w h : ℕ) (p : List ℕ) → BeginsWithImage xs w h p → picture_at w h xs ≡ Some p
image_reads xs w h p begins = ap (picture_at w h) begins.1.1 ∙ picture_again w h p begins.1.0 begins.0

-- one image of a size at most stands at the start
pub one_image : (xs : List ℕ) (w h : ℕ) (p q : List ℕ) → BeginsWithImage xs w h p → BeginsWithImage xs w h q → p ≡ q
one_image xs w h p q first second =
    let a = image_reads xs w h p first in
    let b = image_reads xs w h q second in
    cc (a, b)

-- what is answered of the image at the start of bytes
pub is_picture : (result : Option (Bor (List ℕ))) (bytes : List ℕ) (w h : ℕ) → option_copied result ≡ picture_at w h bytes
    → MatchOption result ((picture : List ℕ) → BeginsWithImage bytes w h picture → ⊥) (λ picture. BeginsWithImage bytes w h picture.now)
is_picture None bytes w h is = λ picture begins. let there = image_reads bytes w h picture begins in absurd (cc (is, there))
is_picture (Some p) bytes w h is = picture_exact w h bytes p.now (sym is)

-- the length of an image by the bytes after its head
pub length_is : (w h : ℕ) (xs rest p : List ℕ) (n : ℕ) → behind_head w h xs ≡ Some rest → first_bytes (picture_size w h) rest ≡ Some p → n ≡ (length xs - length rest) + length p → Some n ≡ image_length w h xs
unfolding image_length picture_at
length_is w h xs rest p n head pixels is =
    let whole : length xs ≡ length (image_head w h) + length rest = ap length (head_exact w h xs rest head) ∙ length-append (image_head w h) rest in
    let size : n ≡ length (image_head w h) + length p = omega (arith, whole, is) in
    rw head (rw pixels (ap (λ (k : ℕ). Some k) size))

pub length_within : (w h : ℕ) (xs rest p : List ℕ) (n : ℕ) → behind_head w h xs ≡ Some rest → first_bytes (picture_size w h) rest ≡ Some p → n ≡ (length xs - length rest) + length p → n ≤ length xs
length_within w h xs rest p n head pixels is =
    let whole : length xs ≡ length (image_head w h) + length rest = ap length (head_exact w h xs rest head) ∙ length-append (image_head w h) rest in
    let few = first_exact (picture_size w h) rest p pixels in
    let part : length rest ≡ length p + length (drop (picture_size w h) rest) = ap length few.1 ∙ length-append p (drop (picture_size w h) rest) in
    omega (arith, whole, part, is)

pub no_head : (w h : ℕ) (xs : List ℕ) → behind_head w h xs ≡ None → None ≡ image_length w h xs
unfolding image_length picture_at
no_head w h xs none = rw none refl

pub no_pixels : (w h : ℕ) (xs rest : List ℕ) → behind_head w h xs ≡ Some rest → first_bytes (picture_size w h) rest ≡ None → None ≡ image_length w h xs
unfolding image_length picture_at
no_pixels w h xs rest head none = rw head (rw none refl)
