-- Prefixes of bytes, one after another.
use Rattle.std.proofs.Common.{◌≡◌, ℕ, zero, suc, ◌+◌, ◌<◌, ◌==◌, Bool, true, false, cond, List, [], ◌∷◌, ◌++◌, length, Option, Some, None, refl, sym, ◌∙◌, ap, subst, arith}
use Rattle.std.specs.Prelude.{option_and_then}
use Rattle.std.specs.Bool.{Decides}
use Rattle.pixel.specs.Colours.{Parts}
use Rattle.model_history.specs.Recordings.{joined_to, image_head, image_row, image}
use Rattle.model_history.proofs.BoolFacts.{same_number, other_number, is_same}
use Rattle.recording_check.specs.inner.Behind.{behind, behind_each, pixel_text, row_text}

behind_append : (a b xs : List ℕ) → behind (a ++ b) xs ≡ option_and_then (behind b) (behind a xs)
behind_append [] b xs = refl
behind_append (c ∷ cs) b [] = refl
behind_append (c ∷ cs) b (x ∷ xs) = at_byte (c == x) (behind_append cs b xs)
  where
    at_byte : (t : Bool) → behind (cs ++ b) xs ≡ option_and_then (behind b) (behind cs xs) → cond t (behind (cs ++ b) xs) None ≡ option_and_then (behind b) (cond t (behind cs xs) None)
    at_byte true e = e
    at_byte false e = refl

-- a byte and what follows it

-- one after another

pub one_more : (f : ℕ → List ℕ) (n : ℕ) (xs r q : List ℕ) → behind_each n f xs ≡ Some r → behind (f n) r ≡ Some q → behind_each (n + 1) f xs ≡ Some q
one_more f n xs r q e b =
    let same : suc n ≡ n + 1 = omega arith in
    subst (λ (m : ℕ). behind_each m f xs ≡ Some q) same (ap (option_and_then (behind (f n))) e ∙ b)

none_stays : (f : ℕ → List ℕ) (m w : ℕ) (xs : List ℕ) → m < suc w → behind_each m f xs ≡ None → behind_each w f xs ≡ None
none_stays f m zero xs lt e = let z : m ≡ zero = omega (arith, lt) in subst (λ (k : ℕ). behind_each k f xs ≡ None) z e
none_stays f m (suc w) xs lt e = at_test (m == suc w) refl (none_stays f m w xs)
  where
    at_test : (t : Bool) → (m == suc w) ≡ t → (m < suc w → behind_each m f xs ≡ None → behind_each w f xs ≡ None) → behind_each (suc w) f xs ≡ None
    at_test true is later = let z : m ≡ suc w = same_number m (suc w) is in subst (λ (k : ℕ). behind_each k f xs ≡ None) z e
    at_test false is later =
        let no = other_number m (suc w) is in
        let less : m < suc w = omega (arith, lt, no) in
        ap (option_and_then (behind (f w))) (later less e)

pub stops : (f : ℕ → List ℕ) (n w : ℕ) (xs r : List ℕ) → n < w → behind_each n f xs ≡ Some r → behind (f n) r ≡ None → None ≡ behind_each w f xs
stops f n w xs r lt e b =
    let less : suc n < suc w = omega (arith, lt) in
    sym (none_stays f (suc n) w xs less (ap (option_and_then (behind (f n))) e ∙ b))

pub joined_behind : (n : ℕ) (f : ℕ → List ℕ) (xs : List ℕ) → behind_each n f xs ≡ behind (joined_to n f) xs
unfolding joined_to
joined_behind zero f xs = refl
joined_behind (suc n) f xs = ap (option_and_then (behind (f n))) (joined_behind n f xs) ∙ sym (behind_append (joined_to n f) (f n) xs)

-- a prefix and what stands after it are the bytes

rest_of : (xs r : List ℕ) → Some xs ≡ Some r → xs ≡ r
rest_of xs r e = cc

front_is : (a xs r : List ℕ) → behind a xs ≡ Some r → xs ≡ a ++ r
front_is [] xs r e = rest_of xs r e
front_is (c ∷ cs) [] r e = absurd cc
front_is (c ∷ cs) (x ∷ xs) r e = at_byte (c == x) refl (front_is cs xs r) e
  where
    at_byte : (t : Bool) → (c == x) ≡ t → (behind cs xs ≡ Some r → xs ≡ cs ++ r) → cond t (behind cs xs) None ≡ Some r → x ∷ xs ≡ c ∷ (cs ++ r)
    at_byte true same later e = let first : c ≡ x = same_number c x same in let rest = later e in λ i. sym first i ∷ rest i
    at_byte false same later e = absurd cc

front_back : (a r : List ℕ) → behind a (a ++ r) ≡ Some r
front_back [] r = refl
front_back (c ∷ cs) r = ap (λ t. cond t (behind cs (cs ++ r)) None) (is_same c c refl) ∙ front_back cs r

apart : (o : Option (List ℕ)) (r : List ℕ) → o ≡ None → o ≡ Some r → ⊥
apart None r e f = absurd cc
apart (Some q) r e f = absurd cc

-- whether bytes are a head and a body

nothing : (xs : List ℕ) → xs ++ [] ≡ xs
nothing [] = refl
nothing (x ∷ xs) = ap (λ l. x ∷ l) (nothing xs)

not_both : (b : Bool) → b ≡ true → b ≡ false → ⊥
not_both true t f = absurd cc
not_both false t f = absurd cc

itself : (xs : List ℕ) → behind xs xs ≡ Some []
itself xs = ap (behind xs) (sym (nothing xs)) ∙ front_back xs []

nil_of : (xs : List ℕ) → (length xs == 0) ≡ true → xs ≡ []
nil_of [] t = refl
nil_of (x ∷ xs) t = let z : length (x ∷ xs) ≡ 0 = same_number (length (x ∷ xs)) 0 t in absurd (omega (arith, z))

module _ (head body bytes : List ℕ) where
  back : bytes ≡ head ++ body → behind head bytes ≡ Some body
  back e = ap (behind head) e ∙ front_back head body

  pub no_head : behind head bytes ≡ None → Decides false (bytes ≡ head ++ body)
  no_head none = (λ t. absurd (not_both false t refl), λ e. absurd (apart (behind head bytes) body none (back e)))

  module _ (pixels : List ℕ) (there : behind head bytes ≡ Some pixels) where
    same_body : bytes ≡ head ++ body → pixels ≡ body
    same_body e = rest_of pixels body (sym there ∙ back e)

    pub no_body : behind body pixels ≡ None → Decides false (bytes ≡ head ++ body)
    no_body none = (λ t. absurd (not_both false t refl), λ e. absurd (apart (behind body pixels) [] none (ap (behind body) (same_body e) ∙ itself body)))

    pub at_end : (rest : List ℕ) (b : Bool) → behind body pixels ≡ Some rest → b ≡ (length rest == 0) → Decides b (bytes ≡ head ++ body)
    at_end rest b e is = (
      λ t. front_is head bytes pixels there ∙ ap (λ l. head ++ l) (front_is body pixels rest e ∙ (ap (λ l. body ++ l) (nil_of rest (sym is ∙ t)) ∙ nothing body)),
      λ f. let none : rest ≡ [] = rest_of rest [] (sym e ∙ (ap (behind body) (same_body f) ∙ itself body)) in is ∙ (ap (λ l. length l == 0) none),
    )

-- the rows of an image

pub row_behind : (pixel : ℕ → ℕ → Parts) (w y : ℕ) (xs : List ℕ) → behind_each w (pixel_text pixel y) xs ≡ behind (row_text pixel w y) xs
unfolding image_row
row_behind pixel w y xs = joined_behind w (pixel_text pixel y) xs

pub rows_behind : (pixel : ℕ → ℕ → Parts) (w h : ℕ) (xs : List ℕ) → behind_each h (row_text pixel w) xs ≡ behind (joined_to h (row_text pixel w)) xs
rows_behind pixel w h xs = joined_behind h (row_text pixel w) xs

pub image_is : (pixel : ℕ → ℕ → Parts) (w h : ℕ) → image pixel w h ≡ image_head w h ++ joined_to h (row_text pixel w)
unfolding image
image_is pixel w h = refl

-- the same prefixes one after another
pub each_same : (n : ℕ) (f g : ℕ → List ℕ) (xs : List ℕ) → ((x : ℕ) → x < n → f x ≡ g x) → behind_each n f xs ≡ behind_each n g xs
each_same zero f g xs same = refl
each_same (suc n) f g xs same =
    ap (option_and_then (behind (f n))) (each_same n f g xs (λ x lt. same x (omega (arith, lt))))
    ∙ ap (λ (front : List ℕ). option_and_then (behind front) (behind_each n g xs)) (same n (omega arith))
