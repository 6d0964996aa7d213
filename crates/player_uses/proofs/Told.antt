-- What a source gave since a log.
use Rattle.std.proofs.Common.{◌≡◌, ℕ, zero, suc, ◌+◌, ◌≤◌, List, [], ◌∷◌, ◌++◌, length, take, drop, refl, ap, sym, ◌∙◌, arith, append-nil, append_assoc, length-append}
use Rattle.byte_io.specs.Logs.{Gave, since}
use Rattle.player_uses.specs.Reading.{GivenAtMost}

past : (old bytes : List ℕ) → drop (length old) (old ++ bytes) ≡ bytes
past [] bytes = refl
past (x ∷ old) bytes = past old bytes

-- the bytes that a log gained are those since
pub whole_given : (old new bytes : List ℕ) → Gave old new bytes → since old new ≡ bytes
whole_given old new bytes gave = ap (λ (l : List ℕ). drop (length old) l) gave ∙ past old bytes

-- a source that was left as it was gave nothing
pub gave_nothing : (most : ℕ) (old new : List ℕ) → new ≡ old → GivenAtMost most old new
gave_nothing most old new same = ([], same ∙ sym (append-nil old), omega arith)

-- a prefix of a list is no longer than it
take_short : (n : ℕ) (xs : List ℕ) → length (take n xs) ≤ length xs
take_short zero xs = omega arith
take_short (suc n) [] = omega arith
take_short (suc n) (x ∷ xs) = let rest = take_short n xs in omega (arith, rest)

-- nor than was asked for
pub take_few : (n : ℕ) (xs : List ℕ) → length (take n xs) ≤ n
take_few zero xs = omega arith
take_few (suc n) [] = omega arith
take_few (suc n) (x ∷ xs) = let rest = take_few n xs in omega (arith, rest)

-- a prefix of a buffer was given
pub gave_front : (most n : ℕ) (old new buffer : List ℕ) → Gave old new (take n buffer) → length buffer ≤ most → GivenAtMost most old new
gave_front most n old new buffer gave few = (take n buffer, gave, omega (arith, take_short n buffer, few))

-- some bytes and then others are both
pub gave_both : (old mid new : List ℕ) (a b : List ℕ) → Gave old mid a → Gave mid new b → Gave old new (a ++ b)
gave_both old mid new a b first second = second ∙ ap (λ (l : List ℕ). l ++ b) first ∙ append_assoc old a b

-- a piece more, where there is room for it
pub gave_more : (limit most : ℕ) (old mid new bytes : List ℕ) → Gave old mid bytes → GivenAtMost most mid new → length bytes + most ≤ limit + 1 → GivenAtMost (limit + 1) old new
gave_more limit most old mid new bytes first second few =
    let all : length (bytes ++ second.0) ≡ length bytes + length second.0 = length-append bytes second.0 in
    (bytes ++ second.0, gave_both old mid new bytes second.0 first second.1, omega (arith, all, second.2))
