-- One piece more.
use Rattle.std.proofs.Common.{◌≡◌, ℕ, ◌+◌, ◌%◌, ◌^◌, List, [], ◌∷◌, ◌++◌, length, ap, ◌∙◌, length-append, arith}
use Rattle.byte_io.specs.Sums.{byte_sum}

total_both : (xs ys : List ℕ) → byte_sum (xs ++ ys) ≡ byte_sum xs + byte_sum ys
total_both [] ys = omega arith
total_both (x ∷ xs) ys = let rest = total_both xs ys in omega (arith, rest)

-- the count and the sum of all bytes, where one piece more was put
pub counts_more : (old new piece : List ℕ) (bytes sum : ℕ) → bytes ≡ length old → sum ≡ byte_sum old % 2 ^ 64 → new ≡ old ++ piece
    → (bytes + length piece ≡ length new) × ((sum + byte_sum piece) % 2 ^ 64 ≡ byte_sum new % 2 ^ 64)
counts_more old new piece bytes sum few all is =
    let long : length new ≡ length old + length piece = ap length is ∙ length-append old piece in
    let more : byte_sum new ≡ byte_sum old + byte_sum piece = ap byte_sum is ∙ total_both old piece in
    (omega (arith, few, long), omega (arith, all, more))
