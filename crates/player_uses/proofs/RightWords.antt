-- What the digits of a word say, digit by digit.
use Rattle.std.proofs.Common.{◌≡◌, ℕ, ◌+◌, ◌-◌, ◌*◌, ◌≤◌, List, [], ◌∷◌, ap, sym, ◌∙◌, arith}
use Rattle.player_uses.specs.Words.{digits_value}

-- digits after a number do not make it less
pub value_grows : (n : ℕ) (cs : List ℕ) → n ≤ digits_value n cs
value_grows n [] = omega arith
value_grows n (c ∷ cs) = let more = value_grows (n * 10 + (c - 48)) cs in omega (arith, more)

-- one digit more
pub value_more : (n c : ℕ) (rest after : List ℕ) (whole : ℕ) → rest ≡ c ∷ after → digits_value n rest ≡ whole → digits_value (n * 10 + (c - 48)) after ≡ whole
value_more n c rest after whole is all = sym (ap (digits_value n) is) ∙ all

-- where the number is too large with one digit more, so is the whole
pub value_passes : (bound n c : ℕ) (rest after : List ℕ) (whole : ℕ) → rest ≡ c ∷ after → digits_value n rest ≡ whole → bound ≤ n * 10 + (c - 48) → bound ≤ whole
value_passes bound n c rest after whole is all large =
    let more = value_grows (n * 10 + (c - 48)) after in
    let same : digits_value (n * 10 + (c - 48)) after ≡ whole = value_more n c rest after whole is all in
    omega (arith, more, same, large)
