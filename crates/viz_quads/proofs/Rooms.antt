-- How many passes there is room for.
use Rattle.std.proofs.Common.{ℕ, ◌≡◌, ◌+◌, ◌*◌, ◌≤◌, subst, arith}
use Rattle.std.proofs.lemmas.Nat.{mul-le}

one_each : (n k : ℕ) → n * (k + 1) ≡ n * k + n
one_each n k = grind arith

in_two : (n s k : ℕ) → (n + s) * k ≡ n * k + s * k
in_two n s k = grind arith

-- a run needs no more than all
pub room_run : (p r n k q : ℕ) → n ≤ r → p + r * (k + 1) ≤ q → p + n * k ≤ q
room_run p r n k q le h =
    let run : n * k ≤ r * k = mul-le n k r k le (omega arith) in
    let all : r * (k + 1) ≡ r * k + r = one_each r k in
    omega (arith, run, all, h)

-- a run, and its own pass
pub room_after : (p m r s n k q : ℕ) → 1 ≤ n → r ≡ n + s → m ≤ p + n * k → p + r * (k + 1) ≤ q → (m + 1) + s * (k + 1) ≤ q
room_after p m r s n k q some both grown h =
    let all : (n + s) * (k + 1) ≡ n * (k + 1) + s * (k + 1) = in_two n s (k + 1) in
    let run : n * (k + 1) ≡ n * k + n = one_each n k in
    let whole : p + (n + s) * (k + 1) ≤ q = subst (λ (z : ℕ). p + z * (k + 1) ≤ q) both h in
    omega (arith, all, run, whole, grown, some)

-- a layer alone
pub room_layer : (p r s k q : ℕ) → r ≡ 1 + s → p + r * k ≤ q → p + s * k ≤ q
room_layer p r s k q one h =
    let whole : p + (1 + s) * k ≤ q = subst (λ (z : ℕ). p + z * k ≤ q) one h in
    let all : (1 + s) * k ≡ 1 * k + s * k = in_two 1 s k in
    omega (arith, all, whole)
