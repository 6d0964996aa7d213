-- What reading a source to its end gives.
use Rattle.std.specs.Prelude.{◌≡◌, ℕ, Bool, true, ◌+◌, ◌<◌, ◌≤◌, List, ◌++◌, length, ⊤}
use Rattle.byte_io.specs.Logs.{Gave, since}
use Rattle.player_uses.specs.declared.outcome.Outcome.{Outcome}
use Rattle.player_uses.specs.declared.outcome.Outcome.TheVariants.{ReadFault, TooLong, Memory}

-- a read of at most `room` bytes gave a piece, which was added; none only if the source said that no more come
abbrev pub ReadMore : List ℕ → List ℕ → Bool → ℕ → List ℕ → List ℕ → ℕ → Type 0
ReadMore old new ended room before after n =
    (piece : List ℕ) × Gave old new piece × (after ≡ before ++ piece) × (length piece ≡ n) × (n ≤ room) × (n ≡ 0 → 0 < room → ended ≡ true)

-- a read failed, or there was no memory for what it gave
abbrev pub IsFailedRead : Outcome → Type 0
IsFailedRead ReadFault = ⊤
IsFailedRead Memory = ⊤
IsFailedRead _ = ⊥

-- these are the bytes that the source gave, at most as many as the limit, and it said that no more come
abbrev pub ReadWhole : ℕ → List ℕ → List ℕ → Bool → List ℕ → Type 0
ReadWhole limit old new ended bytes = (since old new ≡ bytes) × (ended ≡ true) × (length bytes ≤ limit)

-- reading stopped early: the source gave just one byte more than the limit, or it failed, or there was no memory
abbrev pub StoppedAt : ℕ → List ℕ → List ℕ → Outcome → Type 0
StoppedAt limit old new (TooLong most) = (most ≡ limit) × (length (since old new) ≡ limit + 1)
StoppedAt limit old new result = IsFailedRead result
