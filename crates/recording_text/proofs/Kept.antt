-- What a text that grew step by step still begins with.
use Rattle.std.proofs.Common.{◌≡◌, ℕ, List, ◌++◌}
use Rattle.std.specs.Prelude.{Result, Ok, Err, OnErr}
use Rattle.std.specs.Io.{StartsWith}
use Rattle.std.proofs.Transfers.{starts_with_of_append, starts_with_trans}

-- a text that begins with a longer one begins with that one's front
pub kept_before : (new mid old more : List ℕ) → mid ≡ old ++ more → StartsWith new mid → StartsWith new old
kept_before new mid old more grown kept = starts_with_trans new mid old kept (starts_with_of_append mid old more grown)

-- what holds in any case holds on an error
pub on_err : {A E : Type 0} (r : Result A E) (P : Type 0) → P → OnErr r P
on_err (Ok x) P h = tt
on_err (Err e) P h = h
