-- What a put of a piece does to the bytes that a sink holds, if those are known.
use Rattle.std.specs.Prelude.{◌≡◌, ℕ, List, ◌++◌, ⊤, Option, Result, Ok, Err}
use Rattle.std.specs.Io.KnownBytes.{Appends, Keeps}
use Rattle.byte_io.specs.Counts.{Rose}
use Rattle.byte_io.specs.declared.writing.PutFault.{PutFault}
use Rattle.byte_io.specs.declared.writing.PutFault.TheVariants.{Failed, Memory}

-- known bytes grow by a prefix of the whole
abbrev pub GainsPrefix : Option (List ℕ) → Option (List ℕ) → List ℕ → Type 0
GainsPrefix old new whole = (front : List ℕ) × (rest : List ℕ) × (front ++ rest ≡ whole) × Appends old new front

-- a put appended the piece, or a prefix of it if the sink failed, or nothing if memory ran out
abbrev pub PutAppends : {X : Type 0} → Option (List ℕ) → Option (List ℕ) → List ℕ → Result X PutFault → Type 0
PutAppends old new piece (Ok _) = Appends old new piece
PutAppends old new piece (Err Failed) = GainsPrefix old new piece
PutAppends old new piece (Err (Memory _)) = Keeps old new

-- a put answers `Failed` only if the count of faults rose, and `Memory` only if that of refusals rose
abbrev pub PutCause : {X : Type 0} → ℕ → ℕ → ℕ → ℕ → Result X PutFault → Type 0
PutCause faults_old faults_new refusals_old refusals_new (Ok _) = ⊤
PutCause faults_old faults_new refusals_old refusals_new (Err Failed) = Rose faults_old faults_new
PutCause faults_old faults_new refusals_old refusals_new (Err (Memory _)) = Rose refusals_old refusals_new

-- the answer is not `Failed`
abbrev pub NotFailed : {X : Type 0} → Result X PutFault → Type 0
NotFailed (Ok _) = ⊤
NotFailed (Err Failed) = ⊥
NotFailed (Err (Memory _)) = ⊤

-- ---- of what may be put in several pieces

-- the sink gained all these bytes, or if some were refused, a prefix of them
abbrev pub PutsAll : {X E : Type 0} → Option (List ℕ) → Option (List ℕ) → List ℕ → Result X E → Type 0
PutsAll old new whole (Ok _) = Appends old new whole
PutsAll old new whole (Err _) = GainsPrefix old new whole

-- the answer is `Failed` only if the count of faults rose
abbrev pub WriteCause : {X : Type 0} → ℕ → ℕ → Result X PutFault → Type 0
WriteCause old new (Ok _) = ⊤
WriteCause old new (Err Failed) = Rose old new
WriteCause old new (Err (Memory _)) = ⊤
