-- What an answer of the presenter's end says of the sink after it.
use Rattle.std.specs.Prelude.{◌≡◌, ℕ, ◌≤◌, List, ◌++◌, ⊤, Option, Result, Ok, Err}
use Rattle.byte_io.specs.Pieces.{PutsAll, WriteCause}
use Rattle.byte_io.specs.declared.writing.PutFault.{PutFault}
use Rattle.byte_io.specs.declared.writing.Sink as sink

-- the sink gained, by the answer, what was taken from `before` to `after`
abbrev pub Served : {X : Type 0} → Result X PutFault → Option (List ℕ) → Option (List ℕ) → List ℕ → List ℕ → Type 0
Served answer old new before after = (took : List ℕ) × (after ≡ before ++ took) × PutsAll old new took answer

-- one step on: from any earlier state, what the sink had gained by the first answer it has gained by the second, and the bytes besides
abbrev pub AddsBytes : {X : Type 0} → Result X PutFault → Result X PutFault → Option (List ℕ) → Option (List ℕ) → List ℕ → Type 0
AddsBytes before after old new bytes = (first : Option (List ℕ)) (done : List ℕ) → PutsAll first old done before → PutsAll first new (done ++ bytes) after

-- the same from any earlier state, of what was taken from `before` to `after`
abbrev pub Takes : {X : Type 0} → Result X PutFault → Result X PutFault → Option (List ℕ) → Option (List ℕ) → List ℕ → List ℕ → Type 0
Takes state answer old new before after = (took : List ℕ) × (after ≡ before ++ took) × AddsBytes state answer old new took

-- one step on: from any earlier count, a fault that had its cause has it still, and a new fault has one
abbrev pub Blames : {X : Type 0} → Result X PutFault → Result X PutFault → ℕ → ℕ → Type 0
Blames before after old new = (count : ℕ) → count ≤ old → WriteCause count old before → WriteCause count new after

-- after a refusal nothing more is put, and the answer stays
abbrev pub Stops : {X Y : Type 0} → Result X PutFault → Result X PutFault → Y → Y → Type 0
Stops (Ok _) after old new = ⊤
Stops (Err fault) after old new = (after ≡ Err fault) × (new ≡ old)

-- one step on: these bytes were put, unless a put was refused before; `before` and `after` are the answers for all that was to be put so far
pub record Presents {K P X : Type 0} (k : sink.Ghosts K P) (before after : Result X PutFault) (old new : K) (bytes : List ℕ) : Type 0 where
  -- what the sink gained
  pub adds : AddsBytes before after (k.held old) (k.held new) bytes
  -- its counts of faults and of refused puts never fall
  pub faults : k.faults old ≤ k.faults new
  pub refusals : k.refusals old ≤ k.refusals new
  -- after a refusal nothing happens
  pub stops : Stops before after old new
  -- a fault of the sink is answered only if the count of faults rose
  pub cause : Blames before after (k.faults old) (k.faults new)
  -- it is still the same sink
  pub place : k.place new ≡ k.place old

-- the answer for all pieces, of which some were still to be put when the others were
abbrev pub answer_for_all : {X : Type 0} → Result X PutFault → Result X PutFault → Result X PutFault
answer_for_all (Ok _) put = put
answer_for_all (Err fault) put = Err fault
