-- What a sink in memory does at each put.
use Rattle.std.specs.Prelude.{◌≡◌, ℕ, ◌-◌, ◌<◌, min, Bool, true, false, List, [], ◌++◌, length, take, vec_len, Option, Some, None, Result, Ok, Err}
use Rattle.byte_io.specs.Counts.{is_numbered, raised}
use Rattle.byte_io.specs.declared.writing.PutFault.{PutFault}
use Rattle.byte_io.specs.declared.writing.PutFault.TheVariants.{Failed, Memory}
use Rattle.byte_io.specs.declared.mem_sink.MemSink.{MemSink}

-- how many of `wanted` more bytes are taken if `held` of at most `limit` are held
abbrev pub room_within : Option ℕ → ℕ → ℕ → ℕ
room_within None held wanted = wanted
room_within (Some limit) held wanted = min wanted (limit - held)

-- how many of `wanted` more bytes the sink takes
abbrev pub room_for : MemSink → ℕ → ℕ
room_for s wanted = room_within s.limit (vec_len s.bytes) wanted

-- the next put was told to fail
abbrev pub is_told : MemSink → Bool
is_told s = is_numbered s.puts s.fails.items

-- a put that fails leaves the bytes as they were if it was told to fail, else it lacks room and fills the sink up to its limit
abbrev pub FaultLeaves : MemSink → MemSink → List ℕ → Type 0
FaultLeaves old new piece = (is_told old ≡ true → new.bytes.items ≡ old.bytes.items) × (is_told old ≡ false → (room_for old (length piece) < length piece) × (new.bytes.items ≡ old.bytes.items ++ take (room_for old (length piece)) piece))

-- what a `MemSink` does at each put: its answer with the cause, the bytes after it, and both counts
abbrev pub PutExactly : {X : Type 0} → MemSink → MemSink → List ℕ → Result X PutFault → Type 0
PutExactly old new piece (Ok _) = (is_told old ≡ false) × (room_for old (length piece) ≡ length piece) × (new.bytes.items ≡ old.bytes.items ++ piece) × (new.faults ≡ old.faults) × (new.refusals ≡ old.refusals)
PutExactly old new piece (Err Failed) = FaultLeaves old new piece × (new.faults ≡ raised old.faults) × (new.refusals ≡ old.refusals)
PutExactly old new piece (Err (Memory _)) = (is_told old ≡ false) × (new.bytes.items ≡ old.bytes.items) × (new.faults ≡ old.faults) × (new.refusals ≡ raised old.refusals)

-- what a sink was told stays
abbrev pub SameTold : MemSink → MemSink → Type 0
SameTold old new = (new.limit ≡ old.limit) × (new.fails.items ≡ old.fails.items)

-- no limit, and no put is told to fail
abbrev pub IsEndless : MemSink → Type 0
IsEndless s = (s.limit ≡ None) × (s.fails.items ≡ [])
