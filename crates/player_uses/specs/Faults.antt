-- Which answers come of a fault of the source or of the sink.
use Rattle.std.specs.Prelude.{◌≡◌, ℕ, Bool, true, ⊤, Result, Ok, Err}
use Rattle.byte_io.specs.Counts.{Rose, raised}
use Rattle.player_uses.specs.declared.outcome.Outcome.{Outcome}
use Rattle.player_uses.specs.declared.outcome.Outcome.TheVariants.{ReadFault, WriteFault}

-- a fault of the source or of the sink is answered only if that one's count of faults rose
abbrev pub Causes : ℕ → ℕ → ℕ → ℕ → Outcome → Type 0
Causes source_old source_new out_old out_new ReadFault = Rose source_old source_new
Causes source_old source_new out_old out_new WriteFault = Rose out_old out_new
Causes source_old source_new out_old out_new _ = ⊤

-- if the source's fault is answered, just one read of it failed, and that was the last call of it; else none failed
abbrev pub StopsAtFault : ℕ → ℕ → Bool → Outcome → Type 0
StopsAtFault old new failed ReadFault = (new ≡ raised old) × (failed ≡ true)
StopsAtFault old new failed _ = new ≡ old

-- a fault of the source is answered only if its count rose
abbrev pub RefusedBy : {X : Type 0} → ℕ → ℕ → Result X Outcome → Type 0
RefusedBy old new (Ok _) = ⊤
RefusedBy old new (Err ReadFault) = Rose old new
RefusedBy old new (Err _) = ⊤

-- if the source's fault is told, just one read of it failed, and that was the last call of it; else none failed
abbrev pub RefusedAtFault : {X : Type 0} → ℕ → ℕ → Bool → Result X Outcome → Type 0
RefusedAtFault old new failed (Ok _) = new ≡ old
RefusedAtFault old new failed (Err o) = StopsAtFault old new failed o

-- the sink has no part in it
abbrev pub IsSilent : Outcome → Type 0
IsSilent WriteFault = ⊥
IsSilent _ = ⊤
