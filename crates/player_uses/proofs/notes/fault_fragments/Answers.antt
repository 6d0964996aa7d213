-- The value and the limit are printed as they are.
use Rattle.std.proofs.Common.{rules, refl}
use Rattle.std.specs.Prelude.{FitsSigned}
use Rattle.std.specs.Int.{w64}
use Rattle.std.proofs.lemmas.Int.{to_z-of_z}
use Rattle.player_uses.proofs.notes.fault_fragments.Goals as goal

pub returns-in-OutOfRange : goal.returns-in-OutOfRange
returns-in-OutOfRange c =
    let v : FitsSigned w64 c.in-OutOfRange.value = search rules in
    let e : FitsSigned w64 c.in-OutOfRange.limit = search rules in
    rw c.in-OutOfRange.is (simp to_z-of_z refl)
