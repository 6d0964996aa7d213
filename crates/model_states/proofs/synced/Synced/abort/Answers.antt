-- Each field is within the range of an i64, so what it represents is itself.
use Rattle.std.proofs.Common.{rules, w64, ◌+ℤ◌, ◌-ℤ◌, FitsSigned}
use Rattle.std.proofs.lemmas.Int.{to_z-of_z}
use Rattle.model_states.proofs.synced.Synced.abort.Goals as goal

pub returns : goal.returns
returns c =
    let told : FitsSigned w64 c.args.self.now.reflected_main = search rules in
    let active : FitsSigned w64 c.args.self.now.active_base = search rules in
    let pending : FitsSigned w64 c.args.self.now.pending_base = search rules in
    let delta : FitsSigned w64 c.args.self.now.active_delta = search rules in
    let active_sum : FitsSigned w64 (c.args.self.now.active_base +ℤ c.args.self.now.reflected_main) = search rules in
    let pending_sum : FitsSigned w64 (c.args.self.now.pending_base +ℤ c.args.self.now.reflected_main) = search rules in
    let left : FitsSigned w64 (c.args.self.now.active_delta -ℤ c.args.self.now.reflected_main) = search rules in
    simp to_z-of_z
