use Rattle.std.proofs.Common.{ℤ, ◌-ℤ◌, sym, subst, rules}
use Rattle.std.proofs.lemmas.Int.{to_z-of_z}
use Rattle.std.specs.Int.RustNames.{FitsSigned}
use mir.Syntax.{w64}
use Rattle.model_states.specs.declared.Synced.{Synced}
use Rattle.model_states.specs.Table.{pending_value}
use Rattle.model_states.specs.Bounds.{IsBounded}
use Rattle.model_steps.specs.Standing.{brought_to}
use Rattle.impl_scroll.proofs.Brought.{gap_fits}
use Rattle.impl_scroll.proofs.listing.clamp_along.Goals as goal

pub gap-requires : goal.gap-requires
gap-requires c =
    let v : Synced = c.values_of-value.result in
    let i : IsBounded v = subst IsBounded (sym c.values_of-value.ensures) c.requires in
    let fits : FitsSigned w64 (brought_to c.is_among-outright.result c.most.result v -ℤ pending_value v) = gap_fits c.is_among-outright.result c.most.result v i c.most.ensures.short in
    let f : FitsSigned w64 c.brought_to.result = search rules in
    let g : FitsSigned w64 c.pending.result = search rules in
    simp to_z-of_z (subst (λ (z : ℤ). FitsSigned w64 z) (sym (λ k. c.brought_to.ensures k -ℤ c.pending.ensures k)) fits)
