-- Which inputs of a script a log can read.
use Rattle.std.specs.Prelude.{◌≡◌, ◌≤◌, ℕ, suc, List, length, slice_get}
use Rattle.model_history.specs.declared.input.Input.{Input}
use Rattle.impl_log.specs.declared.known_inputs.KnownInputs.{KnownInputs}
use Rattle.impl_log.specs.declared.known_inputs.KnownInputs.TheVariants as known

-- these are all inputs; or the next one, after the given number of them that were used, and there is no other that is not used
abbrev pub AreKnown : List Input → ℕ → KnownInputs → Type 0
AreKnown inputs used (known.All script) = script.value.inputs ≡ inputs
AreKnown inputs used (known.Next next) = (length inputs ≤ suc used) × (slice_get inputs used ≡ next)
