-- A made script is accepted.
use Rattle.std.proofs.Common.{◌≡◌, ℕ, true}
use Rattle.model_history.specs.Ranges.{is_in_ranges, are_short}
use Rattle.model_history.specs.Accepted.{TakesFrames}
use Rattle.model_history.specs.Frames.{blank}
use Rattle.script_generator.specs.Draws.{after_draws, drawn}
use Rattle.script_generator.specs.Generated.{priority_given, script_of_number}
use Rattle.script_generator.proofs.Ranges.{in_ranges, short}
use Rattle.script_generator.proofs.Pages.{takes_frames}

pub made_ranges : (number : ℕ) → is_in_ranges (script_of_number number) ≡ true
unfolding script_of_number
made_ranges number = in_ranges (priority_given (drawn number 0 3)) (after_draws number 1)

pub made_short : (number : ℕ) → are_short (script_of_number number).main ≡ true
unfolding script_of_number
made_short number = short (after_draws number 1)

pub made_taken : (number : ℕ) → TakesFrames (blank (script_of_number number)) (script_of_number number).main
unfolding script_of_number
made_taken number = takes_frames (after_draws number 1)
