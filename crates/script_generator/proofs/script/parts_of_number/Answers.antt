-- The parts are made one after another.
use Rattle.std.proofs.Common.{ℕ, ◌∙◌, ap}
use Rattle.script_generator.specs.Draws.{after_draws}
use Rattle.script_generator.specs.Generated.{frames, inputs, after_frames, script_of_number}
use Rattle.script_generator.proofs.script.parts_of_number.Goals as goal

pub returns : goal.returns
unfolding script_of_number
returns c =
    let kept = c.priority-priority.ensures.kept in
    let main = c.in_ok-main.ensures.0 ∙ ap (λ (x : ℕ). frames x) kept in
    let after = c.in_ok-main.ensures.1 ∙ ap (λ (x : ℕ). after_frames (after_draws x 1400) 1 20) kept in
    let all = c.in_ok-inputs.ensures ∙ ap (λ (x : ℕ). inputs x) after in
    λ i. record {
      version = 1;
      viewport_w = 256;
      viewport_h = 192;
      tile = 32;
      background = c.opaque.ensures i;
      budget = 64;
      raster_per_frame = 6;
      soon = 64;
      eventually = 128;
      priority = c.priority-priority.ensures.value i;
      main = main i;
      inputs = all i;
    }
