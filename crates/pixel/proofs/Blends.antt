-- Blending at the ends of alpha.
use Rattle.std.specs.Prelude.{ℕ, ◌≡◌}
use Rattle.std.proofs.Common.{arith, ap, ◌∙◌}
use Rattle.pixel.specs.Colours.{blend, clear, above}
use Rattle.pixel.specs.Laws.{OpaqueHides, ClearShows, ClearTakes}
use Rattle.pixel.proofs.Fills.{same_parts}

hidden_part : (below source alpha : ℕ) → alpha ≡ 255 → above below source alpha ≡ source
hidden_part below source alpha e =
    let none : above below source 255 ≡ source = omega arith in
    ap (λ (a : ℕ). above below source a) e ∙ none

shown_part : (below : ℕ) → above below 0 0 ≡ below
shown_part below = omega arith

taken_part : (source alpha : ℕ) → above 0 source alpha ≡ source
taken_part source alpha = omega arith

pub opaque_hides : OpaqueHides
opaque_hides below source e =
    same_parts (blend below source) source (hidden_part below.r source.r source.a e) (hidden_part below.g source.g source.a e)
    (hidden_part below.b source.b source.a e) (hidden_part below.a source.a source.a e)

pub clear_shows : ClearShows
clear_shows below = same_parts (blend below clear) below (shown_part below.r) (shown_part below.g) (shown_part below.b) (shown_part below.a)

pub clear_takes : ClearTakes
clear_takes source =
    same_parts (blend clear source) source (taken_part source.r source.a) (taken_part source.g source.a) (taken_part source.b source.a)
    (taken_part source.a source.a)
