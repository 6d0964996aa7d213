use Rattle.std.proofs.Common.{ℕ, ◌≡◌, ◌-◌, ◌≤◌, All, length, vec_len}
use Rattle.page_layers.specs.Painting.{folded, items_at}
use Rattle.page_layers.specs.inner.LayerSamples.{groups_of, colour_of, HaveOpacities}
use Rattle.page_layers.proofs.paint.+paint_from.Given as goal

abbrev pub decreases-paint_from : goal.decreases-paint_from
decreases-paint_from l = 257 - l.depth

abbrev pub invariant-loop-first : goal.invariant-loop-first
invariant-loop-first l = record {
  few : All (λ s. vec_len s.groups ≤ 256) l.rest;
  painted : (opacity : ℕ → ℕ) → HaveOpacities opacity l.samples →
      HaveOpacities opacity l.rest × (folded opacity (items_at groups_of colour_of l.depth l.rest) l.colour ≡ folded opacity (items_at groups_of colour_of l.depth l.samples) l.fn.below);
}

abbrev pub decreases-loop-first : goal.decreases-loop-first
decreases-loop-first l = length l.rest
