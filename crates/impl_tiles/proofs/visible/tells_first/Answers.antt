-- Either tells it, and nothing else does.
use Rattle.std.proofs.Common.{inl, inr, refl, sym, ◌∙◌, ap}
use Rattle.model_history.proofs.BoolFacts.{not_both}
use Rattle.tile_priority.specs.Choice.{first, is_visible_rank}
use Rattle.impl_tiles.proofs.visible.tells_first.Goals as goal

pub returns-then-is_visible_rank : goal.returns-then-is_visible_rank
returns-then-is_visible_rank c = ((λ t. inl (ap is_visible_rank (sym c.first_rank.ensures) ∙ (sym c.is_visible_rank.ensures ∙ c.if-is_visible_rank.true))), (λ tells. refl))

pub returns : goal.returns
returns c = (
  (λ t. inr (c.none_hidden_starts.ensures.0 t)),
  (λ tells. elim tells [
    | inl shown ↦ absurd (not_both (is_visible_rank (first c.args.queue.now)) shown (ap is_visible_rank (sym c.first_rank.ensures) ∙ (sym c.is_visible_rank.ensures ∙ c.if-is_visible_rank.false)))
    | inr none ↦ c.none_hidden_starts.ensures.1 none
  ]),
)
