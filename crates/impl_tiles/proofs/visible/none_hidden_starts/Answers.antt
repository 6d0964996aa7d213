-- A tile that is not visible is of one of the two bins.
use Rattle.std.proofs.Common.{◌≡◌, false, true, not, refl, sym, ◌∙◌, ap}
use Rattle.model_history.proofs.BoolFacts.{not_true}
use Rattle.tile_priority.specs.declared.rank.Bin.TheVariants as bin
use Rattle.impl_tiles.proofs.VisibleParts.{none_by_bins, rank_in_bin, one_hidden_starts}
use Rattle.impl_tiles.proofs.visible.none_hidden_starts.Goals as goal

pub returns-then-may_start : goal.returns-then-may_start
returns-then-may_start c = (
  (λ t. absurd (let f : false ≡ true = t in cc)),
  (λ none. absurd (one_hidden_starts c.args.queue.now bin.Soon refl (λ q i. sym c.if-may_start.true ∙ c.may_start.ensures q i) none)),
)

pub returns : goal.returns
returns c = (
  (λ t. none_by_bins c.args.queue.now c.may_start.result c.may_start-2.result c.may_start.ensures c.may_start-2.ensures c.if-may_start.false (not_true c.may_start-2.result t)),
  (λ none. ap not (c.may_start-2.ensures (rank_in_bin bin.Eventually) refl ∙ none (rank_in_bin bin.Eventually) refl)),
)
