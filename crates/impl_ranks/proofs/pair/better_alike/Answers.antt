-- The tree that gives the better rank is asked.
use Rattle.std.proofs.Common.{ap, ◌∙◌}
use Rattle.impl_ranks.specs.inner.Lists.{place_rank}
use Rattle.impl_ranks.proofs.Pairs.{better_twin}
use Rattle.impl_ranks.proofs.pair.better_alike.Goals as goal

pub returns : goal.returns
returns c =
    c.place_rank.ensures
    ∙ (ap (λ s. place_rank c.args.borders.now s c.args.layer.now c.args.place) c.side_at-side.ensures
    ∙ better_twin c.args.borders.now c.args.layer.now c.args.other.now c.args.place c.requires.there c.requires.alike)
