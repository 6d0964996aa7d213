-- The least of the missing ranks starts first, where it may.
use Rattle.std.proofs.Common.{◌≡◌, ◌∙◌, Some, None, cond, filter, refl, sym, ap}
use Rattle.std.specs.Prelude.{option_map}
use Rattle.tile_priority.specs.declared.rank.Rank.{Rank}
use Rattle.tile_priority.specs.Choice.{least_of}
use Rattle.tile_priority.proofs.LeastFirst.{least_is_first}
use Rattle.tile_queue.specs.Queues.{rank_key}
use Rattle.impl_tiles.specs.Choices.{Ranked, store_lacks, choice_among}
use Rattle.impl_tiles.proofs.ranks.Ranks.first.Goals as goal

pub returns-in_default : goal.returns-in_default
returns-in_default c =
    let store = c.args.store.now in
    let now = choice_among store c.args.pins.now c.args.self.now in
    let least : least_of now.wanted ≡ c.best_missing.result =
    ap (λ rs. least_of (filter (λ (r : Rank). store_lacks store r.key) rs)) (sym (c.as_slice.ensures.value ∙ ap (λ (r : Ranked). r.ranks) c.self.view_is)) ∙ sym c.best_missing.ensures in
    sym (ap (option_map rank_key) (least_is_first.none now (least ∙ c.in_default.is)))

pub returns-then-may_start : goal.returns-then-may_start
returns-then-may_start c =
    let store = c.args.store.now in
    let now = choice_among store c.args.pins.now c.args.self.now in
    let rank = c.in-Some.rank in
    let least : least_of now.wanted ≡ c.best_missing.result =
    ap (λ rs. least_of (filter (λ (r : Rank). store_lacks store r.key) rs)) (sym (c.as_slice.ensures.value ∙ ap (λ (r : Ranked). r.ranks) c.self.view_is)) ∙ sym c.best_missing.ensures in
    sym (ap (option_map rank_key) (least_is_first.least now rank (least ∙ c.in-Some.is) ∙ ap (λ b. cond b (Some rank) None) (sym (c.may_start.ensures rank refl) ∙ c.if-may_start.true)))

pub returns-else-may_start : goal.returns-else-may_start
returns-else-may_start c =
    let store = c.args.store.now in
    let now = choice_among store c.args.pins.now c.args.self.now in
    let rank = c.in-Some.rank in
    let least : least_of now.wanted ≡ c.best_missing.result =
    ap (λ rs. least_of (filter (λ (r : Rank). store_lacks store r.key) rs)) (sym (c.as_slice.ensures.value ∙ ap (λ (r : Ranked). r.ranks) c.self.view_is)) ∙ sym c.best_missing.ensures in
    sym (ap (option_map rank_key) (least_is_first.least now rank (least ∙ c.in-Some.is) ∙ ap (λ b. cond b (Some rank) None) (sym (c.may_start.ensures rank refl) ∙ c.if-may_start.false)))
