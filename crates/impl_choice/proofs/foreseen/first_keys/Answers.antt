-- The keys of the one tree, and those of the other after them.
use Rattle.std.proofs.Common.{◌++◌, not, filter, ◌∙◌}
use Rattle.impl_choice.specs.inner.FirstKeys.{is_shown_in}
use Rattle.impl_choice.proofs.foreseen.first_keys.Goals as goal

pub returns : goal.returns
returns c = λ a is.
    let s = c.args.plan.now in
    let keys = c.in_ok-keys.ensures in
    let missing = c.as_slice.ensures ∙ c.in_ok-missing.ensures in
    c.in_ok-push_hidden_in.ensures a is ∙ (λ i. keys i ++ filter (λ q. not (is_shown_in s a q)) (missing i))
