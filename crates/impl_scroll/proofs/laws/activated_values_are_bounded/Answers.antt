use Rattle.impl_scroll.proofs.Activated.{activated_bounded}
use Rattle.impl_scroll.proofs.laws.activated_values_are_bounded.Goals as goal

pub returns : goal.returns
returns c = λ s n h sc ax acc l. activated_bounded s n h sc ax acc l
