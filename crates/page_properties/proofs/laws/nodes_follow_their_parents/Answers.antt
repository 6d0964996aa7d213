-- The laws of what is gathered along a chain.
use Rattle.page_properties.proofs.Chains.{follow_the_parent}
use Rattle.page_properties.proofs.laws.nodes_follow_their_parents.Goals as goal

pub returns : goal.returns
returns c = follow_the_parent
