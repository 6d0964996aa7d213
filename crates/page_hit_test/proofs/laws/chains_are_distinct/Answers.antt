use Rattle.page_hit_test.proofs.ChainLists.{chain_distinct, chain_known}
use Rattle.page_hit_test.proofs.laws.chains_are_distinct.Goals as goal

pub returns-clause-distinct : goal.returns-clause-distinct
returns-clause-distinct c = chain_distinct

pub returns-clause-known : goal.returns-clause-known
returns-clause-known c = λ p l t. chain_known p l
