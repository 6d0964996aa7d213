-- Each parent is older.
use Rattle.page_hit_test.proofs.ChainWalks.{age}
use Rattle.page_hit_test.proofs.walks.+translation.Given as goal

abbrev pub decreases-translation : goal.decreases-translation
decreases-translation l = age l.props.now.transforms l.transform
