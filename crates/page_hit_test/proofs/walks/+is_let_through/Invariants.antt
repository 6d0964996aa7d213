-- Each parent is older.
use Rattle.page_hit_test.proofs.ChainWalks.{age}
use Rattle.page_hit_test.proofs.walks.+is_let_through.Given as goal

abbrev pub decreases-is_let_through : goal.decreases-is_let_through
decreases-is_let_through l = age l.props.now.clips l.clip
