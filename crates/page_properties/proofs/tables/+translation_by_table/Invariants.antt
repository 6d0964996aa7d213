-- Each parent is older.
use Rattle.page_properties.proofs.Chains.{height}
use Rattle.page_properties.proofs.tables.+translation_by_table.Given as goal

abbrev pub decreases-translation_by_table : goal.decreases-translation_by_table
decreases-translation_by_table l = height l.transform l.nodes.now
