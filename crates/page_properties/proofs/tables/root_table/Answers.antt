use Rattle.page_properties.proofs.TableFacts.{table_of}
use Rattle.page_properties.proofs.tables.root_table.Goals as goal

pub returns : goal.returns
returns c = λ f h. table_of f _ h
