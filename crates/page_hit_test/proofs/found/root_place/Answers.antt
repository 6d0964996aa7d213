use Rattle.page_properties.proofs.TableFacts.{table_of}
use Rattle.page_hit_test.proofs.found.root_place.Goals as goal

pub returns : goal.returns
returns c = λ f h. table_of f _ h
