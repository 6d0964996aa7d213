-- The entry is put where there is room.
use Rattle.page_hit_test.proofs.found.keep.Goals as goal

pub returns : goal.returns
returns g c = λ f h is. c.put.ensures f (c.open_place.ensures.table f h) is
