-- Where the visible tiles do not tell what starts next, all do.
use Rattle.std.proofs.Common.{◌≡◌, true, Result, Ok, Err}
use Rattle.std.specs.Prelude.{⊤, OnOk}
use Rattle.std.specs.declared.alloc.AllocError.{AllocError}
use Rattle.impl_tiles.specs.declared.outlook.Outlook.{Outlook}
use Rattle.impl_tiles.specs.Managers.{is_seen, TellsNext}
use Rattle.impl_tiles.proofs.SeenOutlooks.{seen_tells}
use Rattle.impl_core.proofs.outlooks.look_for_next.Goals as goal

told_where : (x : Result ⊤ AllocError) (o : Outlook) → OnOk x (is_seen o ≡ true) → OnOk x (TellsNext o)
told_where (Ok done) o seen = seen_tells o seen
told_where (Err full) o seen = tt

pub returns-else-tells_next-clause-told : goal.returns-else-tells_next-clause-told
returns-else-tells_next-clause-told c = told_where c.look.result c.look.new.tiles.outlook c.look.ensures.seen

pub returns-else-tells_next-clause-same : goal.returns-else-tells_next-clause-same
returns-else-tells_next-clause-same c = λ s workers h is_s legal hosts holds. c.look.ensures.same s h is_s hosts (c.look_visible_first.ensures s workers h is_s legal hosts holds)
