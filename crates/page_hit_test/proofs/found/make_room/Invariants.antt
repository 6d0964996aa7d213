-- It is still a table.
use Rattle.std.proofs.Common.{◌≡◌, ℕ, length}
use Rattle.page_properties.specs.inner.Tables.{IsTable}
use Rattle.page_hit_test.specs.contracts.found.make_room.{V-type}
use Rattle.page_hit_test.proofs.found.make_room.Given as goal

abbrev pub invariant-loop-moved : goal.invariant-loop-moved
invariant-loop-moved g l = record {
  table : (f : ℕ → V-type g.row.V) → IsTable f l.fn.table → IsTable f l.table;
  room : length l.table ≡ 256;
}
