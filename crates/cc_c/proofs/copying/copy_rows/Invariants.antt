-- The rows before this one are copied.
use Rattle.std.specs.Prelude.{◌≡◌, ◌*◌, length}
use Rattle.cc_c.specs.Copies.{HoldsRows, KeepsBetween}
use Rattle.cc_c.proofs.copying.copy_rows.Given as given

abbrev pub invariant-loop-y : given.invariant-loop-y
invariant-loop-y l = record {
  length : length l.to ≡ length l.fn.to;
  rows : HoldsRows l.frame l.bgra l.top l.y l.stride l.to;
  between : KeepsBetween (4 * l.frame.w) l.top l.y l.stride l.fn.to l.to;
}
