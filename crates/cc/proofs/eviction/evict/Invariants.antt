-- The tiles stay those of the pages.
use Rattle.cc.specs.KeptTiles.{AreKeptFor, AreCurrent}
use Rattle.cc.proofs.eviction.evict.Given as given

abbrev pub invariant-loop-age : given.invariant-loop-age
invariant-loop-age l = record {
  kept : AreKeptFor l.active l.kept.items;
  current : AreCurrent l.main l.kept.items;
}
