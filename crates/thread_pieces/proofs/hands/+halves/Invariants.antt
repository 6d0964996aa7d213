-- Each half has fewer hands.
use Rattle.std.specs.Prelude.{◌+◌, ◌-◌, ◌*◌, length}
use Rattle.thread_pieces.proofs.hands.+halves.Given as given

abbrev pub decreases-work_all : given.decreases-work_all
decreases-work_all g l = 4 * length l.hands.now

abbrev pub decreases-work_halves : given.decreases-work_halves
decreases-work_halves g l = 4 * (length l.here.now + length l.there.now) - 1

abbrev pub decreases-work_halves-front : given.decreases-work_halves-front
decreases-work_halves-front g l = 4 * length l.here.now + 1

abbrev pub decreases-work_halves-back : given.decreases-work_halves-back
decreases-work_halves-back g l = 4 * length l.there.now + 1
