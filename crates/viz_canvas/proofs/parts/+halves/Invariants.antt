-- Each half has fewer surfaces.
use Rattle.std.specs.Prelude.{◌+◌, ◌-◌, ◌*◌, length}
use Rattle.viz_canvas.proofs.parts.+halves.Given as given

abbrev pub decreases-draw_parts : given.decreases-draw_parts
decreases-draw_parts g l = 4 * length l.surfaces.now

abbrev pub decreases-draw_halves : given.decreases-draw_halves
decreases-draw_halves g l = 4 * (length l.first.now + length l.second.now) - 1

abbrev pub decreases-draw_halves-front : given.decreases-draw_halves-front
decreases-draw_halves-front g l = 4 * length l.first.now + 1

abbrev pub decreases-draw_halves-back : given.decreases-draw_halves-back
decreases-draw_halves-back g l = 4 * length l.second.now + 1
