use Rattle.viz_canvas.specs.Canvases.{IsOfSize}
use Rattle.test_draw.proofs.scenes.draw.Given as given

abbrev pub invariant-loop-turn : given.invariant-loop-turn
invariant-loop-turn l = IsOfSize 1024 1024 l.canvas
