-- What shows all of a pass shows what is seen of it.
use Rattle.viz_render.proofs.passes.draw_inner_pass.Goals as goal

pub returns-else-seen-clause-pixels : goal.returns-else-seen-clause-pixels
returns-else-seen-clause-pixels c = λ x y seen. c.draw_whole_pass.ensures.pixels x y seen.0
