-- The rows that are marked are those of the area's rect.
use Rattle.viz_canvas.proofs.strip.mark_rows.Goals as goal

pub returns-clause-alike : goal.returns-clause-alike
returns-clause-alike c = rw (c.rect_of.ensures.value) at c.mark_fresh.ensures.alike
