use Rattle.model_history.proofs.PageFacts.{page_alike, page_values}
use Rattle.model_history.proofs.FrameFacts.{page_stays}
use Rattle.model_history.proofs.laws_pages.pages_depend_on_earlier_pulls.Goals as goal

pub returns : goal.returns
returns c = record {
  pulls = page_alike;
  values = page_values;
  stay = λ s workers e h n l. page_stays s workers h e.actor e.event l.1 n;
}
