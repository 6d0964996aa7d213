-- No scroller is named.
use Rattle.std.proofs.Common.{◌∙◌, sym}
use Rattle.model_history.proofs.BoolFacts.{not_false}
use Rattle.recording_judge.proofs.HostFacts.{none_named}
use Rattle.recording_judge.proofs.host_steps.sets_outright.Goals as goal

pub returns : goal.returns
returns c = λ s h hosts none sc. sym ((c.pages.ensures s h hosts).outright sc) ∙ none_named c.pages.result.outright.now (sym c.is_empty.ensures ∙ not_false c.is_empty.result none) sc
