-- What is prepared is what the frame makes.
use Rattle.std.proofs.Common.{ℕ, List, Result, Ok, Err, sym, ◌∙◌, ap, subst}
use Rattle.std.specs.Prelude.{OnOk}
use Rattle.region.specs.Lists.{Changed}
use Rattle.model_history.specs.Frames.{pulls_of}
use Rattle.model_history.specs.Stamps.{frame_changes}
use Rattle.model_history.specs.SameChanges.{SameChanges}
use Rattle.impl_scroll.specs.Rows.{has_number}
use Rattle.impl_core.proofs.Prepared.{is_there}
use Rattle.impl_core.proofs.commits.push_prepared.Goals as goal

-- what holds where a value is answered
on_ok : {X E : Type 0} {P Q : Type 0} (r : Result X E) → (P → Q) → OnOk r P → OnOk r Q
on_ok (Ok x) f p = f p
on_ok (Err e) f p = tt

pub returns-clause-hosts : goal.returns-clause-hosts
returns-clause-hosts c =
    on_ok c.push.result
    (λ hosts s workers h actor accepted legal before prepared.
    let is = is_there s (pulls_of h) c.args.frame c.args.prepared.now c.in-Some.handed prepared c.in-Some.is in
    hosts s workers h actor accepted legal before
    (record {
      page_is = c.in_ok-tree.ensures ∙ is.page;
      changes = subst (λ (d : Changed). SameChanges d (frame_changes s (pulls_of h) c.args.frame)) (sym c.in_ok-changes.ensures) is.changes;
      outright_are = λ sc. ap (λ (ns : List ℕ). has_number ns sc) (c.in_ok-outright.ensures.items ∙ c.as_slice.ensures.value) ∙ is.outright_are sc;
    }))
    c.push.ensures.hosts
