-- The commit is what the frame makes.
use Rattle.std.proofs.Common.{◌∙◌, sym, subst}
use Rattle.region.specs.Lists.{Changed}
use Rattle.model_history.specs.Frames.{pulls_of}
use Rattle.model_history.specs.Stamps.{frame_changes}
use Rattle.model_history.specs.SameChanges.{SameChanges}
use Rattle.recording_judge.proofs.HostFacts.{is_commit, set_by}
use Rattle.recording_judge.proofs.host_steps.commit_to_host.Goals as goal

pub push-requires : goal.push-requires
push-requires c =
    let r = c.requires in
    let is = is_commit r.script (pulls_of r.past) c.args.frame c.args.end _ r.commit (sym c.commit_of.ensures ∙ c.in-Some.is) in
    record {
      script = r.script;
      workers = r.workers;
      past = r.past;
      actor = r.actor;
      playable = r.playable;
      legal = r.legal;
      hosts = r.hosts;
      made = record {
        page_is = c.into_page-tree.ensures.tree ∙ is.page;
        changes = subst (λ (d : Changed). SameChanges d (frame_changes r.script (pulls_of r.past) c.args.frame)) (sym c.into_page-tree.ensures.changes) is.changes;
        outright_are = λ sc. c.in_ok-outright.ensures sc ∙ set_by r.script (pulls_of r.past) c.args.frame _ is sc;
      };
    }

pub returns : goal.returns
returns c = λ s n h a accepted legal hosts there.
    let is = is_commit s (pulls_of h) c.args.frame c.args.end _ there (sym c.commit_of.ensures ∙ c.in-Some.is) in
    c.in_ok-push.ensures.hosts s n h a accepted legal hosts
    (record {
      page_is = c.into_page-tree.ensures.tree ∙ is.page;
      changes = subst (λ (d : Changed). SameChanges d (frame_changes s (pulls_of h) c.args.frame)) (sym c.into_page-tree.ensures.changes) is.changes;
      outright_are = λ sc. c.in_ok-outright.ensures sc ∙ set_by s (pulls_of h) c.args.frame _ is sc;
    })
