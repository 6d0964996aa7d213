-- Its sides are those of a new run.
use Rattle.std.proofs.Common.{sym, subst}
use Rattle.model_history.specs.Scripts.{ScriptModel}
use Rattle.impl_log.specs.Runs.{Run, new_run}
use Rattle.proxy_single_thread.specs.inner.Sides.{IsMain, IsSingle}
use Rattle.proxy_single_thread.proofs.single.SingleThread.new.Goals as goal

pub invariant_of-result : goal.invariant_of-result
invariant_of-result c =
    subst (λ (z : Run). IsSingle z c.new-main.result c.in_ok-jobs.jobs c.new-shown.result) (sym c.in_ok-core.ensures) (record {
      few = c.requires;
      main = subst (λ (s : ScriptModel). IsMain (new_run s c.args.workers) c.new-main.result) c.in_ok-try_clone.ensures (c.new-main.ensures c.args.workers);
      workers = c.in_ok-jobs.ensures c.args.script.value;
      shown = c.new-shown.ensures.shown c.args.script.value c.args.workers;
    })
