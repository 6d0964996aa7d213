-- Nothing was told, no job is out, and the page is the empty one.
use Rattle.std.proofs.Common.{◌≡◌, ◌∙◌, ℕ, List, Option, None, refl, sym, ap, subst, arith}
use Rattle.std.specs.Prelude.{length, slice_index_or}
use Rattle.tile_raster.specs.declared.job.Job.{Job}
use Rattle.page_layers.specs.Pages.{Page}
use Rattle.model_history.specs.Frames.{blank}
use Rattle.model_history.specs.Scripts.{ScriptModel}
use Rattle.impl_log.specs.Runs.{Run, new_run}
use Rattle.cc_live.specs.declared.settings.Settings.{Settings}
use Rattle.cc_live.specs.Lives.{first_script}
use Rattle.cc_live.specs.inner.Kept.{IsLive, IsMainSide}
use Rattle.cc_live.proofs.live.Live.new.Goals as goal

live_at_first : (s : Settings) (workers : ℕ) (jobs : List (Option Job)) → length jobs ≡ workers → ((w : ℕ) → slice_index_or jobs w None ≡ None) → IsLive (new_run (first_script s) workers) None jobs
live_at_first s workers jobs count free = record {
  told = record { going = refl; looked = refl; used = refl; next = refl; sent = omega arith; all_sent = λ sent. omega arith; version = refl };
  out = record { count = count; each = λ w within. free w; settled = λ w within. tt };
}

main_at_first : (s : Settings) (workers : ℕ) (p : Page) → p ≡ blank (first_script s) → IsMainSide (new_run (first_script s) workers) p None
main_at_first s workers p is = record { main = is; open_frame = tt }

pub invariant_of-result : goal.invariant_of-result
invariant_of-result c =
    let s = c.args.settings in
    let run : c.in_ok-core.core ≡ new_run (first_script s) s.workers =
    c.in_ok-core.ensures ∙ ap (λ (z : ScriptModel). new_run z s.workers) (c.of.ensures ∙ c.in_ok-script.ensures) in
    let page : c.in_ok-main.main.value ≡ blank (first_script s) = c.in_ok-main.ensures.ok ∙ (c.first_page.ensures ∙ ap blank c.in_ok-script.ensures) in
    subst (λ (r : Run). IsLive r None c.in_ok-jobs.jobs.items × IsMainSide r c.in_ok-main.main.value None) (sym run)
    (live_at_first s s.workers c.in_ok-jobs.jobs.items c.in_ok-jobs.ensures.count c.in_ok-jobs.ensures.free, main_at_first s s.workers c.in_ok-main.main.value page)
