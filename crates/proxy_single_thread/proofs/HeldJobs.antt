-- The jobs of workers stay at an event that is no worker's.
use Rattle.std.proofs.Common.{◌≡◌, ℕ, ◌<◌, Bool, true, false, List, Option, Some, None, refl, sym, ◌∙◌, subst}
use Rattle.std.specs.Prelude.{slice_index_or}
use Rattle.std.proofs.lemmas.List.{get_or_default}
use Rattle.geom.specs.declared.tile.TileKey.{TileKey}
use Rattle.tile_raster.specs.declared.job.Job.{Job}
use Rattle.model_states.specs.declared.kind.Kind.{Kind}
use Rattle.model_states.specs.declared.kind.Kind.TheVariants as kind
use Rattle.model_history.specs.declared.event.Event.{Event}
use Rattle.model_history.specs.declared.event.Event.TheVariants as event
use Rattle.model_history.specs.declared.history.Entry.{Entry}
use Rattle.model_history.specs.EventFields.{kind_of, held_after}
use Rattle.model_history.specs.Scans.{held}
use Rattle.model_history.specs.Scripts.{ScriptModel}
use Rattle.model_steps.specs.ShownKeys.{KeyShows}
use Rattle.impl_log.specs.Runs.{Run, past, with_entry}
use Rattle.proxy_single_thread.specs.inner.Sides.{HasJob, HaveJobs}
use Rattle.proxy_single_thread.proofs.Steps.{past_with}

-- the kinds of the workers
abbrev pub is_works : Kind → Bool
is_works kind.Start = true
is_works kind.Done = true
is_works _ = false

held_stays : (e : Event) (w : ℕ) (old : Option TileKey) → is_works (kind_of e) ≡ false → held_after e w old ≡ old
held_stays (event.Start v q evicted) w old f = absurd cc
held_stays (event.DoneTile v q) w old f = absurd cc
held_stays _ w old f = refl

pub jobs_stay : (r new : Run) (a : ℕ) (e : Event) → new ≡ with_entry r a e → (jobs : List (Option Job)) → HaveJobs r jobs → is_works (kind_of e) ≡ false → HaveJobs new jobs
jobs_stay r new a e is jobs have f = subst (λ (z : Run). HaveJobs z jobs) (sym is) (record { count = have.count; each = each })
  where
    each : (w : ℕ) → w < r.workers → HasJob r.script (held w (past (with_entry r a e))) (slice_index_or jobs w None)
    each w lt =
        subst (λ (h : List Entry). HasJob r.script (held w h) (slice_index_or jobs w None)) (sym (past_with r (with_entry r a e) a e refl))
        (subst (λ o. HasJob r.script o (slice_index_or jobs w None)) (sym (held_stays e w (held w (past r)) f)) (have.each w lt))

-- a job that a worker has shows its key

job_shows : (s : ScriptModel) (holds : Option TileKey) (job : Job) → HasJob s holds (Some job) → KeyShows s job.key job.rect job.list.value
job_shows s None job has = absurd cc
job_shows s (Some q) job has = subst (λ (k : TileKey). KeyShows s k job.rect job.list.value) (sym has.key) has.shows

pub held_shows : (r : Run) (jobs : List (Option Job)) (w : ℕ) (o : Option Job) (job : Job) → HaveJobs r jobs → w < r.workers → slice_index_or jobs w o ≡ o → o ≡ Some job → KeyShows r.script job.key job.rect job.list.value
held_shows r jobs w o job have lt at is =
    job_shows r.script (held w (past r)) job
    (subst (λ (p : Option Job). HasJob r.script (held w (past r)) p) (get_or_default jobs w None o (subst (λ (n : ℕ). w < n) (sym have.count) lt) ∙ (at ∙ is)) (have.each w lt))
