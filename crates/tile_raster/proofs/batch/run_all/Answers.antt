-- The chain gives what each job makes.
use Rattle.std.proofs.Common.{◌∙◌, ap}
use Rattle.tile_raster.proofs.Batches.{made_in_order}
use Rattle.tile_raster.proofs.batch.run_all.Goals as goal

pub returns : goal.returns
returns g c =
    let jobs = ap (λ it. it.base.slice.now) c.map.ensures.base ∙ (ap (λ it. it.slice.now) c.with_min_len.ensures.base ∙ c.par_iter.ensures) in
    let all = c.in_ok-collect.ensures in
    made_in_order c.args.jobs.items all.1.0 (all.1.1 ∙ jobs) all.0 all.1.2 c.in_ok-collect.field-0 all.2
