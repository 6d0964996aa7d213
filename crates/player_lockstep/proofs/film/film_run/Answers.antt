-- The whole run, or a prefix of it.
use Rattle.player_lockstep.proofs.Received.{began, film_all, film_cause, film_grows, fresh_course, fresh_film}
use Rattle.player_lockstep.proofs.film.film_run.Goals as goal

pub play_all-requires-clause-course : goal.play_all-requires-clause-course
play_all-requires-clause-course g c κs within = fresh_course c.args.script.now c.inputs.result.now c.args.single.now c.requires c.is_accepted.ensures.accepted c.inputs.ensures

pub play_all-requires-clause-has : goal.play_all-requires-clause-has
play_all-requires-clause-has g c κs within =
    let held = g.K.Sink.held c.args.out.now in
    let faults = g.K.Sink.faults c.args.out.now in
    (began held faults, fresh_film c.args.script.now c.args.single.now held faults c.requires)

pub returns-clause-bytes : goal.returns-clause-bytes
returns-clause-bytes g c =
    let held = g.K.Sink.held c.args.out.now in
    let faults = g.K.Sink.faults c.args.out.now in
    let start = fresh_film c.args.script.now c.args.single.now held faults c.requires in
    film_all c.args.script.now c.args.single.now c.play_all.new.core held (g.K.Sink.held c.play_all.new.out) faults (g.K.Sink.faults c.play_all.new.out) c.requires c.play_all.result
    c.play_all.ensures.lockstep (c.play_all.ensures.has (began held faults) start) (c.play_all.ensures.stopped (began held faults) start)

pub returns-clause-grows : goal.returns-clause-grows
returns-clause-grows g c =
    let held = g.K.Sink.held c.args.out.now in
    let faults = g.K.Sink.faults c.args.out.now in
    let start = fresh_film c.args.script.now c.args.single.now held faults c.requires in
    film_grows c.args.script.now c.args.single.now c.play_all.new.core held (g.K.Sink.held c.play_all.new.out) faults (g.K.Sink.faults c.play_all.new.out) c.requires c.play_all.result
    (c.play_all.ensures.has (began held faults) start) (c.play_all.ensures.stopped (began held faults) start)

pub returns-clause-cause : goal.returns-clause-cause
returns-clause-cause g c =
    let held = g.K.Sink.held c.args.out.now in
    let faults = g.K.Sink.faults c.args.out.now in
    let start = fresh_film c.args.script.now c.args.single.now held faults c.requires in
    film_cause c.args.script.now c.args.single.now c.play_all.new.core held (g.K.Sink.held c.play_all.new.out) faults (g.K.Sink.faults c.play_all.new.out) c.requires c.play_all.result
    (c.play_all.ensures.stopped (began held faults) start)
