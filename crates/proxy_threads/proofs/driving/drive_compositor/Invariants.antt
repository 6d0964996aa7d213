-- The turns so far went on, and the sink is the same.
use Rattle.std.proofs.Common.{◌≡◌, ◌≤◌}
use Rattle.proxy_threads.specs.inner.Goings.{Goes}
use Rattle.proxy_threads.proofs.driving.drive_compositor.Given as goal

abbrev pub invariant-loop : goal.invariant-loop
invariant-loop g l =
    Goes l.lock.id l.fn.comp.pass l.comp.pass l.fn.comp.lines.written l.comp.lines.written (g.K.Sink.held l.fn.comp.out.now) (g.K.Sink.held l.comp.out.now)
    × (g.K.Sink.faults l.fn.comp.out.now ≤ g.K.Sink.faults l.comp.out.now)
    × (g.K.Sink.place l.comp.out.now ≡ g.K.Sink.place l.fn.comp.out.now)
    × (l.comp.out.ghost_name ≡ l.fn.comp.out.ghost_name)
