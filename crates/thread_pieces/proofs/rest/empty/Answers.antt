-- A piece more was put, or a prefix of it; after a refusal nothing more.
use Rattle.std.proofs.Common.{◌≡◌, ◌+◌, ◌≤◌, ◌∷◌, ◌++◌, drop, length, take, ap, sym, ◌∙◌, arith}
use Rattle.std.proofs.lemmas.List.{take_all}
use Rattle.rtrb.specs.Ring.{known_items}
use Rattle.thread_pieces.specs.Shots.{all_shown, shown}
use Rattle.thread_pieces.proofs.Parts.{one_more}
use Rattle.thread_pieces.proofs.Popped.{pop_left, pop_taken}
use Rattle.thread_pieces.proofs.PutSteps.{presents_as, presents_then}
use Rattle.thread_pieces.proofs.rest.empty.Goals as goal

pub loop-preserved : goal.loop-preserved
loop-preserved g c =
    let items = known_items c.args.consumer.now in
    let n = c.loop.counter in
    let piece = c.pop_known-piece.result in
    let left = known_items c.pop_known-piece.new.self in
    let next : drop n items ≡ piece ∷ left = sym c.loop.invariant.left ∙ c.pop_known-piece.ensures.received.1 in
    let more : all_shown (take n items) ++ shown piece ≡ all_shown (take (n + 1) items) = sym (ap all_shown (pop_taken n items piece left next) ∙ one_more shown (take n items) piece) in
    let put = c.present_one-state in
    record {
      left = sym (pop_left n items piece left next);
      step = presents_then g.K.Sink c.args.served c.loop.state put.result c.args.out.now c.loop.out put.new.out (all_shown (take n items)) (shown piece) (all_shown (take (n + 1) items)) more c.loop.invariant.step put.ensures;
    }

pub returns : goal.returns
returns g c =
    let items = known_items c.args.consumer.now in
    let n = c.loop.counter in
    let over : length items ≤ n = grind arith in
    presents_as g.K.Sink c.args.served c.loop.state c.args.out.now c.loop.out (all_shown (take n items)) (all_shown items) (ap all_shown (take_all n items over)) c.loop.invariant.step
