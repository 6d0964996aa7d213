-- A piece more was put, or a prefix of it; after a refusal nothing more.
use Rattle.std.proofs.Common.{length, ap, sym, ◌∙◌}
use Rattle.std.proofs.lemmas.Iterator.Adapters.{YieldsList-from_vec}
use Rattle.std.proofs.lemmas.Iterator.Consumers.{YieldsList-end}
use Rattle.std.proofs.lemmas.List.{map-id}
use Rattle.thread_pieces.specs.Shots.{all_shown, shown}
use Rattle.thread_pieces.proofs.Parts.{one_more}
use Rattle.thread_pieces.proofs.PutSteps.{presents_as, presents_then}
use Rattle.thread_pieces.proofs.rest.put_kept.Goals as goal

pub loop-piece-preserved : goal.loop-piece-preserved
loop-piece-preserved g c =
    let piece = c.in-Some.piece in
    let put = c.present_one-state in
    presents_then g.K.Sink c.args.served c.loop-piece.state put.result c.args.out.now c.loop-piece.out put.new.out (all_shown c.loop-piece.yielded) (shown piece) _
    (sym (one_more shown c.loop-piece.yielded piece)) c.loop-piece.invariant put.ensures

pub returns : goal.returns
returns g c =
    let start = c.into_iter-piece-iterator in
    let kept = c.args.kept.items in
    let yielded = c.loop-piece.yielded in
    let road = YieldsList-from_vec {s = start.result} kept start.ensures.into_iter_gives.1 (start.result.rest.ok.0 ∙ ap length start.ensures.into_iter_gives.1) in
    let all = YieldsList-end road yielded c.loop-piece.piece-iterator c.loop-piece.yielded_by c.next.result c.next.new.self c.in-None.is c.next.ensures.steps in
    presents_as g.K.Sink c.args.served c.loop-piece.state c.args.out.now c.loop-piece.out (all_shown yielded) (all_shown kept) (ap all_shown (sym (map-id yielded) ∙ all.0)) c.loop-piece.invariant
