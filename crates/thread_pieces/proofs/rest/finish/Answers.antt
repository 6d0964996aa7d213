-- What was taken, what is left in the ring, what was kept and the last lines are what the sink holds.
use Rattle.std.proofs.Common.{◌≡◌, ◌++◌, append_assoc, ap, refl, sym, ◌∙◌}
use Rattle.std.proofs.lemmas.Grind.{flat_map-append}
use Rattle.rtrb.specs.Ring.{known_items, received, sent}
use Rattle.thread_pieces.specs.Shots.{all_shown, shown}
use Rattle.thread_pieces.specs.Ring.{bytes_taken, whole}
use Rattle.thread_pieces.proofs.Gains.{puts_same}
use Rattle.thread_pieces.proofs.RingGains.{adds_both}
use Rattle.thread_pieces.proofs.rest.finish.Goals as goal

pub returns-clause-bytes : goal.returns-clause-bytes
returns-clause-bytes g c = λ first given.
    let looked = c.slots_beside-count in
    let old = g.K.Sink.held c.args.out.now in
    let left = known_items looked.new.self in
    let taken = bytes_taken c.args.presenter in
    let kept = all_shown c.args.sink.kept.items in
    let lines = c.as_slice.result.now in
    let pieces : sent c.args.sink.producer ≡ received c.args.presenter.consumer ++ left = sym looked.ensures.producer.1 ∙ sym looked.ensures.fifo ∙ ap (λ shots. shots ++ left) looked.ensures.looked.1 in
    let all : all_shown (sent c.args.sink.producer) ≡ taken ++ all_shown left = ap all_shown pieces ∙ flat_map-append shown (received c.args.presenter.consumer) left in
    let parts : taken ++ ((all_shown left ++ kept) ++ lines) ≡ whole c.args.sink =
    sym (append_assoc taken (all_shown left ++ kept) lines)
    ∙ ap (λ bytes. bytes ++ lines) (sym (append_assoc taken (all_shown left) kept) ∙ ap (λ bytes. bytes ++ kept) (sym all))
    ∙ ap (λ bytes. (all_shown (sent c.args.sink.producer) ++ kept) ++ bytes) c.as_slice.ensures.value in
    let both = adds_both c.args.served c.empty-state.result c.put_kept-state.result old (g.K.Sink.held c.empty-state.new.out) (g.K.Sink.held c.put_kept-state.new.out) (all_shown left) kept (all_shown left ++ kept) refl c.empty-state.ensures.adds c.put_kept-state.ensures.adds in
    let adds = adds_both c.args.served c.put_kept-state.result c.put_lines.result old (g.K.Sink.held c.put_kept-state.new.out) (g.K.Sink.held c.put_lines.new.out) (all_shown left ++ kept) lines ((all_shown left ++ kept) ++ lines) refl both c.put_lines.ensures.adds in
    puts_same first (g.K.Sink.held c.put_lines.new.out) _ (whole c.args.sink) c.put_lines.result parts (adds first taken given)
