-- What a write took is written; an interrupted one took nothing.
use Rattle.std.proofs.Common.{rules, ℕ, List, append_assoc, ◌≡◌, ◌∙◌, ◌++◌, take, drop, ap}
use Rattle.std.proofs.lemmas.List.{take_rest}
use Rattle.std.proofs.KnownBytes.{Appends-trans}
use Rattle.byte_io.proofs.Written.{appends_kept, still_piece}
use Rattle.byte_io.proofs.std_sink.StdSinkSink.put.Goals as goal
use Rattle.byte_io.proofs.std_sink.StdSinkSink.put.Goals.{in-Ok, in-Err}

pub loop-preserved : goal.loop-preserved
loop-preserved g c =
    let i = c.loop.invariant in
    elim c.match-hand.branch [
      | in-Ok w ↦
          let left : c.match-hand.rest.now ≡ drop w.in-Ok.count c.loop.rest.now = ap (λ z. z.now) w.rest-is ∙ take_rest c.loop.rest.now w.in-Ok.count in (
            i.0 ++ take w.in-Ok.count c.loop.rest.now,
            ap (λ rest. (i.0 ++ take w.in-Ok.count c.loop.rest.now) ++ rest) left ∙ still_piece w.in-Ok.count i.0 c.loop.rest.now c.args.piece.now i.1,
            Appends-trans _ _ _ i.0 (take w.in-Ok.count c.loop.rest.now) i.2 w.in-Ok.ensures.writer,
            w.in-Ok.ensures.bytes ∙ ap (λ (l : List ℕ). l ++ take w.in-Ok.count c.loop.rest.now) i.3 ∙ append_assoc _ i.0 (take w.in-Ok.count c.loop.rest.now),
            search rules,
          )
      | in-Err w ↦
          let left : c.match-hand.rest.now ≡ c.loop.rest.now = ap (λ z. z.now) w.rest-is in
          (i.0, ap (λ rest. i.0 ++ rest) left ∙ i.1, appends_kept _ _ _ i.0 i.2 w.in-Err.ensures.writer, w.in-Err.ensures.bytes ∙ i.3, search rules)
    ]
