-- The step is judged after the pieces before it.
use Rattle.std.proofs.Common.{ℕ, [], ◌∷◌, ◌++◌, sym, ◌∙◌, subst, Ok, Err}
use Rattle.std.specs.Prelude.{Result}
use Rattle.recording_text.specs.declared.cursor.EventSpan.{EventSpan}
use Rattle.recording_text.specs.Taking.{TakesPiece, TakesNext, Advances}
use Rattle.recording_check.specs.declared.verdict.Verdict.{Verdict}
use Rattle.recording_check.specs.inner.Judgements.{AreJudged, JudgesParts}
use Rattle.recording_check.proofs.JudgedPieces.{moves_on, ends_here, stops_here, told, piece_in}
use Rattle.recording_check.proofs.judging.judge_parts.Goals as goal

pub returns-in-Err : goal.returns-in-Err
returns-in-Err c =
    let i = c.parts.invariant in
    let stop : TakesNext c.args.bytes.now c.args.views.now c.parts.cursor c.take_piece.new.cursor (Err c.in-Err.place) =
    subst (λ (r : Result EventSpan ℕ). TakesNext c.args.bytes.now c.args.views.now c.parts.cursor c.take_piece.new.cursor r) c.in-Err.is c.in_ok-taken.ensures.takes in
    stops_here c.args.bytes.now c.args.views.now c.args.start c.parts.cursor c.take_piece.new.cursor c.in-Err.place i.0 i.1 stop

pub returns-then-last : goal.returns-then-last
returns-then-last c =
    let i = c.parts.invariant in
    let takes : TakesPiece c.args.bytes.now c.args.views.now c.parts.cursor c.take_piece.new.cursor c.in-Ok.step =
    subst (λ (r : Result EventSpan ℕ). TakesNext c.args.bytes.now c.args.views.now c.parts.cursor c.take_piece.new.cursor r) c.in-Ok.is c.in_ok-taken.ensures.takes in
    let are = ends_here c.args.bytes.now c.args.views.now c.args.start c.parts.cursor c.take_piece.new.cursor c.in-Ok.step i.0 i.1 takes (sym c.is_end-last.ensures ∙ c.if-last.true) in
    let judged : AreJudged (i.0 ++ piece_in c.in-Ok.step takes.image ∷ []) c.judge_next.new.judge c.in_ok-wrong.wrong = c.in_ok-wrong.ensures.judged i.0 takes.image takes.stands i.1.index i.5 in
    subst (λ (v : Verdict). JudgesParts c.args.bytes.now c.args.judge.now.script c.args.judge.now.workers c.args.views.now c.args.start (Ok v)) (sym c.verdict_of.ensures)
    (told c.args.bytes.now c.args.views.now c.args.start c.args.judge.now.script c.args.judge.now.workers (i.0 ++ piece_in c.in-Ok.step takes.image ∷ []) c.judge_next.new.judge c.in_ok-wrong.wrong are
    (c.in_ok-wrong.ensures.script ∙ i.3) (c.in_ok-wrong.ensures.workers ∙ i.4) judged)

pub parts-preserved : goal.parts-preserved
parts-preserved c =
    let i = c.parts.invariant in
    let takes : TakesPiece c.args.bytes.now c.args.views.now c.parts.cursor c.take_piece.new.cursor c.in-Ok.step =
    subst (λ (r : Result EventSpan ℕ). TakesNext c.args.bytes.now c.args.views.now c.parts.cursor c.take_piece.new.cursor r) c.in-Ok.is c.in_ok-taken.ensures.takes in
    let further : Advances c.args.bytes.now c.parts.cursor c.take_piece.new.cursor (Ok c.in-Ok.step) =
    subst (λ (r : Result EventSpan ℕ). Advances c.args.bytes.now c.parts.cursor c.take_piece.new.cursor r) c.in-Ok.is c.in_ok-taken.ensures.advances in (
      i.0 ++ piece_in c.in-Ok.step takes.image ∷ [],
      moves_on c.args.bytes.now c.args.views.now c.args.start c.parts.cursor c.take_piece.new.cursor c.in-Ok.step i.0 i.1 takes i.2.at further.1.at (sym c.is_end-last.ensures ∙ c.if-last.false),
      further.1,
      c.in_ok-wrong.ensures.script ∙ i.3,
      c.in_ok-wrong.ensures.workers ∙ i.4,
      c.in_ok-wrong.ensures.judged i.0 takes.image takes.stands i.1.index i.5,
    )
