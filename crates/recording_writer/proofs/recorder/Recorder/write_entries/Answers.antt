-- The entries before, the current entry and those left are the whole.
use Rattle.std.proofs.Common.{◌≡◌, ℕ, ◌+◌, ◌≤◌, List, [], ◌++◌, length, take, drop, rules, refl, ap, sym, ◌∙◌, append-nil, subst, arith}
use Rattle.std.specs.Prelude.{reverse, slice_get, Some, ⊤, Ok}
use Rattle.std.specs.Vec.Iter.{into_iter_items}
use Rattle.std.proofs.lemmas.List.{take_all, drop_all}
use Rattle.byte_io.specs.Pieces.{GainsPrefix}
use Rattle.viz_scene.specs.Views.{SceneView}
use Rattle.model_history.specs.declared.history.Entry.{Entry}
use Rattle.model_history.specs.Recordings.{piece, pieces}
use Rattle.model_history.specs.Scripts.{ScriptModel}
use Rattle.byte_io.specs.declared.writing.PutFault.{PutFault}
use Rattle.recording_writer.specs.Repeats.{Keeps}
use Rattle.recording_writer.specs.Scenes.{AllCome}
use Rattle.recording_writer.specs.Steps.{WritesOn}
use Rattle.thread_pieces.proofs.Gains.{appends_nothing, gains_both, gains_front}
use Rattle.recording_writer.proofs.Gains.{piece_moves, piece_stops}
use Rattle.recording_writer.proofs.Places.{newest_before}
use Rattle.recording_writer.proofs.NextEntries.{next_pieces, next_comes}
use Rattle.recording_writer.proofs.recorder.Recorder.write_entries.Goals as goal

pub loop-at-init : goal.loop-at-init
loop-at-init g c =
    let s : ScriptModel = c.args.core.now.script in
    let from : ℕ = c.args.from in
    let es : List Entry = c.args.core.now.entries in
    record {
      part = ([], refl {a = c.args.self.now.lines.items ++ pieces s (reverse (take from c.history-history.result.now.entries)) (drop from c.history-history.result.now.entries)}, appends_nothing (g.K.Sink.held c.args.out.now));
      keeps = subst (λ (xs : List Entry). Keeps s (reverse (take from xs)) xs c.args.self.now.last) (sym c.history-history.ensures.entries) c.requires.keeps;
      come = subst (λ (xs : List Entry). AllCome s (reverse (take from xs)) (drop from xs) (into_iter_items c.into_iter-queue.result)) (sym c.history-history.ensures.entries)
          (subst (λ (scenes : List SceneView). AllCome s (reverse (take from es)) (drop from es) scenes) (sym c.into_iter-queue.ensures.rest) c.requires.come);
      count = search rules;
      grows = omega arith;
    }

pub entry-entry-requires-clause-kept : goal.entry-entry-requires-clause-kept
entry-entry-requires-clause-kept g c =
    let few = c.history-history.ensures.kept in
    let kept = c.requires.kept in
    omega (arith, few, kept, c.loop-at.auto.at)

pub returns-in-Err-clause-written : goal.returns-in-Err-clause-written
returns-in-Err-clause-written g c =
    let i = c.loop-at.invariant in
    let s : ScriptModel = c.args.core.now.script in
    let from : ℕ = c.args.from in
    let at : ℕ = c.loop-at.at in
    let es : List Entry = c.history-history.result.now.entries in
    let e : Entry = c.entry-entry.result.now in
    let h : List Entry = reverse (take at es) in
    let there : slice_get es at ≡ Some e = c.entry-entry.ensures in
    let comes = next_comes s es at e there (into_iter_items c.loop-at.queue) i.come in
    let w = c.in-Err.ensures.written s h i.keeps comes.0 in
    let later : List ℕ = pieces s (reverse (take (at + 1) es)) (drop (at + 1) es) in
    let lines : List ℕ = c.loop-at.self.lines.items in
    record {
      bytes =
          subst (λ (xs : List Entry). GainsPrefix (g.K.Sink.held c.args.out.now) (g.K.Sink.held c.write_entry.new.out) (c.args.self.now.lines.items ++ pieces s (reverse (take from xs)) (drop from xs)))
          c.history-history.ensures.entries
          (gains_front _ _ _ i.part.0 (lines ++ piece s h e.event) later _ i.part.2 w.bytes (piece_stops i.part.0 lines (piece s h e.event) later _ _ (next_pieces s es at e there) i.part.1));
      keeps = tt;
    }

pub loop-at-preserved : goal.loop-at-preserved
loop-at-preserved g c =
    let i = c.loop-at.invariant in
    let s : ScriptModel = c.args.core.now.script in
    let at : ℕ = c.loop-at.at in
    let es : List Entry = c.history-history.result.now.entries in
    let e : Entry = c.entry-entry.result.now in
    let h : List Entry = reverse (take at es) in
    let there : slice_get es at ≡ Some e = c.entry-entry.ensures in
    let comes = next_comes s es at e there (into_iter_items c.loop-at.queue) i.come in
    let w = c.in_default.ensures.written s h i.keeps comes.0 in
    let later : List ℕ = pieces s (reverse (take (at + 1) es)) (drop (at + 1) es) in
    let lines : List ℕ = c.loop-at.self.lines.items in
    record {
      part = (
        i.part.0 ++ w.bytes.0,
        piece_moves i.part.0 lines w.bytes.0 c.write_entry.new.self.lines.items (piece s h e.event) later _ _ w.bytes.1 (next_pieces s es at e there) i.part.1,
        gains_both _ _ _ i.part.0 w.bytes.0 i.part.2 w.bytes.2,
      );
      keeps = subst (λ (past : List Entry). Keeps s past es c.follow.new.self) (sym (newest_before es at e there)) (c.follow.ensures s h es e refl comes.0.stays w.keeps);
      come = subst (λ (scenes : List SceneView). AllCome s (reverse (take (at + 1) es)) (drop (at + 1) es) scenes) (sym c.in_default.ensures.left) comes.1;
      count = c.in_default.ensures.count;
      grows = omega (arith, c.in_default.ensures.grows, i.grows);
    }

pub returns-clause-written : goal.returns-clause-written
returns-clause-written g c =
    let i = c.loop-at.invariant in
    let s : ScriptModel = c.args.core.now.script in
    let from : ℕ = c.args.from in
    let at : ℕ = c.loop-at.at in
    let es : List Entry = c.history-history.result.now.entries in
    let lines : List ℕ = c.loop-at.self.lines.items in
    let over : length es ≤ at = omega (arith, c.len-at-end.ensures) in
    let none : pieces s (reverse (take at es)) (drop at es) ≡ [] = ap (λ (xs : List Entry). pieces s (reverse (take at es)) xs) (drop_all at es over) in
    subst
    (λ (xs : List Entry).
    WritesOn {X = ⊤} {E = PutFault} s (reverse xs) xs (g.K.Sink.held c.args.out.now) (g.K.Sink.held c.loop-at.out) (c.args.self.now.lines.items ++ pieces s (reverse (take from xs)) (drop from xs)) c.loop-at.self (Ok tt))
    c.history-history.ensures.entries
    (record {
      bytes = (i.part.0, ap (λ (w : List ℕ). i.part.0 ++ w) (sym (append-nil lines) ∙ ap (λ (w : List ℕ). lines ++ w) (sym none)) ∙ i.part.1, i.part.2);
      keeps = subst (λ (past : List Entry). Keeps s (reverse past) es c.loop-at.self.last) (take_all at es over) i.keeps;
    })
