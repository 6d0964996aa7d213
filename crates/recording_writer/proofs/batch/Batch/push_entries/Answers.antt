-- The entries before, the current entry and those left are the whole.
use Rattle.std.proofs.Common.{◌≡◌, ℕ, ◌+◌, ◌≤◌, List, [], ◌++◌, length, take, drop, rules, refl, ap, sym, ◌∙◌, append_assoc, append-nil, subst, arith}
use Rattle.std.specs.Prelude.{reverse, slice_get, Some}
use Rattle.std.specs.Vec.Iter.{into_iter_items}
use Rattle.std.proofs.lemmas.List.{drop_all}
use Rattle.viz_scene.specs.Views.{SceneView}
use Rattle.model_history.specs.declared.history.Entry.{Entry}
use Rattle.model_history.specs.Recordings.{piece, pieces}
use Rattle.model_history.specs.Scripts.{ScriptModel}
use Rattle.recording_writer.specs.Batches.{held_of}
use Rattle.recording_writer.specs.Scenes.{AllCome}
use Rattle.recording_writer.proofs.NextEntries.{next_pieces, next_comes}
use Rattle.recording_writer.proofs.batch.Batch.push_entries.Goals as goal

pub loop-at-init : goal.loop-at-init
loop-at-init c =
    let s : ScriptModel = c.args.core.now.script in
    let from : ℕ = c.args.from in
    let es : List Entry = c.args.core.now.entries in
    record {
      text = refl;
      come = subst (λ (xs : List Entry). AllCome s (reverse (take from xs)) (drop from xs) (into_iter_items c.into_iter-queue.result)) (sym c.history-history.ensures.entries)
          (subst (λ (scenes : List SceneView). AllCome s (reverse (take from es)) (drop from es) scenes) (sym c.into_iter-queue.ensures.rest) c.requires.come);
      count = search rules;
    }

pub entry-entry-requires-clause-kept : goal.entry-entry-requires-clause-kept
entry-entry-requires-clause-kept c =
    let few = c.history-history.ensures.kept in
    let kept = c.requires.kept in
    omega (arith, few, kept, c.loop-at.auto.at)

pub loop-at-preserved : goal.loop-at-preserved
loop-at-preserved c =
    let i = c.loop-at.invariant in
    let s : ScriptModel = c.args.core.now.script in
    let at : ℕ = c.loop-at.at in
    let es : List Entry = c.history-history.result.now.entries in
    let e : Entry = c.entry-entry.result.now in
    let h : List Entry = reverse (take at es) in
    let there : slice_get es at ≡ Some e = c.entry-entry.ensures in
    let comes = next_comes s es at e there (into_iter_items c.loop-at.queue) i.come in
    let later : List ℕ = pieces s (reverse (take (at + 1) es)) (drop (at + 1) es) in
    let held : List ℕ = held_of c.loop-at.self in
    record {
      text =
          ap (λ (w : List ℕ). w ++ later) (c.in_ok-push_entry.ensures.bytes s h comes.0)
          ∙ append_assoc held (piece s h e.event) later
          ∙ ap (λ (w : List ℕ). held ++ w) (sym (next_pieces s es at e there))
          ∙ i.text;
      come = subst (λ (scenes : List SceneView). AllCome s (reverse (take (at + 1) es)) (drop (at + 1) es) scenes) (sym c.in_ok-push_entry.ensures.left) comes.1;
      count = c.in_ok-push_entry.ensures.count;
    }

pub returns : goal.returns
returns c =
    let i = c.loop-at.invariant in
    let s : ScriptModel = c.args.core.now.script in
    let from : ℕ = c.args.from in
    let at : ℕ = c.loop-at.at in
    let es : List Entry = c.history-history.result.now.entries in
    let held : List ℕ = held_of c.loop-at.self in
    let over : length es ≤ at = omega (arith, c.len-at-end.ensures) in
    let none : pieces s (reverse (take at es)) (drop at es) ≡ [] = ap (λ (xs : List Entry). pieces s (reverse (take at es)) xs) (drop_all at es over) in
    subst (λ (xs : List Entry). held ≡ held_of c.args.self.now ++ pieces s (reverse (take from xs)) (drop from xs)) c.history-history.ensures.entries
    (sym (append-nil held) ∙ ap (λ (w : List ℕ). held ++ w) (sym none) ∙ i.text)
