-- The entries that were not written come with their scenes.
use Rattle.std.proofs.Common.{◌≡◌, ℕ, ◌≤◌, List, ◌++◌, length, take, drop, refl, ap, sym, ◌∙◌, subst, arith}
use Rattle.std.specs.Prelude.{reverse}
use Rattle.std.proofs.lemmas.List.{take_at, drop_at}
use Rattle.viz_scene.specs.Views.{SceneView}
use Rattle.model_history.specs.declared.history.Entry.{Entry}
use Rattle.model_history.specs.Legal.{Legal}
use Rattle.model_history.specs.Recordings.{pieces}
use Rattle.model_lockstep.proofs.Following.{then_on_ok}
use Rattle.impl_log.specs.Kept.{forgettable}
use Rattle.impl_log.specs.Runs.{Run, past}
use Rattle.proxy_single_thread.specs.Singles.{SingleModel}
use Rattle.recording_writer.specs.Parts.{WritesPart}
use Rattle.recording_writer.specs.Repeats.{Keeps}
use Rattle.recording_writer.specs.Scenes.{AllCome}
use Rattle.player_lockstep.specs.inner.Ways.{IsWritten}
use Rattle.player_lockstep.proofs.DrawnScenes.{news_come}
use Rattle.player_lockstep.proofs.lockstep.write_news.Goals as goal

pub write_entries-requires-clause-kept : goal.write_entries-requires-clause-kept
write_entries-requires-clause-kept g c κs within =
    let run : Run = c.args.single.now.run in
    let same : c.core-2.result.now ≡ run = c.core-2.ensures ∙ ap (λ (m : SingleModel). m.run) c.take_scenes-scenes.ensures.taken in
    subst (λ (r : Run). forgettable (past r) ≤ c.written-from.result) (sym same) (subst (λ (k : ℕ). forgettable (past run) ≤ k) (sym c.written-from.ensures.written) c.requires.kept)

pub write_entries-requires-clause-keeps : goal.write_entries-requires-clause-keeps
write_entries-requires-clause-keeps g c κs within =
    let run : Run = c.args.single.now.run in
    let same : c.core-2.result.now ≡ run = c.core-2.ensures ∙ ap (λ (m : SingleModel). m.run) c.take_scenes-scenes.ensures.taken in
    subst (λ (r : Run). Keeps r.script (reverse (take c.written-from.result r.entries)) r.entries c.args.recorder.now.last) (sym same)
    (subst (λ (k : ℕ). Keeps run.script (reverse (take k run.entries)) run.entries c.args.recorder.now.last) (sym c.written-from.ensures.written) c.requires.keeps)

pub write_entries-requires-clause-come : goal.write_entries-requires-clause-come
write_entries-requires-clause-come g c κs within =
    let single : SingleModel = c.args.single.now in
    let run : Run = single.run in
    let scenes : List SceneView = c.take_scenes-scenes.result.items in
    let same : c.core-2.result.now ≡ run = c.core-2.ensures ∙ ap (λ (m : SingleModel). m.run) c.take_scenes-scenes.ensures.taken in
    let legal : Legal run.script run.workers (past run) = subst (λ (r : Run). Legal r.script r.workers (past r)) c.core.ensures c.is_legal.ensures.legal in
    let few : single.written ≤ length run.entries = omega (arith, c.written-from.ensures.written, c.written-from.ensures.few) in
    subst (λ (r : Run). AllCome r.script (reverse (take c.written-from.result r.entries)) (drop c.written-from.result r.entries) scenes) (sym same)
    (subst (λ (k : ℕ). AllCome run.script (reverse (take k run.entries)) (drop k run.entries) scenes) (sym c.written-from.ensures.written)
    (news_come run.script run.workers run.entries single.written scenes few legal c.take_scenes-scenes.ensures.scenes))

pub returns-clause-all : goal.returns-clause-all
returns-clause-all g c = ap (λ (m : SingleModel). m.written) c.take_scenes-scenes.ensures.taken

pub returns-clause-written : goal.returns-clause-written
returns-clause-written g c =
    let run : Run = c.args.single.now.run in
    let same : c.core-2.result.now ≡ run = c.core-2.ensures ∙ ap (λ (m : SingleModel). m.run) c.take_scenes-scenes.ensures.taken in
    let kept : Run → Type 0 = λ (r : Run). Keeps r.script (past r) r.entries c.write_entries.new.self.last in
    then_on_ok c.write_entries.result (kept c.core-2.result.now) _ c.write_entries.ensures.written.keeps
    (λ keeps. subst (λ (m : SingleModel). IsWritten m c.write_entries.new.self) (sym c.take_scenes-scenes.ensures.taken) (record { all = refl; keeps = subst kept same keeps }))

pub returns-clause-bytes : goal.returns-clause-bytes
returns-clause-bytes g c = λ done news is count.
    let run : Run = c.args.single.now.run in
    let core : Run = c.core-2.result.now in
    let from : ℕ = c.written-from.result in
    let same : core ≡ run = c.core-2.ensures ∙ ap (λ (m : SingleModel). m.run) c.take_scenes-scenes.ensures.taken in
    let entries : core.entries ≡ done ++ news = ap (λ (r : Run). r.entries) same ∙ is in
    let long : length done ≡ from = sym (c.written-from.ensures.written ∙ count) in
    let front : take from core.entries ≡ done = ap (λ (xs : List Entry). take from xs) entries ∙ take_at done news from long in
    let behind : drop from core.entries ≡ news = ap (λ (xs : List Entry). drop from xs) entries ∙ drop_at done news from long in
    let whole : pieces core.script (reverse (take from core.entries)) (drop from core.entries) ≡ pieces run.script (reverse done) news =
    ap (λ (xs : List Entry). pieces core.script (reverse xs) (drop from core.entries)) front
    ∙ ap (λ (xs : List Entry). pieces core.script (reverse done) xs) behind
    ∙ ap (λ (r : Run). pieces r.script (reverse done) news) same in
    subst (λ (w : List ℕ). WritesPart (g.K.Sink.held c.args.out.now) (g.K.Sink.held c.write_entries.new.out) (c.args.recorder.now.lines.items ++ w) c.write_entries.new.self.lines.items c.write_entries.result) whole
    c.write_entries.ensures.written.bytes
