-- The entries that were not taken come with their scenes, and their pieces were added.
use Rattle.std.proofs.Common.{◌≡◌, ℕ, ◌≤◌, List, ◌++◌, length, take, drop, ap, sym, ◌∙◌, subst, arith}
use Rattle.std.specs.Prelude.{reverse}
use Rattle.std.proofs.lemmas.List.{take_at, drop_at}
use Rattle.viz_scene.specs.Views.{SceneView}
use Rattle.model_history.specs.declared.history.Entry.{Entry}
use Rattle.model_history.specs.Legal.{Legal}
use Rattle.model_history.specs.Recordings.{pieces}
use Rattle.model_lockstep.proofs.Following.{then_on_ok}
use Rattle.impl_log.specs.Kept.{forgettable}
use Rattle.impl_log.specs.Runs.{Run, past}
use Rattle.proxy_single_thread.specs.Singles.{SingleModel}
use Rattle.recording_writer.specs.Batches.{held_of}
use Rattle.recording_writer.specs.Scenes.{AllCome}
use Rattle.player_lockstep.proofs.DrawnScenes.{news_come}
use Rattle.player_lockstep.proofs.batches.gather_news.Goals as goal

pub push_entries-requires-clause-kept : goal.push_entries-requires-clause-kept
push_entries-requires-clause-kept c =
    let run : Run = c.args.single.now.run in
    let same : c.core-2.result.now ≡ run = c.core-2.ensures ∙ ap (λ (m : SingleModel). m.run) c.take_scenes-scenes.ensures.taken in
    subst (λ (r : Run). forgettable (past r) ≤ c.written-from.result) (sym same) (subst (λ (k : ℕ). forgettable (past run) ≤ k) (sym c.written-from.ensures.written) c.requires)

pub push_entries-requires-clause-come : goal.push_entries-requires-clause-come
push_entries-requires-clause-come c =
    let single : SingleModel = c.args.single.now in
    let run : Run = single.run in
    let scenes : List SceneView = c.take_scenes-scenes.result.items in
    let same : c.core-2.result.now ≡ run = c.core-2.ensures ∙ ap (λ (m : SingleModel). m.run) c.take_scenes-scenes.ensures.taken in
    let legal : Legal run.script run.workers (past run) = subst (λ (r : Run). Legal r.script r.workers (past r)) c.core.ensures c.is_legal.ensures.legal in
    let few : single.written ≤ length run.entries = omega (arith, c.written-from.ensures.written, c.written-from.ensures.few) in
    subst (λ (r : Run). AllCome r.script (reverse (take c.written-from.result r.entries)) (drop c.written-from.result r.entries) scenes) (sym same)
    (subst (λ (k : ℕ). AllCome run.script (reverse (take k run.entries)) (drop k run.entries) scenes) (sym c.written-from.ensures.written)
    (news_come run.script run.workers run.entries single.written scenes few legal c.take_scenes-scenes.ensures.scenes))

pub returns-clause-bytes : goal.returns-clause-bytes
returns-clause-bytes c =
    let run : Run = c.args.single.now.run in
    let core : Run = c.core-2.result.now in
    let from : ℕ = c.written-from.result in
    let same : core ≡ run = c.core-2.ensures ∙ ap (λ (m : SingleModel). m.run) c.take_scenes-scenes.ensures.taken in
    then_on_ok c.push_entries.result _ _ c.push_entries.ensures
    (λ text. λ done news is count.
    let entries : core.entries ≡ done ++ news = ap (λ (r : Run). r.entries) same ∙ is in
    let long : length done ≡ from = sym (c.written-from.ensures.written ∙ count) in
    let front : take from core.entries ≡ done = ap (λ (xs : List Entry). take from xs) entries ∙ take_at done news from long in
    let behind : drop from core.entries ≡ news = ap (λ (xs : List Entry). drop from xs) entries ∙ drop_at done news from long in
    let whole : pieces core.script (reverse (take from core.entries)) (drop from core.entries) ≡ pieces run.script (reverse done) news =
    ap (λ (xs : List Entry). pieces core.script (reverse xs) (drop from core.entries)) front
    ∙ ap (λ (xs : List Entry). pieces core.script (reverse done) xs) behind
    ∙ ap (λ (r : Run). pieces r.script (reverse done) news) same in
    text ∙ ap (λ (w : List ℕ). held_of c.args.batch.now ++ w) whole)
