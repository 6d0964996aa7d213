-- The scenes of what was drawn, after an entry more.
use Rattle.std.proofs.Common.{◌≡◌, ℕ, suc, ◌-◌, false, List, [], ◌∷◌, ◌++◌, length, Ok, refl, sym, ◌∙◌, ap, subst, arith}
use Rattle.viz_scene.specs.Views.{SceneView}
use Rattle.model_states.specs.declared.kind.Kind.{Kind}
use Rattle.model_states.specs.declared.kind.Kind.TheVariants as kind
use Rattle.model_history.specs.declared.event.Event.{Event}
use Rattle.model_history.specs.declared.event.Event.TheVariants as event
use Rattle.model_history.specs.declared.history.Entry.{Entry}
use Rattle.model_history.specs.Scripts.{ScriptModel}
use Rattle.model_history.specs.EventFields.{kind_of}
use Rattle.model_history.proofs.DueFacts.{entry}
use Rattle.impl_log.specs.Runs.{Run, past, with_entry, Entered}
use Rattle.impl_core.specs.Replies.{is_draw_kind, IsPicture, DrawsScene, IsReply as Replied}
use Rattle.impl_core.specs.declared.reply.Reply.{Reply}
use Rattle.impl_core.specs.declared.reply.Reply.TheVariants as reply
use Rattle.proxy_single_thread.specs.Singles.{EndsWith, AddsScene, AreScenes}
use Rattle.proxy_single_thread.specs.declared.unwritten_scenes.UnwrittenScenes.{UnwrittenScenes}
use Rattle.proxy_single_thread.specs.inner.Sides.{IsShown}
use Rattle.proxy_single_thread.proofs.Steps.{past_with, entered_kind}

-- an event of another kind adds nothing
adds_none : (s : ScriptModel) (h : List Entry) (e : Event) (rest : List SceneView → Type 0) (scenes : List SceneView) → is_draw_kind (kind_of e) ≡ false → rest scenes → AddsScene s h e rest scenes
adds_none s h (event.Draw i missing) rest scenes f are = absurd cc
adds_none s h _ rest scenes f are = are

-- a draw adds its scene
adds_one : (s : ScriptModel) (h : List Entry) (e : Event) (rest : List SceneView → Type 0) (scenes : List SceneView) → kind_of e ≡ kind.Draw → EndsWith s h rest scenes → AddsScene s h e rest scenes
adds_one s h (event.Draw i missing) rest scenes k are = are
adds_one s h _ rest scenes k are = absurd cc

-- one entry more
longer : (es : List Entry) (e : Entry) → length (es ++ e ∷ []) ≡ suc (length es)
longer [] e = refl
longer (x ∷ xs) e = ap suc (longer xs e)

module _ (r new : Run) (a : ℕ) (e : Event) (is : new ≡ with_entry r a e) (shown after : UnwrittenScenes) (same : after.written ≡ shown.written) (are : IsShown r shown) where
  next_scenes : AddsScene r.script (past r) e (AreScenes r.script are.fresh (past r)) after.scenes.items → IsShown new after
  next_scenes adds =
      subst (λ (z : Run). IsShown z after) (sym is) (record {
        fresh = suc are.fresh;
        count = let more = longer r.entries (entry a e) in let count = are.count in omega (arith, more, count, same);
        scenes = subst (λ (h : List Entry). AreScenes r.script (suc are.fresh) h after.scenes.items) (sym (past_with r (with_entry r a e) a e refl)) adds;
      })

  -- nothing more was drawn
  pub shown_stays : is_draw_kind (kind_of e) ≡ false → after.scenes.items ≡ shown.scenes.items → IsShown new after
  shown_stays f kept = next_scenes (adds_none r.script (past r) e (AreScenes r.script are.fresh (past r)) after.scenes.items f (subst (AreScenes r.script are.fresh (past r)) (sym kept) are.scenes))

  -- one scene more was drawn
  pub shown_more : kind_of e ≡ kind.Draw → (scene : SceneView) → IsPicture r.script (past r) scene → after.scenes.items ≡ shown.scenes.items ++ scene ∷ [] → IsShown new after
  shown_more k scene picture more =
      next_scenes (adds_one r.script (past r) e (AreScenes r.script are.fresh (past r)) after.scenes.items k (record { front = shown.scenes.items; scene = scene; are = more; picture = picture; earlier = are.scenes }))

module _ (r new : Run) (k : Kind) (shown after : UnwrittenScenes) (same : after.written ≡ shown.written) (are : IsShown r shown) where
  -- after an event that shows nothing
  pub shown_plain : (y : Reply) → Replied r k new (Ok y) → y ≡ reply.Plain → after.scenes.items ≡ shown.scenes.items → IsShown new after
  shown_plain y answer is kept = let a : Replied r k new (Ok reply.Plain) = subst (λ (z : Reply). Replied r k new (Ok z)) is answer in plain a.0 a.1
    where
      plain : is_draw_kind k ≡ false → Entered r k 0 new → IsShown new after
      plain f e = shown_stays r new 0 e.event e.is_entered shown after same are (ap is_draw_kind (entered_kind r new k 0 e) ∙ f) kept

  -- after a draw
  pub shown_drawn : (y : Reply) (scene : SceneView) → Replied r k new (Ok y) → y ≡ reply.Scene scene → after.scenes.items ≡ shown.scenes.items ++ scene ∷ [] → IsShown new after
  shown_drawn y scene answer is more = let a : Replied r k new (Ok (reply.Scene scene)) = subst (λ (z : Reply). Replied r k new (Ok z)) is answer in drawn a.1
    where
      drawn : DrawsScene r new scene → IsShown new after
      drawn d = shown_more r new 0 d.entered.event d.entered.is_entered shown after same are (entered_kind r new kind.Draw 0 d.entered) scene d.picture more

-- the scenes are those of the entries after the written ones
pub scenes_fresh : (r : Run) (shown : UnwrittenScenes) → IsShown r shown → AreScenes r.script (length r.entries - shown.written) (past r) shown.scenes.items
scenes_fresh r shown are =
    let count = are.count in
    let same : length r.entries - shown.written ≡ are.fresh = omega (arith, count) in
    subst (λ (n : ℕ). AreScenes r.script n (past r) shown.scenes.items) (sym same) are.scenes

-- nothing is left where all was written
pub all_written : (r : Run) (after : UnwrittenScenes) → after.written ≡ length r.entries → after.scenes.items ≡ [] → IsShown r after
all_written r after all none = record { fresh = 0; count = omega (arith, all); scenes = none }
