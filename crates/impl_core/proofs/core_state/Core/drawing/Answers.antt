-- The page is the active one, and its keys are the visible ones.
use Rattle.std.proofs.Common.{◌≡◌, ℤ, true, List, sym, ◌∙◌, ap, subst}
use Rattle.std.specs.Prelude.{option_copied, IfOk}
use Rattle.geom.specs.Covers.{covers}
use Rattle.page_properties.specs.OffsetMap.{offset_at}
use Rattle.page_layers.specs.TreePainting.{paint}
use Rattle.page_layers.specs.Pages.{viewport}
use Rattle.viz_scene.specs.Pixels.{scene_pixel}
use Rattle.model_history.specs.declared.history.Entry.{Entry}
use Rattle.model_history.specs.Scripts.{ScriptModel}
use Rattle.model_history.specs.Frames.{active, active_page}
use Rattle.model_history.specs.Scrolls.{active_offsets}
use Rattle.model_history.specs.Tiles.{active_tree, visible_in, missing_visible}
use Rattle.impl_scroll.specs.Standings.{StandingModel}
use Rattle.impl_ranks.specs.SeenTrees.{IsSeenWhere}
use Rattle.impl_log.specs.Runs.{Run, past}
use Rattle.impl_core.specs.Replies.{IsPicture}
use Rattle.impl_core.proofs.Pictures.{is_picture}
use Rattle.impl_scroll.proofs.InputFacts.{page_is}
use Rattle.impl_core.proofs.core_state.Core.drawing.Goals as goal

pub draw-requires-clause-now : goal.draw-requires-clause-now
draw-requires-clause-now c =
    let r : Run = c.self.inside.log in
    let h : List Entry = past r in
    let seen = c.in_ok-seen.ensures.tree r.script h c.self.invariant.host in
    let page : c.in-Some.page.now ≡ active_page r.script h = page_is r.script h c.in-Some.page.now (active h) (sym (ap option_copied c.in-Some.is) ∙ (c.pages.ensures r.script h c.self.invariant.host).active) in
    let keys : c.in_ok-keys.keys ≡ visible_in (active_tree r.script h) = c.in_ok-keys.ensures (active_tree r.script h) (subst (IsSeenWhere (active_tree r.script h)) (sym c.as_ref.ensures.value) seen) in
    let offsets : offset_at c.active.result.now ≡ active_offsets r.script h =
    ap offset_at (c.active.ensures.value ∙ ap (λ (st : StandingModel). st.active) c.standing.ensures) ∙ (λ i sc. c.self.invariant.host.standing.active sc i) in
    record { script = r.script; past = h; manages = c.self.invariant.tiles; page = page; offsets = offsets; keys = keys }

pub returns-clause-missing : goal.returns-clause-missing
returns-clause-missing c =
    let r : Run = c.self.inside.log in
    let h : List Entry = past r in
    let seen = c.in_ok-seen.ensures.tree r.script h c.self.invariant.host in
    let keys : c.in_ok-keys.keys ≡ visible_in (active_tree r.script h) = c.in_ok-keys.ensures (active_tree r.script h) (subst (IsSeenWhere (active_tree r.script h)) (sym c.as_ref.ensures.value) seen) in
    subst (λ (z : Run). IfOk c.draw.result (λ d. d.missing ≡ missing_visible z.script (past z))) c.self.view_is (c.draw.ensures.missing r.script h c.self.invariant.tiles keys)

pub returns-clause-picture : goal.returns-clause-picture
returns-clause-picture c =
    let r : Run = c.self.inside.log in
    let h : List Entry = past r in
    let seen = c.in_ok-seen.ensures.tree r.script h c.self.invariant.host in
    let page : c.in-Some.page.now ≡ active_page r.script h = page_is r.script h c.in-Some.page.now (active h) (sym (ap option_copied c.in-Some.is) ∙ (c.pages.ensures r.script h c.self.invariant.host).active) in
    let keys : c.in_ok-keys.keys ≡ visible_in (active_tree r.script h) = c.in_ok-keys.ensures (active_tree r.script h) (subst (IsSeenWhere (active_tree r.script h)) (sym c.as_ref.ensures.value) seen) in
    let offsets : offset_at c.active.result.now ≡ active_offsets r.script h =
    ap offset_at (c.active.ensures.value ∙ ap (λ (st : StandingModel). st.active) c.standing.ensures) ∙ (λ i sc. c.self.invariant.host.standing.active sc i) in
    let background = c.background-background.ensures ∙ ap (λ (s : ScriptModel). s.background) c.plan.ensures in
    let painted = subst (λ b. IfOk c.draw.result (λ d. (x y : ℤ) → covers (viewport c.in-Some.page.now) x y ≡ true → scene_pixel d.scene x y ≡ paint (active_page r.script h) (active_offsets r.script h) (missing_visible r.script h) b x y)) background
    (c.draw.ensures.pixels r.script h c.self.invariant.tiles page offsets keys) in
    subst (λ (z : Run). IfOk c.draw.result (λ d. IsPicture z.script (past z) d.scene)) c.self.view_is (is_picture (λ d. d.scene) r.script h c.in-Some.page.now c.draw.result page c.draw.ensures.width c.draw.ensures.height painted)
