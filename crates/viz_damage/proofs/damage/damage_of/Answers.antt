-- Passes that are alike outside the rects make scenes that are.
use Rattle.std.proofs.Common.{◌≡◌, ℤ, List, [], rules, sym, ◌∙◌, ap, subst}
use Rattle.geom.specs.declared.Rect.{Rect}
use Rattle.region.specs.Points.{covered}
use Rattle.viz_scene.specs.Views.{QuadView, passes_view}
use Rattle.viz_damage.specs.inner.Alike.{PassesAlike}
use Rattle.viz_damage.proofs.PassSteps.{sound_wide, scenes_alike}
use Rattle.viz_damage.proofs.damage.damage_of.Goals as goal

pub changed_rects-requires-clause-old : goal.changed_rects-requires-clause-old
changed_rects-requires-clause-old c =
    let s = c.passes-before.ensures.sound in
    rw (c.passes-before.ensures.value) (sound_wide c.args.old.now.w c.args.old.now.h 0 c.args.old.now.passes s.wide s.tall s.sound)

pub changed_rects-requires-clause-new : goal.changed_rects-requires-clause-new
changed_rects-requires-clause-new c =
    let s = c.passes-after.ensures.sound in
    rw (c.passes-after.ensures.value) (sound_wide c.args.new.now.w c.args.new.now.h 0 c.args.new.now.passes s.wide s.tall s.sound)

pub returns : goal.returns
returns c =
    let same : (x y : ℤ) → covered c.in_ok-region-2.region x y ≡ covered c.as_slice.result.now x y = c.in_ok-region-2.ensures in
    scenes_alike c.args.old.now c.args.new.now c.in_ok-region-2.region c.as_slice.result.now (c.can_be_compared.ensures.background (search rules)) same
    (λ x y out.
    subst (λ (ps : List (List QuadView)). PassesAlike x y [] ps c.args.new.now.passes) c.passes-before.ensures.value
    (subst (λ (qs : List (List QuadView)). PassesAlike x y [] (passes_view c.passes-before.result.now) qs) c.passes-after.ensures.value
    (c.in_ok-rects.ensures.alike x y (ap (λ (rs : List Rect). covered rs x y) (sym c.as_slice.ensures.value) ∙ out))))
