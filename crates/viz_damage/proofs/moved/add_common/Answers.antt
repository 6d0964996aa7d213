-- The common rows lie in both parts.
use Rattle.std.proofs.Common.{◌≡◌, ◌+◌, ℤ, pos, ◌+ℤ◌, ◌<ℤ◌, subst, arith, to_z, of_z, w32}
use Rattle.std.proofs.lemmas.Int.{ints}
use Rattle.geom.specs.Covers.{IsSound}
use Rattle.page_display_list.specs.Bitmaps.{near}
use Rattle.viz_damage.specs.inner.Moved.{AreRowsAlike}
use Rattle.viz_damage.proofs.MovedSteps.{near_is, no_rows, ends_inside}
use Rattle.viz_damage.proofs.moved.add_common.Goals as goal

pub returns-then-rows-clause-alike : goal.returns-then-rows-clause-alike
returns-then-rows-clause-alike c =
    no_rows c.args.image.now c.args.old.at c.args.new.at c.args.old.from c.args.new.from c.args.damage.now.items c.args.rows.top c.args.rows.end
    (omega (arith, ints))

pub row_at-requires-clause-fits : goal.row_at-requires-clause-fits
row_at-requires-clause-fits c =
    let lt : c.args.rows.top <ℤ c.args.rows.end = omega (arith, ints) in
    let ends = ends_inside c.args.old.at c.args.new.at _ _ _ _ c.requires.rows lt in
    let inside = ends.0 in
    let sound : IsSound c.args.image.now.rect = subst IsSound c.rect-rect.ensures.value c.rect-rect.ensures.sound in
    let high = sound.down.length_high in
    let bottom = c.requires.old.1.bottom in
    omega (arith, ints)

pub row_at-requires-2-clause-fits : goal.row_at-requires-2-clause-fits
row_at-requires-2-clause-fits c =
    let lt : c.args.rows.top <ℤ c.args.rows.end = omega (arith, ints) in
    let ends = ends_inside c.args.old.at c.args.new.at _ _ _ _ c.requires.rows lt in
    let inside = ends.1 in
    let sound : IsSound c.args.image.now.rect = subst IsSound c.rect-rect.ensures.value c.rect-rect.ensures.sound in
    let high = sound.down.length_high in
    let bottom = c.requires.new.1.bottom in
    omega (arith, ints)

pub add_bands-requires-clause-old_rows : goal.add_bands-requires-clause-old_rows
add_bands-requires-clause-old_rows c =
    let lt : c.args.rows.top <ℤ c.args.rows.end = omega (arith, ints) in
    let ends = ends_inside c.args.old.at c.args.new.at _ _ _ _ c.requires.rows lt in
    let inside = ends.0 in
    let sound : IsSound c.args.image.now.rect = subst IsSound c.rect-rect.ensures.value c.rect-rect.ensures.sound in
    let tall : pos (near c.args.image.now.rect.h) ≡ c.args.image.now.rect.h = near_is c.args.image.now.rect.h sound.down.length_low in
    let bottom = c.requires.old.1.bottom in
    let row = c.row_at.ensures in
    let count = c.count_between.ensures in
    omega (arith, ints)

pub add_bands-requires-clause-new_rows : goal.add_bands-requires-clause-new_rows
add_bands-requires-clause-new_rows c =
    let lt : c.args.rows.top <ℤ c.args.rows.end = omega (arith, ints) in
    let ends = ends_inside c.args.old.at c.args.new.at _ _ _ _ c.requires.rows lt in
    let inside = ends.1 in
    let sound : IsSound c.args.image.now.rect = subst IsSound c.rect-rect.ensures.value c.rect-rect.ensures.sound in
    let tall : pos (near c.args.image.now.rect.h) ≡ c.args.image.now.rect.h = near_is c.args.image.now.rect.h sound.down.length_low in
    let bottom = c.requires.new.1.bottom in
    let row = c.row_at-2.ensures in
    let count = c.count_between.ensures in
    omega (arith, ints)

pub returns-clause-alike : goal.returns-clause-alike
returns-clause-alike c =
    let top : to_z w32 (of_z w32 c.args.rows.top) ≡ c.args.rows.top = omega (arith, ints) in
    let count = c.count_between.ensures in
    let end : c.args.rows.top +ℤ pos c.count_between.result ≡ c.args.rows.end = omega (arith, ints) in
    subst (AreRowsAlike c.add_bands.new.damage.items c.args.image.now c.args.old.at c.args.old.from c.args.new.at c.args.new.from c.args.rows.top) end
    (subst (λ (t : ℤ). AreRowsAlike c.add_bands.new.damage.items c.args.image.now c.args.old.at c.args.old.from c.args.new.at c.args.new.from t (t +ℤ pos c.count_between.result)) top
    c.in_ok-add_bands.ensures.alike)
