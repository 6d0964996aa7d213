-- Each band is alike or damaged.
use Rattle.std.proofs.Common.{◌≡◌, ◌+◌, ◌∷◌, pos, ◌+ℤ◌, subst, arith, rules}
use Rattle.std.proofs.lemmas.Int.{ints}
use Rattle.geom.specs.declared.Rect.{Rect}
use Rattle.viz_damage.specs.inner.Areas.{HoldAll}
use Rattle.viz_damage.specs.inner.Moved.{AreRowsAlike, rows_of}
use Rattle.viz_damage.proofs.QuadSteps.{same_rects}
use Rattle.viz_damage.proofs.MovedSteps.{no_rows, rows_more, rows_same, rows_damaged, more_held, rest_held}
use Rattle.viz_damage.proofs.moved.add_bands.Goals as goal

pub loop-done-init : goal.loop-done-init
loop-done-init c = record {
  inside = omega arith;
  alike =
      no_rows c.args.image.now c.args.old.at c.args.new.at c.args.old.from c.args.new.from c.args.damage.now.items c.args.shared.top (c.args.shared.top +ℤ pos 0)
      (omega (arith, ints));
  held = λ x y h. h;
  damage = c.requires.damage;
}

pub add_rows-requires-clause-damage : goal.add_rows-requires-clause-damage
add_rows-requires-clause-damage c = c.loop-done.invariant.damage

pub loop-done-preserved-in_ok-add_rows : goal.loop-done-preserved-in_ok-add_rows
loop-done-preserved-in_ok-add_rows c =
    let from = c.args.shared.top +ℤ pos c.loop-done.done in
    let to = c.args.shared.top +ℤ pos c.row_after-next.result in
    let y = c.rows_of.ensures.y in
    let h = c.rows_of.ensures.h in
    let old = c.loop-done.damage.items in
    let new = c.add_rows.new.damage.items in
    let holds : HoldAll new (rows_of c.args.old.at from to ∷ old) =
    subst (λ (r : Rect). HoldAll new (r ∷ old))
    (same_rects c.rows_of.result (rows_of c.args.old.at from to) c.rows_of.ensures.x (omega (arith, ints)) c.rows_of.ensures.w (omega (arith, ints)))
    c.in_ok-add_rows.ensures.held in
    record {
      inside = c.row_after-next.ensures.inside;
      alike =
          rows_more c.args.image.now c.args.old.at c.args.new.at c.args.old.from c.args.new.from old new c.args.shared.top from to
          (more_held old new (rows_of c.args.old.at from to) holds) c.loop-done.invariant.alike
          (rows_damaged c.args.image.now c.args.old.at c.args.new.at c.args.old.from c.args.new.from old new from to holds);
      held = rest_held old new c.args.damage.now.items (rows_of c.args.old.at from to) holds c.loop-done.invariant.held;
      damage = c.add_rows.ensures.damage;
    }

pub loop-done-preserved : goal.loop-done-preserved
loop-done-preserved c =
    let from = c.args.shared.top +ℤ pos c.loop-done.done in
    let to = c.args.shared.top +ℤ pos c.row_after-next.result in
    let damage = c.loop-done.damage.items in
    let before = c.requires.before in
    let after = c.requires.after in
    let rows = c.row_after-next.ensures.rows in
    record {
      inside = c.row_after-next.ensures.inside;
      alike =
          rows_more c.args.image.now c.args.old.at c.args.new.at c.args.old.from c.args.new.from damage damage c.args.shared.top from to (λ x y h. h)
          c.loop-done.invariant.alike
          (rows_same c.args.image.now c.args.old.at c.args.new.at c.args.old.from c.args.new.from damage from to (c.args.shared.before + c.loop-done.done)
          (c.args.shared.after + c.loop-done.done) c.step_of-step.result.rows c.requires.old.1 c.requires.new.1
          (c.requires.place, (c.requires.width, c.requires.column)) (omega (arith, ints)) (omega (arith, ints)) (omega (arith, ints))
          (c.step_of-step.ensures.same (search rules)));
      held = c.loop-done.invariant.held;
      damage = c.loop-done.invariant.damage;
    }

pub returns-clause-alike : goal.returns-clause-alike
returns-clause-alike c =
    let inside = c.loop-done.invariant.inside in
    let all : c.loop-done.done ≡ c.args.shared.count = omega arith in
    subst (λ n. AreRowsAlike c.loop-done.damage.items c.args.image.now c.args.old.at c.args.old.from c.args.new.at c.args.new.from c.args.shared.top (c.args.shared.top +ℤ pos n)) all
    c.loop-done.invariant.alike

pub returns-clause-held : goal.returns-clause-held
returns-clause-held c = c.loop-done.invariant.held

pub returns-clause-damage : goal.returns-clause-damage
returns-clause-damage c = c.loop-done.invariant.damage
