-- The rows above and below have no source; in between the scenes were compared.
use Rattle.std.proofs.Common.{pos, refl, rules, arith, FitsSigned, w32, to_z, of_z}
use Rattle.std.proofs.lemmas.Int.{ints}
use Rattle.viz_damage.proofs.Scenes.{alike_moved}
use Rattle.viz_damage.proofs.scroll_damage.damage_of_shift.Goals as goal

pub returns : goal.returns
returns c =
    let f : FitsSigned w32 c.fall_of-by.result = search rules in
    let t : FitsSigned w32 c.row_of-top.result = search rules in
    let e : FitsSigned w32 c.row_of-end.result = search rules in
    let w : FitsSigned w32 c.row_of-width.result = search rules in
    let h : FitsSigned w32 c.row_of-bottom.result = search rules in
    let fall = c.fall_of-by.ensures in
    let top = c.row_of-top.ensures in
    let end = c.row_of-end.ensures in
    let wide = c.row_of-width.ensures in
    let tall = c.row_of-bottom.ensures in
    let v = c.w.ensures.value in
    let u = c.h.ensures.value in
    let above = c.rows_of.ensures in
    let under = c.rows_of-2.ensures in
    alike_moved c.args.shift c.args.old.now c.args.new.now c.in_ok-before.before c.in_ok-after.after c.in_ok-region.region c.add.new.self c.add-2.new.self
    c.rows_of.result c.rows_of-2.result (to_z w32 (of_z w32 c.fall_of-by.result)) (pos 0) (to_z w32 (of_z w32 c.row_of-top.result)) (to_z w32 (of_z w32 c.row_of-end.result))
    (omega (arith, ints)) refl (omega (arith, ints)) (omega (arith, ints)) c.in_ok-before.ensures c.in_ok-after.ensures c.requires.wide c.requires.tall
    c.in_ok-region.ensures c.rows_of.ensures.x (omega (arith, ints)) (omega (arith, ints)) (omega (arith, ints)) c.rows_of-2.ensures.x (omega (arith, ints))
    (omega (arith, ints)) (omega (arith, ints)) c.in_ok-add.ensures.ok c.in_ok-add-2.ensures.ok
