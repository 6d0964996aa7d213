-- The part of each axis.
use Rattle.std.proofs.Common.{FitsSigned, rules, arith}
use Rattle.std.proofs.lemmas.Int.{ints, to_z-of_z}
use mir.Syntax.{w32}
use Rattle.geom.specs.Covers.{IsSound}
use Rattle.viz_render.proofs.Tiles.{near_is}
use Rattle.viz_render.proofs.hull.rect_in.Goals as goal

pub returns-clause-sound : goal.returns-clause-sound
returns-clause-sound c =
    let x : FitsSigned w32 c.start_in-x.result = search rules in
    let y : FitsSigned w32 c.start_in-y.result = search rules in
    let w : FitsSigned w32 c.len_of-w.result = search rules in
    let h : FitsSigned w32 c.len_of-h.result = search rules in
    let wide = near_is c.args.area.w c.requires.area.width in
    let tall = near_is c.args.area.h c.requires.area.height in
    let sound : IsSound (record { x = c.start_in-x.result; y = c.start_in-y.result; w = c.len_of-w.result; h = c.len_of-h.result }) = record {
      across = record { from_low = omega (arith, ints); from_high = omega (arith, ints); length_low = omega (arith, ints); length_high = omega (arith, ints) };
      down = record { from_low = omega (arith, ints); from_high = omega (arith, ints); length_low = omega (arith, ints); length_high = omega (arith, ints) };
    } in
    simp to_z-of_z sound
