-- It covers no row of the area.
use Rattle.std.proofs.Common.{FitsSigned, rules, pos, ◌+ℤ◌}
use Rattle.std.proofs.lemmas.Int.{to_z-of_z}
use mir.Syntax.{w32}
use Rattle.viz_render.proofs.Hulls.{misses_row}
use Rattle.viz_render.proofs.beside.lies_beside.Goals as goal

pub returns-in-Tile : goal.returns-in-Tile
returns-in-Tile c =
    let at_y : FitsSigned w32 c.in-Tile.at.y = search rules in
    let at_h : FitsSigned w32 c.in-Tile.at.h = search rules in
    let y : FitsSigned w32 c.args.area.y = search rules in
    let h : FitsSigned w32 c.args.area.h = search rules in
    let apart = simp to_z-of_z at c.are_apart.ensures in
    rw (c.in-Tile.is) (λ t ps x y below xw yh. misses_row c.in-Tile.at (c.args.area.x +ℤ pos x) (c.args.area.y +ℤ pos y) _ below (apart t y yh))

pub returns-in-Solid : goal.returns-in-Solid
returns-in-Solid c =
    let at_y : FitsSigned w32 c.in-Solid.at.y = search rules in
    let at_h : FitsSigned w32 c.in-Solid.at.h = search rules in
    let y : FitsSigned w32 c.args.area.y = search rules in
    let h : FitsSigned w32 c.args.area.h = search rules in
    let apart = simp to_z-of_z at c.are_apart-in-Solid.ensures in
    rw (c.in-Solid.is) (λ t ps x y below xw yh. misses_row c.in-Solid.at (c.args.area.x +ℤ pos x) (c.args.area.y +ℤ pos y) _ below (apart t y yh))
