-- The columns grow by those that the row is laid over.
use Rattle.std.proofs.Common.{ℕ, ◌≡◌, ◌+◌, ◌-◌, refl, subst, arith}
use Rattle.pixel.specs.Colours.{Parts, blend}
use Rattle.pixel.specs.Rows.{pixel}
use Rattle.pixel.specs.Surfaces.{EachPixel, within_rows}
use Rattle.pixel.specs.inner.Columns.{columns_of}
use Rattle.pixel.proofs.Areas.{columns_more, all_columns}
use Rattle.pixel.proofs.rows.row_over_columns.Goals as goal

pub runs-preserved : goal.runs-preserved
runs-preserved c =
    let f : ℕ → ℕ → Parts → Parts = λ x y below. blend below (pixel c.args.row.now (x - c.args.at.x + c.args.from)) in
    record {
      inside = omega (arith, c.row_over_blocks-done.ensures.most);
      pixels =
          columns_more c.args.size.width c.args.size.height c.args.at c.runs.done c.row_over_blocks-done.result f f c.args.surface.now c.runs.surface c.row_over_blocks-done.new.surface
          c.runs.invariant.pixels c.row_over_blocks-done.ensures.pixels (λ x y below low high. refl);
      premultiplied = λ ready. c.row_over_blocks-done.ensures.premultiplied (c.runs.invariant.premultiplied ready);
    }

pub fours-preserved : goal.fours-preserved
fours-preserved c =
    let f : ℕ → ℕ → Parts → Parts = λ x y below. blend below (pixel c.args.row.now (x - c.args.at.x + c.args.from)) in
    record {
      inside = omega (arith, c.fours-test.true);
      pixels =
          columns_more c.args.size.width c.args.size.height c.args.at c.fours.done 4 f f c.args.surface.now c.fours.surface c.row_over_four_columns.new.surface
          c.fours.invariant.pixels c.row_over_four_columns.ensures.pixels (λ x y below low high. refl);
      premultiplied = λ ready. c.row_over_four_columns.ensures.premultiplied (c.fours.invariant.premultiplied ready);
    }

pub ones-preserved : goal.ones-preserved
ones-preserved c =
    let f : ℕ → ℕ → Parts → Parts = λ x y below. blend below (pixel c.args.row.now (x - c.args.at.x + c.args.from)) in
    record {
      inside = omega (arith, c.ones-test.true);
      pixels =
          columns_more c.args.size.width c.args.size.height c.args.at c.ones.done 1 f f c.args.surface.now c.ones.surface c.row_over_column.new.surface
          c.ones.invariant.pixels c.row_over_column.ensures.pixels (λ x y below low high. refl);
      premultiplied = λ ready. c.row_over_column.ensures.premultiplied (c.ones.invariant.premultiplied ready);
    }

pub returns-clause-pixels : goal.returns-clause-pixels
returns-clause-pixels c =
    let f : ℕ → ℕ → Parts → Parts = λ x y below. blend below (pixel c.args.row.now (x - c.args.at.x + c.args.from)) in
    let all : c.ones.done ≡ c.args.at.w = omega (arith, c.ones.invariant.inside, c.ones-test.false) in
    all_columns c.args.size.width c.args.size.height c.args.at f c.args.surface.now c.ones.surface
    (subst (λ (n : ℕ). EachPixel c.args.size.width c.args.size.height (within_rows (columns_of c.args.at 0 n) c.args.at.h f) c.args.surface.now c.ones.surface) all
    c.ones.invariant.pixels)
