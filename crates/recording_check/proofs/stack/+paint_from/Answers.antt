-- A layer alone, or the run of a group, is laid over each pixel of the row.
use Rattle.std.proofs.Common.{ℕ, ◌≡◌, ◌≤◌, ◌+◌, suc, pos, All, List, arith, add-one, ap, sym, subst, ◌∙◌, drop}
use Rattle.std.proofs.lemmas.Grind.{common_steps}
use Rattle.std.proofs.lemmas.List.Elements.{All-drop, All-rest, All-same}
use Rattle.pixel.specs.Colours.{Parts, blend, clear}
use Rattle.pixel.specs.Rows.{pixel, ArePremultiplied}
use Rattle.page_layers.specs.declared.paint.Group.{Group}
use Rattle.page_layers.specs.Painting.{folded, items_at}
use Rattle.page_layers.specs.Paintings.{Placed, placed_colour}
use Rattle.recording_check.specs.inner.Sheets.{SheetModel, effects_of, colour_in}
use Rattle.recording_check.proofs.SheetTurns.{run_not_empty, group_turn, layer_turn, past_all}
use Rattle.recording_check.proofs.stack.+paint_from.Goals as goal

pub loop-first-preserved-in-None : goal.loop-first-preserved-in-None
loop-first-preserved-in-None t c = record {
  painted = λ opacity all.
      let old = c.loop-first.invariant.painted opacity all in (
        All-rest (λ (s : SheetModel). All (λ (g : Group). opacity g.effect ≡ g.opacity) s.groups) c.in-Some.first.now c.in-Some.tail.now c.loop-first.rest.now c.in-Some.ensures.cases.0 old.0,
        λ x lt.
            layer_turn (colour_in c.args.at.tile (pos x) (pos c.args.at.y)) opacity c.args.depth c.loop-first.rest.now c.in-Some.tail.now c.in-Some.first.now (pixel c.loop-first.row x) (pixel c.lay_over.new.row x) c.in-Some.ensures.cases.0 c.in-None.ensures.value
            (c.lay_over.ensures.pixels x lt ∙ ap (λ (l : Placed). blend (pixel c.loop-first.row x) (placed_colour c.args.at.tile (pos x) (pos c.args.at.y) l)) c.placed.ensures)
            ∙ old.1 x lt,
      );
  premultiplied = λ old. c.lay_over.ensures.premultiplied (c.loop-first.invariant.premultiplied old);
}

pub fade_over-requires-clause-premultiplied : goal.fade_over-requires-clause-premultiplied
fade_over-requires-clause-premultiplied t c =
    let written : c.as_slice.result.now ≡ c.paint_from.new.row = grind (arith, common_steps) in
    let start : ArePremultiplied c.as_mut_slice.result.now = subst ArePremultiplied (sym c.as_mut_slice.ensures.value) c.in_ok-inner-in-Some-group.ensures.premultiplied in
    subst ArePremultiplied (sym written) (c.paint_from.ensures.premultiplied start)

pub loop-first-smaller : goal.loop-first-smaller
loop-first-smaller t c =
    let some : 1 ≤ c.run_len.result = run_not_empty c.args.depth c.run_len.result c.loop-first.rest.now c.in-Some.tail.now c.in-Some.first.now c.in-Some-group.group c.in-Some.ensures.cases.0 c.in-Some-group.ensures.value.0 c.in-Some-group.ensures.value.1 c.run_len.ensures.value in
    omega (arith, some)

pub loop-first-preserved : goal.loop-first-preserved
loop-first-preserved t c =
    let back = c.split_at.ensures.back in
    let same : c.args.depth + 1 ≡ suc c.args.depth = add-one c.args.depth in
    let written : c.as_slice.result.now ≡ c.paint_from.new.row = grind (arith, common_steps) in
    record {
      painted = λ opacity all.
          let old = c.loop-first.invariant.painted opacity all in (
            All-same (λ (s : SheetModel). All (λ (g : Group). opacity g.effect ≡ g.opacity) s.groups) c.split_at.result.1.now (drop c.run_len.result c.loop-first.rest.now) back (All-drop (λ (s : SheetModel). All (λ (g : Group). opacity g.effect ≡ g.opacity) s.groups) c.run_len.result c.loop-first.rest.now old.0),
            λ x lt.
                group_turn (colour_in c.args.at.tile (pos x) (pos c.args.at.y)) opacity c.args.depth c.run_len.result c.loop-first.rest.now c.split_at.result.0.now c.split_at.result.1.now c.in-Some.tail.now c.in-Some.first.now c.in-Some-group.group (pixel c.loop-first.row x) (pixel c.as_slice.result.now x) (pixel c.fade_over.new.row x) c.in-Some.ensures.cases.0 c.in-Some-group.ensures.value.0 c.in-Some-group.ensures.value.1 c.run_len.ensures.value c.split_at.ensures.front back old.0
                (λ have.
                ap (λ (r : List ℕ). pixel r x) written
                ∙ c.in_ok-paint_from-in-Some-group.ensures.pixels opacity x have lt
                ∙ ap (λ (p : Parts). folded opacity (items_at effects_of (colour_in c.args.at.tile (pos x) (pos c.args.at.y)) (c.args.depth + 1) c.split_at.result.0.now) p) (ap (λ (r : List ℕ). pixel r x) c.as_mut_slice.ensures.value ∙ c.in_ok-inner-in-Some-group.ensures.pixels x lt)
                ∙ ap (λ (d : ℕ). folded opacity (items_at effects_of (colour_in c.args.at.tile (pos x) (pos c.args.at.y)) d c.split_at.result.0.now) clear) same)
                (c.fade_over.ensures.pixels x lt)
                ∙ old.1 x lt,
          );
      premultiplied = λ old. c.fade_over.ensures.premultiplied (c.loop-first.invariant.premultiplied old);
    }

pub returns-clause-pixels : goal.returns-clause-pixels
returns-clause-pixels t c = λ opacity x all lt. past_all (colour_in c.args.at.tile (pos x) (pos c.args.at.y)) opacity c.args.depth c.loop-first.rest.now (pixel c.loop-first.row x) c.in_default.ensures.cases ∙ (c.loop-first.invariant.painted opacity all).1 x lt
