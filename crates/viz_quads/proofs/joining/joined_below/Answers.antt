-- The first rect, longer by the second.
use Rattle.std.proofs.Common.{◌≡◌, ◌+ℤ◌, w32, to_z, of_z, ◌∙◌, sym, rules}
use Rattle.std.proofs.lemmas.Int.{to_z-of_z}
use Rattle.viz_quads.proofs.joining.joined_below.Goals as goal

pub returns : goal.returns
returns c =
    let same : (c.args.second.x ≡ c.args.first.x) × (c.args.second.w ≡ c.args.first.w) = search rules in
    let at : to_z w32 (of_z w32 c.args.first.y) ≡ c.args.first.y = to_z-of_z w32 c.args.first.y (search rules) in
    let next : to_z w32 (of_z w32 c.args.second.y) ≡ c.args.second.y = to_z-of_z w32 c.args.second.y (search rules) in
    let len : to_z w32 (of_z w32 c.args.first.h) ≡ c.args.first.h = to_z-of_z w32 c.args.first.h (search rules) in
    let more : to_z w32 (of_z w32 c.args.second.h) ≡ c.args.second.h = to_z-of_z w32 c.args.second.h (search rules) in
    let whole : to_z w32 (of_z w32 c.in_ok-h.h) ≡ c.in_ok-h.h = to_z-of_z w32 c.in_ok-h.h (search rules) in
    let other : to_z w32 (of_z w32 c.args.first.x) ≡ c.args.first.x = to_z-of_z w32 c.args.first.x (search rules) in
    let side : to_z w32 (of_z w32 c.args.first.w) ≡ c.args.first.w = to_z-of_z w32 c.args.first.w (search rules) in
    let both : to_z w32 (of_z w32 c.in_ok-h.h) ≡ c.args.first.h +ℤ c.args.second.h = whole ∙ c.in_ok-h.ensures.1 ∙ (λ i. len i +ℤ more i) in
    record {
      columns = same;
      next = sym next ∙ c.in_ok-h.ensures.0 ∙ (λ i. at i +ℤ len i);
      whole = λ i. record { x = other i; y = at i; w = side i; h = both i };
    }
