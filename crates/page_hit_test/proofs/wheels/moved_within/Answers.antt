use Rattle.std.proofs.Common.{◌≡◌, ℤ, ◌+ℤ◌, ◌-ℤ◌, sym, subst, rules}
use Rattle.std.specs.Int.RustNames.{FitsSigned}
use Rattle.std.proofs.lemmas.Int.{to_z-of_z}
use mir.Syntax.{w32}
use Rattle.page_layers.specs.Scrolls.{clamp_to}
use Rattle.page_hit_test.specs.Wheels.{IsAmount}
use Rattle.page_hit_test.proofs.Turns.{what_is_left}
use Rattle.page_hit_test.proofs.wheels.moved_within.Goals as goal

pub returns-clause-left : goal.returns-clause-left
returns-clause-left c =
    let f : FitsSigned w32 c.back.result = search rules in
    let v : c.back.result ≡ clamp_to c.args.most (c.args.at +ℤ c.args.asked) -ℤ c.args.at = search rules in
    simp to_z-of_z (subst (λ (z : ℤ). IsAmount (c.args.asked -ℤ z)) (sym v) (what_is_left c.args.most c.args.at c.args.asked c.requires.low c.requires.high c.requires.amount))
