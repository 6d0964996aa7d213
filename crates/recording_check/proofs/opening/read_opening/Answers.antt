-- What the two lines are.
use Rattle.std.proofs.Common.{◌≡◌, ℕ, List, length, ◌+◌, true, None, Some, refl, sym, subst}
use Rattle.std.specs.Prelude.{Option, codes, nat_eq, drop}
use Rattle.std.specs.List.{starts_with}
use Rattle.model_history.specs.Scripts.{ScriptModel}
use Rattle.recording_check.specs.Openings.{FirstLine, ScriptOf}
use Rattle.recording_check.proofs.OpeningFacts.{opening_good, opening_lacks_line, opening_lacks_script}
use Rattle.recording_check.proofs.opening.read_opening.Goals as goal

pub returns-in_default : goal.returns-in_default
returns-in_default c =
    let begins : starts_with nat_eq c.args.bytes.now (codes "cc1\n") ≡ true = sym c.if-not-starts_with.ensures.value in
    opening_lacks_line c.args.bytes.now begins (subst (λ (xs : List ℕ). FirstLine xs None) c.behind.ensures c.in_default.ensures)

pub returns-in-None : goal.returns-in-None
returns-in-None c =
    let begins : starts_with nat_eq c.args.bytes.now (codes "cc1\n") ≡ true = sym c.if-not-starts_with.ensures.value in
    let line : FirstLine (drop 4 c.args.bytes.now) (Some c.in-Some.line) = subst (λ (xs : List ℕ). FirstLine xs (Some c.in-Some.line)) c.behind.ensures c.in-Some.ensures in
    let none : ScriptOf c.in-Some.line.now None = subst (λ (o : Option ScriptModel). ScriptOf c.in-Some.line.now o) c.in-None.is c.in-Ok.ensures in
    opening_lacks_script c.args.bytes.now c.in-Some.line begins line none

pub returns-in-Some-script : goal.returns-in-Some-script
returns-in-Some-script c =
    let begins : starts_with nat_eq c.args.bytes.now (codes "cc1\n") ≡ true = sym c.if-not-starts_with.ensures.value in
    let line : FirstLine (drop 4 c.args.bytes.now) (Some c.in-Some.line) = subst (λ (xs : List ℕ). FirstLine xs (Some c.in-Some.line)) c.behind.ensures c.in-Some.ensures in
    let some : ScriptOf c.in-Some.line.now (Some c.in-Some-script.script) = subst (λ (o : Option ScriptModel). ScriptOf c.in-Some.line.now o) c.in-Some-script.is c.in-Ok.ensures in
    opening_good c.args.bytes.now c.in-Some.line (record { script = c.in-Some-script.script; end = 5 + length c.in-Some.line.now }) begins line some refl
