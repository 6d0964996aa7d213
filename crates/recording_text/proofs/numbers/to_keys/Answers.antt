-- One more of the list.
use Rattle.std.proofs.Common.{◌≡◌, ◌<◌, List, take, length, ap, sym, ◌∙◌, Some, arith}
use Rattle.std.specs.Prelude.{ℤ}
use Rattle.std.proofs.lemmas.Grind.{common_steps}
use Rattle.recording_text.specs.Gathering.{prefixed_by}
use Rattle.recording_text.specs.Numbers.{key_in, keys_from}
use Rattle.recording_text.proofs.ListSteps.{keys_more}
use Rattle.recording_text.proofs.numbers.to_keys.Goals as goal

pub loop-rest-preserved : goal.loop-rest-preserved
loop-rest-preserved c =
    let some : 0 < length c.loop-rest.rest.now = grind (arith, common_steps) in
    let first : key_in (take 4 c.loop-rest.rest.now) ≡ Some c.in-Some.key = ap key_in (sym c.first.ensures) ∙ sym c.to_key.ensures ∙ c.in-Some.is in
    ap (λ (ns : List ℤ). prefixed_by c.push.new.self (keys_from ns)) c.behind-rest.ensures
    ∙ keys_more c.loop-rest.keys c.push.new.self c.loop-rest.rest.now c.in-Some.key (keys_from c.args.numbers.now) c.loop-rest.invariant some first c.in_default-push.ensures.keys
