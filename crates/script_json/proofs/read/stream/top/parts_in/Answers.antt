use Rattle.std.proofs.Common.{◌≡◌, List, [], ◌∷◌, true, Option, Some, None, is_some, arith}
use Rattle.std.specs.Prelude.{MatchOption}
use Rattle.json.specs.Lex.{tokens}
use Rattle.json.specs.Reads.{token_of}
use Rattle.json.specs.Token.{Token}
use Rattle.json.specs.declared.token.Token.{Token as Read}
use Rattle.serde_json.specs.Data.{object}
use Rattle.script_fields.specs.Tokens.{first_value}
use Rattle.script_fields.proofs.Progress.{text_refused, text_and_more}
use Rattle.script_json.proofs.read.stream.top.parts_in.Goals as goal

pub returns-in_err-found-clause-refused : goal.returns-in_err-found-clause-refused
returns-in_err-found-clause-refused c json =
    let none : first_value 127 (tokens c.args.text.now) ≡ None = rw c.in_ok-reader.ensures.ok at (c.next_top.ensures.refused (grind arith)) in
    text_refused c.args.text.now none

more_left : (o : Option Read) (old new : List Token) → is_some o ≡ true → MatchOption o ((old ≡ []) × (new ≡ [])) (λ t. old ≡ token_of t ∷ new) → (t : Token) × (old ≡ t ∷ new)
more_left None old new h k = absurd (cc)
more_left (Some t) old new h k = (token_of t, k)

pub returns-then-is_some-clause-refused : goal.returns-then-is_some-clause-refused
returns-then-is_some-clause-refused c json =
    let some : is_some c.next.result ≡ true = grind (arith, c.is_some.ensures, c.if-is_some.true) in
    let next = more_left c.next.result c.next_top.new.reader c.next.new.self some c.next.ensures.value in
    let top = c.in_ok-found.ensures.read in
    let whole : first_value 127 (tokens c.args.text.now) ≡ Some (object top.0, next.0 ∷ c.next.new.self) = rw (c.in_ok-reader.ensures.ok, next.1) at top.1 in
    text_and_more c.args.text.now (object top.0) next.0 c.next.new.self whole
