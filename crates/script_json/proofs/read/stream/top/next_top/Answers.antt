use Rattle.std.proofs.Common.{◌≡◌, ◌∷◌, ap, ◌∙◌, arith}
use Rattle.json.specs.Token.{begin_object}
use Rattle.script_fields.specs.Tokens.{first_value}
use Rattle.script_fields.proofs.Progress.{object_read, object_refused}
use Rattle.script_json.proofs.Streams.{ok_also}
use Rattle.script_json.proofs.read.stream.top.next_top.Goals as goal

pub returns-in-Some-BeginObject-clause-read : goal.returns-in-Some-BeginObject-clause-read
returns-in-Some-BeginObject-clause-read c =
    let opened : c.args.reader.now ≡ begin_object ∷ c.next.new.self = grind arith in
    ok_also c.take_members.result _ _ c.take_members.ensures.read (λ f w.
    (w.0, ap (first_value 127) opened ∙ object_read 127 c.next.new.self c.take_members.new.reader w.0 (omega arith) w.1, w.2))

pub returns-in-Some-BeginObject-clause-refused : goal.returns-in-Some-BeginObject-clause-refused
returns-in-Some-BeginObject-clause-refused c json =
    let opened : c.args.reader.now ≡ begin_object ∷ c.next.new.self = grind arith in
    ap (first_value 127) opened ∙ object_refused 127 c.next.new.self (omega arith) (c.take_members.ensures.refused json)
