use Rattle.std.proofs.Common.{refl}
use Rattle.serde_json.specs.View.{view}
use Rattle.script_json.proofs.Streams.{holds_other}
use Rattle.script_json.proofs.read.stream.top.take_other.Goals as goal

pub returns-clause-taken : goal.returns-clause-taken
returns-clause-taken c =
    (view c.in_ok-value.value, c.in_ok-value.ensures.ok, holds_other c.args.found.now _ c.args.name.now (view c.in_ok-value.value) c.requires.0 c.requires.1 c.in_ok-put.ensures.ok refl refl)
