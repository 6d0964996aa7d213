-- Whether the line is an event's from end to end.
use Rattle.std.proofs.Common.{None, Some, subst}
use Rattle.std.specs.Prelude.{Option}
use Rattle.recording_text.specs.declared.read.Line.{Line}
use Rattle.recording_text.specs.Lines.{event_at}
use Rattle.recording_text.specs.Taken.{TakesLine}
use Rattle.recording_text.proofs.ReadLines.{read_whole, read_longer, read_none}
use Rattle.recording_text.proofs.read.read_event.Goals as goal

pub returns-in_default : goal.returns-in_default
returns-in_default c =
    let told : TakesLine c.args.line.now (event_at c.args.line.now) None = subst (λ (o : Option Line). TakesLine c.args.line.now (event_at c.args.line.now) o) c.in_default.is c.in_ok-taken.ensures in
    read_none c.args.line.now told

pub returns-then-taken-line : goal.returns-then-taken-line
returns-then-taken-line c =
    let told : TakesLine c.args.line.now (event_at c.args.line.now) (Some c.in-Some.taken) = subst (λ (o : Option Line). TakesLine c.args.line.now (event_at c.args.line.now) o) c.in-Some.is c.in_ok-taken.ensures in
    read_longer c.args.line.now c.in-Some.taken.event c.in-Some.taken.size told.0 told.1 c.if-taken-line.true

pub returns : goal.returns
returns c =
    let told : TakesLine c.args.line.now (event_at c.args.line.now) (Some c.in-Some.taken) = subst (λ (o : Option Line). TakesLine c.args.line.now (event_at c.args.line.now) o) c.in-Some.is c.in_ok-taken.ensures in
    read_whole c.args.line.now c.in-Some.taken.event c.in-Some.taken.size told.0 told.1 c.if-taken-line.false
