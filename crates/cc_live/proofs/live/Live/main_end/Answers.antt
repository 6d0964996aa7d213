use Rattle.std.proofs.Common.{subst}
use Rattle.cc_live.specs.Lives.{LiveModel}
use Rattle.cc_live.specs.MainSide.{Makes, Answers}
use Rattle.cc_live.proofs.live.Live.main_end.Goals as goal

pub returns-in-Ok-answer : goal.returns-in-Ok-answer
returns-in-Ok-answer c =
    let m : Makes c.args.self.now c.in-Ok.made.0 c.in-Ok.made.1 = c.in-Ok.ensures in
    record {
      frame = c.in-Ok.made.0;
      pulls = m.pulls;
      in_flight = m.in_flight;
      open_frame = m.open_frame;
      was_open = m.was_open;
      answers = subst (λ (l : LiveModel). Answers l c.in-Ok.made.0 c.answer.new.self c.in-Ok-answer.ended) (c.tell_commands-commands.ensures.told m.open_frame m.was_open) c.in-Ok-answer.ensures.ok;
    }
