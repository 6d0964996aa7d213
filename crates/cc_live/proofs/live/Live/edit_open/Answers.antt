use Rattle.std.proofs.Common.{Option, subst}
use Rattle.cc_live.specs.declared.open_frame.OpenFrame.{OpenFrame}
use Rattle.cc_live.specs.Lives.{open_of}
use Rattle.cc_live.specs.inner.Kept.{IsOpen}
use Rattle.cc_live.proofs.MainEnds.{edit_kept}
use Rattle.cc_live.proofs.live.Live.edit_open.Goals as goal

pub invariant_of-self : goal.invariant_of-self
invariant_of-self c = (
  c.self.invariant.0,
  record {
    main = c.self.invariant.1.main;
    open_frame = edit_kept c.self.inside.main.value c.in-Some.edited c.edit_frame.new.frame c.args.command c.edit_frame.result c.requires.fits c.edit_frame.ensures
        (subst (λ (o : Option OpenFrame). IsOpen c.self.inside.main.value (open_of o)) c.in-Some.is c.self.invariant.1.open_frame);
  },
)
