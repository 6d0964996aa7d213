use Rattle.std.proofs.Common.{◌≡◌, ◌<◌, ℕ, Option, Some, None, ◌∙◌, ap, subst, sym, arith}
use Rattle.std.specs.Prelude.{length}
use Rattle.model_history.specs.declared.input.Input.{Input}
use Rattle.model_history.specs.Growth.{with_input}
use Rattle.model_history.proofs.GrownPlays.{playable_input}
use Rattle.impl_log.specs.Runs.{Run, with_script}
use Rattle.cc_live.specs.Lives.{LiveModel, open_of}
use Rattle.cc_live.specs.Calls.{most_told}
use Rattle.cc_live.specs.inner.Kept.{IsLive, IsMainSide}
use Rattle.cc_live.proofs.ToldInputs.{in_any_range}
use Rattle.cc_live.proofs.ToldRuns.{told_more}
use Rattle.cc_live.proofs.MainSides.{side_input}
use Rattle.cc_live.proofs.live.Live.add_told.Goals as goal

pub add_input-requires-clause-playable : goal.add_input-requires-clause-playable
add_input-requires-clause-playable c =
    let s = c.self.inside.core.script in
    let room : length s.inputs < most_told = subst (λ (l : LiveModel). length l.run.script.inputs < most_told) (sym c.self.view_is) c.requires.room in
    playable_input s c.args.input c.is_legal.ensures.playable (omega (arith, room)) (in_any_range (length s.main) c.args.input c.requires.host c.requires.fits)

pub add_input-requires-clause-looked : goal.add_input-requires-clause-looked
add_input-requires-clause-looked c = c.self.invariant.0.told.looked

pub add_input-requires-clause-none : goal.add_input-requires-clause-none
add_input-requires-clause-none c = c.self.invariant.0.told.next ∙ (ap (λ (l : LiveModel). l.waits) c.self.view_is ∙ c.requires.free)

pub invariant_of-self : goal.invariant_of-self
invariant_of-self c =
    let free : IsLive c.self.inside.core None c.self.inside.jobs.items =
    subst (λ (waits : Option Input). IsLive c.self.inside.core waits c.self.inside.jobs.items) (ap (λ (l : LiveModel). l.waits) c.self.view_is ∙ c.requires.free) c.self.invariant.0 in (
      subst (λ (r : Run). IsLive r (Some c.args.input) c.self.inside.jobs.items) (sym c.add_input.ensures) (told_more c.self.inside.core c.args.input c.self.inside.jobs.items free),
      subst (λ (r : Run). IsMainSide r c.self.inside.main.value (open_of c.self.inside.open_frame)) (sym c.add_input.ensures) (side_input c.self.inside.core c.args.input c.self.inside.main.value (open_of c.self.inside.open_frame) c.self.invariant.1),
    )
