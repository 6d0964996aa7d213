use Rattle.std.proofs.Common.{List, Vec, Global, Err, length, map, sym, ap, subst, arith}
use Rattle.std.proofs.lemmas.List.{length-map}
use Rattle.page_layers.specs.declared.command.Command.{Command}
use Rattle.page_layers.specs.Pages.{Page}
use Rattle.model_history.specs.declared.script_error.ScriptError.{ScriptError}
use Rattle.model_history.specs.Accepted.{TakesFrames}
use Rattle.model_history.specs.Frames.{blank}
use Rattle.model_history.specs.inner.Applying.{Applied}
use Rattle.model_history.specs.Scripts.{script_of}
use Rattle.model_history.proofs.Ranged.{has_few_frames}
use Rattle.model_history.proofs.Exclusion.{frames_taken}
use Rattle.model_history.proofs.script.Script.page.Goals as goal

pub apply_frames-requires-clause-few : goal.apply_frames-requires-clause-few
apply_frames-requires-clause-few c =
    let f : Vec Command Global → List Command = λ frame. frame.items in
    let few = has_few_frames (script_of c.self.inside.parts) c.self.invariant.0.ranges in
    let n = length-map c.self.inside.parts.main.items f in
    let e = ap (λ (frames : List (Vec Command Global)). length frames) c.as_slice.ensures.value in
    omega (arith, few, n, e)

pub unreachable-requires : goal.unreachable-requires
unreachable-requires c =
    let frames : List (List Command) = map (λ frame. frame.items) c.as_slice.result.now in
    let first = blank (script_of c.self.inside.parts) in
    let P : ScriptError → Type 0 = λ error. Applied c.blank_page-tree.result frames c.apply_frames.new.tree (Err error) in
    let Q : List (Vec Command Global) → Type 0 = λ frames. TakesFrames first (map (λ frame. frame.items) frames) in
    let R : Page → Type 0 = λ p. TakesFrames p frames in
    let taken = subst R (sym c.blank_page-tree.ensures) (subst Q (sym c.as_slice.ensures.value) c.self.invariant.0.commands) in
    frames_taken c.blank_page-tree.result frames c.in-Err-Command.field-0-0 c.in-Err-Command.field-0-1 c.in-Err-Command.field-0-2 taken (subst P c.in-Err-Command.field-0-is c.in-Err-Command.ensures)
