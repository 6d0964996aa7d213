use Rattle.std.proofs.Common.{◌+◌, sym, subst, drop, map, List, Vec, Global, length, get_or, ap, ◌∙◌, ◌≡◌, ◌<◌, arith}
use Rattle.std.proofs.lemmas.List.{length-map, get_or-map}
use Rattle.page_layers.specs.declared.command.Command.{Command}
use Rattle.page_layers.specs.Pages.{Page}
use Rattle.model_history.proofs.Leads.{LeadsFrames, mapped_rest_at, frames_on, frames_stop}
use Rattle.model_history.proofs.Ranged.{frame_is_short}
use Rattle.model_history.proofs.applying.apply_frames.Goals as goal

pub apply_frame-requires : goal.apply_frame-requires
apply_frame-requires c =
    let frames = map (λ frame. frame.items) c.args.frames.now in
    let f : Vec Command Global → List Command = λ frame. frame.items in
    let at : get_or frames c.loop-place.place c.as_slice.result.now ≡ c.as_slice.result.now =
    get_or-map f c.args.frames.now c.loop-place.place c.index-frames-place.result c.as_slice.result.now (omega arith)
    ∙ ap f (sym c.index-frames-place.is) ∙ sym c.as_slice.ensures.value in
    let P : List Command → Type 0 = λ (g : List Command). length g < 4294967296 in
    let n = length-map c.args.frames.now f in
    subst P at (frame_is_short frames c.loop-place.place c.as_slice.result.now (omega (arith, n)) c.requires.short)

pub returns-in-Err : goal.returns-in-Err
returns-in-Err c =
    let P : List (List Command) → Type 0 = LeadsFrames c.args.tree.now (map (λ frame. frame.items) c.args.frames.now) c.loop-place.place c.loop-place.tree in
    let here = subst P (mapped_rest_at (λ frame. frame.items) c.args.frames.now c.loop-place.place c.index-frames-place.result c.as_slice.result.now c.index-frames-place.is c.as_slice.ensures.value (omega arith)) c.loop-place.invariant in
    frames_stop c.args.tree.now (map (λ frame. frame.items) c.args.frames.now) c.loop-place.place c.loop-place.tree c.apply_frame.new.tree c.as_slice.result.now (map (λ frame. frame.items) (drop (c.loop-place.place + 1) c.args.frames.now)) c.in-Err.error here c.in-Err.ensures

pub loop-place-preserved : goal.loop-place-preserved
loop-place-preserved c =
    let P : List (List Command) → Type 0 = LeadsFrames c.args.tree.now (map (λ frame. frame.items) c.args.frames.now) c.loop-place.place c.loop-place.tree in
    let here = subst P (mapped_rest_at (λ frame. frame.items) c.args.frames.now c.loop-place.place c.index-frames-place.result c.as_slice.result.now c.index-frames-place.is c.as_slice.ensures.value (omega arith)) c.loop-place.invariant in
    let Q : Page → Type 0 = λ p. LeadsFrames c.args.tree.now (map (λ frame. frame.items) c.args.frames.now) (c.loop-place.place + 1) p (map (λ frame. frame.items) (drop (c.loop-place.place + 1) c.args.frames.now)) in
    let e = c.in_default.ensures in
    subst Q (sym e.1) (frames_on c.args.tree.now (map (λ frame. frame.items) c.args.frames.now) c.loop-place.place c.loop-place.tree c.as_slice.result.now (map (λ frame. frame.items) (drop (c.loop-place.place + 1) c.args.frames.now)) e.0 here)
