-- The picture of the last draw is that of each draw that lists the same missing tiles, until something moves.
use Rattle.std.proofs.Common.{◌≡◌, ℕ, List, ◌++◌, Option, Some, None, ap, sym, ◌∙◌, append_assoc}
use Rattle.std.specs.Prelude.{slice_get, Result, Ok, Err, OnOk}
use Rattle.geom.specs.declared.tile.TileKey.{TileKey}
use Rattle.model_history.specs.declared.event.Event.{Event}
use Rattle.model_history.specs.declared.event.Event.TheVariants as event
use Rattle.model_history.specs.declared.history.Entry.{Entry}
use Rattle.model_history.specs.Scripts.{ScriptModel}
use Rattle.model_history.specs.Recordings.{image_head, shown_image, image_behind}
use Rattle.recording_writer.specs.declared.last_draw.LastDraw.{LastDraw}
use Rattle.viz_canvas.specs.Canvases.{CanvasView}
use Rattle.recording_writer.specs.Images.{image_of}
use Rattle.recording_writer.specs.Repeats.{missing_in, KeepsAt, KeepsFrom, Keeps}
use Rattle.recording_writer.proofs.Places.{still_there}

-- after a draw stands what the screen shows with the missing tiles that it lists
pub behind_draw : (s : ScriptModel) (h : List Entry) (e : Event) (missing : List TileKey) → missing_in e ≡ Some missing → shown_image s h missing ≡ image_behind s h e
behind_draw s h (event.Draw i lacks) missing lists = let same : missing ≡ lacks = cc in ap (λ (keys : List TileKey). shown_image s h keys) same
behind_draw s h _ missing lists = absurd cc

-- what was drawn now is kept
pub kept_here : (s : ScriptModel) (h entries : List Entry) (picture : CanvasView) (at : ℕ) (e : Entry) → slice_get entries at ≡ Some e → image_of picture ≡ image_behind s h e.event
    → KeepsAt s h entries picture at
kept_here s h entries picture at e there image = record {
  drawn = e;
  there = there;
  image = λ missing lists. image ∙ sym (behind_draw s h e.event missing lists);
}

-- it is kept where more comes after the entries
from_longer : (s : ScriptModel) (h entries news : List Entry) (picture : CanvasView) (place : Option ℕ) → KeepsFrom s h entries picture place → KeepsFrom s h (entries ++ news) picture place
from_longer s h entries news picture None keeps = tt
from_longer s h entries news picture (Some at) keeps = record {
  drawn = keeps.drawn;
  there = still_there entries news at keeps.drawn keeps.there;
  image = keeps.image;
}

pub keeps_longer : (s : ScriptModel) (h entries news : List Entry) (last : LastDraw) → Keeps s h entries last → Keeps s h (entries ++ news) last
keeps_longer s h entries news last keeps = from_longer s h entries news last.painter.canvas last.place keeps

-- the head of the image after some lines, and then the packed pixels
pub drawn_text : (p : CanvasView) (lines text behind : List ℕ) (w h : ℕ) → w ≡ p.w → h ≡ p.h → text ≡ lines ++ image_head w h → image_of p ≡ behind
    → text ++ p.bytes ≡ lines ++ behind
drawn_text p lines text behind w h wide tall made is =
    ap (λ (xs : List ℕ). xs ++ p.bytes) (made ∙ ap (λ (n : ℕ). lines ++ image_head n h) wide ∙ ap (λ (n : ℕ). lines ++ image_head p.w n) tall)
    ∙ append_assoc lines (image_head p.w p.h) p.bytes
    ∙ ap (λ (xs : List ℕ). lines ++ xs) is

-- what is kept is kept however writing ends
pub kept_on : {X E : Type 0} (result : Result X E) (P : Type 0) → P → OnOk result P
kept_on (Ok x) P holds = holds
kept_on (Err e) P holds = tt
