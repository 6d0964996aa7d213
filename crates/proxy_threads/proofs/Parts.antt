-- The part of a recording that the compositor writes at a turn: the lines of what the others entered, and of its own event, and its image.
use Rattle.std.proofs.Common.{◌≡◌, ◌≢◌, ℕ, false, List, [], ◌∷◌, ◌++◌, refl, sym, ◌∙◌, ap, subst, append_assoc, append-nil}
use mathlib.Core.List.{reverse_aux}
use Rattle.viz_scene.specs.Views.{SceneView}
use Rattle.model_states.specs.declared.kind.Kind.TheVariants as kind
use Rattle.thread_lock.specs.Lists.{entries_by}
use Rattle.model_history.specs.declared.event.Event.{Event}
use Rattle.model_history.specs.declared.event.Event.TheVariants as event
use Rattle.model_history.specs.declared.history.Entry.{Entry}
use Rattle.model_history.specs.Scripts.{ScriptModel}
use Rattle.model_history.specs.EventFields.{kind_of, actor_of}
use Rattle.model_history.specs.Legal.{Legal}
use Rattle.model_history.specs.Recordings.{piece, pieces}
use Rattle.model_history.specs.Texts.{event_line}
use Rattle.model_history.proofs.BoolFacts.{other_number}
use Rattle.model_history.proofs.DueFacts.{entry}
use Rattle.impl_core.specs.Replies.{IsPicture, is_draw_kind}
use Rattle.impl_core.proofs.DrawnImages.{drawn_image}
use Rattle.thread_pieces.specs.Scenes.{scene_image}
use Rattle.proxy_threads.specs.Seats.{entry_of_pair, entries_of, past_of}
use Rattle.proxy_threads.specs.Writing.{part}
use Rattle.proxy_threads.specs.inner.Steps.{lines_of}
use Rattle.proxy_threads.proofs.Holds.{entries_more}
use Rattle.proxy_threads.proofs.Others.{grown, grown_aux, past_longer, theirs, legal_front}

-- ---- one event

-- an event of another actor adds its line alone
line_alone : (s : ScriptModel) (h : List Entry) (a : ℕ) (e : Event) → a ≢ 0 → a ≡ actor_of e → piece s h e ≡ event_line e
unfolding piece
line_alone s h a (event.Draw i lacks) other is = absurd (other is)
line_alone s h a e other is = append-nil (event_line e)

-- an event that shows nothing adds its line alone
plain_piece : (s : ScriptModel) (h : List Entry) (e : Event) → is_draw_kind (kind_of e) ≡ false → piece s h e ≡ event_line e
unfolding piece
plain_piece s h (event.Draw i lacks) f = absurd (cc)
plain_piece s h e f = append-nil (event_line e)

-- a draw adds its line and the image of its picture
drawn_piece : (s : ScriptModel) (n : ℕ) (h : List Entry) (e : Event) (scene : SceneView) → kind_of e ≡ kind.Draw → Legal s n (entry 0 e ∷ h) → IsPicture s h scene → piece s h e ≡ event_line e ++ scene_image scene
unfolding piece scene_image
drawn_piece s n h (event.Draw i lacks) scene k legal is = ap (λ (image : List ℕ). event_line (event.Draw i lacks) ++ image) (sym (drawn_image s n h 0 i lacks scene legal.1 is))
drawn_piece s n h _ scene k legal is = absurd (cc)

-- ---- several

pub lines_more : (es fs : List Entry) → lines_of (es ++ fs) ≡ lines_of es ++ lines_of fs
lines_more [] fs = refl
lines_more (e ∷ es) fs = ap (λ (w : List ℕ). event_line e.event ++ w) (lines_more es fs) ∙ sym (append_assoc (event_line e.event) (lines_of es) (lines_of fs))

pieces_more : (s : ScriptModel) (es fs : List Entry) (h : List Entry) → pieces s h (es ++ fs) ≡ pieces s h es ++ pieces s (reverse_aux es h) fs
pieces_more s [] fs h = refl
pieces_more s (e ∷ es) fs h = ap (λ (w : List ℕ). piece s h e.event ++ w) (pieces_more s es fs (e ∷ h)) ∙ sym (append_assoc (piece s h e.event) (pieces s (e ∷ h) es) (pieces s (reverse_aux es (e ∷ h)) fs))

-- a part and a later one are a part
pub part_more : (s : ScriptModel) (before xs ys : List (ℕ × Event)) → part s before (xs ++ ys) ≡ part s before xs ++ part s (before ++ xs) ys
unfolding part
part_more s before xs ys =
    ap (λ (es : List Entry). pieces s (past_of before) es) (entries_more xs ys)
    ∙ (pieces_more s (entries_of xs) (entries_of ys) (past_of before)
    ∙ ap (λ (h : List Entry). pieces s (past_of before) (entries_of xs) ++ pieces s h (entries_of ys)) (grown_aux xs (past_of before) ∙ sym (past_longer before xs)))

-- what the others entered adds its lines alone
pub others_lines : (s : ScriptModel) (n : ℕ) (ys : List (ℕ × Event)) (h : List Entry) → entries_by 0 ys ≡ [] → Legal s n (grown h ys) → pieces s h (entries_of ys) ≡ lines_of (entries_of ys)
others_lines s n [] h none legal = refl
others_lines s n (y ∷ ys) h none legal =
    let t = theirs 0 y ys none in
    let next = (legal_front s n 0 ys (entry_of_pair y ∷ h) legal).1 in
    ap (λ (w : List ℕ). w ++ pieces s (entry_of_pair y ∷ h) (entries_of ys)) (line_alone s h y.0 y.1 (other_number y.0 0 t.first) next.actor)
    ∙ ap (λ (w : List ℕ). event_line y.1 ++ w) (others_lines s n ys (entry_of_pair y ∷ h) t.others legal)

-- the others' part, and one own event after it, which adds its line and this
module _ (s : ScriptModel) (n : ℕ) (before more : List (ℕ × Event)) (none : entries_by 0 more ≡ []) (legal : Legal s n (past_of (before ++ more))) where
  pub others_part : part s before more ≡ lines_of (entries_of more)
  unfolding part
  others_part = others_lines s n more (past_of before) none (subst (Legal s n) (past_longer before more) legal)

  own_part : (e : Event) (image : List ℕ) → piece s (past_of (before ++ more)) e ≡ event_line e ++ image → part s before (more ++ (0, e) ∷ []) ≡ lines_of (entries_of (more ++ (0, e) ∷ [])) ++ image
  unfolding part
  own_part e image adds =
      let one : List Entry = entry 0 e ∷ [] in
      part_more s before more ((0, e) ∷ [])
      ∙ ap (λ (w : List ℕ). w ++ part s (before ++ more) ((0, e) ∷ [])) others_part
      ∙ ap (λ (w : List ℕ). lines_of (entries_of more) ++ w) (append-nil (piece s (past_of (before ++ more)) e) ∙ (adds ∙ ap (λ (w : List ℕ). w ++ image) (sym (append-nil (event_line e)))))
      ∙ (sym (append_assoc (lines_of (entries_of more)) (lines_of one) image)
      ∙ ap (λ (w : List ℕ). w ++ image) (sym (ap (λ (es : List Entry). lines_of es) (entries_more more ((0, e) ∷ [])) ∙ lines_more (entries_of more) one)))

  pub plain_part : (e : Event) → is_draw_kind (kind_of e) ≡ false → part s before (more ++ (0, e) ∷ []) ≡ lines_of (entries_of (more ++ (0, e) ∷ [])) ++ []
  plain_part e f = own_part e [] (plain_piece s (past_of (before ++ more)) e f ∙ sym (append-nil (event_line e)))

  pub drawn_part : (e : Event) (scene : SceneView) → kind_of e ≡ kind.Draw → Legal s n (entry 0 e ∷ past_of (before ++ more)) → IsPicture s (past_of (before ++ more)) scene
      → part s before (more ++ (0, e) ∷ []) ≡ lines_of (entries_of (more ++ (0, e) ∷ [])) ++ scene_image scene
  drawn_part e scene k legal is = own_part e (scene_image scene) (drawn_piece s n (past_of (before ++ more)) e scene k legal is)
