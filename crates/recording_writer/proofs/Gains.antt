-- What a sink gained piece by piece is a prefix of the whole.
use Rattle.std.proofs.Common.{◌≡◌, ℕ, List, [], ◌∷◌, ◌++◌, ap, sym, ◌∙◌, append_assoc, append-nil, subst}
use Rattle.std.specs.Prelude.{Option, Result, Ok, Err}
use Rattle.std.specs.Io.KnownBytes.{Appends}
use Rattle.viz_scene.specs.Views.{SceneView}
use Rattle.thread_pieces.specs.Scenes.{scene_image}
use Rattle.byte_io.specs.Pieces.{PutsAll}
use Rattle.thread_pieces.proofs.Gains.{gains_both, gains_front}
use Rattle.recording_writer.specs.Images.{scene_images}
use Rattle.recording_writer.specs.Parts.{Half, WritesPart}

-- some bytes were put, and then others or a prefix of them
pub written_after : {X E : Type 0} (result : Result X E) (old mid new : Option (List ℕ)) (a b whole : List ℕ) → Appends old mid a → PutsAll mid new b result → a ++ b ≡ whole → PutsAll old new whole result
written_after (Ok x) old mid new a b whole first more e = subst (λ (w : List ℕ). Appends old new w) e (gains_both old mid new a b first more)
written_after (Err stop) old mid new a b whole first more e = gains_front old mid new a b [] whole first more (append-nil (a ++ b) ∙ e)

-- the same where nothing is held back any more
pub behind_written : {X E : Type 0} (result : Result X E) (old mid new : Option (List ℕ)) (a b held : List ℕ) → Appends old mid a → held ≡ [] → PutsAll mid new b result → WritesPart old new (a ++ b) held result
behind_written (Ok x) old mid new a b held first empty more = (a ++ b, ap (λ w. (a ++ b) ++ w) empty ∙ append-nil (a ++ b), gains_both old mid new a b first more)
behind_written (Err stop) old mid new a b held first empty more = gains_front old mid new a b [] (a ++ b) first more (append-nil (a ++ b))

joins : (gained held lines p q : List ℕ) → gained ++ held ≡ lines ++ p → gained ++ (held ++ q) ≡ lines ++ (p ++ q)
joins gained held lines p q e = sym (append_assoc gained held q) ∙ ap (λ w. w ++ q) e ∙ append_assoc lines p q

-- a part was written but for what is held back, and then another with it
pub parts_join : {X E : Type 0} (result : Result X E) (old mid new : Option (List ℕ)) (lines p held q after : List ℕ) → Half old mid (lines ++ p) held → WritesPart mid new (held ++ q) after result → WritesPart old new (lines ++ (p ++ q)) after result
parts_join (Ok x) old mid new lines p held q after first more =
    (first.0 ++ more.0, append_assoc first.0 more.0 after ∙ ap (λ w. first.0 ++ w) more.1 ∙ joins first.0 held lines p q first.1, gains_both old mid new first.0 more.0 first.2 more.2)
parts_join (Err stop) old mid new lines p held q after first more =
    gains_front old mid new first.0 (held ++ q) [] (lines ++ (p ++ q)) first.2 more (append-nil (first.0 ++ (held ++ q)) ∙ joins first.0 held lines p q first.1)

-- bytes more that are held back are bytes more of the whole
pub half_longer : (old new : Option (List ℕ)) (a b held : List ℕ) → Half old new a held → Half old new (a ++ b) (held ++ b)
half_longer old new a b held half = (half.0, sym (append_assoc half.0 held b) ∙ ap (λ w. w ++ b) half.1, half.2)

-- one more piece was written: what was gained of it is added, and what is held back of it takes the place of what was held back before
pub piece_moves : (done lines gained held piece rest all whole : List ℕ) → gained ++ held ≡ lines ++ piece → all ≡ piece ++ rest → done ++ (lines ++ all) ≡ whole → (done ++ gained) ++ (held ++ rest) ≡ whole
piece_moves done lines gained held piece rest all whole part is e =
    append_assoc done gained (held ++ rest)
    ∙ ap (λ w. done ++ w) (joins gained held lines piece rest part ∙ ap (λ w. lines ++ w) (sym is))
    ∙ e

-- a prefix of one more piece was written
pub piece_stops : (done lines piece rest all whole : List ℕ) → all ≡ piece ++ rest → done ++ (lines ++ all) ≡ whole → (done ++ (lines ++ piece)) ++ rest ≡ whole
piece_stops done lines piece rest all whole is e =
    append_assoc done (lines ++ piece) rest ∙ ap (λ w. done ++ w) (append_assoc lines piece rest ∙ ap (λ w. lines ++ w) (sym is)) ∙ e

-- a scene more was put
pub scene_put : (scenes left : List SceneView) (scene : SceneView) (gained whole : List ℕ) → scenes ≡ scene ∷ left → gained ++ scene_images scenes ≡ whole → (gained ++ scene_image scene) ++ scene_images left ≡ whole
scene_put scenes left scene gained whole is same =
    append_assoc gained (scene_image scene) (scene_images left) ∙ ap (λ (zs : List SceneView). gained ++ scene_images zs) (sym is) ∙ same
