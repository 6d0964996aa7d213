-- Stamps over a list of commits are stepped by carrying a change, and fix a tiling.
use Rattle.std.proofs.Common.{◌≡◌, ℕ, Bool, true, false, cond, ◌||◌, Option, Some, None, List, ◌∷◌, refl, sym, ◌∙◌, ap}
use Rattle.geom.specs.declared.rect.Rect.{Rect}
use Rattle.geom.specs.Sides.{Sides}
use Rattle.geom.specs.Grids.{has, rect_of_place}
use Rattle.region.specs.declared.change.LayerChange.{LayerChange}
use Rattle.region.specs.Lists.{change_of}
use Rattle.tile_tiling.specs.Tiles.{Tiled, stamp_at, HasStamps, shows_in, IsCarried}
use Rattle.tile_tiling.specs.Stamps.{Commit, may_show_in, changes_in, stamp_of, IsStamped, CarryStepsStamps}

anew : (t : Tiled) (g : Sides) (layer : ℕ) (c : Commit) (cs : List Commit)
    → ((r : Rect) → changes_in layer r c ≡ true) → HasStamps t g (λ _. c.frame) → IsStamped t g layer (c ∷ cs)
anew t g layer c cs all h p has =
    ap Some (h.places p has) ∙ ap (λ b. cond b (Some c.frame) (stamp_of layer (rect_of_place g p) cs)) (sym (all (rect_of_place g p)))

-- what a commit that does not retile changes, by its change of the layer
shows_by : (c : Commit) (layer : ℕ) (o : Option LayerChange) (r : Rect) → c.changed.retiled ≡ false → change_of c.changed.list layer ≡ o → changes_in layer r c ≡ may_show_in o r
shows_by c layer o r e f = λ i. e i || may_show_in (f i) r

kept : (t : Tiled) (layer : ℕ) (c : Commit) (cs : List Commit)
    → c.changed.retiled ≡ false → change_of c.changed.list layer ≡ None
    → IsStamped t t.grid layer cs → IsStamped t t.grid layer (c ∷ cs)
kept t layer c cs e f s p has =
    s p has ∙ ap (λ b. cond b (Some c.frame) (stamp_of layer (rect_of_place t.grid p) cs)) (sym (shows_by c layer None (rect_of_place t.grid p) e f))

some_of : (b : Bool) (m n : ℕ) (o : Option ℕ) → Some n ≡ o → Some (cond b m n) ≡ cond b (Some m) o
some_of true m n o e = refl
some_of false m n o e = e

carried : (t u : Tiled) (layer : ℕ) (d : LayerChange) (c : Commit) (cs : List Commit)
    → c.changed.retiled ≡ false → change_of c.changed.list layer ≡ Some d
    → IsStamped t t.grid layer cs → IsCarried t d c.frame u → IsStamped u t.grid layer (c ∷ cs)
carried t u layer d c cs e f s k p has =
    ap Some (k.places p has)
    ∙ (some_of (shows_in d (rect_of_place t.grid p)) c.frame (stamp_at t p) (stamp_of layer (rect_of_place t.grid p) cs) (s p has)
    ∙ ap (λ b. cond b (Some c.frame) (stamp_of layer (rect_of_place t.grid p) cs)) (sym (shows_by c layer (Some d) (rect_of_place t.grid p) e f)))

pub steps : CarryStepsStamps
steps = record { anew = anew; carried = carried; kept = kept }
