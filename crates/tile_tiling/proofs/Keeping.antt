-- What is kept of the stamps, and the stamps that it stands for.
use Rattle.std.proofs.Common.{◌≡◌, ℕ, ◌≤◌, ◌*◌, nat_eq, true, false, cond, ◌||◌, List, [], ◌∷◌, length, get_or, refl, sym, ◌∙◌, ap, subst, arith}
use Rattle.std.specs.Prelude.{replicate}
use Rattle.std.proofs.lemmas.Bool.Decides.{nat_tests}
use Rattle.std.proofs.lemmas.List.{length-replicate}
use Rattle.geom.specs.declared.tile.Place.{Place}
use Rattle.geom.specs.Sides.{Sides}
use Rattle.geom.specs.Grids.{has, tiles, rect_of_place}
use Rattle.region.specs.declared.change.LayerChange.{LayerChange}
use Rattle.region.specs.Points.{touched}
use Rattle.tile_tiling.specs.Tiles.{Tiled, IsWhole, index_of, HasStamps, shows_in}
use Rattle.tile_tiling.specs.inner.Kept.{stamps_of, IsKept}
use Rattle.tile_tiling.proofs.Cells.{uniform}

-- one stamp for each place may be kept as it is
pub kept_whole : (g : Sides) (stamps : List ℕ) (room : ℕ) → IsWhole g stamps → IsKept g stamps room
kept_whole g [] room w = omega arith
kept_whole g (s ∷ stamps) room w = w

-- and is what it stands for
pub stamps_whole : (g : Sides) (base : ℕ) (stamps : List ℕ) → IsWhole g stamps → stamps_of g base stamps ≡ stamps
stamps_whole g base [] w = ap (λ n. replicate n base) (sym w)
stamps_whole g base (s ∷ stamps) w = refl

-- there is one stamp for each place
pub of_whole : (g : Sides) (base : ℕ) (stamps : List ℕ) (room : ℕ) → IsKept g stamps room → IsWhole g (stamps_of g base stamps)
of_whole g base [] room k = length-replicate (tiles g.w g.tile * tiles g.h g.tile) base
of_whole g base (s ∷ stamps) room k = k

-- where none is kept, the base is the stamp of each place
pub base_at : (g : Sides) (base : ℕ) (stamps : List ℕ) (p : Place) → stamps ≡ [] → has g p ≡ true → get_or (stamps_of g base stamps) (index_of g p) 0 ≡ base
base_at g base stamps p none h = ap (λ ss. get_or (stamps_of g base ss) (index_of g p) 0) none ∙ uniform g base p h

pub base_for_all : (t : Tiled) (g : Sides) (base : ℕ) (stamps : List ℕ) → stamps ≡ [] → t ≡ record { grid = g; stamps = stamps_of g base stamps } → HasStamps t g (λ _. base)
base_for_all t g base stamps none is = subst (λ u. HasStamps u g (λ _. base)) (sym is) (record {
  grid = refl;
  whole = ap (λ ss. length (stamps_of g base ss)) none ∙ length-replicate (tiles g.w g.tile * tiles g.h g.tile) base;
  places = λ p h. base_at g base stamps p none h;
})

-- a list whose length is 0 is empty
pub none_of : (stamps : List ℕ) (n : ℕ) → n ≡ length stamps → nat_eq n 0 ≡ true → stamps ≡ []
none_of [] n is none = refl
none_of (s ∷ stamps) n is none = let zero : n ≡ 0 = grind (arith, nat_tests) in absurd (omega arith)

-- with none kept there is room for all
pub room_left : (g : Sides) (stamps : List ℕ) (room : ℕ) → IsKept g stamps room → length stamps ≤ room → tiles g.w g.tile * tiles g.h g.tile ≤ room
room_left g [] room k few = k
room_left g (s ∷ stamps) room k few = subst (λ n. n ≤ room) k few

pub kept_none : (g : Sides) (stamps : List ℕ) (room : ℕ) → stamps ≡ [] → tiles g.w g.tile * tiles g.h g.tile ≤ room → IsKept g stamps room
kept_none g stamps room none few = subst (λ ss. IsKept g ss room) (sym none) few

-- a change of the whole layer, and one of a part
pub whole_carried : (t : Tiled) (g : Sides) (c : LayerChange) (stamp : ℕ) (old : Place → ℕ) → c.whole ≡ true
    → HasStamps t g (λ _. stamp) → HasStamps t g (λ p. cond (shows_in c (rect_of_place g p)) stamp (old p))
whole_carried t g c stamp old e k = record {
  grid = k.grid;
  whole = k.whole;
  places = λ p h. k.places p h ∙ ap (λ b. cond (b || touched c.region (rect_of_place g p)) stamp (old p)) (sym e);
}

pub part_carried : (t : Tiled) (g : Sides) (c : LayerChange) (stamp : ℕ) (old : Place → ℕ) → c.whole ≡ false
    → HasStamps t g (λ p. cond (touched c.region (rect_of_place g p)) stamp (old p)) → HasStamps t g (λ p. cond (shows_in c (rect_of_place g p)) stamp (old p))
part_carried t g c stamp old e k = record {
  grid = k.grid;
  whole = k.whole;
  places = λ p h. k.places p h ∙ ap (λ b. cond (b || touched c.region (rect_of_place g p)) stamp (old p)) (sym e);
}
