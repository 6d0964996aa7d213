-- What holds of wheels and of chains.
use Rattle.std.specs.Prelude.{ℕ, ℤ, pos, ◌≡◌, ◌+ℤ◌, ◌<ℤ◌, ◌==◌, Bool, true, false, List, [], ◌∷◌, ◌++◌}
use Rattle.std.specs.List.{list_any}
use Rattle.geom.specs.declared.rect.Point.{Point}
use Rattle.page_layers.specs.declared.moves.Move.{Move}
use Rattle.page_layers.specs.Axes.{Axis, amount, along}
use Rattle.page_layers.specs.Scrollers.{has_scroller, most}
use Rattle.page_layers.specs.Pages.{Page}
use Rattle.page_layers.specs.Wheels.{chain_rest, takes_at}

-- the sum of the moves along an axis
abbrev pub total_amount : Axis → List Move → ℤ
total_amount ax [] = pos 0
total_amount ax (m ∷ ms) = amount ax m +ℤ total_amount ax ms

-- a number stands in a list
abbrev pub stands_in : List ℕ → ℕ → Bool
stands_in ns n = list_any (λ m. m == n) ns

-- no number stands twice
abbrev pub AreDistinctNumbers : List ℕ → Type 0
AreDistinctNumbers [] = Unit {0}
AreDistinctNumbers (n ∷ ns) = (stands_in ns n ≡ false) × AreDistinctNumbers ns

-- each of them is a scroller of the page
abbrev pub AreScrollersOf : Page → List ℕ → Type 0
AreScrollersOf p ns = (n : ℕ) → stands_in ns n ≡ true → has_scroller p n ≡ true

-- a scroller that took this much is then at the end of its range in that direction
pub record IsAtEnd (p : Page) (offset : ℕ → Point) (sc : ℕ) (ax : Axis) (asked by : ℤ) : Type 0 where
  pub forwards : pos 0 <ℤ asked → along ax (offset sc) +ℤ by ≡ pos (most p sc ax)
  pub backwards : asked <ℤ pos 0 → along ax (offset sc) +ℤ by ≡ pos 0

-- if a scroller after these takes anything, each of these is then at the end of its range in the direction of what is asked
abbrev pub TakeInTurn : Page → (ℕ → Point) → Axis → Type 0
TakeInTurn p offset ax =
    (before : List ℕ) (b : ℕ) (between : List ℕ) (sc : ℕ) (asked : ℤ)
    → (takes_at p offset sc ax (chain_rest (takes_at p offset) ax (before ++ b ∷ between) asked) ≡ pos 0 → ⊥)
    → has_scroller p b ≡ true
    → IsAtEnd p offset b ax asked (takes_at p offset b ax (chain_rest (takes_at p offset) ax before asked))
