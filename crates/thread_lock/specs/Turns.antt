-- The rule of the lock: what is true of the words, the slot and all passes between any two steps.
use Rattle.std.specs.Prelude.{◌≡◌, ℕ, ◌<◌, ◌≤◌, true, false, List, [], ◌∷◌, map, length, ◌++◌, Option, Some, None, option_to_list}
use mathlib.Core.Option.{some, none}
use mathlib.Core.List.{IsPrefix}
use lib.ListN.{get_elem?}
use Rattle.atomic_table.specs.Table.{State}
use Rattle.thread_lock.specs.declared.board.PassView.{PassView}
use Rattle.thread_lock.specs.declared.board.Old.{Old}
use Rattle.std.specs.List.{AllByRecursion}
use Rattle.thread_lock.specs.Lists.{entries_by, times}

module _ {M E : Type 0} where
  -- the first pass, before its first turn: it has number 0, and one number was given
  abbrev pub opening_view : M → ℕ → PassView M E
  opening_view stem most = record { stem = Some stem; number = Some 0; most = most; seen = []; mine = []; holds = false; taken = 0; busy = 0; known = 1; olds = [] }

  -- the number of a pass, and those of the passes that it took in
  abbrev pub numbers_of : PassView M E → List ℕ
  numbers_of v = option_to_list v.number ++ map (λ o. o.number) v.olds

  -- What is true of a pass that another took in, by the log, the owners of the numbers, and the seat that took it in
  pub record OldOk (stem : M) (log : List (ℕ × E)) (made : ℕ) (owner : ℕ → ℕ) (seat : ℕ) (o : Old M E) : Type 0 where
    -- it began with the value's stem
    pub begun : o.stem ≡ Some stem
    -- its number was given, and belongs to the seat that took it in
    pub given : o.number < made
    pub owned : owner o.number ≡ seat
    -- what it saw is where the history began
    pub behind : IsPrefix o.seen log
    -- what it made is all that the history has of its number
    pub whole : o.mine ≡ entries_by o.number log

  -- What is true of one pass, by the log, the count of numbers given, the holder's seat, the owners of the numbers, and its seat
  pub record Knows (stem : M) (most : ℕ) (log : List (ℕ × E)) (turn made holder : ℕ) (owner : ℕ → ℕ) (seat : ℕ) (v : PassView M E) : Type 0 where
    -- a pass that is not spent has the value's stem and the lock's `most`; no more numbers are known than were given; what it saw is where the history began
    pub live : (m : M) → v.stem ≡ Some m → (m ≡ stem) × (v.most ≡ most) × (v.known ≤ made) × IsPrefix v.seen log
    -- a number was given, and belongs to the pass's seat; what the pass made is all that the history has of its number
    pub numbered : (n : ℕ) → v.number ≡ Some n → (n < made) × (owner n ≡ seat) × (v.mine ≡ entries_by n log)
    -- without a number it made nothing
    pub bare : v.number ≡ None → v.mine ≡ []
    -- the holder is one pass, with a number, while the turn is taken; it saw the whole history
    pub holding : v.holds ≡ true → (turn ≡ 1) × (holder ≡ seat) × (v.seen ≡ log) × ((n : ℕ) × (v.number ≡ Some n))
    -- the passes that it took in
    pub kept : AllByRecursion (OldOk stem log made owner seat) v.olds
    -- it has no number twice
    pub once : (k : ℕ) → times k (numbers_of v) ≤ 1

  -- the pass at this seat holds the turn
  abbrev pub Holds : List (PassView M E) → ℕ → Type 0
  Holds views seat = (v : PassView M E) × (get_elem? views seat ≡ some v) × (v.holds ≡ true)

-- The rule, by what a value has as its stem and its history
module _ {M E T : Type 0} (stem_of : T → M) (history_of : T → List (ℕ × E)) where
  pub record Kept (s : State (Option T) (PassView M E)) : Type 0 where
    -- the history
    pub log : List (ℕ × E)
    -- what the value began with
    pub stem : M
    -- how many passes the lock was made for
    pub most : ℕ
    -- 1 while a pass holds the turn, 0 otherwise
    pub turn : ℕ
    -- how many numbers were given to passes
    pub made : ℕ
    -- the seat of the holder
    pub holder : ℕ
    -- the seat that has a number
    pub owner : ℕ → ℕ
    -- the words are the turn, the length of the history and the count of numbers
    pub words : s.words ≡ turn ∷ length log ∷ made ∷ []
    -- the turn is free or taken
    pub sides : turn < 2
    -- no more numbers are given than the lock was made for
    pub fits : made ≤ most
    -- no entry has a number that was not given
    pub unused : (n : ℕ) → made ≤ n → entries_by n log ≡ []
    -- while the turn is free, the value is at home; its history is the log, and its stem the stem
    pub free : turn ≡ 0 → (x : T) × (s.homes ≡ some (Some x) ∷ []) × (history_of x ≡ log) × (stem_of x ≡ stem)
    -- while the turn is taken, the slot is out, and one pass is the holder
    pub out : turn ≡ 1 → (s.homes ≡ none ∷ []) × Holds s.views holder
    -- what is true of each pass
    pub each : (seat : ℕ) (v : PassView M E) → get_elem? s.views seat ≡ some v → Knows stem most log turn made holder owner seat v
