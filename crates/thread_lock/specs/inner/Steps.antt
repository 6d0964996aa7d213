-- What each step tells the pass that takes it.
use Rattle.std.specs.Prelude.{◌≡◌, ◌≢◌, ◌⊎◌, ℕ, ◌+◌, ◌<◌, ◌≤◌, max, true, false, List, [], ◌∷◌, ◌++◌, length, Option, Some, None}
use mathlib.Core.List.{IsPrefix}
use Rattle.atomic_table.specs.Table.{Me, Step, rest}
use Rattle.thread_lock.specs.declared.board.PassView.{PassView}
use Rattle.thread_lock.specs.declared.board.Old.{Old}
use Rattle.thread_lock.specs.Lists.{entries_by, gained}

-- a seat: what its pass knows, and the slot if it is out with it
abbrev pub Who : Type 0 → Type 0 → Type 0 → Type 0
Who M E T = Me (Option T) (PassView M E)

module _ {M E : Type 0} where
  -- what the holder knows once it has found the value
  abbrev pub sees : List (ℕ × E) → PassView M E → PassView M E
  sees history v = record v { seen = history; holds = true; taken = v.taken + 1 }

  -- what the holder knows once the history is this: it made what the history has beyond the seen
  abbrev pub gains : List (ℕ × E) → PassView M E → PassView M E
  gains history v = record v { seen = history; mine = v.mine ++ gained v.seen history }

module _ {M E T : Type 0} where
  -- The pass has the turn, with the value: what it saw is where the history began, the stem is as it knew it, and what it made is all that the history has of its number
  abbrev pub Took : (T → M) → (T → List (ℕ × E)) → Who M E T → Who M E T → Type 0
  Took stem_of history_of m m' = (x : T) × (m' ≡ (sees (history_of x) m.0, (0, Some x) ∷ m.1)) × IsPrefix m.0.seen (history_of x) × (m.0.stem ≡ Some (stem_of x))
      × ((n : ℕ) → m.0.number ≡ Some n → m.0.mine ≡ entries_by n (history_of x))

  -- the turn was taken, and the pass counts that
  abbrev pub Missed : Who M E T → Who M E T → Type 0
  Missed m m' = m' ≡ (record m.0 { busy = m.0.busy + 1 }, m.1)

  -- an exchange takes the turn if it found it free
  abbrev pub tried : (T → M) → (T → List (ℕ × E)) → Step (Option T) → Who M E T → ℕ → Who M E T → Type 0
  tried stem_of history_of st m found m' = (found ≡ 0 → Took stem_of history_of m m') × (found ≢ 0 → Missed m m')

  -- What the holder brings back: a value, in hand, with the history that it saw, or with one entry of its own after that; and both counts of entries
  pub record Brings (history_of : T → List (ℕ × E)) (count entries : ℕ) (me : Who M E T) : Type 0 where
    pub value : T
    pub actor : ℕ
    pub hand : me.1 ≡ (0, Some value) ∷ []
    pub number : me.0.number ≡ Some actor
    pub holds : me.0.holds ≡ true
    pub fresh : me.0.olds ≡ []
    pub history : (history_of value ≡ me.0.seen) ⊎ ((entry : E) × (history_of value ≡ me.0.seen ++ (actor, entry) ∷ []))
    pub count_is : count ≡ length me.0.seen
    pub entries_are : entries ≡ length (history_of value)

  -- the history of the value in hand is what the holder saw
  abbrev pub stamped : (T → List (ℕ × E)) → Step (Option T) → Who M E T → ℕ → Who M E T → Type 0
  stamped history_of st m count m' = (x : T) → m.1 ≡ (0, Some x) ∷ [] → m' ≡ (gains (history_of x) m.0, m.1)

  -- the pass holds the turn no more
  abbrev pub released : Step (Option T) → Who M E T → ℕ → Who M E T → Type 0
  released st m stored m' = m' ≡ (record m.0 { holds = false }, rest m.1)

  -- the number that was found is the pass's, if it is the one asked for
  abbrev pub drawn : Step (Option T) → Who M E T → ℕ → Who M E T → Type 0
  drawn st m found m' = found ≡ st.first → m' ≡ (record m.0 { number = Some found }, m.1)

  -- as many numbers were given as were found, and no more than the lock was made for
  abbrev pub learned : Step (Option T) → Who M E T → ℕ → Who M E T → Type 0
  learned st m found m' = (m' ≡ (record m.0 { known = found }, m.1)) × (m.0.known ≤ found) × (found ≤ m.0.most) × ((n : ℕ) → m.0.number ≡ Some n → n < found)

module _ {M E : Type 0} where
  -- a pass that was just made of another, and has no number yet
  abbrev pub newcomer : PassView M E → PassView M E
  newcomer v = record v { number = None; mine = []; holds = false; taken = 0; busy = 0; olds = [] }

  -- what is kept of a pass that is taken in, if it has a number
  abbrev pub old_at : Option ℕ → PassView M E → List (Old M E)
  old_at None w = []
  old_at (Some n) w = record { stem = w.stem; number = n; seen = w.seen; mine = w.mine } ∷ []

  -- the pass v once it has taken in w
  abbrev pub absorbed : PassView M E → PassView M E → PassView M E
  absorbed v w = record v { known = max v.known w.known; olds = old_at w.number w ++ v.olds }

  -- the pass that was taken in
  abbrev pub spent_view : PassView M E
  spent_view = record { stem = None; number = None; most = 0; seen = []; mine = []; holds = false; taken = 0; busy = 0; known = 0; olds = [] }
