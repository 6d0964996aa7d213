-- What contracts see of a lock and of a pass.
use Rattle.std.specs.Prelude.{◌≡◌, ◌≢◌, ℕ, true, false, List, [], ◌∷◌, map, Contains, Option, Some, None, IsSome}
use mathlib.Core.List.{IsPrefix}
use Rattle.atomic_table.specs.Table.{Me}
use Rattle.atomic_table.specs.Seated.{TableId}
use Rattle.thread_lock.specs.declared.board.PassView.{PassView}
use Rattle.thread_lock.specs.declared.board.Old.{Old}
use Rattle.thread_lock.specs.Lists.{entries_by}

-- Which lock it is, and how many passes it was made for
pub record Lock : Type 0 where
  pub id : TableId
  pub most : ℕ

-- A pass, free or with the turn
pub record PassModel (M E : Type 0) : Type 0 where
  -- the lock that it is of
  pub lock : TableId
  -- its number
  pub actor : ℕ
  -- what the value began with
  pub stem : Option M
  -- how many passes the lock was made for
  pub most : ℕ
  -- the history that it saw last
  pub seen : List (ℕ × E)
  -- the entries that it made
  pub mine : List (ℕ × E)
  -- how often it took the turn
  pub taken : ℕ
  -- how often its exchange found the turn taken
  pub busy : ℕ
  -- how many numbers the lock is known to have given
  pub known : ℕ

-- A pass with the turn, and the value
pub record Hold (T M E : Type 0) : Type 0 where
  pub pass : PassModel M E
  pub value : T

module _ {M E : Type 0} where
  -- what contracts see of a pass with this lock, number and view
  abbrev pub pass_of : TableId → ℕ → PassView M E → PassModel M E
  pass_of lock actor v = record { lock = lock; actor = actor; stem = v.stem; most = v.most; seen = v.seen; mine = v.mine; taken = v.taken; busy = v.busy; known = v.known }

  -- what is kept of a pass that another takes in
  abbrev pub old_of : PassModel M E → Old M E
  old_of p = record { stem = p.stem; number = p.actor; seen = p.seen; mine = p.mine }

  -- each entry has the number of one of the passes
  abbrev pub HasAllActors : List (ℕ × E) → List (PassModel M E) → Type 0
  HasAllActors history passes = (actor : ℕ) → entries_by actor history ≢ [] → Contains (map (λ p. p.actor) passes) actor

-- the pass is the lock's
abbrev pub IsOf : {M E : Type 0} → Lock → PassModel M E → Type 0
IsOf lock p = (p.lock ≡ lock.id) × (p.most ≡ lock.most)

-- what a pass knows is so of the value: the stem is the value's, what it saw is where the value's history began, and what it made is all that the history has of its number
abbrev pub IsToldBy : {M E T : Type 0} → (T → M) → (T → List (ℕ × E)) → T → PassModel M E → Type 0
IsToldBy stem_of history_of x p = (p.stem ≡ Some (stem_of x)) × IsPrefix p.seen (history_of x) × (p.mine ≡ entries_by p.actor (history_of x))

-- What is true of the seat of a pass that does not hold the turn
pub record Rests {T M E : Type 0} (actor most : ℕ) (me : Me (Option T) (PassView M E)) : Type 0 where
  -- the pass has its number
  pub number : me.0.number ≡ Some actor
  -- it knows how many passes the lock was made for
  pub most_is : me.0.most ≡ most
  -- it is not spent
  pub live : IsSome me.0.stem
  -- it does not hold the turn
  pub waits : me.0.holds ≡ false
  -- the slot is not out with it
  pub bare : me.1 ≡ []
  -- it took in no other pass
  pub fresh : me.0.olds ≡ []

-- What is true of the seat of a pass that holds the turn, with the value taken out of the slot
pub record Takes {T M E : Type 0} (actor most : ℕ) (me : Me (Option T) (PassView M E)) : Type 0 where
  -- the pass has its number
  pub number : me.0.number ≡ Some actor
  -- it knows how many passes the lock was made for
  pub most_is : me.0.most ≡ most
  -- it is not spent
  pub live : IsSome me.0.stem
  -- it holds the turn
  pub holds : me.0.holds ≡ true
  -- the slot is out with it, and empty
  pub hand : me.1 ≡ (0, None) ∷ []
  -- it took in no other pass
  pub fresh : me.0.olds ≡ []

-- What is true of the value that the holder took, by what it saw and made
pub record Fits {T M E : Type 0} (stem_of : T → M) (history_of : T → List (ℕ × E)) (actor : ℕ) (v : PassView M E) (x : T) : Type 0 where
  -- the value began with the stem that the pass knows
  pub stem : v.stem ≡ Some (stem_of x)
  -- the pass saw the value's history
  pub seen : v.seen ≡ history_of x
  -- what the pass made is all that the history has of its number
  pub mine : v.mine ≡ entries_by actor (history_of x)
