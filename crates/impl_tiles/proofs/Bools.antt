-- Tests joined with others, and options under tests.
use Rattle.std.proofs.Common.{◌≡◌, ◌≤◌, Bool, true, false, cond, not, ◌&&◌, ◌||◌, Option, Some, None, is_some, Result, Ok, Err, List, [], ◌∷◌, length, refl, arith}
use Rattle.std.specs.Prelude.{IfOk}
use Rattle.geom.specs.declared.tile.TileKey.{TileKey}
use Rattle.geom.specs.KeyLists.{has_key}

pub some_left : {X : Type 0} (b : Bool) (o : Option X) → is_some (cond b o None) ≡ (is_some o && b)
some_left true None = refl
some_left true (Some x) = refl
some_left false None = refl
some_left false (Some x) = refl

pub left_some : {X : Type 0} (b : Bool) (o : Option X) (x : X) → cond b o None ≡ Some x → o ≡ Some x
left_some true o x e = e
left_some false o x e = absurd cc

pub some_put : {X : Type 0} (b : Bool) (x : X) (o : Option X) → is_some (cond b (Some x) o) ≡ (b || is_some o)
some_put true x o = refl
some_put false x o = refl

-- the test of a key that is taken away, as two lists have it
pub taken_away : (a b : Bool) → (not b && a) ≡ (a && not (b || false))
taken_away true true = refl
taken_away true false = refl
taken_away false true = refl
taken_away false false = refl

pub is_some_if : {X : Type 0} (b : Bool) (x : X) → is_some (cond b (Some x) None) ≡ b
is_some_if true x = refl
is_some_if false x = refl

-- a test that is asked only where another holds
pub asked_where : (a b c : Bool) → (a ≡ true → b ≡ c) → (a && b) ≡ (a && c)
asked_where true b c f = f refl
asked_where false b c f = refl

-- a list with a key is not empty
pub some_key : (ks : List TileKey) (q : TileKey) → has_key ks q ≡ true → 1 ≤ length ks
some_key [] q t = absurd cc
some_key (k ∷ ks) q t = omega arith

-- what holds of an answer
pub of_answer : {T E : Type 0} {P Q : T → Type 0} (x : Result T E) → ((v : T) → P v → Q v) → IfOk x P → IfOk x Q
of_answer (Ok v) f p = f v p
of_answer (Err e) f p = tt
