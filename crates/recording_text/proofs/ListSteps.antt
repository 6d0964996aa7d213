-- One more key or move of a list of numbers.
use Rattle.std.proofs.Common.{◌≡◌, List, [], ◌∷◌, ◌++◌, take, drop, length, ◌<◌, refl, ap, sym, ◌∙◌, append_assoc, append-nil, None, Some, arith}
use Rattle.std.specs.Prelude.{ℤ, Option}
use Rattle.geom.specs.declared.tile.TileKey.{TileKey}
use Rattle.page_layers.specs.declared.moves.Move.{Move}
use Rattle.recording_text.specs.Numbers.{before, key_in, keys_from, move_in, moves_of}
use Rattle.recording_text.specs.Gathering.{prefixed_by}

-- an element before the rest goes after those before it
after_more : {A : Type 0} (xs : List A) (x : A) (o : Option (List A)) → prefixed_by xs (before (Some x) o) ≡ prefixed_by (xs ++ (x ∷ [])) o
after_more xs x None = refl
after_more xs x (Some ys) = ap (λ (zs : List _). Some zs) (sym (append_assoc xs (x ∷ []) ys))

keys_step : (zs : List ℤ) → 0 < length zs → keys_from zs ≡ before (key_in (take 4 zs)) (keys_from (drop 4 zs))
unfolding keys_from key_in
keys_step [] some = absurd (omega arith)
keys_step (a ∷ []) some = refl
keys_step (a ∷ b ∷ []) some = refl
keys_step (a ∷ b ∷ c ∷ []) some = refl
keys_step (a ∷ b ∷ c ∷ d ∷ r) some = refl

moves_step : (zs : List ℤ) → 0 < length zs → moves_of zs ≡ before (move_in (take 3 zs)) (moves_of (drop 3 zs))
unfolding moves_of move_in
moves_step [] some = absurd (omega arith)
moves_step (a ∷ []) some = refl
moves_step (a ∷ b ∷ []) some = refl
moves_step (a ∷ b ∷ c ∷ r) some = refl

-- one more key is read
pub keys_more : (keys more : List TileKey) (zs : List ℤ) (k : TileKey) (all : Option (List TileKey)) → prefixed_by keys (keys_from zs) ≡ all → 0 < length zs → key_in (take 4 zs) ≡ Some k → more ≡ keys ++ (k ∷ []) → prefixed_by more (keys_from (drop 4 zs)) ≡ all
keys_more keys more zs k all so some is grown =
    ap (λ (m : List TileKey). prefixed_by m (keys_from (drop 4 zs))) grown ∙ sym (after_more keys k (keys_from (drop 4 zs)))
    ∙ ap (λ (o : Option TileKey). prefixed_by keys (before o (keys_from (drop 4 zs)))) (sym is) ∙ ap (λ (o : Option (List TileKey)). prefixed_by keys o) (sym (keys_step zs some)) ∙ so

-- one that is none
pub keys_none : (keys : List TileKey) (zs : List ℤ) (all : Option (List TileKey)) → prefixed_by keys (keys_from zs) ≡ all → 0 < length zs → key_in (take 4 zs) ≡ None → None ≡ all
keys_none keys zs all so some is =
    ap (λ (o : Option TileKey). prefixed_by keys (before o (keys_from (drop 4 zs)))) (sym is) ∙ ap (λ (o : Option (List TileKey)). prefixed_by keys o) (sym (keys_step zs some)) ∙ so

-- no more are left
pub keys_end : (keys : List TileKey) (zs : List ℤ) (all : Option (List TileKey)) → prefixed_by keys (keys_from zs) ≡ all → zs ≡ [] → Some keys ≡ all
unfolding keys_from
keys_end keys zs all so none = ap (λ (ks : List TileKey). Some ks) (sym (append-nil keys)) ∙ ap (λ (ns : List ℤ). prefixed_by keys (keys_from ns)) (sym none) ∙ so

-- the same for moves
pub moves_more : (moves more : List Move) (zs : List ℤ) (m : Move) (all : Option (List Move)) → prefixed_by moves (moves_of zs) ≡ all → 0 < length zs → move_in (take 3 zs) ≡ Some m → more ≡ moves ++ (m ∷ []) → prefixed_by more (moves_of (drop 3 zs)) ≡ all
moves_more moves more zs m all so some is grown =
    ap (λ (n : List Move). prefixed_by n (moves_of (drop 3 zs))) grown ∙ sym (after_more moves m (moves_of (drop 3 zs)))
    ∙ ap (λ (o : Option Move). prefixed_by moves (before o (moves_of (drop 3 zs)))) (sym is) ∙ ap (λ (o : Option (List Move)). prefixed_by moves o) (sym (moves_step zs some)) ∙ so

pub moves_none : (moves : List Move) (zs : List ℤ) (all : Option (List Move)) → prefixed_by moves (moves_of zs) ≡ all → 0 < length zs → move_in (take 3 zs) ≡ None → None ≡ all
moves_none moves zs all so some is =
    ap (λ (o : Option Move). prefixed_by moves (before o (moves_of (drop 3 zs)))) (sym is) ∙ ap (λ (o : Option (List Move)). prefixed_by moves o) (sym (moves_step zs some)) ∙ so

pub moves_end : (moves : List Move) (zs : List ℤ) (all : Option (List Move)) → prefixed_by moves (moves_of zs) ≡ all → zs ≡ [] → Some moves ≡ all
unfolding moves_of
moves_end moves zs all so none = ap (λ (ms : List Move). Some ms) (sym (append-nil moves)) ∙ ap (λ (ns : List ℤ). prefixed_by moves (moves_of ns)) (sym none) ∙ so
