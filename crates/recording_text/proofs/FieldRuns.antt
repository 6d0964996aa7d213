-- The fields of a line read back as their numbers.
use Rattle.std.proofs.Common.{◌≡◌, ℕ, ◌<◌, ◌^◌, true, false, List, [], ◌∷◌, ◌++◌, refl, ap, ◌∙◌, append_assoc, arith, Some}
use Rattle.std.specs.Prelude.{ℤ, pos, negsuc, FitsSigned, map, flat_map, Option, nat_lt, int_le}
use Rattle.std.specs.Int.{w32, w64}
use Rattle.std.specs.Fmt.{signed_decimal}
use Rattle.std.proofs.lemmas.Bool.Decides.{nat_tests}
use Rattle.std.proofs.lemmas.Int.{ints}
use Rattle.geom.specs.declared.tile.TileKey.{TileKey}
use Rattle.page_layers.specs.declared.moves.Move.{Move}
use Rattle.model_history.specs.Texts.{Field, fields_text, key_fields, move_fields}
use Rattle.recording_text.specs.Fits.{FitsKey, FitKeys, FitsMove, FitMoves}
use Rattle.recording_text.specs.Numbers.{numbers, before, u32_of, i32_of, key_from, key_in, keys_from, move_from, moves_of}
use Rattle.recording_text.proofs.DigitRuns.{number, at_separator, at_newline, IsSeparator, is_negative, size_of}

-- the number of a field
abbrev pub number_in : Field → ℤ
number_in f = f.number

-- fields whose numbers fit 64 bits, with separators before them
abbrev pub AreRead : List Field → Type 0
AreRead [] = Unit {0}
AreRead (f ∷ fs) = IsSeparator f.before × FitsSigned w64 f.number × AreRead fs

-- the line from its first number on
right : (z : ℤ) (fs : List Field) (r : List ℕ) → FitsSigned w64 z → AreRead fs → numbers false 0 (signed_decimal z ++ (fields_text fs ++ (10 ∷ r))) ≡ Some (z ∷ map number_in fs)
right z [] r fits read = number z (10 ∷ r) fits ∙ at_newline z r fits
right z (f ∷ fs) r fits read =
    let text : numbers false 0 (signed_decimal z ++ (fields_text (f ∷ fs) ++ (10 ∷ r))) ≡ numbers (is_negative z) (size_of z) (f.before ∷ ((signed_decimal f.number ++ fields_text fs) ++ (10 ∷ r))) = number z _ fits in
    let apart = at_separator f.before z ((signed_decimal f.number ++ fields_text fs) ++ (10 ∷ r)) read.0 fits in
    let rest : numbers false 0 ((signed_decimal f.number ++ fields_text fs) ++ (10 ∷ r)) ≡ Some (f.number ∷ map number_in fs) =
    ap (λ (y : List ℕ). numbers false 0 y) (append_assoc (signed_decimal f.number) (fields_text fs) (10 ∷ r)) ∙ right f.number fs r read.1 read.2 in
    text ∙ apart ∙ ap (λ (o : Option (List ℤ)). before (Some z) o) rest

pub body : (z : ℤ) (fs : List Field) (r : List ℕ) → FitsSigned w64 z → AreRead fs → numbers false 0 (((signed_decimal z ++ fields_text fs) ++ (10 ∷ [])) ++ r) ≡ Some (z ∷ map number_in fs)
body z fs r fits read =
    ap (λ (y : List ℕ). numbers false 0 y) (append_assoc (signed_decimal z ++ fields_text fs) (10 ∷ []) r ∙ append_assoc (signed_decimal z) (fields_text fs) (10 ∷ r)) ∙ right z fs r fits read

-- an unsigned number of 32 bits
pub u32_again : (n : ℕ) → n < 2 ^ 32 → u32_of (pos n) ≡ Some n
u32_again n fits = let few : nat_lt n 4294967296 ≡ true = grind (arith, nat_tests) in rw few refl

pub wide : (n : ℕ) → n < 2 ^ 32 → FitsSigned w64 (pos n)
wide n fits = omega (arith, ints)

pub wide_signed : (z : ℤ) → FitsSigned w32 z → FitsSigned w64 z
wide_signed z fits = omega (arith, ints)

-- a signed one
pub i32_again : (z : ℤ) → FitsSigned w32 z → i32_of z ≡ Some z
i32_again z fits =
    let low : int_le (negsuc 2147483647) z ≡ true = grind (arith, ints) in
    let high : int_le z (pos 2147483647) ≡ true = grind (arith, ints) in
    rw low (rw high refl)

-- a key
pub key_again : (k : TileKey) → FitsKey k → key_in (pos k.layer ∷ pos k.x ∷ pos k.y ∷ pos k.stamp ∷ []) ≡ Some k
unfolding key_from key_in
key_again k fits = rw (u32_again k.layer fits.0) (rw (u32_again k.x fits.1) (rw (u32_again k.y fits.2) (rw (u32_again k.stamp fits.3) refl)))

-- keys
pub keys_again : (ks : List TileKey) → FitKeys ks → keys_from (map number_in (flat_map key_fields ks)) ≡ Some ks
unfolding keys_from key_in
keys_again [] fits = refl
keys_again (k ∷ ks) fits = rw (key_again k fits.0) (rw (keys_again ks fits.1) refl)

pub keys_read : (ks : List TileKey) → FitKeys ks → AreRead (flat_map key_fields ks)
keys_read [] fits = tt
keys_read (k ∷ ks) fits =
    ((refl, refl, refl), wide k.layer fits.0.0, ((refl, refl, refl), wide k.x fits.0.1, ((refl, refl, refl), wide k.y fits.0.2, ((refl, refl, refl), wide k.stamp fits.0.3, keys_read ks fits.1))))

-- a move
pub move_again : (m : Move) → FitsMove m → move_from (pos m.scroller) m.dx m.dy ≡ Some m
unfolding move_from
move_again m fits = rw (u32_again m.scroller fits.0) refl

-- moves
pub moves_again : (ms : List Move) → FitMoves ms → moves_of (map number_in (flat_map move_fields ms)) ≡ Some ms
unfolding moves_of
moves_again [] fits = refl
moves_again (m ∷ ms) fits = rw (move_again m fits.0) (rw (moves_again ms fits.1) refl)

pub moves_read : (ms : List Move) → FitMoves ms → AreRead (flat_map move_fields ms)
moves_read [] fits = tt
moves_read (m ∷ ms) fits =
    ((refl, refl, refl), wide m.scroller fits.0.0, ((refl, refl, refl), fits.0.1, ((refl, refl, refl), fits.0.2, moves_read ms fits.1)))
