-- A put of one piece puts all its bytes, or a prefix of them.
use Rattle.std.proofs.Common.{◌≡◌, ℕ, List, [], ◌++◌, None, Some, refl, sym, ◌∙◌, append-nil}
use Rattle.std.specs.Prelude.{Option, Result, Ok, Err}
use Rattle.std.specs.Io.KnownBytes.{Appends, Keeps}
use Rattle.byte_io.specs.Pieces.{GainsPrefix, PutAppends, PutCause, PutsAll, WriteCause}
use Rattle.byte_io.specs.declared.writing.PutFault.{PutFault}
use Rattle.byte_io.specs.declared.writing.PutFault.TheVariants.{Failed, Memory}

-- what was kept is what nothing was appended to
keeps_none : (old new : Option (List ℕ)) → Keeps old new → Appends old new []
keeps_none None new kept = tt
keeps_none (Some xs) None kept = absurd kept
keeps_none (Some xs) (Some ys) kept = kept ∙ sym (append-nil xs)

-- a piece that was refused was put up to some place
pub piece_stops : (X : Type 0) (old new : Option (List ℕ)) (piece : List ℕ) (fault : PutFault) → PutAppends {X = X} old new piece (Err fault) → GainsPrefix old new piece
piece_stops X old new piece Failed appends = appends
piece_stops X old new piece (Memory _) appends = ([], piece, refl, keeps_none old new appends)

-- a piece was put, or a prefix of it
pub puts_piece : {X : Type 0} (old new : Option (List ℕ)) (piece : List ℕ) (put : Result X PutFault) → PutAppends old new piece put → PutsAll old new piece put
puts_piece old new piece (Ok x) appends = appends
puts_piece {X} old new piece (Err fault) appends = piece_stops X old new piece fault appends

-- a fault of a put has its cause
pub piece_cause : {X : Type 0} (f g r s : ℕ) (put : Result X PutFault) → PutCause f g r s put → WriteCause f g put
piece_cause f g r s (Ok x) cause = tt
piece_cause f g r s (Err Failed) cause = cause
piece_cause f g r s (Err (Memory _)) cause = tt
