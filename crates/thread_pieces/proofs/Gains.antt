-- What a sink gained piece by piece is a prefix of the whole.
use Rattle.std.proofs.Common.{◌≡◌, ℕ, ◌≤◌, inl, inr, arith, List, [], ◌++◌, None, Some, ap, subst, sym, ◌∙◌, refl, append_assoc, append-nil}
use Rattle.std.specs.Prelude.{Option, Result, Ok, Err}
use Rattle.std.specs.Io.KnownBytes.{Appends}
use Rattle.byte_io.specs.Pieces.{GainsPrefix, PutsAll, WriteCause}
use Rattle.byte_io.specs.Counts.{Rose}
use Rattle.byte_io.specs.declared.writing.PutFault.{PutFault}
use Rattle.byte_io.specs.declared.writing.PutFault.TheVariants as put_fault

-- a piece and then another are both together
pub gains_both : (old mid new : Option (List ℕ)) (a b : List ℕ) → Appends old mid a → Appends mid new b → Appends old new (a ++ b)
gains_both None mid new a b first second = tt
gains_both (Some xs) None new a b first second = absurd first
gains_both (Some xs) (Some ys) None a b first second = absurd second
gains_both (Some xs) (Some ys) (Some zs) a b first second = second ∙ ap (λ w. w ++ b) first ∙ append_assoc xs a b

-- a piece and then a prefix of another are a prefix of all
pub gains_front : (old mid new : Option (List ℕ)) (a b rest whole : List ℕ) → Appends old mid a → GainsPrefix mid new b → (a ++ b) ++ rest ≡ whole → GainsPrefix old new whole
gains_front None mid new a b rest whole first more e = ([], whole, refl, tt)
gains_front (Some xs) None new a b rest whole first more e = absurd first
gains_front (Some xs) (Some ys) new a b rest whole first more e =
    let joined : a ++ ((more.0 ++ more.1) ++ rest) ≡ whole = ap (λ w. a ++ (w ++ rest)) more.2 ∙ sym (append_assoc a b rest) ∙ e in
    (a ++ more.0, more.1 ++ rest, simp append_assoc (simp append_assoc at joined), gains_both (Some xs) (Some ys) new a more.0 first more.3)

-- nothing is added by nothing
pub appends_nothing : (held : Option (List ℕ)) → Appends held held []
appends_nothing None = tt
appends_nothing (Some xs) = sym (append-nil xs)

-- nothing is a prefix of all
pub gains_nothing : (held : Option (List ℕ)) (whole : List ℕ) → GainsPrefix held held whole
gains_nothing held whole = ([], whole, refl, appends_nothing held)

-- a prefix of a prefix is a prefix of the whole
pub gains_longer : (old new : Option (List ℕ)) (a b : List ℕ) → GainsPrefix old new a → GainsPrefix old new (a ++ b)
gains_longer old new a b more = (more.0, more.1 ++ b, sym (append_assoc more.0 more.1 b) ∙ ap (λ w. w ++ b) more.2, more.3)

-- a piece and then a prefix of another are a prefix of both
pub gains_then : (old mid new : Option (List ℕ)) (a b : List ℕ) → Appends old mid a → GainsPrefix mid new b → GainsPrefix old new (a ++ b)
gains_then old mid new a b first more = gains_front old mid new a b [] (a ++ b) first more (append-nil (a ++ b))

-- a piece is a prefix of itself and another
pub gains_only : (old new : Option (List ℕ)) (a b : List ℕ) → Appends old new a → GainsPrefix old new (a ++ b)
gains_only old new a b first = (a, b, refl, first)

-- a piece that was put, and then another, of which a prefix was where some was refused
pub puts_both : {X E : Type 0} (old mid new : Option (List ℕ)) (a b : List ℕ) (put : Result X E) → Appends old mid a → PutsAll mid new b put → PutsAll old new (a ++ b) put
puts_both old mid new a b (Ok x) first more = gains_both old mid new a b first more
puts_both old mid new a b (Err e) first more = gains_then old mid new a b first more

-- what was put of some bytes was put of the same bytes
pub puts_same : {X E : Type 0} (old new : Option (List ℕ)) (a b : List ℕ) (put : Result X E) → a ≡ b → PutsAll old new a put → PutsAll old new b put
puts_same old new a b put same puts = let P : List ℕ → Type 0 = λ bytes. PutsAll old new bytes put in subst P same puts

-- a count that rose has risen from any earlier one
rose_from : (count old new : ℕ) → count ≤ old → Rose old new → Rose count new
rose_from count old new few (inl less) = inl (omega (arith, few, less))
rose_from count old new few (inr last) = inr last

-- a fault that has its cause has it from any earlier count on
pub blames_from : {X : Type 0} (count old new : ℕ) (put : Result X PutFault) → count ≤ old → WriteCause old new put → WriteCause count new put
blames_from count old new (Ok x) few cause = tt
blames_from count old new (Err put_fault.Failed) few cause = rose_from count old new few cause
blames_from count old new (Err (put_fault.Memory _)) few cause = tt
