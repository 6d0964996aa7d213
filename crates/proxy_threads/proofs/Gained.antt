-- What a sink gained by a turn.
use Rattle.std.proofs.Common.{◌≡◌, ◌≤◌, ℕ, inl, inr, List, [], ◌++◌, append-nil, sym, subst, arith}
use Rattle.std.specs.Prelude.{Option, Err}
use Rattle.std.specs.Io.KnownBytes.{Appends}
use Rattle.byte_io.specs.Pieces.{GainsPrefix, PutCause}
use Rattle.byte_io.specs.declared.writing.PutFault.{PutFault}
use Rattle.byte_io.specs.declared.writing.PutFault.TheVariants as put_fault
use Rattle.thread_pieces.proofs.Gains.{appends_nothing, gains_both, gains_front, gains_longer}
use Rattle.proxy_threads.specs.declared.turned.Turned.{Turned}
use Rattle.proxy_threads.specs.declared.turned.Turned.TheVariants as turned
use Rattle.proxy_threads.specs.Writing.{FaultCause, Wrote}
use Rattle.proxy_threads.specs.inner.Steps.{answer_at}

-- some bytes, and then others or a prefix of them
pub wrote_behind : (t : Turned) (old mid new : Option (List ℕ)) (a b : List ℕ) → Appends old mid a → Wrote mid new b t → Wrote old new (a ++ b) t
wrote_behind turned.Went old mid new a b first more = gains_both old mid new a b first more
wrote_behind turned.Blocked old mid new a b first more = gains_both old mid new a b first more
wrote_behind turned.Ended old mid new a b first more = gains_both old mid new a b first more
wrote_behind turned.Memory old mid new a b first more = gains_front old mid new a b [] (a ++ b) first more (append-nil (a ++ b))
wrote_behind turned.WriteFault old mid new a b first more = gains_front old mid new a b [] (a ++ b) first more (append-nil (a ++ b))

-- a prefix of some bytes is one of those and others
pub wrote_refused : (z : PutFault) (old new : Option (List ℕ)) (a b : List ℕ) → GainsPrefix old new a → Wrote old new (a ++ b) (answer_at z)
wrote_refused put_fault.Failed old new a b gains = gains_longer old new a b gains
wrote_refused (put_fault.Memory _) old new a b gains = gains_longer old new a b gains

-- and a fault of it has its cause
pub refused_cause : (X : Type 0) (f g r s : ℕ) (z : PutFault) → PutCause {X = X} f g r s (Err z) → FaultCause f g (answer_at z)
refused_cause X f g r s put_fault.Failed cause = cause
refused_cause X f g r s (put_fault.Memory _) cause = tt

-- a fault that has its cause has it from any earlier count on
pub cause_later : (t : Turned) (old mid new : ℕ) → old ≤ mid → FaultCause mid new t → FaultCause old new t
cause_later turned.WriteFault old mid new few (inl less) = inl (omega (arith, few, less))
cause_later turned.WriteFault old mid new few (inr last) = inr last
cause_later turned.Went old mid new few cause = tt
cause_later turned.Blocked old mid new few cause = tt
cause_later turned.Ended old mid new few cause = tt
cause_later turned.Memory old mid new few cause = tt

-- a sink that holds what it held has gained nothing
pub appends_none : (old new : Option (List ℕ)) → new ≡ old → Appends old new []
appends_none old new same = subst (λ (held : Option (List ℕ)). Appends old held []) (sym same) (appends_nothing old)

-- what was written by a sink that held the same before
pub wrote_from : (t : Turned) (old mid new : Option (List ℕ)) (whole : List ℕ) → mid ≡ old → Wrote mid new whole t → Wrote old new whole t
wrote_from t old mid new whole same wrote = subst (λ (held : Option (List ℕ)). Wrote held new whole t) same wrote

-- a fault has its cause, where the count was the same before
pub cause_from : (t : Turned) (old mid new : ℕ) → mid ≡ old → FaultCause mid new t → FaultCause old new t
cause_from t old mid new same cause = subst (λ (count : ℕ). FaultCause count new t) same cause
