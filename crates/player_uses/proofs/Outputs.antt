-- What was written, and what the answer then is.
use Rattle.std.proofs.Common.{◌≡◌, ℕ, List, inl, inr, sym, subst, Ok, Err}
use Rattle.std.specs.Prelude.{Option}
use Rattle.byte_io.specs.Pieces.{GainsPrefix, WriteCause}
use Rattle.byte_io.specs.declared.writing.PutFault.{PutFault}
use Rattle.byte_io.specs.declared.writing.PutFault.TheVariants as put_fault
use Rattle.player_uses.specs.declared.outcome.Outcome.{Outcome}
use Rattle.player_uses.specs.declared.outcome.Outcome.TheVariants.{Done, Usage, WriteFault, Memory}
use Rattle.player_uses.specs.declared.words.Use.{Use}
use Rattle.player_uses.specs.Answers.{TellsMisfit, IsUnread}
use Rattle.player_uses.specs.Faults.{Causes}
use Rattle.player_uses.specs.Outcomes.{fault_outcome}
use Rattle.player_uses.specs.Outputs.{WritesSome}
use Rattle.player_uses.specs.inner.Recordings.{WritesImages}

-- ---- where not all was put

-- a prefix was written
pub fault_some : (P : List ℕ → Type 0) (old new : Option (List ℕ)) (whole : List ℕ) (fault : PutFault) (o : Outcome) → o ≡ fault_outcome fault → P whole → GainsPrefix old new whole → WritesSome P old new o
fault_some P old new whole put_fault.Failed o is holds front = subst (λ (z : Outcome). WritesSome P old new z) (sym is) (whole, holds, front)
fault_some P old new whole (put_fault.Memory _) o is holds front = subst (λ (z : Outcome). WritesSome P old new z) (sym is) (inr (whole, holds, front))

pub fault_images : (old new : Option (List ℕ)) (whole : List ℕ) (fault : PutFault) (o : Outcome) → o ≡ fault_outcome fault → GainsPrefix old new whole → WritesImages old new whole o
fault_images old new whole put_fault.Failed o is front = subst (λ (z : Outcome). WritesImages old new whole z) (sym is) front
fault_images old new whole (put_fault.Memory _) o is front = subst (λ (z : Outcome). WritesImages old new whole z) (sym is) front

-- a fault of the sink has its cause
pub fault_cause : (X : Type 0) (f g : ℕ) (fault : PutFault) (o : Outcome) → o ≡ fault_outcome fault → WriteCause {X = X} f g (Err fault) → Causes 0 0 f g o
fault_cause X f g put_fault.Failed o is cause = subst (λ (z : Outcome). Causes 0 0 f g z) (sym is) cause
fault_cause X f g (put_fault.Memory _) o is cause = subst (λ (z : Outcome). Causes 0 0 f g z) (sym is) tt

-- ---- what was written

-- the words are no matter of it
pub some_words : (P : List ℕ → Type 0) (wanted : Use) (old new : Option (List ℕ)) (o : Outcome) → WritesSome P old new o → TellsMisfit (Ok wanted) o
some_words P wanted old new (Usage word) wrote = absurd wrote
some_words P wanted old new _ wrote = tt

-- nor is what the source has
pub some_unread : (P : List ℕ → Type 0) (old new : Option (List ℕ)) (o : Outcome) → WritesSome P old new o → IsUnread o
some_unread P old new Done wrote = tt
some_unread P old new WriteFault wrote = tt
some_unread P old new Memory wrote = tt
some_unread P old new _ wrote = absurd wrote

-- what was written, told otherwise
pub some_as : (P Q : List ℕ → Type 0) (old new : Option (List ℕ)) (o : Outcome) → ((whole : List ℕ) → P whole → Q whole) → WritesSome P old new o → WritesSome Q old new o
some_as P Q old new Done is wrote = (wrote.0, is wrote.0 wrote.1, wrote.2)
some_as P Q old new WriteFault is wrote = (wrote.0, is wrote.0 wrote.1, wrote.2)
some_as P Q old new Memory is (inl same) = inl same
some_as P Q old new Memory is (inr wrote) = inr (wrote.0, is wrote.0 wrote.1, wrote.2)
some_as P Q old new _ is wrote = absurd wrote
