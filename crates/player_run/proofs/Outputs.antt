-- What was written is what the use writes.
use Rattle.std.proofs.Common.{ℕ, List, [], None, Some, inl, inr, refl, sym, append-nil}
use Rattle.std.specs.Prelude.{Option}
use Rattle.std.specs.Io.KnownBytes.{Appends}
use Rattle.player_uses.specs.declared.outcome.Outcome.{Outcome}
use Rattle.player_uses.specs.declared.outcome.Outcome.TheVariants.{Done, WriteFault, Memory}
use Rattle.player_uses.specs.declared.words.Use.{Use}
use Rattle.player_uses.specs.declared.words.Use.TheVariants.{Play, Check}
use Rattle.player_uses.specs.Faults.{IsSilent}
use Rattle.player_uses.specs.Outputs.{WritesSome}
use Rattle.player_run.specs.Runs.{IsOutput, IsBegun, Writes}

-- what a use writes in all, it was writing
begun_is : (wanted : Use) (source whole : List ℕ) → IsOutput wanted source whole → IsBegun wanted source whole
begun_is (Play workers) source whole (s, from, (h, played, is)) = (s, from, (h, played.sound, is))
begun_is _ source whole is = is

-- the sink gained what the use writes
pub some_output : (P : List ℕ → Type 0) (wanted : Use) (source : List ℕ) (old new : Option (List ℕ)) (o : Outcome) → ((whole : List ℕ) → P whole → IsOutput wanted source whole) → WritesSome P old new o → Writes wanted source old new o
some_output P wanted source old new Done is wrote = (wrote.0, is wrote.0 wrote.1, wrote.2)
some_output P wanted source old new WriteFault is wrote = (wrote.0, begun_is wanted source wrote.0 (is wrote.0 wrote.1), wrote.2)
some_output P wanted source old new Memory is (inl same) = inl same
some_output P wanted source old new Memory is (inr wrote) = inr (wrote.0, begun_is wanted source wrote.0 (is wrote.0 wrote.1), wrote.2)
some_output P wanted source old new _ is wrote = absurd wrote

-- nothing was written
nothing_more : (held : Option (List ℕ)) → Appends held held []
nothing_more None = tt
nothing_more (Some xs) = sym (append-nil xs)

pub nothing_written : (source : List ℕ) (held : Option (List ℕ)) (o : Outcome) → IsSilent o → Writes Check source held held o
nothing_written source held Done silent = ([], refl, nothing_more held)
nothing_written source held WriteFault silent = absurd silent
nothing_written source held Memory silent = inl refl
nothing_written source held _ silent = refl
