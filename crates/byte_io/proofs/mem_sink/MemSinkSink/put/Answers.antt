use Rattle.std.proofs.Common.{◌≡◌, true, refl, rules, arith}
use Rattle.std.proofs.lemmas.Grind.{common_steps}
use Rattle.byte_io.specs.Memory.{is_told}
use Rattle.byte_io.proofs.Fronts.{gains_first}
use Rattle.byte_io.proofs.mem_sink.MemSinkSink.put.Goals as goal

pub returns-then-contains-clause-exactly : goal.returns-then-contains-clause-exactly
returns-then-contains-clause-exactly c =
    let told : is_told c.args.self.now ≡ true = search rules in
    (((λ _. refl), (λ other. absurd (cc (told, other)))), search rules, refl)

pub returns-then-taken-piece-clause-bytes : goal.returns-then-taken-piece-clause-bytes
returns-then-taken-piece-clause-bytes c = gains_first c.room-taken.result c.args.piece.now c.args.self.now.bytes.items c.extend_from_slice.new.self.items (grind (arith, common_steps, c.extend_from_slice.ensures.items))
