-- What was given is a prefix of the bytes, and the piece goes on with it.
use Rattle.std.proofs.Common.{arith, ap, sym, ◌∙◌, ◌≡◌, List, ℕ, take, drop, ◌++◌}
use Rattle.std.proofs.lemmas.Grind.{common_steps}
use Rattle.byte_io.proofs.Fronts.{take_more}
use Rattle.byte_io.proofs.mem_source.MemSourceSource.read.Goals as goal

pub returns-clause-bytes : goal.returns-clause-bytes
returns-clause-bytes c =
    let copied : take c.min-count.result c.copy_front.new.buf ≡ take c.min-count.result (drop c.args.self.now.given c.args.self.now.bytes.items) = grind (arith, common_steps, c.copy_front.ensures, c.deref-2.ensures.value) in
    take_more c.args.self.now.given c.min-count.result c.args.self.now.bytes.items ∙ ap (λ (l : List ℕ). take c.args.self.now.given c.args.self.now.bytes.items ++ l) (sym copied)
