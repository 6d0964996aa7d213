-- None of the entries that were not written is forgotten.
use Rattle.std.proofs.Common.{◌≡◌, ◌≤◌, ◌∙◌, subst, sym, arith}
use Rattle.impl_log.specs.Kept.{forgettable}
use Rattle.impl_log.specs.Runs.{Run, past}
use Rattle.proxy_threads.proofs.CompTurns.{plays_steps}
use Rattle.proxy_threads.proofs.KeptLines.{kept_since}
use Rattle.proxy_threads.proofs.playing.compose.Goals as goal

pub gather-requires : goal.gather-requires
gather-requires c =
    let old : Run = c.args.core.now in
    let left : Run = c.play-played.new.core in
    let same : c.forget.new.self ≡ left = c.forget.ensures ∙ c.renew.ensures in
    let few : forgettable (past left) ≤ c.args.lines.now.written = kept_since 0 old left c.args.lines.now.written c.requires (plays_steps old left c.play-played.result c.play-played.ensures) in
    let kept : forgettable (past c.forget.new.self) ≤ c.args.lines.now.written = subst (λ (r : Run). forgettable (past r) ≤ c.args.lines.now.written) (sym same) few in
    let first = c.history.ensures.kept in
    omega (arith, kept, first)
