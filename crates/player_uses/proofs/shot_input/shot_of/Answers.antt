-- A script that is asked for its picture is in its ranges.
use Rattle.std.proofs.Common.{◌≡◌, true, subst, sym}
use Rattle.model_history.specs.Ranges.{is_in_ranges}
use Rattle.model_history.specs.Scripts.{ScriptModel, script_of}
use Rattle.player_uses.proofs.AskedScripts.{asked_fits}
use Rattle.player_uses.proofs.shot_input.shot_of.Goals as goal

pub accept-requires-clause-ranges : goal.accept-requires-clause-ranges
accept-requires-clause-ranges c = subst (λ (s : ScriptModel). is_in_ranges s ≡ true) (sym c.in-Ok.ensures) (asked_fits (script_of c.args.parts) c.requires.ranges)
