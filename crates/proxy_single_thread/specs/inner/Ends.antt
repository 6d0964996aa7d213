-- How a main frame ended.
use Rattle.std.specs.Prelude.{Bool, true, false}
use Rattle.main_host.specs.declared.main_end.MainEnd.{MainEnd}
use Rattle.main_host.specs.declared.main_end.MainEnd.TheVariants as end

-- by a commit
abbrev pub is_ready : MainEnd → Bool
is_ready (end.Ready c) = true
is_ready (end.Abort frame) = false
