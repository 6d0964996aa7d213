-- A plan whose last main frame was told.
use Rattle.std.proofs.Common.{◌≡◌, ◌≤◌, ◌-◌, List, Vec, Global, [], ◌∷◌, ◌++◌, length, map, take, sym, ◌∙◌, ap}
use Rattle.std.proofs.lemmas.List.{length-map}
use Rattle.ghost_list.specs.declared.list.GhostList.{GhostList}
use Rattle.page_layers.specs.declared.command.Command.{Command}
use Rattle.model_history.specs.declared.plan_parts.PlanParts.{PlanParts}
use Rattle.model_history.specs.Scripts.{ScriptModel}
use Rattle.model_history.specs.Growth.{with_last, with_main_and_inputs, with_commands}
use Rattle.model_history.specs.inner.Plans.{planned}
use Rattle.model_history.proofs.GrownSteps.{as_many, last_told}

module _ (p : PlanParts) (main : GhostList (Vec Command Global)) (commands : Vec Command Global) (some : 1 ≤ length p.main.items) (is : main.items ≡ take (length p.main.items - 1) p.main.items ++ commands ∷ []) where
  abbrev said : Vec Command Global → List Command
  said frame = frame.items

  frames_are : map said main.items ≡ with_last commands.items (map said p.main.items)
  frames_are = ap (map said) is ∙ last_told said p.main.items commands some

  -- it stands for the script whose last main frame has these commands
  pub told : (s : ScriptModel) → planned p ≡ s → planned (record p { main = main }) ≡ with_commands s commands.items
  told s view = ap (λ (frames : List (List Command)). with_main_and_inputs (planned p) frames (planned p).inputs) frames_are ∙ ap (λ (z : ScriptModel). with_commands z commands.items) view

  -- and has as many main frames
  pub counted : length main.items ≡ length p.main.items
  counted = sym (length-map main.items said) ∙ (ap (λ (frames : List (List Command)). length frames) frames_are ∙ (as_many commands.items (map said p.main.items) ∙ length-map p.main.items said))
