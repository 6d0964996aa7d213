-- A script that grows can still be played.
use Rattle.std.proofs.Common.{◌≡◌, ℕ, suc, ◌<◌, ◌-◌, ◌^◌, true, List, [], ◌∷◌, ◌++◌, length, sym, ◌∙◌, ap, subst, arith}
use Rattle.std.specs.List.{list_all}
use Rattle.page_layers.specs.declared.command.Command.{Command}
use Rattle.page_layers.specs.declared.moves.Move.{Move}
use Rattle.page_layers.specs.Pages.{Page}
use Rattle.model_history.specs.declared.input.Input.{Input}
use Rattle.model_history.specs.Scripts.{ScriptModel}
use Rattle.model_history.specs.Frames.{blank, page, page_before}
use Rattle.model_history.specs.Ranges.{input_in_range}
use Rattle.model_history.specs.Accepted.{TakesAll, IsPlayable}
use Rattle.model_history.specs.Growth.{with_input, with_main_frame, with_commands}
use Rattle.model_history.proofs.BoolFacts.{and_both}
use Rattle.model_history.proofs.GrownSteps.{one_longer, as_many}
use Rattle.model_history.proofs.PageFacts.{takes_values, page_before_values}
use Rattle.model_history.proofs.GrownScripts.{all_and_last, all_fit_still, last_taken, unpulled, one_frame_more}

pub playable_input : (s : ScriptModel) (x : Input) → IsPlayable s → suc (length s.inputs) < 2 ^ 32 - 1 → input_in_range (length s.main) x ≡ true → IsPlayable (with_input s x)
playable_input s x p few fits =
    let f = input_in_range (length s.main) in
    let longer = one_longer s.inputs x in
    record {
      head = p.head;
      few_frames = p.few_frames;
      few_inputs = omega (arith, longer, few);
      inputs = all_and_last f s.inputs x ∙ and_both (list_all f s.inputs) (f x) p.inputs fits;
      commands = p.commands;
    }

pub playable_main_frame : (s : ScriptModel) → IsPlayable s → suc (length s.main) < 2 ^ 32 - 1 → IsPlayable (with_main_frame s)
playable_main_frame s p few =
    let longer = one_longer s.main [] in
    record {
      head = p.head;
      few_frames = omega (arith, longer, few);
      few_inputs = p.few_inputs;
      inputs = all_fit_still (length s.main) (length (s.main ++ [] ∷ [])) (omega (arith, longer)) s.inputs p.inputs;
      commands = one_frame_more s.main (blank s) p.commands;
    }

pub playable_commands : (s : ScriptModel) (ps : ℕ → List Move) (k : ℕ) (cs : List Command) → IsPlayable s → suc k ≡ length s.main → TakesAll (page_before s ps k) cs → IsPlayable (with_commands s cs)
playable_commands s ps k cs p last taken =
    let many = as_many cs s.main in
    let few = p.few_frames in
    let without : TakesAll (page s (λ _. []) k) cs = subst (λ (q : Page). TakesAll q cs) (sym (page_before_values s (λ _. []) ps k)) (takes_values cs (page_before s ps k) (page_before s (λ _. []) k).values taken) in
    record {
      head = p.head;
      few_frames = omega (arith, many, few);
      few_inputs = p.few_inputs;
      inputs = ap (λ n. list_all (input_in_range n) s.inputs) many ∙ p.inputs;
      commands = last_taken cs s.main (blank s) k last p.commands (subst (λ (q : Page). TakesAll q cs) (unpulled s k) without);
    }
