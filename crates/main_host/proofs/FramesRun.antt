-- A main side that has run the first frames of a script, once it has run one frame more.
use Rattle.std.proofs.Common.{◌≡◌, ℕ, suc, ◌<◌, ◌==◌, true, false, List, [], ◌∷◌, ◌++◌, length, sym, ◌∙◌, ap, arith}
use Rattle.page_layers.specs.declared.moves.Move.{Move}
use Rattle.model_history.specs.Scripts.{ScriptModel}
use Rattle.model_history.specs.Frames.{changes, pulls_in}
use Rattle.model_history.proofs.BoolFacts.{by_test, same_number, other_number}
use Rattle.model_history.proofs.PageFacts.{changes_alike}
use Rattle.main_host.specs.Hosts.{HasRun, MainHostModel, with_frame}
use Rattle.main_host.proofs.HostFacts.{pulls_last, pulls_before, more_long}

module _ (s : ScriptModel) (ps : ℕ → List Move) (k : ℕ) (host : MainHostModel) (ms : List Move) (run : HasRun s ps k host) (is : ms ≡ ps k) where
  -- the pulls of each frame so far, with those of this one
  pub more_each : (j : ℕ) → j < suc k → pulls_in (host.sends ++ ms ∷ []) j ≡ ps j
  more_each j lt = by_test (j == k) at_last before
    where
      at_last : (j == k) ≡ true → pulls_in (host.sends ++ ms ∷ []) j ≡ ps j
      at_last t =
          let i : j ≡ k = same_number j k t in
          ap (pulls_in (host.sends ++ ms ∷ [])) (i ∙ sym run.count) ∙ (pulls_last host.sends ms ∙ (is ∙ ap ps (sym i)))

      before : (j == k) ≡ false → pulls_in (host.sends ++ ms ∷ []) j ≡ ps j
      before f =
          let other : j ≡ k → ⊥ = other_number j k f in
          let below : j < k = omega (arith, lt, other) in
          let count = run.count in
          pulls_before host.sends ms j (omega (arith, below, count)) ∙ run.each j below

  pub run_more : HasRun s ps (suc k) (with_frame host ms)
  run_more = record { script = run.script; count = more_long host.sends ms ∙ ap suc run.count; each = more_each }

  -- whether the frame changes something
  pub tells : changes host.script (pulls_in (host.sends ++ ms ∷ [])) (length host.sends) ≡ changes s ps k
  tells =
      ap (λ (z : ScriptModel). changes z (pulls_in (host.sends ++ ms ∷ [])) (length host.sends)) run.script
      ∙ (ap (changes s (pulls_in (host.sends ++ ms ∷ []))) run.count ∙ changes_alike s (pulls_in (host.sends ++ ms ∷ [])) ps k more_each)
