-- The next entry has its line, and those left are to come.
use Rattle.std.proofs.Common.{◌≡◌, ℕ, zero, suc, ◌+◌, List, [], ◌∷◌, ◌++◌, drop, Some, sym, ◌∙◌, ap, arith, append_assoc}
use Rattle.std.specs.Prelude.{slice_get}
use Rattle.model_history.specs.declared.history.Entry.{Entry}
use Rattle.model_history.specs.Texts.{event_line}
use Rattle.proxy_threads.specs.inner.Steps.{lines_of}
use Rattle.proxy_threads.proofs.lines.Lines.gather.Goals as goal

next_drop : {X : Type 0} (xs : List X) (k : ℕ) (x : X) → slice_get xs k ≡ Some x → drop k xs ≡ x ∷ drop (suc k) xs
next_drop [] k x e = absurd cc
next_drop (y ∷ ys) zero x e = let same : y ≡ x = cc in ap (λ z. z ∷ ys) same
next_drop (y ∷ ys) (suc k) x e = next_drop ys k x e

one_line : (text : List ℕ) (es : List Entry) (k : ℕ) (e : Entry) (all : List ℕ) → slice_get es k ≡ Some e → text ++ lines_of (drop k es) ≡ all → (text ++ event_line e.event) ++ lines_of (drop (k + 1) es) ≡ all
one_line text es k e all is so =
    let one_more : suc k ≡ k + 1 = omega arith in
    ap (λ (n : ℕ). (text ++ event_line e.event) ++ lines_of (drop n es)) (sym one_more)
    ∙ (append_assoc text (event_line e.event) (lines_of (drop (suc k) es))
    ∙ (ap (λ (xs : List Entry). text ++ lines_of xs) (sym (next_drop es k e is)) ∙ so))

pub loop-at-preserved : goal.loop-at-preserved
loop-at-preserved c = (
  ap (λ (w : List ℕ). w ++ lines_of (drop (c.loop-at.at + 1) c.args.history.now.entries)) c.in_ok-push_event.ensures.text
      ∙ one_line c.loop-at.self.text.items c.args.history.now.entries c.loop-at.at c.entry-entry.result.now _ c.entry-entry.ensures c.loop-at.invariant.0,
  c.loop-at.invariant.1,
)
