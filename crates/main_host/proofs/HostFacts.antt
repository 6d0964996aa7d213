-- The pulls of the frames so far, with those of one frame more, and the pages that they make.
use Rattle.std.proofs.Common.{◌≡◌, ℕ, zero, suc, ◌<◌, List, [], ◌∷◌, ◌++◌, length, Bool, refl, sym, ◌∙◌, ap, subst, arith}
use Rattle.region.specs.Lists.{Changed}
use Rattle.page_layers.specs.Pages.{Page}
use Rattle.page_layers.specs.declared.moves.Move.{Move}
use Rattle.page_layers.specs.Effects.{page_after_pulls, commanded}
use Rattle.model_history.specs.Scripts.{ScriptModel}
use Rattle.model_history.specs.Frames.{commands_of, page, pulls_in, changes}
use Rattle.model_history.specs.Stamps.{changed_by, unchanged}
use Rattle.model_history.specs.SameChanges.{SameChanges}
use Rattle.model_history.specs.Ended.{StandsBefore, EndsFrame, Tells}
use Rattle.model_history.proofs.PageFacts.{page_alike}
use Rattle.main_host.specs.Hosts.{IsHost, IsNext}

-- the last list is the new one, the others stay
pub pulls_last : (sends : List (List Move)) (ms : List Move) → pulls_in (sends ++ ms ∷ []) (length sends) ≡ ms
pulls_last [] ms = refl
pulls_last (l ∷ ls) ms = pulls_last ls ms

pub pulls_before : (sends : List (List Move)) (ms : List Move) (k : ℕ) → k < length sends → pulls_in (sends ++ ms ∷ []) k ≡ pulls_in sends k
pulls_before [] ms k lt = absurd (omega (arith, lt))
pulls_before (l ∷ ls) ms zero lt = refl
pulls_before (l ∷ ls) ms (suc k) lt = pulls_before ls ms k (omega (arith, lt))

pub more_long : (sends : List (List Move)) (ms : List Move) → length (sends ++ ms ∷ []) ≡ suc (length sends)
more_long [] ms = refl
more_long (l ∷ ls) ms = ap suc (more_long ls ms)

pub page_next : (s : ScriptModel) (sends : List (List Move)) (ms : List Move) → page s (pulls_in sends) (length sends) ≡ page s (pulls_in (sends ++ ms ∷ [])) (length sends)
page_next s sends ms = page_alike s (pulls_in sends) (pulls_in (sends ++ ms ∷ [])) (length sends) (λ k lt. sym (pulls_before sends ms k lt))

-- the tree stands before the next frame
next_pulls : (sends : List (List Move)) (ms : List Move) (k : ℕ) → k ≡ length sends → pulls_in (sends ++ ms ∷ []) k ≡ ms
next_pulls sends ms k e = ap (pulls_in (sends ++ ms ∷ [])) e ∙ pulls_last sends ms

next_stands : (s : ScriptModel) (sends : List (List Move)) (ms : List Move) (k : ℕ) (tree : Page) → k ≡ length sends → IsHost s sends tree → tree ≡ page s (pulls_in (sends ++ ms ∷ [])) k
next_stands s sends ms k tree e is = is.tree ∙ (page_next s sends ms ∙ ap (page s (pulls_in (sends ++ ms ∷ []))) (sym e))

pub stands_before : (s : ScriptModel) (sends : List (List Move)) (ms : List Move) (k : ℕ) (tree copy : Page) → k ≡ length sends → IsHost s sends tree → copy ≡ tree → StandsBefore s k ms copy
stands_before s sends ms k tree copy e is same = (pulls_in (sends ++ ms ∷ []), next_pulls sends ms k e, same ∙ next_stands s sends ms k tree e is)

-- where the frame was ended on a copy, this is the next frame
pub is_next : (s : ScriptModel) (sends : List (List Move)) (ms : List Move) (k : ℕ) (tree copy after : Page) (done : Changed) → k ≡ length sends → k < length s.main → IsHost s sends tree → copy ≡ tree
    → EndsFrame s k ms copy after done → IsNext (record { script = s; sends = sends }) ms k tree after done
is_next s sends ms k tree copy after done e left is same ends =
    let pulls = next_pulls sends ms k e in
    let stands = next_stands s sends ms k tree e is in
    let before : page_after_pulls ms copy ≡ page_after_pulls (pulls_in (sends ++ ms ∷ []) k) (page s (pulls_in (sends ++ ms ∷ [])) k) = λ i. page_after_pulls (sym pulls i) ((same ∙ stands) i) in
    record {
      left = left;
      frame = e;
      before = stands;
      after = ends.page ∙ ap (λ (p : Page). commanded (commands_of s k) p) before;
      changes = subst (λ (p : Page). SameChanges done (changed_by p (commands_of s k) unchanged)) before ends.changes;
    }

-- the main side after it
pub is_host : (s : ScriptModel) (sends : List (List Move)) (ms : List Move) (k : ℕ) (before after : Page) (done : Changed) → IsNext (record { script = s; sends = sends }) ms k before after done → IsHost s (sends ++ ms ∷ []) after
is_host s sends ms k before after done n =
    let l : length (sends ++ ms ∷ []) ≡ suc k = more_long sends ms ∙ ap suc (sym n.frame) in
    let left = n.left in
    record {
      few = omega (arith, l, left);
      tree = n.after ∙ ap (page s (pulls_in (sends ++ ms ∷ []))) (sym l);
    }

-- what is told of the next frame
pub told : (s : ScriptModel) (sends : List (List Move)) (ms ns : List Move) (k : ℕ) (before after : Page) (answer : Bool) (done : Changed) → IsNext (record { script = s; sends = sends }) ms k before after done
    → ns ≡ ms → Tells s k ns before after answer → answer ≡ changes s (pulls_in (sends ++ ms ∷ [])) (length sends)
told s sends ms ns k before after answer done n e tells =
    tells (pulls_in (sends ++ ms ∷ [])) (next_pulls sends ms k n.frame ∙ sym e) n.before n.after ∙ ap (changes s (pulls_in (sends ++ ms ∷ []))) n.frame
