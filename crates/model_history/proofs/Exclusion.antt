-- What is taken is not refused.
use Rattle.std.specs.Prelude.{⊤}
use Rattle.std.proofs.Common.{◌≡◌, ℕ, zero, suc, List, [], ◌∷◌, Result, Ok, Err, refl, sym, ap, ◌∙◌, inl, inr}
use Rattle.page_layers.specs.declared.command.Command.{Command}
use Rattle.page_layers.specs.declared.fault.EditFault.{EditFault}
use Rattle.page_layers.specs.Pages.{Page}
use Rattle.page_layers.specs.Effects.{page_after_command, commanded}
use Rattle.page_layers.specs.Refusals.{test_of}
use Rattle.page_layers.specs.Outcomes.{Accepts, Refuses}
use Rattle.model_history.specs.Accepted.{TakesAll, TakesFrames}
use Rattle.model_history.specs.Judging.{RefusedIn, RefusedAt}

pub command_taken : (p : Page) (c : Command) (fault : EditFault) → Accepts p c → Refuses p c fault → ⊥
command_taken p c fault a (inl e) = let passes : test_of p c ≡ Ok tt = a.passes in absurd (cc)
command_taken p c fault a (inr parted) = parted.2 a.together

pub commands_taken : (p : Page) (cs : List Command) (n : ℕ) (fault : EditFault) → TakesAll p cs → RefusedIn p cs n fault → ⊥
commands_taken p [] n fault t r = r
commands_taken p (c ∷ cs) zero fault t r = command_taken p c fault t.0 r
commands_taken p (c ∷ cs) (suc n) fault t r = commands_taken (page_after_command p c) cs n fault t.1 r.1

pub frames_taken : (p : Page) (fs : List (List Command)) (k n : ℕ) (fault : EditFault) → TakesFrames p fs → RefusedAt p fs k n fault → ⊥
frames_taken p [] k n fault t r = r
frames_taken p (f ∷ fs) zero n fault t r = commands_taken p f n fault t.0 r
frames_taken p (f ∷ fs) (suc k) n fault t r = frames_taken (commanded f p) fs k n fault t.1 r.1

-- ---- one command alone is the first that is refused, with one fault alone

fails : (p : Page) (c : Command) (f : EditFault) → test_of p c ≡ Err f → test_of p c ≡ Ok tt → ⊥
fails p c f e h = absurd (cc)

pub one_fault : (p : Page) (c : Command) (f g : EditFault) → Refuses p c f → Refuses p c g → f ≡ g
one_fault p c f g (inl e) (inl h) = let same : ◌≡◌ {A = Result ⊤ EditFault} (Err f) (Err g) = sym e ∙ h in cc
one_fault p c f g (inl e) (inr h) = absurd (fails p c f e h.0)
one_fault p c f g (inr e) (inl h) = absurd (fails p c g h e.0)
one_fault p c f g (inr e) (inr h) = e.1 ∙ sym h.1

pub one_in : (p : Page) (cs : List Command) (n m : ℕ) (f g : EditFault) → RefusedIn p cs n f → RefusedIn p cs m g → (n ≡ m) × (f ≡ g)
one_in p [] n m f g r q = absurd r
one_in p (c ∷ cs) zero zero f g r q = (refl, one_fault p c f g r q)
one_in p (c ∷ cs) zero (suc m) f g r q = absurd (command_taken p c f q.0 r)
one_in p (c ∷ cs) (suc n) zero f g r q = absurd (command_taken p c g r.0 q)
one_in p (c ∷ cs) (suc n) (suc m) f g r q = let same = one_in (page_after_command p c) cs n m f g r.1 q.1 in (ap suc same.0, same.1)

pub one_at : (p : Page) (fs : List (List Command)) (k j n m : ℕ) (f g : EditFault) → RefusedAt p fs k n f → RefusedAt p fs j m g → (k ≡ j) × (n ≡ m) × (f ≡ g)
one_at p [] k j n m f g r q = absurd r
one_at p (cs ∷ fs) zero zero n m f g r q = let same = one_in p cs n m f g r q in (refl, same.0, same.1)
one_at p (cs ∷ fs) zero (suc j) n m f g r q = absurd (commands_taken p cs n f q.0 r)
one_at p (cs ∷ fs) (suc k) zero n m f g r q = absurd (commands_taken p cs m g r.0 q)
one_at p (cs ∷ fs) (suc k) (suc j) n m f g r q = let same = one_at (commanded cs p) fs k j n m f g r.1 q.1 in (ap suc same.0, same.1, same.2)
