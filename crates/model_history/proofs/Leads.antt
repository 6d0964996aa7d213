-- Commands that are applied one after another: what is judged of the rest from now on is judged of all from the start.
use Rattle.std.proofs.Common.{◌≡◌, ℕ, suc, ◌+◌, List, ◌∷◌, Err, length, map, sym, ap, ◌∙◌, ◌<◌, get_or, drop, subst, arith}
use Rattle.std.proofs.lemmas.List.{drop_more}
use Rattle.page_layers.specs.declared.command.Command.{Command}
use Rattle.page_layers.specs.declared.fault.EditFault.{EditFault}
use Rattle.page_layers.specs.Pages.{Page}
use Rattle.page_layers.specs.Effects.{page_after_command, commanded}
use Rattle.page_layers.specs.Outcomes.{Accepts}
use Rattle.model_history.specs.Accepted.{TakesAll, TakesFrames}
use Rattle.model_history.specs.declared.script_error.ScriptError.{ScriptError}
use Rattle.model_history.specs.declared.script_error.ScriptError.TheVariants.{Command as Refused, Memory}
use Rattle.model_history.specs.Judging.{RefusedIn, RefusedAt, framed}
use Rattle.model_history.specs.inner.Applying.{AppliedCommand, AppliedFrame, Applied}

-- the rest of a list from place i on: the element there, and the rest after it
pub rest_at : {A : Type 0} (xs : List A) (i : ℕ) (x : A) → x ≡ get_or xs i x → i < length xs → drop i xs ≡ x ∷ drop (i + 1) xs
rest_at {A = A} xs i x e lt = drop_more xs i x lt ∙ ap (λ (y : A). y ∷ drop (i + 1) xs) (sym e)

-- the same of what each element represents
pub mapped_rest_at : {A B : Type 0} (f : A → B) (xs : List A) (i : ℕ) (x : A) (y : B) → x ≡ get_or xs i x → y ≡ f x → i < length xs
    → map f (drop i xs) ≡ y ∷ map f (drop (i + 1) xs)
mapped_rest_at {B = B} f xs i x y e g lt = ap (map f) (rest_at xs i x e lt) ∙ ap (λ (z : B). z ∷ map f (drop (i + 1) xs)) (sym g)

-- what is judged of the rest of some commands on the page now is judged of all of them on the first page; the rest begins at place i
pub record Leads (first : Page) (all : List Command) (i : ℕ) (now : Page) (rest : List Command) : Type 0 where
  pub taken : TakesAll now rest → TakesAll first all
  pub page : commanded rest now ≡ commanded all first
  pub refused : (n : ℕ) (fault : EditFault) → RefusedIn now rest n fault → RefusedIn first all (i + n) fault

pub leads_on : (first : Page) (all : List Command) (i : ℕ) (now : Page) (c : Command) (rest : List Command) → Accepts now c
    → Leads first all i now (c ∷ rest) → Leads first all (i + 1) (page_after_command now c) rest
leads_on first all i now c rest a l =
    record {
      taken = λ t. l.taken (a, t);
      page = l.page;
      refused = λ n fault r. subst (λ (k : ℕ). RefusedIn first all k fault) (omega arith) (l.refused (suc n) fault (a, r));
    }

-- what stopped the next command stopped all of them
pub leads_stop : (first : Page) (all : List Command) (i : ℕ) (now new : Page) (c : Command) (rest : List Command) (k : ℕ) (e : ScriptError)
    → Leads first all i now (c ∷ rest) → AppliedCommand now k i c new (Err e) → AppliedFrame first k all new (Err e)
leads_stop first all i now new c rest k (Refused frame command fault) l h =
    (h.0, subst (λ (n : ℕ). RefusedIn first all n fault) (omega (arith, h.1)) (l.refused 0 fault h.2))
leads_stop first all i now new c rest k (Memory e) l h = tt

-- the same for main frames: the rest of them begins with frame i
pub record LeadsFrames (first : Page) (all : List (List Command)) (i : ℕ) (now : Page) (rest : List (List Command)) : Type 0 where
  pub taken : TakesFrames now rest → TakesFrames first all
  pub page : framed rest now ≡ framed all first
  pub refused : (k n : ℕ) (fault : EditFault) → RefusedAt now rest k n fault → RefusedAt first all (i + k) n fault

pub frames_on : (first : Page) (all : List (List Command)) (i : ℕ) (now : Page) (f : List Command) (rest : List (List Command)) → TakesAll now f
    → LeadsFrames first all i now (f ∷ rest) → LeadsFrames first all (i + 1) (commanded f now) rest
frames_on first all i now f rest t l =
    record {
      taken = λ ts. l.taken (t, ts);
      page = l.page;
      refused = λ k n fault r. subst (λ (j : ℕ). RefusedAt first all j n fault) (omega arith) (l.refused (suc k) n fault (t, r));
    }

pub frames_stop : (first : Page) (all : List (List Command)) (i : ℕ) (now new : Page) (f : List Command) (rest : List (List Command)) (e : ScriptError)
    → LeadsFrames first all i now (f ∷ rest) → AppliedFrame now i f new (Err e) → Applied first all new (Err e)
frames_stop first all i now new f rest (Refused frame command fault) l h =
    subst (λ (k : ℕ). RefusedAt first all k command fault) (omega (arith, h.0)) (l.refused 0 command fault h.1)
frames_stop first all i now new f rest (Memory e) l h = tt
