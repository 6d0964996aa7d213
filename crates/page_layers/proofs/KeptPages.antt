-- What a method owes: the page that it leaves is one, and layers that a command cannot part stand together.
use Rattle.std.proofs.Common.{ℕ, ◌≡◌, ◌↔◌, Bool, true, false, List, map, Result, Ok, Err, refl, sym, ap, subst, ◌∙◌, inl, inr}
use Rattle.std.specs.Bool.{IsTrue, Decides}
use Rattle.page_properties.specs.Nesting.{AreNested}
use Rattle.page_layers.specs.declared.fault.EditFault.TheVariants as kind
use Rattle.std.specs.Prelude.{⊤, IfOk}
use mathlib.Core.HLevel.{Unit-prop}
use Rattle.page_layers.specs.declared.fault.EditFault.{EditFault}
use Rattle.region.specs.Lists.{Changed}
use Rattle.page_layers.specs.declared.fault.EditError.{EditError}
use Rattle.page_layers.specs.declared.fault.EditError.TheVariants as error
use Rattle.page_layers.specs.declared.command.Command.{Command}
use Rattle.page_layers.specs.declared.command.Command.TheVariants as command
use Rattle.page_layers.specs.Pages.{Page}
use Rattle.page_layers.specs.Refusals.{test_of}
use Rattle.page_layers.specs.Effects.{page_after_command}
use Rattle.page_layers.specs.Outcomes.{StandTogether, Accepts, Refuses, Outcome}
use Rattle.page_layers.specs.inner.Tested.{may_part, Tested, Promised}
use Rattle.page_layers.specs.Sound.{IsPage}
use Rattle.page_layers.proofs.AfterKeeps.{after-keeps}

-- a test that passed, of the page that the fields make
pub passed_inside : (inside old : Page) (c : Command) → inside ≡ old → (u : ⊤) → Ok u ≡ test_of old c → test_of inside c ≡ Ok tt
passed_inside inside old c same u ok = ap (λ (p : Page). test_of p c) same ∙ sym ok ∙ ap (λ (x : ⊤). let r : Result ⊤ EditFault = Ok x in r) (Unit-prop u tt)

-- the page that a command made which cannot part layers
pub kept : (inside old new : Page) (c : Command) → may_part c ≡ false → inside ≡ old → IsPage inside → (u : ⊤) → Ok u ≡ test_of old c → new ≡ page_after_command inside c → IsPage new
kept inside old new c whole same is u ok made = subst IsPage (sym made) (after-keeps inside c is (passed_inside inside old c same u ok) (λ e. absurd (cc)))

-- what such a command promises in all
pub outcome_of : (old new : Page) (c : Command) (r : Result Changed EditError) → may_part c ≡ false → IsPage old → Tested old c new r → Outcome old c new r
outcome_of old new c (Ok changes) whole is t = (record { passes = t.0; together = (after-keeps old c is t.0 (λ e. absurd (cc))).nested }, t.1, t.2)
outcome_of old new c (Err (error.Refused fault)) whole is t = (inl t.0, t.1)
outcome_of old new c (Err (error.Memory e)) whole is t = t

-- what each command promises
pub promised : (old new : Page) (c : Command) (r : Result Changed EditError) → IsPage old → Promised old c new r → Outcome old c new r
promised old new (command.AddLayer c) r is p = p
promised old new (command.MoveLayer c) r is p = p
promised old new c r is p = outcome_of old new c r refl is p

-- ---- commands that may part layers

-- a test of the effects of the layers after a command decides whether they would stand together
pub decided : (inside old : Page) (c : Command) (b : Bool) (es : List ℕ) → inside ≡ old → (IsTrue b ↔ AreNested (page_after_command inside c).props.effects es) → es ≡ map (λ l. l.effect) (page_after_command inside c).layers → Decides b (StandTogether (page_after_command old c))
decided inside old c b es same tells is =
    let P : Page → Type 0 = λ p. Decides b (StandTogether (page_after_command p c)) in
    subst P same (subst (λ (xs : List ℕ). Decides b (AreNested (page_after_command inside c).props.effects xs)) is tells)

-- a page takes a command after which its layers stand together
pub accepted : (old : Page) (c : Command) (b : Bool) (u : ⊤) → Decides b (StandTogether (page_after_command old c)) → b ≡ true → Ok u ≡ test_of old c → Accepts old c
accepted old c b u d e ok = record { passes = passed_inside old old c refl u ok; together = d.0 e }

-- and refuses one after which they do not
pub parted : (old : Page) (c : Command) (b : Bool) (u : ⊤) → Decides b (StandTogether (page_after_command old c)) → b ≡ false → Ok u ≡ test_of old c → Refuses old c kind.NotNested
parted old c b u d e ok = inr (passed_inside old old c refl u ok, refl, λ stand. let yes : b ≡ true = d.1 stand in absurd (cc))

-- the page that such a command made
pub kept_together : (inside old new : Page) (c : Command) → inside ≡ old → IsPage inside → Accepts old c → new ≡ page_after_command inside c → IsPage new
kept_together inside old new c same is ok made =
    let P : Page → Type 0 = λ p. Accepts p c in
    let here : Accepts inside c = subst P (sym same) ok in
    subst IsPage (sym made) (after-keeps inside c is here.passes (λ e. here.together))

-- what holds of each value that is answered
pub weaken : {X E : Type 0} {P Q : X → Type 0} (r : Result X E) → ((x : X) → P x → Q x) → IfOk r P → IfOk r Q
weaken (Ok x) w h = w x h
weaken (Err e) w h = h
