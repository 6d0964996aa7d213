-- What a session said of a line is an answer to it.
use Rattle.std.specs.Prelude.{◌≡◌, ℕ, ◌≤◌, ◌<◌, Bool, true, false, List, [], ◌++◌, length, flat_map, Option, Some, None, Result, Ok, Err}
use Rattle.std.proofs.lemmas.Bool.{false≢true}
use Rattle.std.proofs.Common.{refl, sym, ap, subst, ◌∙◌, append-nil, append_assoc, inl, inr}
use Rattle.std.specs.Io.KnownBytes.{Appends}
use Rattle.player_lines.specs.Sessions.{Act, frame, Has}
use Rattle.player_lines.specs.inner.Pasts.{Went, IsQuiet, Spoke, Said, Answered, AnsweredBy, quote, told}
use Rattle.player_lines.proofs.Telling.{gained, quiet_told, went_then}
use Rattle.model_history.specs.Accepted.{IsAccepted}
use Rattle.model_history.specs.Scripts.{ScriptModel}
use Rattle.script_json.specs.Causes.{IsScriptText}
use Rattle.player_uses.specs.declared.outcome.Outcome.{Outcome}
use Rattle.player_uses.specs.declared.outcome.Outcome.TheVariants.{Done, Json, Shape, Script, WriteFault, TooLong, Memory}
use Rattle.player_uses.specs.declared.words.Use.TheVariants.{Step}
use Rattle.player_uses.specs.Outputs.{WritesSome}
use Rattle.player_uses.specs.Scripts.{IsNone}
use Rattle.player_uses.specs.Refusals.{script_limit}
use Rattle.player_uses.specs.Outcomes.{is_write_fault}
use Rattle.player_uses.specs.Verdicts.{verdict}
use Rattle.player_run.specs.Runs.{IsRunOf, IsOutput, CauseOf, Writes}
use Rattle.player_run.specs.Served.{EndsLine, IsLineAnswer}

abbrev joined : List (List ℕ) → List ℕ
joined pieces = flat_map (λ (piece : List ℕ). piece) pieces

-- ---- a line that is refused

abbrev IsTold : ℕ → List ℕ → Outcome → Type 0
IsTold workers line result = EndsLine result × CauseOf (Step workers) line result × Writes (Step workers) line (Some []) (Some []) result

pub none_told : (workers : ℕ) (line : List ℕ) (result : Outcome) → IsNone line result → IsTold workers line result
none_told workers line Json none = (tt, none, refl)
none_told workers line (Shape fault) none = (tt, none, refl)
none_told workers line (Script frame command why) none = (tt, none, refl)
none_told workers line (TooLong limit) none = (tt, none, refl)
none_told workers line Memory none = (tt, tt, inl refl)
none_told workers line _ none = absurd none

pub told_answer : {X E : Type 0} (workers number : ℕ) (line : List ℕ) (result : Outcome) (old new : Option (List Act)) (r : Result X E)
    → IsTold workers line result → Said old new (verdict number result) r → Answered (IsLineAnswer workers number line) old new r
told_answer workers number line result None new r is said = tt
told_answer workers number line result (Some h) None r is said = λ quiet. said
told_answer workers number line result (Some h) (Some g) (Ok u) is said =
    λ quiet. (verdict number result, (result, [], is.0, is.1, is.2, refl), said.0, said.1)
told_answer workers number line result (Some h) (Some g) (Err e) is said =
    λ quiet. (verdict number result, said.0, said.1, (result, [], is.0, is.1, is.2, refl), said.2, said.3)

-- ---- a line that was played

abbrev IsOf : ℕ → List ℕ → ScriptModel → Type 0
IsOf workers line s = (length line ≤ script_limit) × IsScriptText line s × IsAccepted s

-- the data that went since a quiet past, with what step N says of it
abbrev HasDone : ℕ → List ℕ → List Act → Bool → Outcome → List Act → Type 0
HasDone workers line h torn result m = (front : List ℕ) × Spoke h torn front m × Writes (Step workers) line (Some []) (Some front) result

has_done : (h : List Act) (torn : Bool) (mid : Option (List Act)) (front : List ℕ) (Q : List Act → Type 0)
    → ((m : List Act) → Spoke h torn front m → Q m) → Has (Spoke h torn front) mid → Has Q mid
has_done h torn None front Q f is = is
has_done h torn (Some m) front Q f is = f m is

output : (workers : ℕ) (line whole : List ℕ) (s : ScriptModel) → IsOf workers line s → IsRunOf workers s whole → IsOutput (Step workers) line whole
output workers line whole s is run = (s, (is.1, is.2.commands), run)

-- what went since is data that a line may have where there was no memory for more
part_done : (workers : ℕ) (line : List ℕ) (s : ScriptModel) (h : List Act) (torn : Bool) (mid : Option (List Act)) (o : Outcome) → IsOf workers line s → IsQuiet h
    → WritesSome (IsRunOf workers s) (told false (Some h)) (told torn mid) o → Has (HasDone workers line h torn Memory) mid
part_done workers line s h torn mid Done is quiet wrote =
    has_done h torn mid wrote.0 _ (λ m spoke. (wrote.0, spoke, inr (wrote.0, output workers line wrote.0 s is wrote.1, (wrote.0, [], append-nil wrote.0, refl)))) (gained h torn mid wrote.0 quiet wrote.2)
part_done workers line s h torn mid WriteFault is quiet (whole, run, (front, rest, parts, goes)) =
    has_done h torn mid front _ (λ m spoke. (front, spoke, inr (whole, output workers line whole s is run, (front, rest, parts, refl)))) (gained h torn mid front quiet goes)
part_done workers line s h torn mid Memory is quiet (inr (whole, run, (front, rest, parts, goes))) =
    has_done h torn mid front _ (λ m spoke. (front, spoke, inr (whole, output workers line whole s is run, (front, rest, parts, refl)))) (gained h torn mid front quiet goes)
part_done workers line s h torn mid Memory is quiet (inl same) =
    has_done h torn mid [] _ (λ m spoke. ([], spoke, inl refl)) (gained h torn mid [] quiet (nothing h (told torn mid) quiet same))
  where
    kept : (xs : List ℕ) → Appends (Some xs) (Some xs) []
    kept xs = sym (append-nil xs)

    nothing : (h : List Act) (new : Option (List ℕ)) → IsQuiet h → new ≡ told false (Some h) → Appends (told false (Some h)) new []
    nothing h new quiet same =
        let old = quiet_told h quiet in
        subst (λ (x : Option (List ℕ)). Appends (told false (Some h)) x []) (sym (same ∙ old)) (subst (λ (x : Option (List ℕ)). Appends x (Some (quote h [])) []) (sym old) (kept (quote h [])))
part_done workers line s h torn mid _ is quiet wrote = absurd wrote

-- what a line may have of data
moved : (workers : ℕ) (line front : List ℕ) (pieces : List (List ℕ)) (result : Outcome) → joined pieces ≡ front
    → Writes (Step workers) line (Some []) (Some front) result → Writes (Step workers) line (Some []) (Some (joined pieces)) result
moved workers line front pieces result same is = subst (λ (x : List ℕ). Writes (Step workers) line (Some []) (Some x) result) (sym same) is

-- the client failed: what went is a prefix of an answer
failed_by : {E : Type 0} (workers number : ℕ) (line : List ℕ) (h : List Act) (torn : Bool) (mid : Option (List Act)) (e : E) → Has (HasDone workers line h torn Memory) mid
    → Has (λ m. (text : List ℕ) × (part : List ℕ) × (rest : List ℕ) × IsLineAnswer workers number line text × (part ++ rest ≡ text) × Went h m part) mid
failed_by workers number line h torn None e is = is
failed_by workers number line h torn (Some m) e (front, (pieces, part, rest, went, all, same, none), writes) = (
  flat_map frame pieces ++ verdict number Memory,
  part,
  rest ++ verdict number Memory,
  (Memory, pieces, tt, tt, moved workers line front pieces Memory same writes, refl),
  sym (append_assoc part rest (verdict number Memory)) ∙ ap (λ (l : List ℕ). l ++ verdict number Memory) all,
  went,
)

stopped : (X : Type 0) {E : Type 0} (workers number : ℕ) (line : List ℕ) (s : ScriptModel) (old mid : Option (List Act)) (torn : Bool) (o : Outcome) (e : E) → IsOf workers line s
    → WritesSome (IsRunOf workers s) (told false old) (told torn mid) o → Answered {X = X} {E = E} (IsLineAnswer workers number line) old mid (Err e)
stopped X workers number line s None mid torn o e is wrote = tt
stopped X workers number line s (Some h) mid torn o e is wrote =
    λ quiet. failed_by workers number line h torn mid e (part_done workers line s h torn mid o is quiet wrote)

-- the last line stands after the data
said_on : {X E : Type 0} (workers number : ℕ) (line : List ℕ) (result : Outcome) (h : List Act) (mid new : Option (List Act)) (r : Result X E) → EndsLine result → CauseOf (Step workers) line result
    → Has (HasDone workers line h false result) mid → Said mid new (verdict number result) r → Has (λ g. AnsweredBy (IsLineAnswer workers number line) h g r) new
said_on workers number line result h None new r ends cause is said = absurd is
said_on workers number line result h (Some m) None r ends cause is said = said
said_on workers number line result h (Some m) (Some g) (Ok u) ends cause (front, (pieces, part, rest, went, all, same, none), writes) said =
    let whole : part ≡ flat_map frame pieces = sym (append-nil part) ∙ ap (λ (l : List ℕ). part ++ l) (sym (none refl)) ∙ all in (
      part ++ verdict number result,
      (result, pieces, ends, cause, moved workers line front pieces result same writes, ap (λ (l : List ℕ). l ++ verdict number result) whole),
      went_then h m g part (verdict number result) went said.0,
      said.1,
    )
said_on workers number line result h (Some m) (Some g) (Err e) ends cause (front, (pieces, part, rest, went, all, same, none), writes) (some, others, parts, more) =
    let whole : part ≡ flat_map frame pieces = sym (append-nil part) ∙ ap (λ (l : List ℕ). part ++ l) (sym (none refl)) ∙ all in (
      part ++ verdict number result,
      part ++ some,
      others,
      (result, pieces, ends, cause, moved workers line front pieces result same writes, ap (λ (l : List ℕ). l ++ verdict number result) whole),
      append_assoc part some others ∙ ap (λ (l : List ℕ). part ++ l) parts,
      went_then h m g part some went more,
    )

-- what went is what step N writes where all was done
all_done : (workers : ℕ) (line : List ℕ) (s : ScriptModel) (h : List Act) (mid : Option (List Act)) → IsOf workers line s → IsQuiet h
    → WritesSome (IsRunOf workers s) (told false (Some h)) (told false mid) Done → Has (HasDone workers line h false Done) mid
all_done workers line s h mid is quiet (whole, run, goes) =
    has_done h false mid whole _ (λ m spoke. (whole, spoke, (whole, output workers line whole s is run, refl))) (gained h false mid whole quiet goes)

finished : {X E : Type 0} (workers number : ℕ) (line : List ℕ) (s : ScriptModel) (old mid new : Option (List Act)) (o : Outcome) (r : Result X E) → IsOf workers line s
    → is_write_fault o ≡ false → WritesSome (IsRunOf workers s) (told false old) (told false mid) o → Said mid new (verdict number o) r → Answered (IsLineAnswer workers number line) old new r
finished workers number line s None mid new o r is not wrote said = tt
finished workers number line s (Some h) mid new Done r is not wrote said =
    λ quiet. said_on workers number line Done h mid new r tt (is.0, (s, is.1, is.2.commands)) (all_done workers line s h mid is quiet wrote) said
finished workers number line s (Some h) mid new Memory r is not wrote said =
    λ quiet. said_on workers number line Memory h mid new r tt tt (part_done workers line s h false mid Memory is quiet wrote) said
finished workers number line s (Some h) mid new WriteFault r is not wrote said = absurd (false≢true (sym not))
finished workers number line s (Some h) mid new _ r is not wrote said = absurd wrote

-- ---- the same, as the code knows it

pub played_failed : (X : Type 0) {E : Type 0} (workers number : ℕ) (line : List ℕ) (s : ScriptModel) (old mid : Option (List Act)) (before torn : Bool) (o : Outcome) (e : E)
    → before ≡ false → length line ≤ script_limit → IsScriptText line s → IsAccepted s
    → WritesSome (IsRunOf workers s) (told before old) (told torn mid) o → Answered {X = X} {E = E} (IsLineAnswer workers number line) old mid (Err e)
played_failed X workers number line s old mid before torn o e calm short text accepted wrote =
    stopped X workers number line s old mid torn o e (short, text, accepted) (subst (λ (t : Bool). WritesSome (IsRunOf workers s) (told t old) (told torn mid) o) calm wrote)

pub played_answer : {X E : Type 0} (workers number : ℕ) (line : List ℕ) (s : ScriptModel) (old mid new : Option (List Act)) (before torn : Bool) (o : Outcome) (r : Result X E)
    → before ≡ false → torn ≡ false → is_write_fault o ≡ false → length line ≤ script_limit → IsScriptText line s → IsAccepted s
    → WritesSome (IsRunOf workers s) (told before old) (told torn mid) o → Said mid new (verdict number o) r → Answered (IsLineAnswer workers number line) old new r
played_answer workers number line s old mid new before torn o r calm whole not short text accepted wrote said =
    finished workers number line s old mid new o r (short, text, accepted) not
    (subst (λ (t : Bool). WritesSome (IsRunOf workers s) (told false old) (told t mid) o) whole (subst (λ (t : Bool). WritesSome (IsRunOf workers s) (told t old) (told torn mid) o) calm wrote)) said

pub too_long : (workers limit : ℕ) (line : List ℕ) → limit ≡ script_limit → script_limit < length line → IsTold workers line (TooLong limit)
too_long workers limit line is long = (tt, (is, long), refl)

pub no_memory : (workers : ℕ) (line : List ℕ) → IsTold workers line Memory
no_memory workers line = (tt, tt, inl refl)

-- ---- a session

pub both_known : (P Q : List Act → Type 0) (past : Option (List Act)) → Has P past → Has Q past → Has (λ h. P h × Q h) past
both_known P Q None p q = p
both_known P Q (Some h) p q = (p, q)
