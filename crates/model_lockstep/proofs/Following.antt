-- Following a way part by part, and what was played where it is left early.
use Rattle.std.proofs.Common.{ℕ, zero, suc, ◌≡◌, ◌<◌, ◌-◌, Bool, true, false, List, ◌++◌, refl, ap, sym, ◌∙◌, subst, arith}
use Rattle.std.specs.Prelude.{MatchBool, Result, Ok, Err, OnOk, OnErr}
use Rattle.std.proofs.lemmas.List.{append_assoc}
use Rattle.model_states.specs.declared.kind.Kind.{Kind}
use Rattle.model_history.specs.declared.history.Entry.{Entry}
use Rattle.model_history.specs.Scripts.{ScriptModel}
use Rattle.model_history.specs.Lockstep.{Step, Stays, Then, Where, While, AtMost}
use Rattle.model_history.proofs.LockstepWords.{Good}
use Rattle.model_lockstep.specs.Walks.{WalkState, Way, CanFollow, Follows, IsOnWay, TurnsOf, Turns, entering}
use Rattle.model_lockstep.proofs.Fronts.{Grows, enters}

-- a way that leads on and only adds entries begins where one stands
pub begun : (P : Way) (r : WalkState) → ((s : ScriptModel) → Grows (P s)) → CanFollow P r → IsOnWay P r r
begun P r grows c = let g = grows r.script r.past c.end c.way in record { same = refl; written = refl; end = c.end; way = c.way; newer = g.0; beginning = g.1 }

-- ---- one way and then another

abbrev pub then' : Way → Way → Way
then' P Q s = Then (P s) (Q s)

pub first_part : (P Q : Way) (r : WalkState) → CanFollow (then' P Q) r → CanFollow P r
first_part P Q r c = let (m, p, q) = c.way in record { end = m; way = p }

-- the rest can be followed from where the first part leads, since that leads to one past only
pub rest : (P Q : Way) (r m : WalkState) → ((s : ScriptModel) → Good s (P s)) → CanFollow (then' P Q) r → Follows P r m → CanFollow Q m
rest P Q r m good c f =
    let (n, p, q) = c.way in
    let one : n ≡ m.past = (good r.script).one r.past n m.past p f.way in
    let there : Q r.script m.past c.end = subst (λ (z : List Entry). Q r.script z c.end) one q in
    record { end = c.end; way = subst (λ (s : ScriptModel). Q s m.past c.end) (sym f.same) there }

pub joined : (P Q : Way) (r m n : WalkState) → Follows P r m → Follows Q m n → Follows (then' P Q) r n
joined P Q r m n f h = record { same = h.same ∙ f.same; written = h.written ∙ f.written; way = (m.past, f.way, subst (λ (s : ScriptModel). Q s m.past n.past) f.same h.way) }

-- the way is left in its first part
pub left_in_first : (P Q : Way) (r m : WalkState) → ((s : ScriptModel) → Good s (P s)) → ((s : ScriptModel) → Grows (Q s)) → CanFollow (then' P Q) r → IsOnWay P r m → IsOnWay (then' P Q) r m
left_in_first P Q r m good grows c w =
    let (n, p, q) = c.way in
    let one : n ≡ w.end = (good r.script).one r.past n w.end p w.way in
    let more = grows r.script n c.end q in
    record { same = w.same; written = w.written; end = c.end; way = c.way; newer = more.0 ++ w.newer; beginning = more.1 ∙ ap (λ (z : List Entry). more.0 ++ z) (one ∙ w.beginning) ∙ sym (append_assoc more.0 w.newer m.past) }

-- it is left after its first part
pub left_in_rest : (P Q : Way) (r m n : WalkState) → Follows P r m → IsOnWay Q m n → IsOnWay (then' P Q) r n
left_in_rest P Q r m n f w = record {
  same = w.same ∙ f.same;
  written = w.written ∙ f.written;
  end = w.end;
  way = (m.past, f.way, subst (λ (s : ScriptModel). Q s m.past w.end) f.same w.way);
  newer = w.newer;
  beginning = w.beginning;
}

-- nothing was played since
pub on_same : (P : Way) (r m n : WalkState) → n ≡ m → IsOnWay P r m → IsOnWay P r n
on_same P r m n e w = subst (IsOnWay P r) (sym e) w

-- a fact that holds whatever the answer
pub in_any_case : {A E : Type 0} (r : Result A E) (P : Type 0) → P → OnErr r P
in_any_case (Ok x) P p = tt
in_any_case (Err e) P p = p

-- ---- one way or another

abbrev pub where' : (ScriptModel → List Entry → Bool) → Way → Way → Way
where' test P Q s = Where (test s) (P s) (Q s)

chosen : (b : Bool) (A B : Type 0) → b ≡ true → MatchBool b A B → A
chosen true A B e x = x
chosen false A B e x = absurd cc

not_chosen : (b : Bool) (A B : Type 0) → b ≡ false → MatchBool b A B → B
not_chosen true A B e x = absurd cc
not_chosen false A B e x = x

choose : (b : Bool) (A B : Type 0) → b ≡ true → A → MatchBool b A B
choose b A B e x = subst (λ (c : Bool). MatchBool c A B) (sym e) x

choose_else : (b : Bool) (A B : Type 0) → b ≡ false → B → MatchBool b A B
choose_else b A B e x = subst (λ (c : Bool). MatchBool c A B) (sym e) x

module _ (test : ScriptModel → List Entry → Bool) (P Q : Way) where
  pub can_if : (r : WalkState) → test r.script r.past ≡ true → CanFollow (where' test P Q) r → CanFollow P r
  can_if r t c = record { end = c.end; way = chosen (test r.script r.past) (P r.script r.past c.end) (Q r.script r.past c.end) t c.way }

  pub can_else : (r : WalkState) → test r.script r.past ≡ false → CanFollow (where' test P Q) r → CanFollow Q r
  can_else r t c = record { end = c.end; way = not_chosen (test r.script r.past) (P r.script r.past c.end) (Q r.script r.past c.end) t c.way }

  pub follows_if : (r m : WalkState) → test r.script r.past ≡ true → Follows P r m → Follows (where' test P Q) r m
  follows_if r m t f = record { same = f.same; written = f.written; way = choose (test r.script r.past) (P r.script r.past m.past) (Q r.script r.past m.past) t f.way }

  pub follows_else : (r m : WalkState) → test r.script r.past ≡ false → Follows Q r m → Follows (where' test P Q) r m
  follows_else r m t f = record { same = f.same; written = f.written; way = choose_else (test r.script r.past) (P r.script r.past m.past) (Q r.script r.past m.past) t f.way }

  pub on_if : (r m : WalkState) → test r.script r.past ≡ true → IsOnWay P r m → IsOnWay (where' test P Q) r m
  on_if r m t w = record { same = w.same; written = w.written; end = w.end; way = choose (test r.script r.past) (P r.script r.past w.end) (Q r.script r.past w.end) t w.way; newer = w.newer; beginning = w.beginning }

  pub on_else : (r m : WalkState) → test r.script r.past ≡ false → IsOnWay Q r m → IsOnWay (where' test P Q) r m
  on_else r m t w = record { same = w.same; written = w.written; end = w.end; way = choose_else (test r.script r.past) (P r.script r.past w.end) (Q r.script r.past w.end) t w.way; newer = w.newer; beginning = w.beginning }

-- ---- loops

abbrev pub looped : (ScriptModel → List Entry → Bool) → Way → Way
looped test P s = While (test s) (P s)

pub unrolled : (test : List Entry → Bool) (P : Step) (h g : List Entry) → test h ≡ true → While test P h g → (m : List Entry) × P h m × While test P m g
unrolled test P h g t (zero, (f, e)) = absurd cc
unrolled test P h g t (suc n, (u, m, p, w)) = (m, p, (n, w))

-- turns, and then something else
module _ (test : List Entry → Bool) (P Q : Step) where
  pub turn_first : (h g : List Entry) → test h ≡ true → Then (While test P) Q h g → (m : List Entry) × P h m × Then (While test P) Q m g
  turn_first h g t (d, w, q) = let (m, p, v) = unrolled test P h d t w in (m, p, (d, v, q))

  pub turn_before : (h m g : List Entry) → test h ≡ true → P h m → Then (While test P) Q m g → Then (While test P) Q h g
  turn_before h m g t p (d, w, q) = (d, (suc w.0, (t, m, p, w.1)), q)

  pub none_first : (h g : List Entry) → test h ≡ false → Then (While test P) Q h g → Q h g
  none_first h g f (d, (zero, (e, same)), q) = subst (λ (z : List Entry). Q z g) same q
  none_first h g f (d, (suc n, (t, m, p, w)), q) = absurd cc

  pub none_before : (h g : List Entry) → test h ≡ false → Q h g → Then (While test P) Q h g
  none_before h g f q = (h, (zero, (f, refl)), q)

module _ (test : ScriptModel → List Entry → Bool) (P : Way) (first now : WalkState) where
  -- a loop that goes on has a turn
  pub has_turn : test now.script now.past ≡ true → Turns (looped test P) first now → CanFollow P now
  has_turn t x =
      let u : test first.script now.past ≡ true = ap (λ (s : ScriptModel). test s now.past) (sym x.same) ∙ t in
      let (m, p, w) = unrolled (test first.script) (P first.script) now.past x.end u x.way in
      record { end = m; way = subst (λ (s : ScriptModel). P s now.past m) (sym x.same) p }

  -- the loop goes on after a turn
  pub turned : (next : WalkState) → ((s : ScriptModel) → Good s (P s)) → test now.script now.past ≡ true → Turns (looped test P) first now → Follows P now next → Turns (looped test P) first next
  turned next good t x f =
      let u : test first.script now.past ≡ true = ap (λ (s : ScriptModel). test s now.past) (sym x.same) ∙ t in
      let (m, p, w) = unrolled (test first.script) (P first.script) now.past x.end u x.way in
      let q : P first.script now.past next.past = subst (λ (s : ScriptModel). P s now.past next.past) x.same f.way in
      let one : m ≡ next.past = (good first.script).one now.past m next.past p q in
      record {
        same = f.same ∙ x.same;
        written = f.written ∙ x.written;
        end = x.end;
        way = subst (λ (z : List Entry). While (test first.script) (P first.script) z x.end) one w;
        leads = λ g v. x.leads g (suc v.0, (u, next.past, q, v.1));
      }

  -- it is over where the test fails
  pub over : test now.script now.past ≡ false → Turns (looped test P) first now → Follows (looped test P) first now
  over f x = record { same = x.same; written = x.written; way = x.leads now.past (zero, (ap (λ (s : ScriptModel). test s now.past) (sym x.same) ∙ f, refl)) }

  -- it is left in a turn
  pub left_in_turn : (mid : WalkState) → ((s : ScriptModel) → Good s (P s)) → ((s : ScriptModel) → Grows (looped test P s)) → test now.script now.past ≡ true
      → Turns (looped test P) first now → IsOnWay P now mid → IsOnWay (looped test P) first mid
  left_in_turn mid good grows t x o =
      let u : test first.script now.past ≡ true = ap (λ (s : ScriptModel). test s now.past) (sym x.same) ∙ t in
      let (m, p, w) = unrolled (test first.script) (P first.script) now.past x.end u x.way in
      let q : P first.script now.past o.end = subst (λ (s : ScriptModel). P s now.past o.end) x.same o.way in
      let one : m ≡ o.end = (good first.script).one now.past m o.end p q in
      let more = grows first.script m x.end w in
      record {
        same = o.same ∙ x.same;
        written = o.written ∙ x.written;
        end = x.end;
        way = x.leads x.end x.way;
        newer = more.0 ++ o.newer;
        beginning = more.1 ∙ ap (λ (z : List Entry). more.0 ++ z) (one ∙ o.beginning) ∙ sym (append_assoc more.0 o.newer mid.past);
      }

-- ---- loops with at most the given number of turns

abbrev pub limited : (ScriptModel → List Entry → Bool) → Way → ℕ → Way
limited test P n s = AtMost n (test s) (P s)

module _ (test : ScriptModel → List Entry → Bool) (P : Way) (first now : WalkState) (most n : ℕ) where
  abbrev Goes : ℕ → Type 0
  Goes k = TurnsOf (limited test P most) (limited test P k) first now

  -- where turns are left and the test holds there is a turn
  has_next : test now.script now.past ≡ true → Goes (suc n) → CanFollow P now
  has_next t x =
      let u : test first.script now.past ≡ true = ap (λ (s : ScriptModel). test s now.past) (sym x.same) ∙ t in
      let (m, p, w) = chosen (test first.script now.past) (Then (P first.script) (AtMost n (test first.script) (P first.script)) now.past x.end) (Stays now.past x.end) u x.way in
      record { end = m; way = subst (λ (s : ScriptModel). P s now.past m) (sym x.same) p }

  next_turned : (next : WalkState) → ((s : ScriptModel) → Good s (P s)) → test now.script now.past ≡ true → Goes (suc n) → Follows P now next → TurnsOf (limited test P most) (limited test P n) first next
  next_turned next good t x f =
      let u : test first.script now.past ≡ true = ap (λ (s : ScriptModel). test s now.past) (sym x.same) ∙ t in
      let (m, p, w) = chosen (test first.script now.past) (Then (P first.script) (AtMost n (test first.script) (P first.script)) now.past x.end) (Stays now.past x.end) u x.way in
      let q : P first.script now.past next.past = subst (λ (s : ScriptModel). P s now.past next.past) x.same f.way in
      let one : m ≡ next.past = (good first.script).one now.past m next.past p q in
      record {
        same = f.same ∙ x.same;
        written = f.written ∙ x.written;
        end = x.end;
        way = subst (λ (z : List Entry). AtMost n (test first.script) (P first.script) z x.end) one w;
        leads = λ g v. x.leads g (choose (test first.script now.past) (Then (P first.script) (AtMost n (test first.script) (P first.script)) now.past g) (Stays now.past g) u (next.past, q, v));
      }

  next_left : (mid : WalkState) → ((s : ScriptModel) → Good s (P s)) → ((s : ScriptModel) → Grows (limited test P n s)) → test now.script now.past ≡ true
      → Goes (suc n) → IsOnWay P now mid → IsOnWay (limited test P most) first mid
  next_left mid good grows t x o =
      let u : test first.script now.past ≡ true = ap (λ (s : ScriptModel). test s now.past) (sym x.same) ∙ t in
      let (m, p, w) = chosen (test first.script now.past) (Then (P first.script) (AtMost n (test first.script) (P first.script)) now.past x.end) (Stays now.past x.end) u x.way in
      let q : P first.script now.past o.end = subst (λ (s : ScriptModel). P s now.past o.end) x.same o.way in
      let one : m ≡ o.end = (good first.script).one now.past m o.end p q in
      let more = grows first.script m x.end w in
      record {
        same = o.same ∙ x.same;
        written = o.written ∙ x.written;
        end = x.end;
        way = x.leads x.end x.way;
        newer = more.0 ++ o.newer;
        beginning = more.1 ∙ ap (λ (z : List Entry). more.0 ++ z) (one ∙ o.beginning) ∙ sym (append_assoc more.0 o.newer mid.past);
      }

  -- no turn comes where the test fails
  next_over : test now.script now.past ≡ false → Goes (suc n) → Follows (limited test P most) first now
  next_over f x =
      let u : test first.script now.past ≡ false = ap (λ (s : ScriptModel). test s now.past) (sym x.same) ∙ f in
      record { same = x.same; written = x.written; way = x.leads now.past (choose_else (test first.script now.past) (Then (P first.script) (AtMost n (test first.script) (P first.script)) now.past now.past) (Stays now.past now.past) u refl) }

module _ (test : ScriptModel → List Entry → Bool) (P : Way) (first now : WalkState) (most left : ℕ) where
  some_left : 0 < left → left ≡ suc (left - 1)
  some_left l = omega (arith, l)

  pub has_turn_left : 0 < left → test now.script now.past ≡ true → TurnsOf (limited test P most) (limited test P left) first now → CanFollow P now
  has_turn_left l t x = has_next test P first now most (left - 1) t (subst (λ (k : ℕ). TurnsOf (limited test P most) (limited test P k) first now) (some_left l) x)

  pub one_turned : (next : WalkState) → ((s : ScriptModel) → Good s (P s)) → 0 < left → test now.script now.past ≡ true → TurnsOf (limited test P most) (limited test P left) first now → Follows P now next
      → TurnsOf (limited test P most) (limited test P (left - 1)) first next
  one_turned next good l t x f = next_turned test P first now most (left - 1) next good t (subst (λ (k : ℕ). TurnsOf (limited test P most) (limited test P k) first now) (some_left l) x) f

  pub left_in_one : (mid : WalkState) → ((s : ScriptModel) → Good s (P s)) → ((k : ℕ) (s : ScriptModel) → Grows (limited test P k s)) → 0 < left → test now.script now.past ≡ true
      → TurnsOf (limited test P most) (limited test P left) first now → IsOnWay P now mid → IsOnWay (limited test P most) first mid
  left_in_one mid good grows l t x o = next_left test P first now most (left - 1) mid good (grows (left - 1)) t (subst (λ (k : ℕ). TurnsOf (limited test P most) (limited test P k) first now) (some_left l) x) o

  pub none_over : 0 < left → test now.script now.past ≡ false → TurnsOf (limited test P most) (limited test P left) first now → Follows (limited test P most) first now
  none_over l f x = next_over test P first now most (left - 1) f (subst (λ (k : ℕ). TurnsOf (limited test P most) (limited test P k) first now) (some_left l) x)

-- ---- a way of which the rest is one part and then another

module _ (W P Q : Way) (first now : WalkState) where
  pub part_there : TurnsOf W (then' P Q) first now → CanFollow P now
  part_there x = let (m, p, q) = x.way in record { end = m; way = subst (λ (s : ScriptModel). P s now.past m) (sym x.same) p }

  pub part_turned : (next : WalkState) → ((s : ScriptModel) → Good s (P s)) → TurnsOf W (then' P Q) first now → Follows P now next → TurnsOf W Q first next
  part_turned next good x f =
      let (m, p, q) = x.way in
      let v : P first.script now.past next.past = subst (λ (s : ScriptModel). P s now.past next.past) x.same f.way in
      let one : m ≡ next.past = (good first.script).one now.past m next.past p v in
      record { same = f.same ∙ x.same; written = f.written ∙ x.written; end = x.end; way = subst (λ (z : List Entry). Q first.script z x.end) one q; leads = λ g u. x.leads g (next.past, v, u) }

  pub part_left : (mid : WalkState) → ((s : ScriptModel) → Good s (P s)) → ((s : ScriptModel) → Grows (Q s)) → TurnsOf W (then' P Q) first now → IsOnWay P now mid → IsOnWay W first mid
  part_left mid good grows x o =
      let (m, p, q) = x.way in
      let v : P first.script now.past o.end = subst (λ (s : ScriptModel). P s now.past o.end) x.same o.way in
      let one : m ≡ o.end = (good first.script).one now.past m o.end p v in
      let more = grows first.script m x.end q in
      record {
        same = o.same ∙ x.same;
        written = o.written ∙ x.written;
        end = x.end;
        way = x.leads x.end x.way;
        newer = more.0 ++ o.newer;
        beginning = more.1 ∙ ap (λ (z : List Entry). more.0 ++ z) (one ∙ o.beginning) ∙ sym (append_assoc more.0 o.newer mid.past);
      }

-- ---- answers

pub then_on_error : {A E : Type 0} (r : Result A E) (P Q : Type 0) → OnErr r P → (P → Q) → OnErr r Q
then_on_error (Ok x) P Q h f = tt
then_on_error (Err e) P Q h f = f h

pub then_on_ok : {A E : Type 0} (r : Result A E) (P Q : Type 0) → OnOk r P → (P → Q) → OnOk r Q
then_on_ok (Ok x) P Q h f = f h
then_on_ok (Err e) P Q h f = tt

-- nothing was played where the first event was refused
pub refused : (P : Way) (r m : WalkState) → ((s : ScriptModel) → Grows (P s)) → CanFollow P r → m ≡ r → IsOnWay P r m
refused P r m grows c e = on_same P r r m e (begun P r grows c)

-- it is left between two turns
pub left_between : (W R : Way) (first now mid : WalkState) → ((s : ScriptModel) → Grows (R s)) → TurnsOf W R first now → mid ≡ now → IsOnWay W first mid
left_between W R first now mid grows x e =
    let more = grows first.script now.past x.end x.way in
    on_same W first now mid e (record { same = x.same; written = x.written; end = x.end; way = x.leads x.end x.way; newer = more.0; beginning = more.1 })

-- the last event was refused
pub last_refused : (P : Way) (k : Kind) (a : ℕ) (r m n : WalkState) → ((s : ScriptModel) → Good s (P s)) → CanFollow (then' P (entering k a)) r → Follows P r m → n ≡ m → IsOnWay (then' P (entering k a)) r n
last_refused P k a r m n good c f e = left_in_rest P (entering k a) r m n f (refused (entering k a) m n (λ s. enters s k a) (rest P (entering k a) r m good c f) e)

-- whatever the answer is
pub on_either : {A E : Type 0} (r : Result A E) (P Q R : Type 0) → OnOk r P → OnErr r Q → (P → R) → (Q → R) → R
on_either (Ok x) P Q R h k f g = f h
on_either (Err e) P Q R h k f g = g k
