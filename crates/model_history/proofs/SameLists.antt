-- Lists of changes that say the same still do with the changes of one command more.
use Rattle.std.proofs.Common.{ℕ, ℤ, ◌≡◌, ◌==◌, nat_lt, nat_eq, Bool, true, false, cond, not, ◌&&◌, ◌||◌, Option, Some, None, Result, Ok, Err, OnOk, List, [], ◌∷◌, refl, ap, sym, ◌∙◌, eqb-true, arith}
use Rattle.std.specs.declared.alloc.AllocError.{AllocError}
use Rattle.std.specs.List.{list_any}
use Rattle.std.proofs.lemmas.Bool.Decides.{nat_tests}
use Rattle.std.proofs.lemmas.List.Folds.{list_any-append}
use Rattle.geom.specs.Covers.{covers}
use Rattle.region.specs.declared.change.LayerChange.{LayerChange}
use Rattle.region.specs.Lists.{Changed, is_listed, is_listed_whole, has_changed, without_layer, AreJoined}
use Rattle.region.specs.Points.{covered}
use Rattle.page_layers.specs.declared.command.Command.{Command}
use Rattle.page_layers.specs.declared.command.Command.TheVariants as command
use Rattle.page_layers.specs.Pages.{Page}
use Rattle.page_layers.specs.Effects.{Change, layer_change_of}
use Rattle.page_layers.specs.Outcomes.{HoldsOnly}
use Rattle.model_history.specs.Stamps.{with_later, alone, with_change, with_some, with_command}
use Rattle.model_history.specs.SameChanges.{SameChanges}
use Rattle.model_history.specs.inner.Ending.{Noted}

-- the three questions as tests of one element

abbrev names_layer : ℕ → LayerChange → Bool
names_layer n d = nat_eq d.layer n

abbrev names_whole : ℕ → LayerChange → Bool
names_whole n d = nat_eq d.layer n && d.whole

abbrev names_point : ℕ → ℤ → ℤ → LayerChange → Bool
names_point n x y d = nat_eq d.layer n && covered d.region x y

listed_any : (n : ℕ) (ds : List LayerChange) → is_listed ds n ≡ list_any (names_layer n) ds
listed_any n [] = refl
listed_any n (d ∷ ds) = ap (λ b. nat_eq d.layer n || b) (listed_any n ds)

whole_any : (n : ℕ) (ds : List LayerChange) → is_listed_whole ds n ≡ list_any (names_whole n) ds
whole_any n [] = refl
whole_any n (d ∷ ds) = ap (λ b. (nat_eq d.layer n && d.whole) || b) (whole_any n ds)

changed_any : (n : ℕ) (x y : ℤ) (ds : List LayerChange) → has_changed ds n x y ≡ list_any (names_point n x y) ds
changed_any n x y [] = refl
changed_any n x y (d ∷ ds) = ap (λ b. (nat_eq d.layer n && covered d.region x y) || b) (changed_any n x y ds)

-- a change more

or_shift : (a b c : Bool) → a || (b || c) ≡ (a || b) || c
or_shift true b c = refl
or_shift false b c = refl

or_turn : (a b : Bool) → a || b ≡ b || a
or_turn true true = refl
or_turn true false = refl
or_turn false true = refl
or_turn false false = refl

or_middle : (a b c : Bool) → (a || b) || c ≡ (a || c) || b
or_middle true b c = refl
or_middle false b c = or_turn b c

-- a test that sees in a later change of the layer what it sees in the two
abbrev SeesBoth : (LayerChange → Bool) → Change → Type 0
SeesBoth f c = (d : LayerChange) → (d.layer == c.layer) ≡ true → f (with_later d c) ≡ (f d || f (alone c))

any_change : (f : LayerChange → Bool) (c : Change) → SeesBoth f c → (ds : List LayerChange) → list_any f (with_change c ds) ≡ (list_any f ds || f (alone c))
any_change f c sees [] = or_turn (f (alone c)) false
any_change f c sees (d ∷ ds) = go (d.layer == c.layer) refl (nat_lt d.layer c.layer) (any_change f c sees ds)
  where
    go : (a : Bool) → (d.layer == c.layer) ≡ a → (b : Bool) → list_any f (with_change c ds) ≡ (list_any f ds || f (alone c))
        → list_any f (cond a (with_later d c ∷ ds) (cond b (d ∷ with_change c ds) (alone c ∷ d ∷ ds))) ≡ ((f d || list_any f ds) || f (alone c))
    go true e b rest = ap (λ x. x || list_any f ds) (sees d e) ∙ or_middle (f d) (f (alone c)) (list_any f ds)
    go false e true rest = ap (λ x. f d || x) rest ∙ or_shift (f d) (list_any f ds) (f (alone c))
    go false e false rest = or_turn (f (alone c)) (f d || list_any f ds)

or_again : (a : Bool) → a ≡ (a || a)
or_again true = refl
or_again false = refl

or_inside : (a b c : Bool) → a && (b || c) ≡ (a && b) || (a && c)
or_inside true b c = refl
or_inside false b c = refl

-- both are of one layer
one_layer : (n : ℕ) (d : LayerChange) (c : Change) → (d.layer == c.layer) ≡ true → nat_eq d.layer n ≡ nat_eq c.layer n
one_layer n d c e = ap (λ k. nat_eq k n) (eqb-true d.layer c.layer e)

sees_layer : (n : ℕ) (c : Change) → SeesBoth (names_layer n) c
sees_layer n c d e = or_again (nat_eq d.layer n) ∙ ap (λ b. nat_eq d.layer n || b) (one_layer n d c e)

sees_whole : (n : ℕ) (c : Change) → SeesBoth (names_whole n) c
sees_whole n c d e = or_inside (nat_eq d.layer n) d.whole c.whole ∙ ap (λ b. (nat_eq d.layer n && d.whole) || (b && c.whole)) (one_layer n d c e)

sees_point : (n : ℕ) (x y : ℤ) (c : Change) → SeesBoth (names_point n x y) c
sees_point n x y c d e =
    ap (λ b. nat_eq d.layer n && b) (list_any-append (λ r. covers r x y) d.region c.rects)
    ∙ (or_inside (nat_eq d.layer n) (covered d.region x y) (covered c.rects x y)
    ∙ ap (λ b. (nat_eq d.layer n && covered d.region x y) || (b && covered c.rects x y)) (one_layer n d c e))

-- a layer less

any_without : (f : LayerChange → Bool) (n id : ℕ) → ((d : LayerChange) → f d ≡ true → d.layer ≡ n) → (ds : List LayerChange)
    → list_any f (without_layer id ds) ≡ (not (nat_eq n id) && list_any f ds)
any_without f n id own [] = nothing (not (nat_eq n id))
  where
    nothing : (b : Bool) → false ≡ b && false
    nothing true = refl
    nothing false = refl
any_without f n id own (d ∷ ds) = go (f d) refl (not (nat_eq d.layer id)) refl (any_without f n id own ds)
  where
    kept : (a k l : Bool) → a ≡ k → (w : Bool) → w ≡ k && l → cond a true w ≡ k
    kept true k l e w r = e
    kept false true l e w r = absurd (cc)
    kept false false l e w r = r

    full : (k : Bool) → k ≡ k && true
    full true = refl
    full false = refl

    any_cond : (a : Bool) → list_any f (cond a (d ∷ without_layer id ds) (without_layer id ds)) ≡ cond a (f d || list_any f (without_layer id ds)) (list_any f (without_layer id ds))
    any_cond true = refl
    any_cond false = refl

    same_cond : (a w : Bool) → cond a w w ≡ w
    same_cond true w = refl
    same_cond false w = refl

    go : (x : Bool) → f d ≡ x → (a : Bool) → not (nat_eq d.layer id) ≡ a → list_any f (without_layer id ds) ≡ (not (nat_eq n id) && list_any f ds)
        → list_any f (cond a (d ∷ without_layer id ds) (without_layer id ds)) ≡ (not (nat_eq n id) && (f d || list_any f ds))
    go true e a h rest =
        let k : a ≡ not (nat_eq n id) = sym h ∙ ap (λ m. not (nat_eq m id)) (own d e) in
        any_cond a ∙ (ap (λ b. cond a (b || list_any f (without_layer id ds)) (list_any f (without_layer id ds))) e
        ∙ (kept a (not (nat_eq n id)) (list_any f ds) k (list_any f (without_layer id ds)) rest
        ∙ (full (not (nat_eq n id)) ∙ ap (λ b. not (nat_eq n id) && (b || list_any f ds)) (sym e))))
    go false e a h rest =
        any_cond a ∙ (ap (λ b. cond a (b || list_any f (without_layer id ds)) (list_any f (without_layer id ds))) e
        ∙ (same_cond a (list_any f (without_layer id ds)) ∙ (rest ∙ ap (λ b. not (nat_eq n id) && (b || list_any f ds)) (sym e))))

left_of : (a b : Bool) → a && b ≡ true → a ≡ true
left_of true b h = refl
left_of false b h = h

own_layer : (n : ℕ) (d : LayerChange) → nat_eq d.layer n ≡ true → d.layer ≡ n
own_layer n d e = grind (arith, nat_tests, e)

-- lists that say the same

abbrev pub SameList : List LayerChange → List LayerChange → Type 0
SameList cs ds = ((n : ℕ) → is_listed cs n ≡ is_listed ds n) × ((n : ℕ) → is_listed_whole cs n ≡ is_listed_whole ds n) × ((n : ℕ) (x y : ℤ) → has_changed cs n x y ≡ has_changed ds n x y)

same_without : (id : ℕ) (cs ds : List LayerChange) → SameList cs ds → SameList (without_layer id cs) (without_layer id ds)
same_without id cs ds s = (
  λ n. less (names_layer n) n (λ d e. own_layer n d e) (λ fs. listed_any n fs) (s.0 n),
  λ n. less (names_whole n) n (λ d e. own_layer n d (left_of (nat_eq d.layer n) d.whole e)) (λ fs. whole_any n fs) (s.1 n),
  λ n x y. less (names_point n x y) n (λ d e. own_layer n d (left_of (nat_eq d.layer n) (covered d.region x y) e)) (λ fs. changed_any n x y fs) (s.2 n x y),
)
  where
    less : {g : List LayerChange → Bool} (f : LayerChange → Bool) (n : ℕ) → ((d : LayerChange) → f d ≡ true → d.layer ≡ n) → ((fs : List LayerChange) → g fs ≡ list_any f fs) → g cs ≡ g ds
        → g (without_layer id cs) ≡ g (without_layer id ds)
    less f n own is e =
        is (without_layer id cs) ∙ (any_without f n id own cs ∙ (ap (λ b. not (nat_eq n id) && b) (sym (is cs) ∙ (e ∙ is ds)) ∙ (sym (any_without f n id own ds) ∙ sym (is (without_layer id ds)))))

-- with nothing more
or_nothing : (a b : Bool) → a ≡ b || false → a ≡ b
or_nothing a true e = e
or_nothing a false e = e

same_some : (o : Option Change) (listed old new ds : List LayerChange) → HoldsOnly o listed → AreJoined old listed new → SameList old ds → SameList new (with_some o ds)
same_some None [] old new ds h j s = (
  λ n. or_nothing (is_listed new n) (is_listed old n) (j.listed n) ∙ s.0 n,
  λ n. or_nothing (is_listed_whole new n) (is_listed_whole old n) (j.whole n) ∙ s.1 n,
  λ n x y. or_nothing (has_changed new n x y) (has_changed old n x y) (j.points n x y) ∙ s.2 n x y,
)
same_some None (l ∷ ls) old new ds h j s = absurd h
same_some (Some c) [] old new ds h j s = absurd h
same_some (Some c) (l ∷ []) old new ds h j s = (
  λ n. more (names_layer n) (λ fs. listed_any n fs) (sees_layer n c) (j.listed n) (s.0 n) (layer n),
  λ n. more (names_whole n) (λ fs. whole_any n fs) (sees_whole n c) (j.whole n) (s.1 n) (whole n),
  λ n x y. more (names_point n x y) (λ fs. changed_any n x y fs) (sees_point n x y c) (j.points n x y) (s.2 n x y) (point n x y),
)
  where
    more : {g : List LayerChange → Bool} (f : LayerChange → Bool) → ((fs : List LayerChange) → g fs ≡ list_any f fs) → SeesBoth f c → g new ≡ (g old || g (l ∷ [])) → g old ≡ g ds → g (l ∷ []) ≡ f (alone c)
        → g new ≡ g (with_change c ds)
    more {g = g} f is sees joined same one =
        joined ∙ (ap (λ b. b || g (l ∷ [])) (same ∙ is ds) ∙ (ap (λ b. list_any f ds || b) one ∙ (sym (any_change f c sees ds) ∙ sym (is (with_change c ds)))))

    alone_or : (b : Bool) → b || false ≡ b
    alone_or true = refl
    alone_or false = refl

    layer : (n : ℕ) → is_listed (l ∷ []) n ≡ names_layer n (alone c)
    layer n = alone_or (nat_eq l.layer n) ∙ ap (λ k. nat_eq k n) h.layer

    whole : (n : ℕ) → is_listed_whole (l ∷ []) n ≡ names_whole n (alone c)
    whole n = alone_or (nat_eq l.layer n && l.whole) ∙ (ap (λ k. nat_eq k n && l.whole) h.layer ∙ ap (λ b. nat_eq c.layer n && b) h.whole)

    point : (n : ℕ) (x y : ℤ) → has_changed (l ∷ []) n x y ≡ names_point n x y (alone c)
    point n x y = alone_or (nat_eq l.layer n && covered l.region x y) ∙ (ap (λ k. nat_eq k n && covered l.region x y) h.layer ∙ ap (λ b. nat_eq c.layer n && b) (h.points x y))
same_some (Some c) (l ∷ m ∷ ls) old new ds h j s = absurd h

same_list : (c d : Changed) → SameChanges c d → SameList c.list d.list
same_list c d s = (s.listed, s.whole, s.points)

-- a command that removes no layer
listed_with : (p : Page) (c : Command) (ds : List LayerChange) → ((id : ℕ) → c ≡ command.RemoveLayer (record { id = id }) → ⊥) → with_command p c ds ≡ with_some (layer_change_of p c) ds
listed_with p (command.RemoveLayer c) ds out = absurd (out c.id refl)
listed_with p (command.AddTransform c) ds out = refl
listed_with p _ ds out = refl

or_false : (b : Bool) → b ≡ b || false
or_false true = refl
or_false false = refl

-- what a command lists is noted
pub noted_removal : (id : ℕ) (listed old new : Changed) → new ≡ record old { list = without_layer id old.list } → Noted (command.RemoveLayer (record { id = id })) listed old new
noted_removal id listed old new is p done lists same =
    let list : new.list ≡ without_layer id old.list = ap (λ (c : Changed). c.list) is in
    let kept : SameList (without_layer id old.list) (without_layer id done.list) = same_without id old.list done.list (same_list old done same) in
    record {
      listed = λ n. ap (λ (ds : List LayerChange). is_listed ds n) list ∙ kept.0 n;
      whole = λ n. ap (λ (ds : List LayerChange). is_listed_whole ds n) list ∙ kept.1 n;
      points = λ n x y. ap (λ (ds : List LayerChange). has_changed ds n x y) list ∙ kept.2 n x y;
      retiled = ap (λ (c : Changed). c.retiled) is ∙ (same.retiled ∙ or_false done.retiled);
    }

noted_joined : (c : Command) (listed old new : Changed) → ((id : ℕ) → c ≡ command.RemoveLayer (record { id = id }) → ⊥) → AreJoined old.list listed.list new.list → new.retiled ≡ (old.retiled || listed.retiled) → Noted c listed old new
noted_joined c listed old new out joined tiles p done lists same =
    let list : with_command p c done.list ≡ with_some (layer_change_of p c) done.list = listed_with p c done.list out in
    let all : SameList new.list (with_some (layer_change_of p c) done.list) = same_some (layer_change_of p c) listed.list old.list new.list done.list lists.holds joined (same_list old done same) in
    record {
      listed = λ n. all.0 n ∙ ap (λ (ds : List LayerChange). is_listed ds n) (sym list);
      whole = λ n. all.1 n ∙ ap (λ (ds : List LayerChange). is_listed_whole ds n) (sym list);
      points = λ n x y. all.2 n x y ∙ ap (λ (ds : List LayerChange). has_changed ds n x y) (sym list);
      retiled = tiles ∙ (ap (λ b. b || listed.retiled) same.retiled ∙ ap (λ b. done.retiled || b) lists.retiled);
    }

pub noted_join : (r : Result (Unit {0}) AllocError) (c : Command) (listed old new : Changed) → ((id : ℕ) → c ≡ command.RemoveLayer (record { id = id }) → ⊥)
    → OnOk r (AreJoined old.list listed.list new.list) → OnOk r (new.retiled ≡ (old.retiled || listed.retiled)) → OnOk r (Noted c listed old new)
noted_join (Ok u) c listed old new out joined tiles = noted_joined c listed old new out joined tiles
noted_join (Err e) c listed old new out joined tiles = tt
