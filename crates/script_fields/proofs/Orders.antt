-- Canonical values: what is found in one is canonical, and an object is known by its names and what is found under each.
use Rattle.std.proofs.Common.{◌≡◌, ℕ, suc, ◌≤◌, Bool, true, ◌&&◌, List, Option, Some, None, IfSome, Ordering, Less, Equal, Greater, nat_cmp, is_eq, is_lt, refl, sym, ap, ap₂, ◌∙◌, subst, arith}
use Rattle.std.specs.Prelude.{⊤}
use Rattle.std.proofs.lemmas.Bool.{and_parts}
use Rattle.std.proofs.lemmas.Cmp.{nat_list_cmp_total}
use Rattle.std.proofs.lemmas.Map.Text.{is_eq-slice_cmp}
use Rattle.std.proofs.lemmas.Slice.Eq.{bytes_eq-Decides}
use Rattle.std.specs.Cmp.Lexicographic.{slice_cmp}
use Rattle.std.specs.Ordering.{match_ordering, ordering_reverse}
use Rattle.serde_json.specs.Data.{Data, null, boolean, number, string, array, object, Members, no_members, member}
use Rattle.serde_json.specs.Events.{members_len}
use Rattle.serde_json.specs.Find.{get, get_member, as_object}
use Rattle.script_fields.specs.Canonical.{IsBefore, IsCanonical, AreInOrder}
use Rattle.script_fields.specs.Fields.{member_count}

-- the names rise
abbrev Rises : Members → Type 0
Rises no_members = ⊤
Rises (member k d ms) = IsBefore k ms × Rises ms

rises : (ms : Members) → AreInOrder ms → Rises ms
rises no_members h = tt
rises (member k d ms) h = (h.0, rises ms h.2)

-- ---- the same as tests, for names that are known

abbrev pub is_before : List ℕ → Members → Bool
is_before k no_members = true
is_before k (member l d ms) = is_lt (slice_cmp nat_cmp k l) && is_before k ms

abbrev pub is_rising : Members → Bool
is_rising no_members = true
is_rising (member k d ms) = is_before k ms && is_rising ms

less_is : (o : Ordering) → is_lt o ≡ true → o ≡ Less
less_is Less e = refl
less_is Equal e = absurd (cc)
less_is Greater e = absurd (cc)

pub before_is : (k : List ℕ) (ms : Members) → is_before k ms ≡ true → IsBefore k ms
before_is k no_members e = tt
before_is k (member l d ms) e =
    let p = and_parts (is_lt (slice_cmp nat_cmp k l)) (is_before k ms) e in
    (less_is (slice_cmp nat_cmp k l) p.0, before_is k ms p.1)

rising_is : (ms : Members) → is_rising ms ≡ true → Rises ms
rising_is no_members e = tt
rising_is (member k d ms) e =
    let p = and_parts (is_before k ms) (is_rising ms) e in
    (before_is k ms p.0, rising_is ms p.1)

-- ---- the order of names

same_name : (k l : List ℕ) → slice_cmp nat_cmp k l ≡ Equal → k ≡ l
same_name k l e = (bytes_eq-Decides k l).0 (sym (is_eq-slice_cmp k l) ∙ ap is_eq e)

pub later_name : (k l : List ℕ) → slice_cmp nat_cmp k l ≡ Less → slice_cmp nat_cmp l k ≡ Greater
later_name k l e = nat_list_cmp_total.antisymm l k ∙ ap ordering_reverse e

pub earlier_name : (k l : List ℕ) → slice_cmp nat_cmp k l ≡ Greater → slice_cmp nat_cmp l k ≡ Less
earlier_name k l e = nat_list_cmp_total.antisymm l k ∙ ap ordering_reverse e

pub before_more : (k l : List ℕ) (ms : Members) → slice_cmp nat_cmp k l ≡ Less → IsBefore l ms → IsBefore k ms
before_more k l no_members e h = tt
before_more k l (member m d ms) e h = (nat_list_cmp_total.trans k l m e h.0, before_more k l ms e h.1)

none_before : (k : List ℕ) (ms : Members) → IsBefore k ms → get_member k ms ≡ None
none_before k no_members h = refl
none_before k (member l d ms) h = rw h.0 (none_before k ms h.1)

-- ---- what is found under a name

either_way : (o : Ordering) (a b : Option Data) (P : Data → Type 0) → IfSome a P → IfSome b P → IfSome (match_ordering o a b a) P
either_way Less a b P h k = h
either_way Equal a b P h k = k
either_way Greater a b P h k = h

member_canonical : (k : List ℕ) (ms : Members) → AreInOrder ms → IfSome (get_member k ms) IsCanonical
member_canonical k no_members h = tt
member_canonical k (member l d ms) h = either_way (slice_cmp nat_cmp k l) (get_member k ms) (Some d) IsCanonical (member_canonical k ms h.2) h.1

pub get_canonical : (k : List ℕ) (d : Data) → IsCanonical d → IfSome (get k d) IsCanonical
get_canonical k null h = tt
get_canonical k (boolean b) h = tt
get_canonical k (number n) h = tt
get_canonical k (string s) h = tt
get_canonical k (array ds) h = tt
get_canonical k (object ms) h = member_canonical k ms h

pub canonical_found : (key : List ℕ) (d e : Data) → IsCanonical d → get key d ≡ Some e → IsCanonical e
canonical_found key d e n h = subst (λ (o : Option Data). IfSome o IsCanonical) h (get_canonical key d n)

-- ---- an object is known by its names and what is found under each

-- each of these members is found
abbrev Found : Members → Members → Type 0
Found no_members ms = ⊤
Found (member k v kvs) ms = (get_member k ms ≡ Some v) × Found kvs ms

-- past a name before all of them
found_later : (kvs : Members) (l : List ℕ) (e : Data) (ms : Members) → IsBefore l kvs → Found kvs (member l e ms) → Found kvs ms
found_later no_members l e ms before h = tt
found_later (member k v kvs) l e ms before h =
    let past : get_member k (member l e ms) ≡ get_member k ms = rw (later_name l k before.0) refl in
    (sym past ∙ h.0, found_later kvs l e ms before.1 h.1)

-- what is found does not stand before all names
not_before : (k l : List ℕ) (v e : Data) (ms : Members) → slice_cmp nat_cmp k l ≡ Less → IsBefore l ms → get_member k (member l e ms) ≡ Some v → ⊥
not_before k l v e ms first before h =
    let none : get_member k (member l e ms) ≡ None = rw first (none_before k ms (before_more k l ms first before)) in
    let no : None ≡ Some v = sym none ∙ h in
    absurd (cc)

as_many_at : (o : Ordering) (k l : List ℕ) (v e : Data) (kvs ms : Members) → slice_cmp nat_cmp k l ≡ o → Rises (member k v kvs) → Rises (member l e ms)
    → Found (member k v kvs) (member l e ms)
    → (Found kvs ms → members_len kvs ≤ members_len ms) → (Found (member k v kvs) ms → suc (members_len kvs) ≤ members_len ms)
    → suc (members_len kvs) ≤ suc (members_len ms)
as_many_at Less k l v e kvs ms is p q h rest all = absurd (not_before k l v e ms is q.0 h.0)
as_many_at Equal k l v e kvs ms is p q h rest all =
    let before : IsBefore l kvs = subst (λ (n : List ℕ). IsBefore n kvs) (same_name k l is) p.0 in
    let fewer = rest (found_later kvs l e ms before h.1) in
    omega (arith, fewer)
as_many_at Greater k l v e kvs ms is p q h rest all =
    let first = earlier_name k l is in
    let fewer = all (found_later (member k v kvs) l e ms (first, before_more l k kvs first p.0) h) in
    omega (arith, fewer)

as_many : (kvs ms : Members) → Rises kvs → Rises ms → Found kvs ms → members_len kvs ≤ members_len ms
as_many no_members ms p q h = omega arith
as_many (member k v kvs) no_members p q h = let no : None ≡ Some v = h.0 in absurd (cc)
as_many (member k v kvs) (member l e ms) p q h =
    as_many_at (slice_cmp nat_cmp k l) k l v e kvs ms refl p q h (λ f. as_many kvs ms p.1 q.1 f) (λ f. as_many (member k v kvs) ms p q.1 f)

members_are_at : (o : Ordering) (k l : List ℕ) (v e : Data) (kvs ms : Members) → slice_cmp nat_cmp k l ≡ o → Rises (member k v kvs) → Rises (member l e ms)
    → Found (member k v kvs) (member l e ms) → suc (members_len ms) ≤ suc (members_len kvs)
    → (Found kvs ms → members_len ms ≤ members_len kvs → ms ≡ kvs) → member l e ms ≡ member k v kvs
members_are_at Less k l v e kvs ms is p q h few rest = absurd (not_before k l v e ms is q.0 h.0)
members_are_at Equal k l v e kvs ms is p q h few rest =
    let same = same_name k l is in
    let before : IsBefore l kvs = subst (λ (n : List ℕ). IsBefore n kvs) same p.0 in
    let others : ms ≡ kvs = rest (found_later kvs l e ms before h.1) (omega (arith, few)) in
    let here : get_member k (member l e ms) ≡ Some e = rw is refl in
    let found : Some e ≡ Some v = sym here ∙ h.0 in
    let value : e ≡ v = cc in
    ap (λ (n : List ℕ). member n e ms) (sym same) ∙ ap₂ (member k) value others
members_are_at Greater k l v e kvs ms is p q h few rest =
    let first = earlier_name k l is in
    let more = as_many (member k v kvs) ms p q.1 (found_later (member k v kvs) l e ms (first, before_more l k kvs first p.0) h) in
    absurd (omega (arith, more, few))

members_are : (kvs ms : Members) → Rises kvs → Rises ms → Found kvs ms → members_len ms ≤ members_len kvs → ms ≡ kvs
members_are no_members no_members p q h few = refl
members_are no_members (member l e ms) p q h few = absurd (omega (arith, few))
members_are (member k v kvs) no_members p q h few = let no : None ≡ Some v = h.0 in absurd (cc)
members_are (member k v kvs) (member l e ms) p q h few =
    members_are_at (slice_cmp nat_cmp k l) k l v e kvs ms refl p q h few (λ f fewer. members_are kvs ms p.1 q.1 f fewer)

-- each of these members is found in the object
abbrev pub Has : Members → Data → Type 0
Has no_members d = ⊤
Has (member k v kvs) d = (get k d ≡ Some v) × Has kvs d

found_in : (kvs ms : Members) → Has kvs (object ms) → Found kvs ms
found_in no_members ms h = tt
found_in (member k v kvs) ms h = (h.0, found_in kvs ms h.1)

no_member : (k : List ℕ) (v : Data) (d : Data) (A : Type 0) → get k d ≡ None → get k d ≡ Some v → A
no_member k v d A none h = let no : None ≡ Some v = sym none ∙ h in absurd (cc)

-- an object that has these members and no more is this one
pub object_is : (k : List ℕ) (v : Data) (kvs : Members) (d : Data) → IsCanonical d → is_rising (member k v kvs) ≡ true → member_count (as_object d) ≤ suc (members_len kvs)
    → Has (member k v kvs) d → d ≡ object (member k v kvs)
object_is k v kvs (object ms) n p few h =
    ap object (members_are (member k v kvs) ms (rising_is (member k v kvs) p) (rises ms n) (found_in (member k v kvs) ms h) few)
object_is k v kvs null n p few h = no_member k v null _ refl h.0
object_is k v kvs (boolean b) n p few h = no_member k v (boolean b) _ refl h.0
object_is k v kvs (number x) n p few h = no_member k v (number x) _ refl h.0
object_is k v kvs (string s) n p few h = no_member k v (string s) _ refl h.0
object_is k v kvs (array ds) n p few h = no_member k v (array ds) _ refl h.0
