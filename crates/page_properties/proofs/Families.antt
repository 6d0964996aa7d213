-- What a change leaves of a family.
use Rattle.std.proofs.Common.{◌≡◌, ℕ, ◌≤◌, ◌==◌, Bool, true, false, cond, ◌&&◌, ◌||◌, List, [], ◌∷◌, length, Option, Some, None, is_some, IsTrue, arith, refl, sym, ◌∙◌, ap}
use Rattle.std.specs.Option.{option_map, unwrap_or}
use Rattle.std.proofs.lemmas.Bool.Decides.{nat_tests}
use Rattle.geom.specs.declared.rect.Point.{Point}
use Rattle.page_properties.specs.Entries.{find, knows, with_node_changed}
use Rattle.page_properties.specs.Families.{MayJoin, IsFamily}
use Rattle.page_properties.specs.OffsetMap.{offset_at, origin}
use Rattle.page_properties.proofs.Indexes.{knows_changed}

none_either : {N : Type 0} (f : N → N) (t : Bool) → None ≡ cond {A = Option N} t (option_map f None) None
none_either f true = refl
none_either f false = refl

found_by : {N : Type 0} (id k : ℕ) (f : N → N) (e : ℕ × N) (older : List (ℕ × N)) (t u : Bool) → e.0 == id ≡ t → e.0 == k ≡ u
    → find k (with_node_changed id f older) ≡ cond (k == id) (option_map f (find k older)) (find k older)
    → find k (cond t ((e.0, f e.1) ∷ older) (e ∷ with_node_changed id f older)) ≡ cond (k == id) (option_map f (cond u (Some e.1) (find k older))) (cond u (Some e.1) (find k older))
found_by id k f e older true true h i g = let t : k == id ≡ true = grind (arith, nat_tests) in rw (i, t) refl
found_by id k f e older true false h i g = let t : k == id ≡ false = grind (arith, nat_tests) in rw (i, t) refl
found_by id k f e older false true h i g = let t : k == id ≡ false = grind (arith, nat_tests) in rw (i, t) refl
found_by id k f e older false false h i g = rw i g

-- the changed node is found under its id, all others as before
pub find_changed : {N : Type 0} (id k : ℕ) (f : N → N) (nodes : List (ℕ × N))
    → find k (with_node_changed id f nodes) ≡ cond (k == id) (option_map f (find k nodes)) (find k nodes)
find_changed id k f [] = none_either f (k == id)
find_changed id k f (e ∷ older) = found_by id k f e older (e.0 == id) (e.0 == k) refl refl (find_changed id k f older)

-- to change a node by a rule is to put the rule's result
by_rule : {N : Type 0} (id : ℕ) (f : N → N) (n : N) (e : ℕ × N) (older : List (ℕ × N)) (t : Bool) → cond t (Some e.1) (find id older) ≡ Some n
    → (find id older ≡ Some n → with_node_changed id (λ _. f n) older ≡ with_node_changed id f older)
    → cond t ((e.0, f n) ∷ older) (e ∷ with_node_changed id (λ _. f n) older) ≡ cond t ((e.0, f e.1) ∷ older) (e ∷ with_node_changed id f older)
by_rule id f n e older true h g = let same : e.1 ≡ n = cc in ap (λ m. (e.0, f m) ∷ older) (sym same)
by_rule id f n e older false h g = ap (λ l. e ∷ l) (g h)

pub changed_rule : {N : Type 0} (id : ℕ) (f : N → N) (n : N) (nodes : List (ℕ × N)) → find id nodes ≡ Some n → with_node_changed id (λ _. f n) nodes ≡ with_node_changed id f nodes
changed_rule id f n [] h = refl
changed_rule id f n (e ∷ older) h = by_rule id f n e older (e.0 == id) h (λ k. changed_rule id f n older k)

length_by : {N : Type 0} (id : ℕ) (f : N → N) (e : ℕ × N) (older : List (ℕ × N)) (t : Bool) → length (with_node_changed id f older) ≡ length older
    → length (cond t ((e.0, f e.1) ∷ older) (e ∷ with_node_changed id f older)) ≡ length (e ∷ older)
length_by id f e older true h = refl
length_by id f e older false h = omega arith

length_changed : {N : Type 0} (id : ℕ) (f : N → N) (nodes : List (ℕ × N)) → length (with_node_changed id f nodes) ≡ length nodes
length_changed id f [] = refl
length_changed id f (e ∷ older) = length_by id f e older (e.0 == id) (length_changed id f older)

-- a change that keeps parents and ranges keeps the family
module _ {N : Type 0} (parent : N → ℕ) (fits : N → Type 0) where
  joins_by : (id : ℕ) (f : N → N) (e : ℕ × N) (older : List (ℕ × N)) (t : Bool) → ((n : N) → parent (f n) ≡ parent n) → ((n : N) → fits (f n))
      → MayJoin parent fits e.0 e.1 older × IsFamily parent fits older → IsFamily parent fits (with_node_changed id f older)
      → IsFamily parent fits (cond t ((e.0, f e.1) ∷ older) (e ∷ with_node_changed id f older))
  joins_by id f e older true p r j h =
      let i = j.0 in (
        record {
          fresh = i.fresh;
          id_low = i.id_low;
          id_high = i.id_high;
          few = i.few;
          parent_known = rw (p e.1) i.parent_known;
          in_range = r e.1;
        },
        j.1,
      )
  joins_by id f e older false p r j h =
      let i = j.0 in (
        record {
          fresh = knows_changed id f older e.0 ∙ i.fresh;
          id_low = i.id_low;
          id_high = i.id_high;
          few = omega (arith, i.few, length_changed id f older);
          parent_known = ap (λ b. (parent e.1 == 0) || b) (knows_changed id f older (parent e.1)) ∙ i.parent_known;
          in_range = i.in_range;
        },
        h,
      )

  pub family_changed : (id : ℕ) (f : N → N) (nodes : List (ℕ × N)) → ((n : N) → parent (f n) ≡ parent n) → ((n : N) → fits (f n))
      → IsFamily parent fits nodes → IsFamily parent fits (with_node_changed id f nodes)
  family_changed id f [] p r j = tt
  family_changed id f (e ∷ older) p r j = joins_by id f e older (e.0 == id) p r j (family_changed id f older p r j.1)

  -- a family has at most 256 nodes
  pub family_few : (nodes : List (ℕ × N)) → IsFamily parent fits nodes → length nodes ≤ 256
  family_few [] j = omega arith
  family_few (e ∷ older) j = omega (arith, j.0.few)

-- an offset that is set is found, all others as before
eq_swap : (a b : ℕ) → a == b ≡ b == a
eq_swap a b = grind (arith, nat_tests)

some_set : (p : Point) (o : Option Point) → is_some o ≡ true → unwrap_or (option_map (λ _. p) o) origin ≡ p
some_set p (Some q) h = refl
some_set p None h = cc

set_by : (id k : ℕ) (p : Point) (offsets : List (ℕ × Point)) (t : Bool) → k == id ≡ t → IsTrue (knows id offsets)
    → unwrap_or (cond t (option_map (λ _. p) (find k offsets)) (find k offsets)) origin ≡ cond t p (unwrap_or (find k offsets) origin)
set_by id k p offsets true e h = let same : k ≡ id = grind (arith, nat_tests) in rw same (some_set p (find id offsets) h)
set_by id k p offsets false e h = refl

unwrap_either : (t : Bool) (p : Point) (o : Option Point) → unwrap_or (cond t (Some p) o) origin ≡ cond t p (unwrap_or o origin)
unwrap_either true p o = refl
unwrap_either false p o = refl

pub offset_changed : (id k : ℕ) (p : Point) (offsets : List (ℕ × Point)) → IsTrue (knows id offsets)
    → offset_at (with_node_changed id (λ _. p) offsets) k ≡ cond (k == id) p (offset_at offsets k)
unfolding offset_at
offset_changed id k p offsets h = rw (find_changed id k (λ _. p) offsets) (set_by id k p offsets (k == id) refl h)

pub offset_added : (id k : ℕ) (p : Point) (offsets : List (ℕ × Point)) → offset_at ((id, p) ∷ offsets) k ≡ cond (k == id) p (offset_at offsets k)
unfolding offset_at
offset_added id k p offsets = rw (eq_swap id k) (unwrap_either (k == id) p (find k offsets))

-- the same by whether the entry could be added
pub offset_if : (id k : ℕ) (p : Point) (offsets after : List (ℕ × Point)) (t : Bool) → after ≡ cond t ((id, p) ∷ offsets) offsets
    → offset_at after k ≡ cond (t && (k == id)) p (offset_at offsets k)
offset_if id k p offsets after true e = ap (λ o. offset_at o k) e ∙ offset_added id k p offsets
offset_if id k p offsets after false e = ap (λ o. offset_at o k) e
