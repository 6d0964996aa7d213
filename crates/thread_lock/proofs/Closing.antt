-- A pass takes in another, and the pass that took in all others closes the lock.
use Rattle.std.proofs.Common.{◌≡◌, ◌≢◌, ℕ, ◌+◌, ◌<◌, ◌≤◌, ◌==◌, true, false, List, [], ◌∷◌, ◌++◌, map, length, set, sym, refl, ap, ◌∙◌, subst, arith, Option, Some, option_to_list, length-append}
use Rattle.std.proofs.lemmas.Int.{clamps}
use mathlib.Core.Logic.{dite}
use mathlib.Core.Option.{some, some-injective}
use mathlib.Core.List.{IsPrefix}
use native.Mathlib.Decide.{ℕ_discrete, dec_le}
use lib.ListN.{get_elem?}
use Rattle.std.specs.List.{AllByRecursion, All}
use Rattle.std.specs.Option.{IsSome}
use Rattle.std.proofs.lemmas.List.{append-nil}
use Rattle.std.proofs.lemmas.List.Elements.{All-push, All-from_recursion}
use Rattle.atomic_table.specs.Table.{State, Me, Joins, Final, Seen}
use Rattle.atomic_table.specs.Seated.{TableId}
use Rattle.atomic_table.proofs.Lists.{set_else}
use Rattle.thread_lock.specs.declared.board.PassView.{PassView}
use Rattle.thread_lock.specs.declared.board.Old.{Old}
use Rattle.thread_lock.specs.Lists.{entries_by, times, one_if}
use Rattle.thread_lock.specs.Turns.{OldOk, Knows, Kept, numbers_of}
use Rattle.thread_lock.specs.PassModels.{PassModel, pass_of, old_of, Rests, IsToldBy, HasAllActors}
use Rattle.thread_lock.specs.inner.Steps.{old_at, absorbed, spent_view}
use Rattle.thread_lock.proofs.Seats.{put, put_here, put_else, put_keeps, seats, someone_stays, some_of}
use Rattle.thread_lock.proofs.Counts.{one_at_most, one_else, times_between, times_none, all_there, contains_times}
use Rattle.thread_lock.proofs.Keeps.{moved_olds, owned_numbers}

module _ {M E : Type 0} where
  -- the passes that are left, with the one that was taken in after them, are the passes that were
  pub one_more : (left : List (PassModel M E)) (p : PassModel M E) (olds : List (Old M E)) → map old_of left ++ (old_of p ∷ olds) ≡ map old_of (left ++ p ∷ []) ++ olds
  one_more [] p olds = refl
  one_more (q ∷ qs) p olds = ap (λ (os : List (Old M E)). old_of q ∷ os) (one_more qs p olds)

  -- a pass with what another knows of numbers and has taken in
  abbrev with : PassView M E → PassView M E → PassView M E
  with a b = record a { known = b.known; olds = b.olds }

  -- taking in a pass changes nothing else
  pub same_pass : (first v w next : PassView M E) → v ≡ record first { known = v.known; olds = v.olds } → next ≡ absorbed v w → next ≡ record first { known = next.known; olds = next.olds }
  same_pass first v w next was took = (took ∙ sym (ap (with v) took)) ∙ ap (λ (z : PassView M E). with z next) was

module _ {M E T : Type 0} (stem_of : T → M) (history_of : T → List (ℕ × E)) where
  abbrev V : Type 0
  V = PassView M E

  abbrev St : Type 0
  St = State (Option T) V

  abbrev Rule : St → Type 0
  Rule = Kept stem_of history_of

  owners : (owner : ℕ → ℕ) (id made : ℕ) (ns : List ℕ) → AllByRecursion (λ (n : ℕ). (owner n ≡ id) × (n < made)) ns → AllByRecursion (λ (n : ℕ). owner n ≡ id) ns
  owners owner id made [] all = tt
  owners owner id made (n ∷ ns) all = (all.0.0, owners owner id made ns all.1)

  givens : (owner : ℕ → ℕ) (id made : ℕ) (ns : List ℕ) → AllByRecursion (λ (n : ℕ). (owner n ≡ id) × (n < made)) ns → AllByRecursion (λ (n : ℕ). n < made) ns
  givens owner id made [] all = tt
  givens owner id made (n ∷ ns) all = (all.0.1, givens owner id made ns all.1)

  pub joins : (id : ℕ) (v : V) (other : ℕ) (w : V) (m : M) (n : ℕ) → w.stem ≡ Some m → w.number ≡ Some n → w.holds ≡ false → w.olds ≡ [] → Joins Rule id v other w (absorbed v w) spent_view
  joins id v other w m n live number waits fresh s r at apart there =
      let k = r.each id v at in
      let ku : Knows r.stem r.most r.log r.turn r.made r.holder r.owner other w = at_other in
      let l = ku.live m live in
      let mine = ku.numbered n number in
      let next = put r.owner n id in
      let stays : (seat : ℕ) → seat ≢ other → (a : ℕ) → r.owner a ≡ seat → a < r.made → next a ≡ seat = λ seat apart_too a own_it low. put_else r.owner n id a (λ e. apart_too (sym own_it ∙ (ap r.owner e ∙ mine.1))) ∙ own_it in
      let keeps_own : (a : ℕ) → r.owner a ≡ id → a < r.made → next a ≡ id = λ a own_it low. put_keeps r.owner n id a own_it in
      let o : Old M E = record { stem = w.stem; number = n; seen = w.seen; mine = w.mine } in
      let took : old_at w.number w ++ v.olds ≡ o ∷ v.olds = ap (λ (z : Option ℕ). old_at z w ++ v.olds) number in
      let both : V = absorbed v w in
      let ns : List ℕ = numbers_of v in
      let numbers_are : (a : ℕ) → times a (numbers_of both) ≡ one_if (n == a) + times a ns = λ a.
      ap (λ (os : List (Old M E)). times a (option_to_list v.number ++ map (λ (z : Old M E). z.number) os)) took
      ∙ times_between a n (option_to_list v.number) (map (λ (z : Old M E). z.number) v.olds) in
      let known_w = l.2 in
      let Known : ℕ → V → Type 0 = Knows r.stem r.most r.log r.turn r.made r.holder next in
      record {
        log = r.log;
        stem = r.stem;
        most = r.most;
        turn = r.turn;
        made = r.made;
        holder = r.holder;
        owner = next;
        words = r.words;
        sides = r.sides;
        fits = r.fits;
        unused = r.unused;
        free = r.free;
        out = λ t. let u = r.out t in (u.0, someone_stays (set s.views id both) r.holder other w spent_view there (λ q. absurd (cc (q, waits))) (someone_stays s.views r.holder id v both at (λ q. q) u.1));
        each = seats Known (set s.views id both) other spent_view
            record {
              live = λ a q. absurd (cc (q));
              numbered = λ a q. absurd (cc (q));
              bare = λ _. refl;
              holding = λ q. absurd (cc (q));
              kept = tt;
              once = λ a. omega arith;
            }
            (λ j u not_other q. seats (λ (i : ℕ) (z : V). i ≢ other → Known i z) s.views id both
            (λ _. record {
              live = λ a e. let t = k.live a e in let known = t.2 in (t.0, t.1, omega (arith, clamps), t.3);
              numbered = λ a e. let t = k.numbered a e in (t.0, keeps_own a t.1 t.0, t.2);
              bare = k.bare;
              holding = k.holding;
              kept = subst (AllByRecursion (OldOk r.stem r.log r.made next id)) (sym took) (
                record {
                  begun = live ∙ ap (λ (z : M). Some z) l.0;
                  given = mine.0;
                  owned = put_here r.owner n id;
                  behind = l.3;
                  whole = mine.2;
                },
                moved_olds stem_of history_of r.stem r.log r.made r.made r.owner next id v.olds (omega arith) keeps_own k.kept,
              );
              once = λ a. let is = numbers_are a in dite (ℕ_discrete n a)
                  (λ (e : n ≡ a). let one = one_at_most (n == a) in
                  let none_yet = times_none r.owner id a ns (owners r.owner id r.made ns (owned_numbers stem_of history_of r.stem r.most r.log r.turn r.made r.holder r.owner id v k))
                  (λ z. apart (sym mine.1 ∙ (ap r.owner e ∙ z))) in
                  omega (arith, is, one, none_yet))
                  (λ (e : n ≢ a). let zero_it = one_else n a e in let before = k.once a in omega (arith, is, zero_it, before));
            })
            (λ i z not_id e not_other_too. let kz = r.each i z e in record {
              live = kz.live;
              numbered = λ a c. let t = kz.numbered a c in (t.0, stays i not_other_too a t.1 t.0, t.2);
              bare = kz.bare;
              holding = kz.holding;
              kept = moved_olds stem_of history_of r.stem r.log r.made r.made r.owner next i z.olds (omega arith) (stays i not_other_too) kz.kept;
              once = kz.once;
            })
            j u q not_other);
      }
    where
      at_other : Knows r.stem r.most r.log r.turn r.made r.holder r.owner other w
      at_other = r.each other w (sym (set_else s.views id other (absorbed v w) apart) ∙ there)

  -- what is known of a pass that was taken in, once the value is back
  record Told (x : T) (o : Old M E) : Type 0 where
    pub stem : o.stem ≡ Some (stem_of x)
    pub seen : IsPrefix o.seen (history_of x)
    pub mine : o.mine ≡ entries_by o.number (history_of x)

  -- what the last state tells the pass that took in all others
  record Ended (v : V) (x : T) : Type 0 where
    pub stem : v.stem ≡ Some (stem_of x)
    pub seen : IsPrefix v.seen (history_of x)
    pub mine : (n : ℕ) → v.number ≡ Some n → v.mine ≡ entries_by n (history_of x)
    pub olds : AllByRecursion (Told x) v.olds
    pub all : (k : ℕ) → entries_by k (history_of x) ≢ [] → 0 < times k (numbers_of v)

  told_olds : (stem : M) (log : List (ℕ × E)) (made : ℕ) (owner : ℕ → ℕ) (seat : ℕ) (x : T) → stem_of x ≡ stem → history_of x ≡ log → (olds : List (Old M E)) → AllByRecursion (OldOk stem log made owner seat) olds → AllByRecursion (Told x) olds
  told_olds stem log made owner seat x same whole [] all = tt
  told_olds stem log made owner seat x same whole (o ∷ os) all = let t = all.0 in (
    record {
      stem = t.begun ∙ ap (λ (z : M). Some z) (sym same);
      seen = subst (IsPrefix o.seen) (sym whole) t.behind;
      mine = t.whole ∙ ap (entries_by o.number) (sym whole);
    },
    told_olds stem log made owner seat x same whole os all.1,
  )

  -- a pass that has as many numbers as there can be finds the turn free, and the value at home
  closes : (s : St) (r : Rule s) (id : ℕ) (v : V) (m : M) → get_elem? s.views id ≡ some v → v.stem ≡ Some m → v.holds ≡ false → v.most ≤ length (numbers_of v)
      → (x : T) × (s.homes ≡ some (Some x) ∷ []) × Ended v x
  closes s r id v m at live waits enough = (
    x,
    found.1,
    record {
      stem = live ∙ ap (λ (z : M). Some z) (l.0 ∙ sym found.3);
      seen = subst (IsPrefix v.seen) (sym found.2) l.3;
      mine = λ n e. (k.numbered n e).2 ∙ ap (entries_by n) (sym found.2);
      olds = told_olds r.stem r.log r.made r.owner id x found.3 found.2 v.olds k.kept;
      all = λ a some_entry. dite (dec_le r.made a) (λ high. absurd (some_entry (ap (entries_by a) found.2 ∙ r.unused a high))) (λ low. there a (omega arith));
    },
  )
    where
      k : Knows r.stem r.most r.log r.turn r.made r.holder r.owner id v
      k = r.each id v at

      l : (m ≡ r.stem) × (v.most ≡ r.most) × (v.known ≤ r.made) × IsPrefix v.seen r.log
      l = k.live m live

      ns : List ℕ
      ns = numbers_of v

      numbers : AllByRecursion (λ (n : ℕ). (r.owner n ≡ id) × (n < r.made)) (numbers_of v)
      numbers = owned_numbers stem_of history_of r.stem r.most r.log r.turn r.made r.holder r.owner id v k

      there : (a : ℕ) → a < r.made → 0 < times a (numbers_of v)
      there = let most : v.most ≡ r.most = (k.live m live).1 in let fits = r.fits in all_there r.made (numbers_of v) (givens r.owner id r.made (numbers_of v) numbers) k.once (omega (arith, enough, most))

      covered : (a : ℕ) → a < r.made → r.owner a ≡ id
      covered a low = dite (ℕ_discrete (r.owner a) id) (λ e. e)
          (λ e. let some_there = there a low in let none_there = times_none r.owner id a (numbers_of v) (owners r.owner id r.made (numbers_of v) numbers) e in absurd (omega (arith, some_there, none_there)))

      taken_not : r.turn ≡ 1 → ⊥
      taken_not one = let o = (r.out one).1 in let ku = r.each r.holder o.0 o.1 in let h = (ku.holding o.2).3 in let t = ku.numbered h.0 h.1 in
          let me : r.holder ≡ id = sym t.1 ∙ covered h.0 t.0 in
          let same : o.0 ≡ v = some-injective o.0 v (sym o.1 ∙ (ap (λ (j : ℕ). get_elem? s.views j) me ∙ at)) in
          let held : v.holds ≡ true = subst (λ (z : V). z.holds ≡ true) same o.2 in
          absurd (cc (held, waits))

      is_free : r.turn ≡ 0
      is_free = let sides = r.sides in dite (ℕ_discrete r.turn 0) (λ e. e) (λ e. absurd (taken_not (omega arith)))

      found : (x : T) × (s.homes ≡ some (Some x) ∷ []) × (history_of x ≡ r.log) × (stem_of x ≡ r.stem)
      found = r.free is_free

      x : T
      x = found.0

  -- v is what the pass p knows once it has taken in the others
  pub record Took (v : V) (others : List (PassModel M E)) (p : PassModel M E) : Type 0 where
    pub number : v.number ≡ Some p.actor
    pub stem : v.stem ≡ p.stem
    pub most : v.most ≡ p.most
    pub seen : v.seen ≡ p.seen
    pub mine : v.mine ≡ p.mine
    pub waits : v.holds ≡ false
    pub olds : v.olds ≡ map old_of others

  pub took_in : (lock : TableId) (actor most : ℕ) (me : Me (Option T) V) (v : V) (others : List (PassModel M E)) (p : PassModel M E) → Rests actor most me → pass_of lock actor me.0 ≡ p
      → v ≡ record me.0 { known = v.known; olds = map old_of others ++ me.0.olds } → Took v others p
  took_in lock actor most me v others p rests is took = record {
    number = ap (λ (z : V). z.number) took ∙ (rests.number ∙ ap (λ (q : PassModel M E). Some q.actor) is);
    stem = ap (λ (z : V). z.stem) took ∙ ap (λ (q : PassModel M E). q.stem) is;
    most = ap (λ (z : V). z.most) took ∙ ap (λ (q : PassModel M E). q.most) is;
    seen = ap (λ (z : V). z.seen) took ∙ ap (λ (q : PassModel M E). q.seen) is;
    mine = ap (λ (z : V). z.mine) took ∙ ap (λ (q : PassModel M E). q.mine) is;
    waits = ap (λ (z : V). z.holds) took ∙ rests.waits;
    olds = ap (λ (z : V). z.olds) took ∙ (ap (λ (os : List (Old M E)). map old_of others ++ os) rests.fresh ∙ append-nil (map old_of others));
  }

  abbrev IsTold : T → PassModel M E → Type 0
  IsTold = IsToldBy stem_of history_of

  told_others : (x : T) (others : List (PassModel M E)) → AllByRecursion (Told x) (map old_of others) → AllByRecursion (IsTold x) others
  told_others x [] all = tt
  told_others x (p ∷ ps) all = ((all.0.stem, all.0.seen, all.0.mine), told_others x ps all.1)

  -- the numbers of the pass that took in the others are those of all passes
  all_numbers : (k : ℕ) (others : List (PassModel M E)) (p : PassModel M E) → times k (map (λ (q : PassModel M E). q.actor) (others ++ p ∷ [])) ≡ times k (p.actor ∷ map (λ (o : Old M E). o.number) (map old_of others))
  all_numbers k [] p = refl
  all_numbers k (q ∷ qs) p = let h = all_numbers k qs p in omega (arith, h)

  many_numbers : (others : List (PassModel M E)) (p : PassModel M E) → length (others ++ p ∷ []) ≡ length (p.actor ∷ map (λ (o : Old M E). o.number) (map old_of others))
  many_numbers [] p = refl
  many_numbers (q ∷ qs) p = let h = many_numbers qs p in omega (arith, h)

  lasts : (words : List ℕ) (slots : List (Option T)) (id : ℕ) (v : V) (others : List (PassModel M E)) (p : PassModel M E) → Final (Seen Rule id v) words slots → Took v others p → IsSome p.stem
      → p.most ≤ length (others ++ p ∷ []) → (x : T) × (get_elem? slots 0 ≡ some (Some x)) × All (IsTold x) (others ++ p ∷ []) × HasAllActors (history_of x) (others ++ p ∷ [])
  lasts words slots id v others p final took live enough = (
    x,
    final.4 0 (Some x) (ap (λ hs. get_elem? hs 0) ended.1),
    All-push (IsTold x) others p (All-from_recursion (IsTold x) others (told_others x others (subst (AllByRecursion (Told x)) took.olds ended.2.olds)))
        (sym took.stem ∙ ended.2.stem, subst (λ h. IsPrefix h (history_of x)) took.seen ended.2.seen, sym took.mine ∙ ended.2.mine p.actor took.number),
    λ k some_entry. contains_times k (map (λ (q : PassModel M E). q.actor) (others ++ p ∷ []))
        (let there = ended.2.all k some_entry in let same = all_numbers k others p in let is = ap (times k) numbers in omega (arith, there, same, is)),
  )
    where
      stem : (m : M) × (p.stem ≡ Some m)
      stem = some_of p.stem live

      numbers : numbers_of v ≡ p.actor ∷ map (λ (o : Old M E). o.number) (map old_of others)
      numbers = λ i. option_to_list (took.number i) ++ map (λ (o : Old M E). o.number) (took.olds i)

      ended : (x : T) × (final.0.homes ≡ some (Some x) ∷ []) × Ended v x
      ended = closes final.0 final.1.0 id v stem.0 final.1.1 (took.stem ∙ stem.1) took.waits
          (let most = took.most in let same = many_numbers others p in let is = ap length numbers in omega (arith, most, same, is, enough))

      x : T
      x = ended.0

  -- What the last state gives, where there are as many passes as the lock was made for
  pub record Last (home : Option T) (passes : List (PassModel M E)) : Type 0 where
    pub value : T
    pub found : home ≡ Some value
    pub told : All (IsTold value) passes
    pub named : HasAllActors (history_of value) passes

  pub ends : (words : List ℕ) (slots : List (Option T)) (id : ℕ) (v : V) (others : List (PassModel M E)) (p : PassModel M E) (lock : TableId) (actor most : ℕ) (me : Me (Option T) V) (home : Option T)
      → Final (Seen Rule id v) words slots → Rests actor most me → pass_of lock actor me.0 ≡ p → v ≡ record me.0 { known = v.known; olds = map old_of others ++ me.0.olds }
      → p.most ≤ length others + 1 → get_elem? slots 0 ≡ some home → Last home (others ++ p ∷ [])
  ends words slots id v others p lock actor most me home final rests is took enough at = record {
    value = last.0;
    found = some-injective home (Some last.0) (sym at ∙ last.1);
    told = last.2;
    named = last.3;
  }
    where
      last : (x : T) × (get_elem? slots 0 ≡ some (Some x)) × All (IsTold x) (others ++ p ∷ []) × HasAllActors (history_of x) (others ++ p ∷ [])
      last = lasts words slots id v others p final (took_in lock actor most me v others p rests is took) (subst (λ (q : PassModel M E). IsSome q.stem) is rests.live)
          (omega (arith, enough, length-append others (p ∷ [])))
