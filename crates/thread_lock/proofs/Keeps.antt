-- Each step keeps the rule of the lock.
use Rattle.std.proofs.Common.{◌≡◌, ◌≢◌, ℕ, zero, suc, ◌+◌, ◌<◌, ◌≤◌, ◌==◌, eqb, true, false, List, [], ◌∷◌, ◌++◌, map, length, get_or, set, sym, refl, ap, ◌∙◌, subst, ⊎_elim, arith, Option, Some, None, option_to_list, unwrap_or, eq-eqb, ne_eqb}
use Rattle.std.proofs.Math.Seq.{drop-append_seam}
use mathlib.Core.Logic.{dite}
use mathlib.Core.Option.{some, none, some-ne-none, some-injective}
use mathlib.Core.List.{IsPrefix}
use native.Mathlib.Decide.{ℕ_discrete}
use lib.ListN.{get_elem?}
use lib.Seq.{set-get_or}
use prog.Atomic.{either}
use Rattle.std.specs.List.{AllByRecursion}
use Rattle.atomic_table.specs.Table.{State, step, keeps, takes, gives, stepped, Allows, Splits, opening}
use Rattle.atomic_table.proofs.Lists.{set_again, at_snoc, at_longer}
use Rattle.thread_lock.specs.declared.board.PassView.{PassView}
use Rattle.thread_lock.specs.declared.board.Old.{Old}
use Rattle.thread_lock.specs.Lists.{entries_by, gained, times}
use Rattle.thread_lock.specs.Turns.{OldOk, Knows, Kept, opening_view, numbers_of}
use Rattle.thread_lock.specs.inner.Steps.{Who, sees, gains, tried, stamped, released, drawn, learned, newcomer}
use Rattle.thread_lock.proofs.Histories.{own_here, own_else, prefix_more, prefix_same}
use Rattle.thread_lock.proofs.Seats.{put, put_here, put_else, set_there, seats, someone_stays}
use Rattle.thread_lock.proofs.Counts.{one_at_most}

module _ {M E T : Type 0} (stem_of : T → M) (history_of : T → List (ℕ × E)) where
  abbrev V : Type 0
  V = PassView M E

  abbrev St : Type 0
  St = State (Option T) V

  abbrev Rule : St → Type 0
  Rule = Kept stem_of history_of

  -- the value's two facts at the start are all that the first state asks
  pub opens : (x : T) (most : ℕ) (slots : List (Option T)) → slots ≡ Some x ∷ [] → history_of x ≡ [] → 0 < most → Rule (opening (0 ∷ 0 ∷ 1 ∷ []) slots (opening_view (stem_of x) most))
  opens x most slots here blank some_pass = subst (λ (xs : List (Option T)). Rule (opening (0 ∷ 0 ∷ 1 ∷ []) xs first)) (sym here) record {
    log = [];
    stem = stem_of x;
    most = most;
    turn = 0;
    made = 1;
    holder = 0;
    owner = λ _. 0;
    words = refl;
    sides = omega arith;
    fits = omega arith;
    unused = λ _ _. refl;
    free = λ _. (x, refl, blank, refl);
    out = λ t. absurd (omega arith);
    each = only;
  }
    where
      first : V
      first = opening_view (stem_of x) most

      only : (seat : ℕ) (v : V) → get_elem? (first ∷ []) seat ≡ some v → Knows (stem_of x) most [] 0 1 0 (λ _. 0) seat v
      only zero v e = subst (Knows (stem_of x) most [] 0 1 0 (λ _. 0) 0) (some-injective first v e) record {
        live = λ m e. (sym (cc (e)), refl, omega arith, ([], refl));
        numbered = λ n e. (let z : 0 ≡ n = cc (e) in omega arith, refl, refl);
        bare = λ _. refl;
        holding = λ h. absurd (cc (h));
        kept = tt;
        once = λ k. let o = one_at_most (0 == k) in omega (arith, o);
      }
      only (suc seat) v e = absurd (some-ne-none v (sym e))

  -- a step of one pass that changes no word and no slot
  reviews : (s : St) (r : Rule s) (id : ℕ) (v w : V) → get_elem? s.views id ≡ some v → (v.holds ≡ true → w.holds ≡ true)
      → Knows r.stem r.most r.log r.turn r.made r.holder r.owner id w → Rule record { words = s.words; homes = s.homes; views = set s.views id w }
  reviews s r id v w at same known = record {
    log = r.log;
    stem = r.stem;
    most = r.most;
    turn = r.turn;
    made = r.made;
    holder = r.holder;
    owner = r.owner;
    words = r.words;
    sides = r.sides;
    fits = r.fits;
    unused = r.unused;
    free = r.free;
    out = λ t. let o = r.out t in (o.0, someone_stays s.views r.holder id v w at same o.1);
    each = seats (Knows r.stem r.most r.log r.turn r.made r.holder r.owner) s.views id w known (λ j u _ e. r.each j u e);
  }

  -- the same where the word i is read
  rereads : (s : St) (r : Rule s) (i id : ℕ) (v w : V) → get_elem? s.views id ≡ some v → (v.holds ≡ true → w.holds ≡ true)
      → Knows r.stem r.most r.log r.turn r.made r.holder r.owner id w → Rule record { words = set s.words i (get_or s.words i 0); homes = s.homes; views = set s.views id w }
  rereads s r i id v w at same known = subst (λ (ws : List ℕ). Rule record { words = ws; homes = s.homes; views = set s.views id w }) (sym (set-get_or s.words i 0)) (reviews s r id v w at same known)

  pub tries : (slots id : ℕ) (me : Who M E T) (m : M) (n : ℕ) → me.0.stem ≡ Some m → me.0.number ≡ Some n
      → Allows Rule slots id me 0 (λ x. either (eqb x 0) 1 x) (tried stem_of history_of (step slots 0 0 1 none) me)
  tries slots id me m n live number s r _ at _ =
      let x : ℕ = get_or s.words 0 0 in
      let turn_is : x ≡ r.turn = ap (λ (ws : List ℕ). get_or ws 0 0) r.words in
      let k = r.each id me.0 at in
      let l = k.live m live in
      dite (ℕ_discrete x 0)
      (λ (hit : x ≡ 0). let found = r.free (sym turn_is ∙ hit) in let y : T = found.0 in let w : V = sees (history_of y) me.0 in let whole : history_of y ≡ r.log = found.2 in (
        w,
        takes 0 (Some y),
        ap (λ hs. get_elem? hs 0) found.1,
        subst (λ b. Rule (stepped s 0 (either b 1 x) id me.1 w (takes 0 (Some y)))) (sym (eq-eqb x 0 hit)) record {
          log = r.log;
          stem = r.stem;
          most = r.most;
          turn = 1;
          made = r.made;
          holder = id;
          owner = r.owner;
          words = ap (λ (ws : List ℕ). set ws 0 1) r.words;
          sides = omega arith;
          fits = r.fits;
          unused = r.unused;
          free = λ t. absurd (omega arith);
          out = λ _. (ap (λ hs. set hs 0 none) found.1, (w, set_there s.views id me.0 w at, refl));
          each = seats (Knows r.stem r.most r.log 1 r.made id r.owner) s.views id w
              record {
                live = λ a e. let t = k.live a e in (t.0, t.1, t.2, prefix_same (history_of y) r.log whole);
                numbered = k.numbered;
                bare = k.bare;
                holding = λ _. (refl, refl, whole, (n, number));
                kept = k.kept;
                once = k.once;
              }
              (λ j u other e. let ku = r.each j u e in record {
                live = ku.live;
                numbered = ku.numbered;
                bare = ku.bare;
                holding = λ h. let t = (ku.holding h).0 in absurd (omega arith);
                kept = ku.kept;
                once = ku.once;
              });
        },
        (
          (λ _. (
            y,
            refl,
            subst (IsPrefix me.0.seen) (sym whole) l.3,
            live ∙ ap (λ (z : M). Some z) (l.0 ∙ sym found.3),
            λ a e. (k.numbered a e).2 ∙ ap (entries_by a) (sym whole),
          )),
          (λ not. absurd (not hit)),
        ),
      ))
      (λ (miss : x ≢ 0). (
        record me.0 { busy = me.0.busy + 1 },
        keeps,
        tt,
        subst (λ b. Rule (stepped s 0 (either b 1 x) id me.1 (record me.0 { busy = me.0.busy + 1 }) keeps)) (sym (ne_eqb x 0 miss))
            (rereads s r 0 id me.0 (record me.0 { busy = me.0.busy + 1 }) at (λ e. e) record { live = k.live; numbered = k.numbered; bare = k.bare; holding = k.holding; kept = k.kept; once = k.once }),
        ((λ hit. absurd (miss hit)), (λ _. refl)),
      ))

  -- the value in hand
  abbrev in_hand : T → List (ℕ × Option T) → T
  in_hand d [] = d
  in_hand d (c ∷ cs) = unwrap_or c.1 d

  pub stamps : (slots id : ℕ) (me : Who M E T) (n : ℕ) (x : T) (e : E) (count : ℕ) → me.0.number ≡ Some n → me.0.holds ≡ true → me.0.olds ≡ [] → me.1 ≡ (0, Some x) ∷ []
      → history_of x ≡ me.0.seen ++ (n, e) ∷ [] → count ≡ length (history_of x) → Allows Rule slots id me 1 (λ _. count) (λ _. stamped history_of (step slots 1 count 0 none) me count)
  stamps slots id me n x e count number holds fresh hand more counted s r _ at _ =
      let k = r.each id me.0 at in
      let h = k.holding holds in
      let mine = k.numbered n number in
      let log : List (ℕ × E) = r.log ++ (n, e) ∷ [] in
      let w : V = gains (history_of x) me.0 in
      let whole : history_of x ≡ log = more ∙ ap (λ (l : List (ℕ × E)). l ++ (n, e) ∷ []) h.2 in
      let made_it : w.mine ≡ entries_by n log =
      ap (λ (l : List (ℕ × E)). me.0.mine ++ gained me.0.seen l) more ∙ (ap (λ (l : List (ℕ × E)). me.0.mine ++ l) (drop-append_seam me.0.seen ((n, e) ∷ []))
      ∙ (ap (λ (l : List (ℕ × E)). l ++ (n, e) ∷ []) mine.2 ∙ sym (own_here n e r.log))) in
      let others : (a : ℕ) → a ≢ n → entries_by a r.log ≡ entries_by a log = λ a other. sym (own_else a n e r.log (λ q. other (sym q))) in (
        w,
        keeps,
        tt,
        record {
          log = log;
          stem = r.stem;
          most = r.most;
          turn = r.turn;
          made = r.made;
          holder = r.holder;
          owner = r.owner;
          words = ap (λ (ws : List ℕ). set ws 1 count) r.words ∙ ap (λ (c : ℕ). r.turn ∷ c ∷ r.made ∷ []) (counted ∙ ap length whole);
          sides = r.sides;
          fits = r.fits;
          unused = λ a high. let low = mine.0 in sym (others a (λ q. omega arith)) ∙ r.unused a high;
          free = λ t. let one = h.0 in absurd (omega arith);
          out = λ t. let o = r.out t in (o.0, someone_stays s.views r.holder id me.0 w at (λ q. q) o.1);
          each = seats (Knows r.stem r.most log r.turn r.made r.holder r.owner) s.views id w
              record {
                live = λ a q. let t = k.live a q in (t.0, t.1, t.2, prefix_same (history_of x) log whole);
                numbered = λ a q. let t = k.numbered a q in let same : a ≡ n = cc (q, number) in (t.0, t.1, made_it ∙ ap (λ (b : ℕ). entries_by b log) (sym same));
                bare = λ q. absurd (cc (q, number));
                holding = λ _. (h.0, h.1, whole, h.3);
                kept = subst (AllByRecursion (OldOk r.stem log r.made r.owner id)) (sym fresh) tt;
                once = k.once;
              }
              (λ j u other q. let ku = r.each j u q in let apart : (a : ℕ) → r.owner a ≡ j → a ≢ n = λ a own_it same. other (sym own_it ∙ (ap r.owner same ∙ mine.1)) in record {
                live = λ a z. let t = ku.live a z in (t.0, t.1, t.2, prefix_more u.seen r.log ((n, e) ∷ []) t.3);
                numbered = λ a z. let t = ku.numbered a z in (t.0, t.1, t.2 ∙ others a (apart a t.1));
                bare = ku.bare;
                holding = λ z. let t = ku.holding z in absurd (other (sym t.1 ∙ h.1));
                kept = longer_olds r.stem r.log n e r.made r.owner j u.olds apart ku.kept;
                once = ku.once;
              });
        },
        (λ x' hand'. let same : x ≡ x' = ap (in_hand x) (sym hand ∙ hand') in ap (λ (z : T). let m : Who M E T = (gains (history_of z) me.0, me.1) in m) same),
      )
    where
      longer_olds : (stem : M) (log : List (ℕ × E)) (n : ℕ) (e : E) (made : ℕ) (owner : ℕ → ℕ) (seat : ℕ) (olds : List (Old M E)) → ((a : ℕ) → owner a ≡ seat → a ≢ n)
          → AllByRecursion (OldOk stem log made owner seat) olds → AllByRecursion (OldOk stem (log ++ (n, e) ∷ []) made owner seat) olds
      longer_olds stem log n e made owner seat [] apart all = tt
      longer_olds stem log n e made owner seat (o ∷ os) apart all = let t = all.0 in (
        record {
          begun = t.begun;
          given = t.given;
          owned = t.owned;
          behind = prefix_more o.seen log ((n, e) ∷ []) t.behind;
          whole = t.whole ∙ sym (own_else o.number n e log (λ q. apart o.number t.owned (sym q)));
        },
        longer_olds stem log n e made owner seat os apart all.1,
      )

  pub releases : (slots id : ℕ) (me : Who M E T) (x : T) → me.0.holds ≡ true → me.1 ≡ (0, Some x) ∷ [] → me.0.seen ≡ history_of x → me.0.stem ≡ Some (stem_of x)
      → Allows Rule slots id me 0 (λ _. 0) (λ _. released (step slots 0 0 0 none) me 0)
  releases slots id me x holds hand whole stem s r _ at _ =
      let k = r.each id me.0 at in
      let h = k.holding holds in
      let l = k.live (stem_of x) stem in
      let o = r.out h.0 in
      let w : V = record me.0 { holds = false } in (
        w,
        gives,
        tt,
        subst (λ (cs : List (ℕ × Option T)). Rule (stepped s 0 0 id cs w gives)) (sym hand) record {
          log = r.log;
          stem = r.stem;
          most = r.most;
          turn = 0;
          made = r.made;
          holder = r.holder;
          owner = r.owner;
          words = ap (λ (ws : List ℕ). set ws 0 0) r.words;
          sides = omega arith;
          fits = r.fits;
          unused = r.unused;
          free = λ _. (x, ap (λ hs. set hs 0 (some (Some x))) o.0, sym whole ∙ h.2, l.0);
          out = λ t. absurd (omega arith);
          each = seats (Knows r.stem r.most r.log 0 r.made r.holder r.owner) s.views id w
              record {
                live = k.live;
                numbered = k.numbered;
                bare = k.bare;
                holding = λ q. absurd (cc (q));
                kept = k.kept;
                once = k.once;
              }
              (λ j u other q. let ku = r.each j u q in record {
                live = ku.live;
                numbered = ku.numbered;
                bare = ku.bare;
                holding = λ z. absurd (other (sym (ku.holding z).1 ∙ h.1));
                kept = ku.kept;
                once = ku.once;
              });
        },
        refl,
      )

  -- what a seat has taken in stays its own where another number is drawn or handed over
  pub moved_olds : (stem : M) (log : List (ℕ × E)) (made more : ℕ) (owner next : ℕ → ℕ) (seat : ℕ) (olds : List (Old M E)) → made ≤ more → ((a : ℕ) → owner a ≡ seat → a < made → next a ≡ seat)
      → AllByRecursion (OldOk stem log made owner seat) olds → AllByRecursion (OldOk stem log more next seat) olds
  moved_olds stem log made more owner next seat [] fits moved all = tt
  moved_olds stem log made more owner next seat (o ∷ os) fits moved all = let t = all.0 in let given = t.given in (
    record {
      begun = t.begun;
      given = omega arith;
      owned = moved o.number t.owned t.given;
      behind = t.behind;
      whole = t.whole;
    },
    moved_olds stem log made more owner next seat os fits moved all.1,
  )

  pub draws : (slots id : ℕ) (me : Who M E T) (m : M) (a : ℕ) → me.0.stem ≡ Some m → me.0.number ≡ None → me.0.olds ≡ [] → a < me.0.most
      → Allows Rule slots id me 2 (λ x. either (eqb x a) (a + 1) x) (drawn (step slots 2 a (a + 1) none) me)
  draws slots id me m a live bare fresh room s r _ at _ =
      let x : ℕ = get_or s.words 2 0 in
      let made_is : x ≡ r.made = ap (λ (ws : List ℕ). get_or ws 2 0) r.words in
      let k = r.each id me.0 at in
      let l = k.live m live in
      dite (ℕ_discrete x a)
      (λ (hit : x ≡ a). let w : V = record me.0 { number = Some x } in let next = put r.owner x id in let all_given = l.1 in (
        w,
        keeps,
        tt,
        subst (λ b. Rule (stepped s 2 (either b (a + 1) x) id me.1 w keeps)) (sym (eq-eqb x a hit)) record {
          log = r.log;
          stem = r.stem;
          most = r.most;
          turn = r.turn;
          made = a + 1;
          holder = r.holder;
          owner = next;
          words = ap (λ (ws : List ℕ). set ws 2 (a + 1)) r.words;
          sides = r.sides;
          fits = omega arith;
          unused = λ b high. r.unused b (omega arith);
          free = r.free;
          out = λ t. let o = r.out t in (o.0, someone_stays s.views r.holder id me.0 w at (λ q. q) o.1);
          each = seats (Knows r.stem r.most r.log r.turn (a + 1) r.holder next) s.views id w
              record {
                live = λ b q. let t = k.live b q in let known = t.2 in (t.0, t.1, omega arith, t.3);
                numbered = λ b q. let same : x ≡ b = cc (q) in (omega arith, ap next (sym same) ∙ put_here r.owner x id, k.bare bare ∙ sym (r.unused b (omega arith)));
                bare = λ q. absurd (cc (q));
                holding = λ q. absurd (cc ((k.holding q).3.1, bare));
                kept = subst (AllByRecursion (OldOk r.stem r.log (a + 1) next id)) (sym fresh) tt;
                once = λ b. let o = one_at_most (x == b) in subst (λ (os : List (Old M E)). times b (x ∷ map (λ (z : Old M E). z.number) os) ≤ 1) (sym fresh) (let g : times b (x ∷ []) ≤ 1 = omega (arith, o) in g);
              }
              (λ j u other q. let ku = r.each j u q in let stays : (b : ℕ) → r.owner b ≡ j → b < r.made → next b ≡ j = λ b own_it low. put_else r.owner x id b (λ z. omega arith) ∙ own_it in record {
                live = λ b z. let t = ku.live b z in let known = t.2 in (t.0, t.1, omega arith, t.3);
                numbered = λ b z. let t = ku.numbered b z in let low = t.0 in (omega arith, stays b t.1 t.0, t.2);
                bare = ku.bare;
                holding = ku.holding;
                kept = moved_olds r.stem r.log r.made (a + 1) r.owner next j u.olds (omega arith) stays ku.kept;
                once = ku.once;
              });
        },
        (λ _. refl),
      ))
      (λ (miss : x ≢ a). let w : V = record me.0 { known = x } in (
        w,
        keeps,
        tt,
        subst (λ b. Rule (stepped s 2 (either b (a + 1) x) id me.1 w keeps)) (sym (ne_eqb x a miss)) (rereads s r 2 id me.0 w at (λ e. e) (knows_made s r id me.0 x made_is k)),
        (λ hit. absurd (miss hit)),
      ))
    where
      knows_made : (s : St) (r : Rule s) (id : ℕ) (v : V) (x : ℕ) → x ≡ r.made → Knows r.stem r.most r.log r.turn r.made r.holder r.owner id v
          → Knows r.stem r.most r.log r.turn r.made r.holder r.owner id (record v { known = x })
      knows_made s r id v x is k = record {
        live = λ b q. let t = k.live b q in (t.0, t.1, omega arith, t.3);
        numbered = k.numbered;
        bare = k.bare;
        holding = k.holding;
        kept = k.kept;
        once = k.once;
      }

  pub learns : (slots id : ℕ) (me : Who M E T) (m : M) → me.0.stem ≡ Some m → Allows Rule slots id me 2 (λ x. x) (learned (step slots 2 0 0 none) me)
  learns slots id me m live s r _ at _ =
      let x : ℕ = get_or s.words 2 0 in
      let made_is : x ≡ r.made = ap (λ (ws : List ℕ). get_or ws 2 0) r.words in
      let k = r.each id me.0 at in
      let l = k.live m live in
      let most = l.1 in
      let known = l.2 in
      let fits = r.fits in
      let w : V = record me.0 { known = x } in (
        w,
        keeps,
        tt,
        rereads s r 2 id me.0 w at (λ e. e) record {
          live = λ b q. let t = k.live b q in (t.0, t.1, omega arith, t.3);
          numbered = k.numbered;
          bare = k.bare;
          holding = k.holding;
          kept = k.kept;
          once = k.once;
        },
        (refl, omega arith, omega arith, λ n is. let own = (k.numbered n is).0 in omega (arith, own, made_is)),
      )

  pub splits : (id : ℕ) (v : V) → Splits Rule id v v (newcomer v)
  splits id v s r at =
      let same : set s.views id v ≡ s.views = set_again s.views id v at in
      let w : V = newcomer v in
      let k = r.each id v at in
      subst (λ (vs : List V). Rule record { words = s.words; homes = s.homes; views = vs ++ w ∷ [] }) (sym same) record {
        log = r.log;
        stem = r.stem;
        most = r.most;
        turn = r.turn;
        made = r.made;
        holder = r.holder;
        owner = r.owner;
        words = r.words;
        sides = r.sides;
        fits = r.fits;
        unused = r.unused;
        free = r.free;
        out = λ t. let o = r.out t in (o.0, (o.1.0, at_longer s.views (w ∷ []) r.holder o.1.0 o.1.1, o.1.2));
        each = λ j u e. ⊎_elim (λ (there : get_elem? s.views j ≡ some u). r.each j u there)
            (λ (new : w ≡ u). subst (Knows r.stem r.most r.log r.turn r.made r.holder r.owner j) new record {
              live = k.live;
              numbered = λ n q. absurd (cc (q));
              bare = λ _. refl;
              holding = λ q. absurd (cc (q));
              kept = tt;
              once = λ a. omega arith;
            })
            (at_snoc s.views w u j e);
      }

  -- the numbers of a seat are its own
  owned_olds : (stem : M) (log : List (ℕ × E)) (made : ℕ) (owner : ℕ → ℕ) (seat : ℕ) (olds : List (Old M E)) → AllByRecursion (OldOk stem log made owner seat) olds
      → AllByRecursion (λ (n : ℕ). (owner n ≡ seat) × (n < made)) (map (λ (o : Old M E). o.number) olds)
  owned_olds stem log made owner seat [] all = tt
  owned_olds stem log made owner seat (o ∷ os) all = ((all.0.owned, all.0.given), owned_olds stem log made owner seat os all.1)

  pub owned_numbers : (stem : M) (most : ℕ) (log : List (ℕ × E)) (turn made holder : ℕ) (owner : ℕ → ℕ) (seat : ℕ) (v : V) → Knows stem most log turn made holder owner seat v
      → AllByRecursion (λ (n : ℕ). (owner n ≡ seat) × (n < made)) (numbers_of v)
  owned_numbers stem most log turn made holder owner seat v k = go v.number refl
    where
      go : (o : Option ℕ) → v.number ≡ o → AllByRecursion (λ (n : ℕ). (owner n ≡ seat) × (n < made)) (option_to_list o ++ map (λ (z : Old M E). z.number) v.olds)
      go None e = owned_olds stem log made owner seat v.olds k.kept
      go (Some n) e = let t = k.numbered n e in ((t.1, t.0), owned_olds stem log made owner seat v.olds k.kept)
