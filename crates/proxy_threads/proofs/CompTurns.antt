-- A turn of the compositor: what its pass tells, and what was written.
use Rattle.std.proofs.Common.{◌≡◌, ◌≢◌, inl, inr, ℕ, zero, suc, min, ◌+◌, ◌≤◌, true, false, List, [], ◌∷◌, ◌++◌, length, take, drop, Option, refl, sym, ◌∙◌, ap, subst, arith, append_assoc, append-nil, length-append, Some}
use Rattle.std.specs.Prelude.{⊤}
use Rattle.std.specs.Io.KnownBytes.{Appends}
use Rattle.std.proofs.lemmas.List.{take-append-drop, length-take}
use Rattle.byte_io.specs.Pieces.{GainsPrefix}
use Rattle.model_states.specs.declared.kind.Kind.{Kind}
use Rattle.model_states.specs.declared.kind.Kind.TheVariants as kind
use Rattle.thread_lock.specs.Lists.{entries_by}
use Rattle.model_history.specs.declared.event.Event.{Event}
use Rattle.model_history.specs.declared.history.Entry.{Entry}
use Rattle.model_history.specs.EventFields.{kind_of}
use Rattle.model_history.specs.Scans.{has_ended}
use Rattle.model_history.specs.Legal.{Legal}
use Rattle.model_history.proofs.DueFacts.{entry}
use Rattle.model_history.proofs.DueRows.{due_row}
use Rattle.impl_log.specs.Runs.{Run, past, with_entry, Entered}
use Rattle.impl_log.proofs.LogSteps.{now_is, past_more}
use Rattle.impl_core.specs.Origins.{Origin}
use Rattle.impl_core.specs.Replies.{is_own, is_played, is_draw_kind, IsPicture}
use Rattle.thread_pieces.specs.Scenes.{scene_image}
use Rattle.thread_pieces.proofs.Gains.{gains_longer}
use Rattle.proxy_threads.specs.declared.turned.Turned.{Turned}
use Rattle.proxy_threads.specs.declared.turned.Turned.TheVariants as turned
use Rattle.proxy_threads.specs.declared.playing.Played.{Played}
use Rattle.proxy_threads.specs.declared.playing.Played.TheVariants as played
use Rattle.proxy_threads.specs.declared.lines.Lines.{Lines}
use Rattle.proxy_threads.specs.Seats.{Seat, entries_of, pairs, past_of}
use Rattle.proxy_threads.specs.Causes.{EnteredOne, HasNone, HasWaited}
use Rattle.proxy_threads.specs.Writing.{part, KnowsEnd, HasWritten, Wrote, CompTurn}
use Rattle.proxy_threads.specs.inner.Holdings.{Steps, Holding}
use Rattle.proxy_threads.specs.inner.Steps.{Stops, StopsIfFailed, Plays, Gathers, GathersAll, Composes, Answers, answer_for, lines_of, text_for}
use Rattle.proxy_threads.proofs.Holds.{entries_pairs, past_pairs, pairs_more, drop_front, same_since, mine_kept, entered_one, same_origin}
use Rattle.proxy_threads.proofs.Others.{others_since}
use Rattle.proxy_threads.proofs.Parts.{part_more, others_part, plain_part, drawn_part}
use Rattle.proxy_threads.proofs.OwnEvents.{own_stays, comp_none}

-- ---- lists

length_pairs : (es : List Entry) → length (pairs es) ≡ length es
length_pairs [] = refl
length_pairs (e ∷ es) = ap suc (length_pairs es)

drop_entries : (n : ℕ) (xs : List (ℕ × Event)) → drop n (entries_of xs) ≡ entries_of (drop n xs)
drop_entries zero xs = refl
drop_entries (suc n) [] = refl
drop_entries (suc n) (x ∷ xs) = drop_entries n xs

pub take_whole : {X : Type 0} (xs : List X) → take (length xs) xs ≡ xs
take_whole [] = refl
take_whole (x ∷ xs) = ap (λ ys. x ∷ ys) (take_whole xs)

-- ---- what was played

-- an event of its own was entered last
pub plays_steps : (old new : Run) (x : Played) → Plays old new x → Steps 0 old new
plays_steps old new played.Ended p = inl p.0
plays_steps old new played.Blocked p = inl p.0
plays_steps old new played.Plain p = inr (p.2.event, p.2.is_entered)
plays_steps old new (played.Shown scene) p = inr (p.entered.event, p.entered.is_entered)
plays_steps old new played.Memory p = p

-- the run was entered so, or the text is of the whole
abbrev PartOf : Played → List ℕ → List ℕ → Type 0
PartOf played.Memory text whole = ⊤
PartOf x text whole = text_for x text ≡ whole

module _ (p q : Seat) (written : ℕ) (lines : Lines) (x : Played) (actor : p.actor ≡ 0) (have : HasWritten p written) (hold : Holding p q (Composes written lines x)) where
  abbrev before : List (ℕ × Event)
  before = take written p.seen

  -- what came since the written entries, before the own event
  abbrev more : List (ℕ × Event)
  more = drop written p.seen ++ hold.sees.began.0

  split : before ++ more ≡ pairs hold.found.entries
  split = sym (append_assoc before (drop written p.seen) hold.sees.began.0) ∙ (ap (λ (xs : List (ℕ × Event)). xs ++ hold.sees.began.0) (take-append-drop written p.seen) ∙ hold.sees.began.1)

  count : length before ≡ written
  count = let few = have.few in let size : length before ≡ min written (length p.seen) = length-take written p.seen in omega (arith, few, size)

  zero_own : entries_by 0 (pairs hold.found.entries) ≡ p.mine
  zero_own = ap (λ (a : ℕ). entries_by a (pairs hold.found.entries)) (sym actor) ∙ hold.sees.own

  none : entries_by 0 more ≡ []
  none = others_since 0 before more (ap (λ (xs : List (ℕ × Event)). entries_by 0 xs) split ∙ (zero_own ∙ sym have.own))

  found_past : past_of (before ++ more) ≡ past hold.found
  found_past = ap (λ (xs : List (ℕ × Event)). past_of xs) split ∙ past_pairs hold.found.entries

  legal : Legal hold.found.script hold.found.workers (past_of (before ++ more))
  legal = subst (Legal hold.found.script hold.found.workers) (sym found_past) hold.sees.legal

  -- what comes after the written entries where the history is this
  behind : (left : Run) (ys : List (ℕ × Event)) → hold.left ≡ left → pairs left.entries ≡ pairs hold.found.entries ++ ys → drop written q.seen ≡ more ++ ys
  behind left ys is longer =
      let seen : q.seen ≡ before ++ (more ++ ys) = hold.stands.seen ∙ (ap (λ (r : Run). pairs r.entries) is ∙ (longer ∙ (ap (λ (xs : List (ℕ × Event)). xs ++ ys) (sym split) ∙ append_assoc before more ys))) in
      ap (λ (xs : List (ℕ × Event)). drop written xs) seen ∙ (ap (λ (n : ℕ). drop n (before ++ (more ++ ys))) (sym count) ∙ drop_front before (more ++ ys))

  -- the gathered text
  text_is : GathersAll written hold.left.entries lines → (ys : List (ℕ × Event)) → drop written q.seen ≡ ys → lines.text.items ≡ lines_of (entries_of ys)
  text_is g ys is =
      g.text
      ∙ ap (λ (es : List Entry). lines_of (drop written es)) (sym (entries_pairs hold.left.entries))
      ∙ ap (λ (es : List Entry). lines_of es) (drop_entries written (pairs hold.left.entries))
      ∙ ap (λ (xs : List (ℕ × Event)). lines_of (entries_of xs)) (ap (λ (xs : List (ℕ × Event)). drop written xs) (sym hold.stands.seen) ∙ is)

  -- nothing was entered
  text_kept : GathersAll written hold.left.entries lines → hold.left ≡ hold.found → lines.text.items ++ [] ≡ part hold.found.script before (drop written q.seen)
  text_kept g is =
      let rest : drop written q.seen ≡ more = behind hold.found [] is (sym (append-nil (pairs hold.found.entries))) ∙ append-nil more in
      append-nil lines.text.items ∙ (text_is g more rest ∙ (sym (others_part hold.found.script hold.found.workers before more none legal) ∙ ap (λ (xs : List (ℕ × Event)). part hold.found.script before xs) (sym rest)))

  -- an event of its own was entered, which adds its line and this image
  text_more : GathersAll written hold.left.entries lines → (e : Event) (image : List ℕ) → hold.left ≡ with_entry hold.found 0 e
      → part hold.found.script before (more ++ (0, e) ∷ []) ≡ lines_of (entries_of (more ++ (0, e) ∷ [])) ++ image
      → lines.text.items ++ image ≡ part hold.found.script before (drop written q.seen)
  text_more g e image is adds =
      let rest : drop written q.seen ≡ more ++ (0, e) ∷ [] = behind (with_entry hold.found 0 e) ((0, e) ∷ []) is (pairs_more hold.found.entries (entry 0 e ∷ [])) in
      ap (λ (w : List ℕ). w ++ image) (text_is g (more ++ (0, e) ∷ []) rest) ∙ (sym adds ∙ ap (λ (xs : List (ℕ × Event)). part hold.found.script before xs) (sym rest))

  -- the event that was entered is legal
  next_legal : (e : Event) → hold.left ≡ with_entry hold.found 0 e → Legal hold.found.script hold.found.workers (entry 0 e ∷ past_of (before ++ more))
  next_legal e is =
      let here : Legal hold.found.script hold.found.workers (past (with_entry hold.found 0 e)) = subst (λ (r : Run). Legal r.script r.workers (past r)) is hold.stands.legal in
      subst (λ (h : List Entry). Legal hold.found.script hold.found.workers (entry 0 e ∷ h)) (sym found_past)
      (subst (Legal hold.found.script hold.found.workers) (past_more hold.found.entries (hold.found.entries ++ entry 0 e ∷ []) (entry 0 e) refl) here)

  kind_entered : (k : Kind) (e : Entered hold.found k 0 hold.left) → kind_of e.event ≡ k
  kind_entered k e = (due_row hold.found.script (past hold.found) k 0 e.event (now_is hold.found.script (past hold.found) k 0 e.event e.is_now).is_due).kind

  same_script : hold.left.script ≡ hold.found.script
  same_script = kept (plays_steps hold.found hold.left x hold.acts.plays)
    where
      kept : Steps 0 hold.found hold.left → hold.left.script ≡ hold.found.script
      kept (inl is) = ap (λ (r : Run). r.script) is
      kept (inr m) = ap (λ (r : Run). r.script) m.1

  -- the text is that of the part
  part_is : (y : Played) → Plays hold.found hold.left y → Gathers y written hold.left.entries lines → PartOf y lines.text.items (part hold.found.script before (drop written q.seen))
  part_is played.Ended plays g = text_kept g plays.0
  part_is played.Blocked plays g = text_kept g plays.0
  part_is played.Plain plays g =
      let e = plays.2 in
      text_more g e.event [] e.is_entered (plain_part hold.found.script hold.found.workers before more none legal e.event (ap is_draw_kind (kind_entered plays.0 e) ∙ plays.1))
  part_is (played.Shown scene) plays g =
      let e = plays.entered in
      text_more g e.event (scene_image scene) e.is_entered
      (drawn_part hold.found.script hold.found.workers before more none legal e.event scene (kind_entered kind.Draw e) (next_legal e.event e.is_entered)
      (subst (λ (h : List Entry). IsPicture hold.found.script h scene) (sym found_past) plays.picture))
  part_is played.Memory plays g = tt

  -- ---- why the turn answers so

  entered : (e : Event) → hold.left ≡ with_entry hold.found 0 e → has_ended (past hold.found) ≡ false → is_own (kind_of e) ≡ true → EnteredOne p q
  entered e is going own = entered_one p q (Composes written lines x) hold e (is ∙ ap (λ (a : ℕ). with_entry hold.found a e) (sym actor)) going (own_stays e own)

  was_going : (k : Kind) (e : Entered hold.found k 0 hold.left) → has_ended (past hold.found) ≡ false
  was_going k e = (now_is hold.found.script (past hold.found) k 0 e.event e.is_now).going

  went_for : (y : Played) → Plays hold.found hold.left y → answer_for y ≡ turned.Went → EnteredOne p q
  went_for played.Plain plays is = entered plays.2.event plays.2.is_entered (was_going plays.0 plays.2) (ap is_own (kind_entered plays.0 plays.2) ∙ plays.3)
  went_for (played.Shown scene) plays is = entered plays.entered.event plays.entered.is_entered (was_going kind.Draw plays.entered) (ap is_own (kind_entered kind.Draw plays.entered))
  went_for _ plays is = absurd (cc (is))

  blocked_for : (y : Played) → Plays hold.found hold.left y → answer_for y ≡ turned.Blocked → HasWaited p q hold.left
  blocked_for played.Blocked plays is = subst (λ (r : Run). HasWaited p q r) (sym plays.0) (record {
    mine = mine_kept p q (Composes written lines x) hold plays.0;
    going = plays.1;
    none = subst (λ (a : ℕ). HasNone hold.found.script hold.found.workers (past hold.found) a) (sym (hold.same.actor ∙ actor)) (comp_none hold.found.script hold.found.workers (past hold.found) plays.2);
  })
  blocked_for _ plays is = absurd (cc (is))

  ended_for : (y : Played) → Plays hold.found hold.left y → answer_for y ≡ turned.Ended → (q.mine ≡ p.mine) × (has_ended (past hold.left) ≡ true)
  ended_for played.Ended plays is = (mine_kept p q (Composes written lines x) hold plays.0, ap (λ (r : Run). has_ended (past r)) plays.0 ∙ plays.1)
  ended_for _ plays is = absurd (cc (is))

  -- ---- what was written

  abbrev whole : List ℕ
  whole = part hold.found.script before (drop written q.seen)

  whole_for : (y : Played) (t : Turned) → answer_for y ≡ t → t ≢ turned.Memory → PartOf y lines.text.items whole → text_for y lines.text.items ≡ whole
  whole_for played.Memory t is other part = absurd (other (sym is))
  whole_for y t is other part = part

  front_for : (y : Played) (old new : Option (List ℕ)) (rest : List ℕ) → PartOf y lines.text.items whole → GainsPrefix old new (text_for y lines.text.items) → GainsPrefix old new (whole ++ rest)
  front_for played.Memory old new rest part gains = gains_longer old new [] (whole ++ rest) gains
  front_for y old new rest part gains = gains_longer old new whole rest (subst (GainsPrefix old new) part gains)

  all_for : (y : Played) (t : Turned) → answer_for y ≡ t → t ≢ turned.Memory → Gathers y written hold.left.entries lines → lines.written ≡ length q.seen
  all_for played.Memory t is other g = absurd (other (sym is))
  all_for y t is other g = g.written ∙ (sym (length_pairs hold.left.entries) ∙ ap (λ (xs : List (ℕ × Event)). length xs) (sym hold.stands.seen))

  over_seen : lines.over ≡ is_played (entries_of q.seen)
  over_seen = hold.acts.over ∙ ap (λ (es : List Entry). is_played es) (sym (ap (λ (xs : List (ℕ × Event)). entries_of xs) hold.stands.seen ∙ entries_pairs hold.left.entries))

  pub knows_end : (q2 : Seat) (t : Turned) → StopsIfFailed t q q2 → KnowsEnd (Some q2) lines.over t
  knows_end q2 turned.Went is = subst (λ (z : Seat). lines.over ≡ is_played (entries_of z.seen)) (sym is) over_seen
  knows_end q2 turned.Blocked is = subst (λ (z : Seat). lines.over ≡ is_played (entries_of z.seen)) (sym is) over_seen
  knows_end q2 turned.Ended is = subst (λ (z : Seat). lines.over ≡ is_played (entries_of z.seen)) (sym is) over_seen
  knows_end q2 turned.Memory s = tt
  knows_end q2 turned.WriteFault s = tt

  has_written : lines.written ≡ length q.seen → HasWritten q lines.written × (lines.written ≡ length q.seen)
  has_written all = (
    record {
      few = omega (arith, all);
      own = ap (λ (n : ℕ). entries_by 0 (take n q.seen)) all ∙ (ap (λ (xs : List (ℕ × Event)). entries_by 0 xs) (take_whole q.seen) ∙ (ap (λ (a : ℕ). entries_by a q.seen) (sym (hold.same.actor ∙ actor)) ∙ sym hold.stands.mine));
    },
    all,
  )

  part_here : PartOf x lines.text.items whole
  part_here = part_is x hold.acts.plays hold.acts.gathers

  module _ (old new : Option (List ℕ)) where
    went_on : (t : Turned) → answer_for x ≡ t → t ≢ turned.Memory → Appends old new (text_for x lines.text.items) → Appends old new (part hold.left.script before (drop written q.seen))
    went_on t is other gains =
        subst (λ s. Appends old new (part s before (drop written q.seen))) (sym same_script) (subst (Appends old new) (whole_for x t is other part_here) gains)

    seen_all : (t : Turned) → answer_for x ≡ t → t ≢ turned.Memory → HasWritten q lines.written × (lines.written ≡ length q.seen)
    seen_all t is other = has_written (all_for x t is other hold.acts.gathers)

    -- the written entries are a prefix of what it has seen
    few_seen : written ≤ length q.seen
    few_seen =
        let few = have.few in
        let begun : length (p.seen ++ hold.same.seen.0) ≡ length p.seen + length hold.same.seen.0 = length-append p.seen hold.same.seen.0 in
        let same : length (p.seen ++ hold.same.seen.0) ≡ length q.seen = ap (λ (xs : List (ℕ × Event)). length xs) hold.same.seen.1 in
        omega (arith, few, begun, same)

    drop_longer : {X : Type 0} (n : ℕ) (xs ys : List X) → n ≤ length xs → drop n (xs ++ ys) ≡ drop n xs ++ ys
    drop_longer zero xs ys le = refl
    drop_longer (suc n) [] ys le = absurd (omega (arith, le))
    drop_longer (suc n) (x ∷ xs) ys le = drop_longer n xs ys (omega (arith, le))

    front_after : (q2 : Seat) (s : Holding q q2 (Stops q.actor)) → GainsPrefix old new (text_for x lines.text.items) → GainsPrefix old new (part s.left.script before (drop written q2.seen))
    front_after q2 s gains =
        let later : List (ℕ × Event) = s.same.seen.0 in
        let rest : drop written q2.seen ≡ drop written q.seen ++ later = ap (λ (xs : List (ℕ × Event)). drop written xs) (sym s.same.seen.1) ∙ drop_longer written q.seen later few_seen in
        let script : s.left.script ≡ hold.found.script = ap (λ (o : Origin). o.script) (same_origin q q2 (Stops q.actor) s hold.left hold.stands) ∙ same_script in
        subst (λ z. GainsPrefix old new (part z before (drop written q2.seen))) (sym script)
        (subst (λ (xs : List (ℕ × Event)). GainsPrefix old new (part hold.found.script before xs)) (sym rest)
        (subst (GainsPrefix old new) (sym (part_more hold.found.script before (drop written q.seen) later))
        (front_for x old new (part hold.found.script (before ++ drop written q.seen) later) part_here gains)))

    pub comp_turn : (q2 : Seat) (t : Turned) → Answers x t → Wrote old new (text_for x lines.text.items) t → StopsIfFailed t q q2 → CompTurn p q2 written lines.written old new t
    comp_turn q2 turned.Went answer wrote is = subst (λ (z : Seat). CompTurn p z written lines.written old new turned.Went) (sym is) (record {
      same = hold.same;
      run = hold.left;
      stands = hold.stands;
      cause = went_for x hold.acts.plays answer;
      wrote = went_on turned.Went answer (λ i. absurd (cc (i))) wrote;
      all = seen_all turned.Went answer (λ i. absurd (cc (i)));
    })
    comp_turn q2 turned.Blocked answer wrote is = subst (λ (z : Seat). CompTurn p z written lines.written old new turned.Blocked) (sym is) (record {
      same = hold.same;
      run = hold.left;
      stands = hold.stands;
      cause = blocked_for x hold.acts.plays answer;
      wrote = went_on turned.Blocked answer (λ i. absurd (cc (i))) wrote;
      all = seen_all turned.Blocked answer (λ i. absurd (cc (i)));
    })
    comp_turn q2 turned.Ended answer wrote is = subst (λ (z : Seat). CompTurn p z written lines.written old new turned.Ended) (sym is) (record {
      same = hold.same;
      run = hold.left;
      stands = hold.stands;
      cause = ended_for x hold.acts.plays answer;
      wrote = went_on turned.Ended answer (λ i. absurd (cc (i))) wrote;
      all = seen_all turned.Ended answer (λ i. absurd (cc (i)));
    })
    comp_turn q2 turned.Memory answer wrote s = record {
      same = same_since p q q2 hold.same s.same;
      run = s.left;
      stands = s.stands;
      cause = s.acts.ended;
      wrote = front_after q2 s wrote;
      all = tt;
    }
    comp_turn q2 turned.WriteFault answer wrote s = record {
      same = same_since p q q2 hold.same s.same;
      run = s.left;
      stands = s.stands;
      cause = s.acts.ended;
      wrote = front_after q2 s wrote;
      all = tt;
    }
