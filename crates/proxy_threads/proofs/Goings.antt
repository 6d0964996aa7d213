-- Turns of the compositor, one after another.
use Rattle.std.proofs.Common.{◌≡◌, ℕ, zero, suc, min, ◌≤◌, true, List, [], ◌∷◌, ◌++◌, length, take, drop, Option, Some, None, refl, sym, ◌∙◌, ap, subst, arith, append_assoc, append-nil}
use Rattle.std.specs.Io.KnownBytes.{Appends}
use Rattle.std.proofs.lemmas.List.{take-append-drop, length-take}
use Rattle.atomic_table.specs.Seated.{TableId}
use Rattle.model_history.specs.declared.event.Event.{Event}
use Rattle.model_history.specs.Scans.{has_ended}
use Rattle.model_history.specs.Scripts.{ScriptModel}
use Rattle.impl_log.specs.Runs.{Run, past}
use Rattle.impl_core.specs.Origins.{Origin, origin_of}
use Rattle.thread_pieces.proofs.Gains.{appends_nothing, gains_both}
use Rattle.proxy_threads.specs.declared.turned.Turned.{Turned}
use Rattle.proxy_threads.specs.declared.turned.Turned.TheVariants as turned
use Rattle.proxy_threads.specs.Seats.{Seat, Of}
use Rattle.proxy_threads.specs.Causes.{CompCause}
use Rattle.proxy_threads.specs.Writing.{part, HasWritten, Wrote, CompTurn, CompTurns, MayTurn, IsLast, Driven, Drives}
use Rattle.proxy_threads.specs.inner.Goings.{Going, Goes}
use Rattle.proxy_threads.proofs.Holds.{drop_front, some_same}
use Rattle.proxy_threads.proofs.Parts.{part_more}
use Rattle.proxy_threads.proofs.Gained.{wrote_behind}
use Rattle.proxy_threads.proofs.CompTurns.{take_whole}

take_longer : {X : Type 0} (n : ℕ) (xs ys : List X) → n ≤ length xs → take n (xs ++ ys) ≡ take n xs
take_longer zero xs ys le = refl
take_longer (suc n) [] ys le = absurd (omega (arith, le))
take_longer (suc n) (x ∷ xs) ys le = ap (λ zs. x ∷ zs) (take_longer n xs ys (omega (arith, le)))

-- before the first turn
nothing_written : (s : ScriptModel) (before : List (ℕ × Event)) → part s before [] ≡ []
unfolding part
nothing_written s before = refl

going_first : (id : TableId) (written : ℕ) (p : Seat) (old : Option (List ℕ)) → MayTurn id written p → Going id p p written written old old
going_first id written p old may = record {
  lock = refl;
  actor = refl;
  stem = refl;
  most = refl;
  taken = omega arith;
  seen = ([], append-nil p.seen);
  few = may.written.few;
  may = may;
  gained = [];
  split = append-nil (take written p.seen);
  wrote = λ o is. subst (Appends old old) (sym (nothing_written o.script (take written p.seen))) (appends_nothing old);
}

module _ (id : TableId) (p q r : Seat) (w v u : ℕ) (old mid new : Option (List ℕ)) (t : Turned) (going : Going id p q w v old mid) (turn : CompTurn q r v u mid new t) where
  abbrev news : List (ℕ × Event)
  news = drop v r.seen

  same_origin_of : (o : Origin) → r.stem ≡ Some o → turn.run.script ≡ o.script
  same_origin_of o is = ap (λ (z : Origin). z.script) (some_same (origin_of turn.run) o (sym turn.stands.stem ∙ is))

  begun : take v q.seen ≡ take v r.seen
  begun =
      let few = going.may.written.few in
      sym (take_longer v q.seen turn.same.seen.0 few) ∙ ap (λ (xs : List (ℕ × Event)). take v xs) turn.same.seen.1

  -- what was written before, and what is new, is all that the pass has seen
  all_seen : take w p.seen ++ (going.gained ++ news) ≡ r.seen
  all_seen = sym (append_assoc (take w p.seen) going.gained news) ∙ (ap (λ (xs : List (ℕ × Event)). xs ++ news) (going.split ∙ begun) ∙ take-append-drop v r.seen)

  rest_seen : drop w r.seen ≡ going.gained ++ news
  rest_seen =
      let few = going.few in
      let size : length (take w p.seen) ≡ min w (length p.seen) = length-take w p.seen in
      let count : length (take w p.seen) ≡ w = omega (arith, few, size) in
      ap (λ (xs : List (ℕ × Event)). drop w xs) (sym all_seen)
      ∙ (ap (λ (n : ℕ). drop n (take w p.seen ++ (going.gained ++ news))) (sym count) ∙ drop_front (take w p.seen) (going.gained ++ news))

  -- both parts, one after another
  both_parts : (s : ScriptModel) → part s (take w p.seen) (going.gained ++ news) ≡ part s (take w p.seen) going.gained ++ part s (take v q.seen) news
  both_parts s = part_more s (take w p.seen) going.gained news ∙ ap (λ (xs : List (ℕ × Event)). part s (take w p.seen) going.gained ++ part s xs news) going.split

  -- what was gained by the script of the pass's stem
  gained_before : Appends old mid (part turn.run.script (take w p.seen) going.gained)
  gained_before = going.wrote (origin_of turn.run) (sym turn.same.stem ∙ turn.stands.stem)

  wrote_all : Wrote mid new (part turn.run.script (take v q.seen) news) t → Wrote old new (part turn.run.script (take w p.seen) (going.gained ++ news)) t
  wrote_all more =
      subst (λ (b : List ℕ). Wrote old new b t) (sym (both_parts turn.run.script))
      (wrote_behind t old mid new (part turn.run.script (take w p.seen) going.gained) (part turn.run.script (take v q.seen) news) gained_before more)

  -- the turn went on
  goes_on : HasWritten r u → u ≡ length r.seen → Appends mid new (part turn.run.script (take v q.seen) news) → Going id p r w u old new
  goes_on have all more = record {
    lock = turn.same.lock ∙ going.lock;
    actor = turn.same.actor ∙ going.actor;
    stem = turn.same.stem ∙ going.stem;
    most = turn.same.most ∙ going.most;
    taken = let before = going.taken in let later = turn.same.taken in omega (arith, before, later);
    seen = (going.seen.0 ++ turn.same.seen.0, sym (append_assoc p.seen going.seen.0 turn.same.seen.0) ∙ (ap (λ (xs : List (ℕ × Event)). xs ++ turn.same.seen.0) going.seen.1 ∙ turn.same.seen.1));
    few = going.few;
    may = record { lock = turn.same.lock ∙ going.may.lock; actor = turn.same.actor ∙ going.may.actor; written = have };
    gained = going.gained ++ news;
    split = all_seen ∙ (sym (take_whole r.seen) ∙ ap (λ (n : ℕ). take n r.seen) (sym all));
    wrote = λ o is.
        subst (λ s. Appends old new (part s (take w p.seen) (going.gained ++ news))) (same_origin_of o is)
        (subst (Appends old new) (sym (both_parts turn.run.script)) (gains_both old mid new (part turn.run.script (take w p.seen) going.gained) (part turn.run.script (take v q.seen) news) gained_before more));
  }

  -- the turn was the last
  stops : IsLast t → has_ended (past turn.run) ≡ true → Driven p r w old new t
  stops last ended = record {
    same = record {
      lock = turn.same.lock ∙ going.lock;
      actor = turn.same.actor ∙ going.actor;
      stem = turn.same.stem ∙ going.stem;
      most = turn.same.most ∙ going.most;
      taken = let before = going.taken in let later = turn.same.taken in omega (arith, before, later);
      seen = (going.seen.0 ++ turn.same.seen.0, sym (append_assoc p.seen going.seen.0 turn.same.seen.0) ∙ (ap (λ (xs : List (ℕ × Event)). xs ++ turn.same.seen.0) going.seen.1 ∙ turn.same.seen.1));
    };
    run = turn.run;
    stands = turn.stands;
    last = last;
    ended = ended;
    wrote = subst (λ (xs : List (ℕ × Event)). Wrote old new (part turn.run.script (take w p.seen) xs) t) (sym rest_seen) (wrote_all turn.wrote);
  }

-- the same where the passes are there

pub goes_first : (id : TableId) (o : Option Seat) (written : ℕ) (old : Option (List ℕ)) → Of o (MayTurn id written) → Goes id o o written written old old
goes_first id None written old may = absurd may
goes_first id (Some p) written old may = going_first id written p old may

pub goes_went : (id : TableId) (o x y : Option Seat) (w v u : ℕ) (old mid new : Option (List ℕ)) → Goes id o x w v old mid → CompTurns x y v u mid new turned.Went → Goes id o y w u old new
goes_went id (Some p) (Some q) (Some r) w v u old mid new going turn = goes_on id p q r w v u old mid new turned.Went going turn turn.all.0 turn.all.1 turn.wrote
goes_went id (Some p) (Some q) None w v u old mid new going turn = absurd turn
goes_went id (Some p) None y w v u old mid new going turn = absurd going
goes_went id None None y w v u old mid new going turn = absurd going
goes_went id None (Some q) y w v u old mid new going turn = absurd going

pub goes_blocked : (id : TableId) (o x y : Option Seat) (w v u : ℕ) (old mid new : Option (List ℕ)) → Goes id o x w v old mid → CompTurns x y v u mid new turned.Blocked → Goes id o y w u old new
goes_blocked id (Some p) (Some q) (Some r) w v u old mid new going turn = goes_on id p q r w v u old mid new turned.Blocked going turn turn.all.0 turn.all.1 turn.wrote
goes_blocked id (Some p) (Some q) None w v u old mid new going turn = absurd turn
goes_blocked id (Some p) None y w v u old mid new going turn = absurd going
goes_blocked id None None y w v u old mid new going turn = absurd going
goes_blocked id None (Some q) y w v u old mid new going turn = absurd going

has_stopped : (q r : Seat) (run : Run) (t : Turned) → IsLast t → CompCause q r run t → has_ended (past run) ≡ true
has_stopped q r run turned.Went last cause = absurd last
has_stopped q r run turned.Blocked last cause = absurd last
has_stopped q r run turned.Ended last cause = cause.1
has_stopped q r run turned.Memory last cause = cause
has_stopped q r run turned.WriteFault last cause = cause

pub goes_last : (id : TableId) (o x y : Option Seat) (w v u : ℕ) (old mid new : Option (List ℕ)) (t : Turned) → IsLast t → Goes id o x w v old mid → CompTurns x y v u mid new t → Drives o y w old new t
goes_last id (Some p) (Some q) (Some r) w v u old mid new t last going turn = stops id p q r w v u old mid new t going turn last (has_stopped q r turn.run t last turn.cause)
goes_last id (Some p) (Some q) None w v u old mid new t last going turn = absurd turn
goes_last id (Some p) None y w v u old mid new t last going turn = absurd going
goes_last id None None y w v u old mid new t last going turn = absurd going
goes_last id None (Some q) y w v u old mid new t last going turn = absurd going
