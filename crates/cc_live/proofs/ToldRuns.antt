-- What is kept of a run that is told as it is played.
use Rattle.std.proofs.Common.{◌≡◌, ℕ, zero, suc, ◌+◌, ◌<◌, ◌≤◌, ◌==◌, Bool, true, false, cond, ◌||◌, List, [], ◌∷◌, ◌++◌, length, slice_get, nat_lt, Option, Some, None, is_some, Result, Ok, Err, refl, sym, ◌∙◌, ap, subst, arith}
use Rattle.std.specs.Prelude.{slice_index_or, IfOk, OnOk, OnErr, ⊤}
use Rattle.std.proofs.lemmas.Bool.Decides.{nat_tests}
use Rattle.std.specs.declared.alloc.AllocError.{AllocError}
use Rattle.geom.specs.Covers.{IsSound}
use Rattle.geom.specs.declared.rect.Rect.{Rect}
use Rattle.geom.specs.declared.tile.TileKey.{TileKey}
use Rattle.geom.specs.KeyLists.{has_key}
use Rattle.tile_raster.specs.declared.job.Job.{Job}
use Rattle.page_display_list.specs.declared.item.Item.{Item}
use Rattle.page_layers.specs.declared.command.Command.{Command}
use Rattle.page_layers.specs.Pages.{Page}
use Rattle.page_layers.specs.Contents.{content_at}
use Rattle.page_layers.specs.declared.moves.Move.{Move}
use Rattle.model_states.specs.declared.kind.Kind.{Kind}
use Rattle.model_states.specs.declared.kind.Kind.TheVariants as kind
use Rattle.model_history.specs.declared.event.Event.{Event}
use Rattle.model_history.specs.declared.event.Event.TheVariants as event
use Rattle.model_history.specs.declared.history.Entry.{Entry}
use Rattle.model_history.specs.declared.input.Input.{Input}
use Rattle.model_history.specs.declared.input.Input.TheVariants as input
use Rattle.model_history.specs.Scripts.{ScriptModel}
use Rattle.model_states.specs.Kinds.{is_sent}
use Rattle.model_history.specs.EventFields.{kind_of, uses, sends, answers, held_after, is_last}
use Rattle.model_history.specs.Scans.{counted, one_more, held, has_ended}
use Rattle.model_history.specs.Frames.{page, is_left}
use Rattle.model_history.specs.Stamps.{stamp_in}
use Rattle.model_history.specs.Sharing.{has_page_key, key_rect}
use Rattle.model_history.specs.Tiles.{page_keys}
use Rattle.model_history.specs.Legal.{Legal, sched}
use Rattle.model_history.specs.Growth.{with_input, with_main_frame, has_looked_ahead, looks_ahead}
use Rattle.model_history.proofs.BoolFacts.{not_both, same_number, other_number}
use Rattle.model_history.proofs.DueFacts.{entry}
use Rattle.model_history.proofs.DueRows.{due_row}
use Rattle.model_history.proofs.Grown.{page_same, stamp_same}
use Rattle.model_history.proofs.AnsweredFrames.{counted_more}
use Rattle.model_history.proofs.RangeBounds.{sent_few}
use Rattle.model_steps.specs.ShownKeys.{KeyShows}
use Rattle.impl_log.specs.Runs.{Run, past, with_entry, with_script, Entered, Plays}
use Rattle.viz_scene.specs.Views.{SceneView}
use Rattle.impl_core.specs.Replies.{Draws, StartsKey}
use Rattle.impl_log.proofs.LogSteps.{past_more, now_is}
use Rattle.cc_live.specs.Calls.{is_for_host, kind_using}
use Rattle.cc_live.specs.inner.Kept.{Puts, IsTold, AreOut, IsLive, HasJob, IsJobOf, IsSettled, IfSettled, waiting}
use Rattle.cc_live.proofs.ToldInputs.{longer, none_at_end, last_one}

-- ---- an event of a kind

-- the kinds that use no input, start and finish no tile, look ahead at nothing and end nothing
abbrev pub is_quiet : Kind → Bool
is_quiet kind.Send = true
is_quiet kind.Ready = true
is_quiet kind.Abort = true
is_quiet kind.Commit = true
is_quiet kind.Activate = true
is_quiet kind.Draw = true
is_quiet kind.Skip = true
is_quiet kind.Finish = true
is_quiet _ = false

-- what such an event leaves
pub record Leaves (e : Event) : Type 0 where
  pub last : is_last e ≡ false
  pub looks : looks_ahead e ≡ false
  pub uses : uses e ≡ None
  pub held : (w : ℕ) (o : Option TileKey) → held_after e w o ≡ o

quiet_leaves : (e : Event) → is_quiet (kind_of e) ≡ true → Leaves e
quiet_leaves (event.Send k ms) q = record { last = refl; looks = refl; uses = refl; held = λ w o. refl }
quiet_leaves (event.Ready k) q = record { last = refl; looks = refl; uses = refl; held = λ w o. refl }
quiet_leaves (event.Abort k) q = record { last = refl; looks = refl; uses = refl; held = λ w o. refl }
quiet_leaves (event.Commit k) q = record { last = refl; looks = refl; uses = refl; held = λ w o. refl }
quiet_leaves (event.Activate k cs) q = record { last = refl; looks = refl; uses = refl; held = λ w o. refl }
quiet_leaves (event.Draw i missing) q = record { last = refl; looks = refl; uses = refl; held = λ w o. refl }
quiet_leaves (event.Skip i) q = record { last = refl; looks = refl; uses = refl; held = λ w o. refl }
quiet_leaves event.Finish q = record { last = refl; looks = refl; uses = refl; held = λ w o. refl }
quiet_leaves _ q = cc

-- what the event that uses an input leaves
pub record Takes (e : Event) : Type 0 where
  pub last : is_last e ≡ false
  pub looks : looks_ahead e ≡ false
  pub uses : is_some (uses e) ≡ true
  pub held : (w : ℕ) (o : Option TileKey) → held_after e w o ≡ o

input_takes : (e : Event) (x : Input) → is_for_host x ≡ true → kind_of e ≡ kind_using x → Takes e
input_takes e (input.Await f) h k = cc
input_takes e input.Settle h k = cc
input_takes (event.Begin i) x h k = record { last = refl; looks = refl; uses = refl; held = λ w o. refl }
input_takes (event.Scroll i dx dy) x h k = record { last = refl; looks = refl; uses = refl; held = λ w o. refl }
input_takes (event.Wheel i layer rest_x rest_y ms) x h k = record { last = refl; looks = refl; uses = refl; held = λ w o. refl }
input_takes e (input.Scroll sc dx dy) h k = cc
input_takes e (input.Wheel x y dx dy) h k = cc
input_takes e input.Draw h k = cc

pub kind_is : (r new : Run) (k : Kind) (e : Entered r k 0 new) → kind_of e.event ≡ k
kind_is r new k e = (due_row r.script (past r) k 0 e.event (now_is r.script (past r) k 0 e.event e.is_now).is_due).kind

pub past_with : (r : Run) (a : ℕ) (e : Event) → past (with_entry r a e) ≡ entry a e ∷ past r
past_with r a e = past_more r.entries (r.entries ++ entry a e ∷ []) (entry a e) refl

-- ---- what is told stays told

more_sends : (o : Option ℕ) (n : ℕ) → n ≤ one_more o n
more_sends None n = omega arith
more_sends (Some k) n = omega arith

same_none : (o : Option ℕ) (n : ℕ) → o ≡ None → one_more o n ≡ n
same_none None n h = refl
same_none (Some k) n h = cc

one_used : (o : Option ℕ) (n : ℕ) → is_some o ≡ true → one_more o n ≡ suc n
one_used None n h = cc
one_used (Some k) n h = refl

-- while a main frame is in flight, all that there are were sent
all_after : (h : List Entry) (a : ℕ) (e : Event) (m : ℕ) → m ≤ counted sends h + 1 → (is_sent (sched h).main_state ≡ true → m ≤ counted sends h) → is_sent (sched (entry a e ∷ h)).main_state ≡ true → m ≤ counted sends (entry a e ∷ h)
all_after h a (event.Send k ms) m few all t = omega (arith, few)
all_after h a (event.Ready k) m few all t = absurd cc
all_after h a (event.Abort k) m few all t = absurd cc
all_after h a (event.Commit k) m few all t = absurd cc
all_after h a _ m few all t = all t

told_after : (r : Run) (waits : Option Input) (a : ℕ) (e : Event) → IsTold r waits → is_last e ≡ false → looks_ahead e ≡ false → uses e ≡ None → IsTold (with_entry r a e) waits
told_after r waits a e t last looks none =
    let p : past (with_entry r a e) ≡ entry a e ∷ past r = past_with r a e in
    let u : counted uses (entry a e ∷ past r) ≡ counted uses (past r) = same_none (uses e) (counted uses (past r)) none in
    let s = more_sends (sends e) (counted sends (past r)) in
    let sent = t.sent in
    record {
      going = ap has_ended p ∙ ((λ i. last i || has_ended (past r)) ∙ t.going);
      looked = ap has_looked_ahead p ∙ ((λ i. looks i || has_looked_ahead (past r)) ∙ t.looked);
      used = t.used ∙ sym (ap (λ n. n + waiting waits) (ap (counted uses) p ∙ u));
      next = ap (slice_get r.script.inputs) (ap (counted uses) p ∙ u) ∙ t.next;
      sent = subst (λ (h : List Entry). length r.script.main ≤ counted sends h + 1) (sym p) (omega (arith, s, sent));
      all_sent = subst (λ (h : List Entry). is_sent (sched h).main_state ≡ true → length r.script.main ≤ counted sends h) (sym p) (all_after (past r) a e (length r.script.main) t.sent t.all_sent);
      version = t.version;
    }

used_after : (r : Run) (x : Input) (a : ℕ) (e : Event) → IsTold r (Some x) → Takes e → IsTold (with_entry r a e) None
used_after r x a e t l =
    let p : past (with_entry r a e) ≡ entry a e ∷ past r = past_with r a e in
    let u : counted uses (entry a e ∷ past r) ≡ suc (counted uses (past r)) = one_used (uses e) (counted uses (past r)) l.uses in
    let all : length r.script.inputs ≡ counted uses (past r) + 1 = t.used in
    let whole : counted uses (entry a e ∷ past r) ≡ length r.script.inputs = omega (arith, u, all) in
    let s = more_sends (sends e) (counted sends (past r)) in
    let sent = t.sent in
    record {
      going = ap has_ended p ∙ ((λ i. l.last i || has_ended (past r)) ∙ t.going);
      looked = ap has_looked_ahead p ∙ ((λ i. l.looks i || has_looked_ahead (past r)) ∙ t.looked);
      used = subst (λ (h : List Entry). length r.script.inputs ≡ counted uses h + 0) (sym p) (omega (arith, whole));
      next = ap (slice_get r.script.inputs) (ap (counted uses) p ∙ whole) ∙ none_at_end r.script.inputs;
      sent = subst (λ (h : List Entry). length r.script.main ≤ counted sends h + 1) (sym p) (omega (arith, s, sent));
      all_sent = subst (λ (h : List Entry). is_sent (sched h).main_state ≡ true → length r.script.main ≤ counted sends h) (sym p) (all_after (past r) a e (length r.script.main) t.sent t.all_sent);
      version = t.version;
    }

-- a key of a page that the script has stays one
settled_after : (s : ScriptModel) (h : List Entry) (a : ℕ) (e : Event) (o : Option TileKey) → IfSettled s h o → IfSettled s (entry a e ∷ h) o
settled_after s h a e None i = tt
settled_after s h a e (Some q) i =
    let more = counted_more answers h a e in
    let was = i.answered in
    record { pulls = i.pulls; frames = i.frames; answered = omega (arith, more, was); has = i.has }

jobs_after : (r : Run) (jobs : List (Option Job)) (a : ℕ) (e : Event) → ((w : ℕ) (o : Option TileKey) → held_after e w o ≡ o) → AreOut r jobs → AreOut (with_entry r a e) jobs
jobs_after r jobs a e h out = record {
  count = out.count;
  each = λ w lt. subst (λ (past : List Entry). HasJob r.script (held w past) (slice_index_or jobs w None)) (sym (past_with r a e))
      (subst (λ o. HasJob r.script o (slice_index_or jobs w None)) (sym (h w (held w (past r)))) (out.each w lt));
  settled = λ w lt. subst (λ (past : List Entry). IfSettled r.script past (held w past)) (sym (past_with r a e))
      (subst (IfSettled r.script (entry a e ∷ past r)) (sym (h w (held w (past r)))) (settled_after r.script (past r) a e (held w (past r)) (out.settled w lt)));
}

-- an event that uses no input and no tile
pub stays : (r new : Run) (k : Kind) (waits : Option Input) (jobs : List (Option Job)) → is_quiet k ≡ true → Entered r k 0 new → IsLive r waits jobs → IsLive new waits jobs
stays r new k waits jobs q e live =
    let l : Leaves e.event = quiet_leaves e.event (ap is_quiet (kind_is r new k e) ∙ q) in
    subst (λ (z : Run). IsLive z waits jobs) (sym e.is_entered) (record { told = told_after r waits 0 e.event live.told l.last l.looks l.uses; out = jobs_after r jobs 0 e.event l.held live.out })

-- the same of any actor
pub stays_entered : (r new : Run) (a : ℕ) (e : Event) (waits : Option Input) (jobs : List (Option Job)) → is_quiet (kind_of e) ≡ true → new ≡ with_entry r a e → IsLive r waits jobs → IsLive new waits jobs
stays_entered r new a e waits jobs q is live =
    let l : Leaves e = quiet_leaves e q in
    subst (λ (z : Run). IsLive z waits jobs) (sym is) (record { told = told_after r waits a e live.told l.last l.looks l.uses; out = jobs_after r jobs a e l.held live.out })

-- the same of an answer, which tells whether there was one
pub stays_played : (r new : Run) (k : Kind) (waits : Option Input) (jobs : List (Option Job)) (x : Result Bool AllocError) → is_quiet k ≡ true → IfOk x (λ played. Plays r k 0 new played) → OnErr x (new ≡ r) → IsLive r waits jobs → IsLive new waits jobs
stays_played r new k waits jobs (Ok true) q e u live = stays r new k waits jobs q e live
stays_played r new k waits jobs (Ok false) q e u live = subst (λ (z : Run). IsLive z waits jobs) (sym e.1) live
stays_played r new k waits jobs (Err refused) q e u live = subst (λ (z : Run). IsLive z waits jobs) (sym u) live

pub same : (r new : Run) (waits : Option Input) (jobs : List (Option Job)) → new ≡ r → IsLive r waits jobs → IsLive new waits jobs
same r new waits jobs e live = subst (λ (z : Run). IsLive z waits jobs) (sym e) live

-- the event of the input that waits
pub used : (r new : Run) (x : Input) (jobs : List (Option Job)) → is_for_host x ≡ true → Entered r (kind_using x) 0 new → IsLive r (Some x) jobs → IsLive new None jobs
used r new x jobs host e live =
    let l : Takes e.event = input_takes e.event x host (kind_is r new (kind_using x) e) in
    subst (λ (z : Run). IsLive z None jobs) (sym e.is_entered) (record { told = used_after r x 0 e.event live.told l; out = jobs_after r jobs 0 e.event l.held live.out })

-- ---- a worker starts a tile, and is done with one

module _ (r : Run) (jobs new_jobs : List (Option Job)) (slot : ℕ) (out : AreOut r jobs) where
  other_job : (w : ℕ) → (slot == w) ≡ false → (job : Option Job) → Puts jobs slot job new_jobs → HasJob r.script (held w (past r)) (slice_index_or jobs w None) → HasJob r.script (held w (past r)) (slice_index_or new_jobs w None)
  other_job w e job puts has = subst (HasJob r.script (held w (past r))) (sym (puts.others w (λ i. other_number slot w e (sym i)))) has

  done_job : (w : ℕ) → w < r.workers → Puts jobs slot None new_jobs → (b : Bool) → (slot == w) ≡ b → HasJob r.script (cond b None (held w (past r))) (slice_index_or new_jobs w None)
  done_job w lt puts true e = ap (λ (v : ℕ). slice_index_or new_jobs v None) (sym (same_number slot w e)) ∙ puts.at
  done_job w lt puts false e = other_job w e None puts (out.each w lt)

  done_settled : (q : TileKey) (w : ℕ) → w < r.workers → (b : Bool) → IfSettled r.script (entry (2 + slot) (event.DoneTile slot q) ∷ past r) (cond b None (held w (past r)))
  done_settled q w lt true = tt
  done_settled q w lt false = settled_after r.script (past r) (2 + slot) (event.DoneTile slot q) (held w (past r)) (out.settled w lt)

  done_out : (q : TileKey) → Puts jobs slot None new_jobs → AreOut (with_entry r (2 + slot) (event.DoneTile slot q)) new_jobs
  done_out q puts = record {
    count = puts.count ∙ out.count;
    each = λ w lt. subst (λ (past : List Entry). HasJob r.script (held w past) (slice_index_or new_jobs w None)) (sym (past_with r (2 + slot) (event.DoneTile slot q))) (done_job w lt puts (slot == w) refl);
    settled = λ w lt. subst (λ (past : List Entry). IfSettled r.script past (held w past)) (sym (past_with r (2 + slot) (event.DoneTile slot q))) (done_settled q w lt (slot == w));
  }

  module _ (q : TileKey) (evicted : List TileKey) (job : Job) (is : IsJobOf r.script q job) (settled : IsSettled r.script (past r) q) (puts : Puts jobs slot (Some job) new_jobs) where
    abbrev starting : Event
    starting = event.Start slot q evicted

    start_job : (w : ℕ) → w < r.workers → (b : Bool) → (slot == w) ≡ b → HasJob r.script (cond b (Some q) (held w (past r))) (slice_index_or new_jobs w None)
    start_job w lt true e = subst (HasJob r.script (Some q)) (sym (ap (λ (v : ℕ). slice_index_or new_jobs v None) (sym (same_number slot w e)) ∙ puts.at)) is
    start_job w lt false e = other_job w e (Some job) puts (out.each w lt)

    start_settled : (w : ℕ) → w < r.workers → (b : Bool) → IfSettled r.script (entry (2 + slot) starting ∷ past r) (cond b (Some q) (held w (past r)))
    start_settled w lt true = settled_after r.script (past r) (2 + slot) starting (Some q) settled
    start_settled w lt false = settled_after r.script (past r) (2 + slot) starting (held w (past r)) (out.settled w lt)

    start_out : AreOut (with_entry r (2 + slot) starting) new_jobs
    start_out = record {
      count = puts.count ∙ out.count;
      each = λ w lt. subst (λ (past : List Entry). HasJob r.script (held w past) (slice_index_or new_jobs w None)) (sym (past_with r (2 + slot) starting)) (start_job w lt (slot == w) refl);
      settled = λ w lt. subst (λ (past : List Entry). IfSettled r.script past (held w past)) (sym (past_with r (2 + slot) starting)) (start_settled w lt (slot == w));
    }

pub done_live : (r new : Run) (waits : Option Input) (jobs new_jobs : List (Option Job)) (slot : ℕ) (q : TileKey) → new ≡ with_entry r (2 + slot) (event.DoneTile slot q) → Puts jobs slot None new_jobs → IsLive r waits jobs → IsLive new waits new_jobs
done_live r new waits jobs new_jobs slot q e puts live =
    subst (λ (z : Run). IsLive z waits new_jobs) (sym e)
    (record { told = told_after r waits (2 + slot) (event.DoneTile slot q) live.told refl refl refl; out = done_out r jobs new_jobs slot live.out q puts })

pub start_live : (r new : Run) (waits : Option Input) (jobs new_jobs : List (Option Job)) (slot : ℕ) (job : Job) → StartsKey r slot job.key new → KeyShows r.script job.key job.rect job.list.value → IsSound job.rect → IsSettled r.script (past r) job.key → Puts jobs slot (Some job) new_jobs
    → IsLive r waits jobs → IsLive new waits new_jobs
start_live r new waits jobs new_jobs slot job e shows sound settled puts live =
    subst (λ (z : Run). IsLive z waits new_jobs) (sym e.is_entered)
    (record {
      told = told_after r waits (2 + slot) (event.Start slot job.key e.evicted) live.told refl refl refl;
      out = start_out r jobs new_jobs slot live.out job.key e.evicted job (record { key = refl; shows = shows; sound = sound }) settled puts;
    })

-- ---- what shows a key still does when more is told

shows_in : (s t : ScriptModel) (q : TileKey) (r : Rect) (list : List Item) → ((ps : ℕ → List Move) (n : ℕ) → page t ps n ≡ page s ps n) → ((ps : ℕ → List Move) (n : ℕ) → stamp_in t ps n ≡ stamp_in s ps n) → KeyShows s q r list → KeyShows t q r list
shows_in s t q r list pages stamps shows = record {
  rect = λ ps n has. ap (λ (p : Page). key_rect p q) (pages ps n) ∙ shows.rect ps n (there ps n has);
  content = λ ps n has x y c. ap (λ (p : Page). content_at p q.layer x y) (pages ps n) ∙ shows.content ps n (there ps n has) x y c;
}
  where
    there : (ps : ℕ → List Move) (n : ℕ) → has_page_key t ps n q ≡ true → has_page_key s ps n q ≡ true
    there ps n has = (λ i. has_key (page_keys (sym (pages ps n) i) (sym (stamps ps n) i)) q) ∙ has

jobs_in : (s t : ScriptModel) (o : Option TileKey) (j : Option Job) → ((ps : ℕ → List Move) (n : ℕ) → page t ps n ≡ page s ps n) → ((ps : ℕ → List Move) (n : ℕ) → stamp_in t ps n ≡ stamp_in s ps n) → HasJob s o j → HasJob t o j
jobs_in s t None j pages stamps h = h
jobs_in s t (Some q) None pages stamps h = h
jobs_in s t (Some q) (Some job) pages stamps h = record { key = h.key; shows = shows_in s t q job.rect job.list.value pages stamps h.shows; sound = h.sound }

settled_in : (s t : ScriptModel) (h : List Entry) (o : Option TileKey) → ((ps : ℕ → List Move) (n : ℕ) → page t ps n ≡ page s ps n) → ((ps : ℕ → List Move) (n : ℕ) → stamp_in t ps n ≡ stamp_in s ps n) → IfSettled s h o → IfSettled t h o
settled_in s t h None pages stamps i = tt
settled_in s t h (Some q) pages stamps i = record {
  pulls = i.pulls;
  frames = i.frames;
  answered = i.answered;
  has = (λ j. has_key (page_keys (pages i.pulls i.frames j) (stamps i.pulls i.frames j)) q) ∙ i.has;
}

-- an input that is told
pub told_more : (r : Run) (x : Input) (jobs : List (Option Job)) → IsLive r None jobs → IsLive (with_script r (with_input r.script x)) (Some x) jobs
told_more r x jobs live =
    let s : ScriptModel = r.script in
    let t = live.told in
    let all : length s.inputs ≡ counted uses (past r) + 0 = t.used in
    let whole : counted uses (past r) ≡ length s.inputs = omega (arith, all) in
    let l : length (s.inputs ++ x ∷ []) ≡ suc (length s.inputs) = longer s.inputs x in
    let no : (i : ℕ) → i < 0 → slice_get (s.inputs ++ x ∷ []) i ≡ slice_get s.inputs i = λ i h. absurd (omega (arith, h)) in
    record {
      told = record {
        going = t.going;
        looked = t.looked;
        used = omega (arith, l, whole);
        next = ap (slice_get (s.inputs ++ x ∷ [])) whole ∙ last_one s.inputs x;
        sent = t.sent;
        all_sent = t.all_sent;
        version = t.version;
      };
      out = record {
        count = live.out.count;
        settled = λ w lt. settled_in s (with_input s x) (past r) (held w (past r))
            (λ ps n. page_same s s.main (s.inputs ++ x ∷ []) n 0 (λ k h. refl) no ps n (omega arith))
            (λ ps n. stamp_same s s.main (s.inputs ++ x ∷ []) n 0 (λ k h. refl) no ps n (omega arith))
            (live.out.settled w lt);
        each = λ w lt. jobs_in s (with_input s x) (held w (past r)) (slice_index_or jobs w None)
            (λ ps n. page_same s s.main (s.inputs ++ x ∷ []) n 0 (λ k h. refl) no ps n (omega arith))
            (λ ps n. stamp_same s s.main (s.inputs ++ x ∷ []) n 0 (λ k h. refl) no ps n (omega arith))
            (live.out.each w lt);
      };
    }

-- a main frame that is told
pub no_commands : (main : List (List Command)) (k : ℕ) → slice_index_or (main ++ [] ∷ []) k [] ≡ slice_index_or main k []
no_commands [] zero = refl
no_commands [] (suc k) = refl
no_commands (f ∷ fs) zero = refl
no_commands (f ∷ fs) (suc k) = no_commands fs k

frame_more : (r : Run) (waits : Option Input) (jobs : List (Option Job)) → length r.script.main ≤ counted sends (past r) → is_sent (sched (past r)).main_state ≡ false → IsLive r waits jobs → IsLive (with_script r (with_main_frame r.script)) waits jobs
frame_more r waits jobs none free live =
    let s : ScriptModel = r.script in
    let t = live.told in
    let l : length (s.main ++ [] ∷ []) ≡ suc (length s.main) = longer s.main [] in
    let no : (i : ℕ) → i < 0 → slice_get s.inputs i ≡ slice_get s.inputs i = λ i h. refl in
    record {
      told = record { going = t.going; looked = t.looked; used = t.used; next = t.next; sent = omega (arith, l, none); all_sent = λ u. absurd (not_both (is_sent (sched (past r)).main_state) u free); version = t.version };
      out = record {
        count = live.out.count;
        settled = λ w lt. settled_in s (with_main_frame s) (past r) (held w (past r))
            (λ ps n. page_same s (s.main ++ [] ∷ []) s.inputs n 0 (λ k h. no_commands s.main k) no ps n (omega arith))
            (λ ps n. stamp_same s (s.main ++ [] ∷ []) s.inputs n 0 (λ k h. no_commands s.main k) no ps n (omega arith))
            (live.out.settled w lt);
        each = λ w lt. jobs_in s (with_main_frame s) (held w (past r)) (slice_index_or jobs w None)
            (λ ps n. page_same s (s.main ++ [] ∷ []) s.inputs n 0 (λ k h. no_commands s.main k) no ps n (omega arith))
            (λ ps n. stamp_same s (s.main ++ [] ∷ []) s.inputs n 0 (λ k h. no_commands s.main k) no ps n (omega arith))
            (live.out.each w lt);
      };
    }

-- how many inputs there are while none waits
pub all_used : (r : Run) (waits : Option Input) (n : ℕ) (jobs : List (Option Job)) → IsLive r waits jobs → waits ≡ None → n ≡ counted uses (past r) → n ≡ length r.script.inputs
all_used r waits n jobs live free used =
    let e : length r.script.inputs ≡ counted uses (past r) + 0 = live.told.used ∙ ap (λ w. counted uses (past r) + waiting w) free in
    omega (arith, e, used)

-- no main frame is left where each that there is was sent
none_left : (s : ScriptModel) (h : List Entry) → is_left s h ≡ false → length s.main ≤ counted sends h
none_left s h f = grind (arith, nat_tests, f)

-- what a draw answers
pub stays_drawn : (r new : Run) (waits : Option Input) (jobs : List (Option Job)) (x : Result (Option SceneView) AllocError) → IfOk x (Draws r new) → OnErr x (new ≡ r) → IsLive r waits jobs → IsLive new waits jobs
stays_drawn r new waits jobs (Ok (Some scene)) d u live = stays r new kind.Draw waits jobs refl d.entered live
stays_drawn r new waits jobs (Ok None) d u live = same r new waits jobs d.1 live
stays_drawn r new waits jobs (Err refused) d u live = same r new waits jobs u live

-- how many main frames there are while none is left
pub all_sent_is : (s : ScriptModel) (n : ℕ) (h : List Entry) (k : ℕ) → Legal s n h → is_left s h ≡ false → k ≡ counted sends h → k ≡ length s.main
all_sent_is s n h k l f e = let all = none_left s h f in let few = sent_few s n h l in omega (arith, all, few, e)

-- a main frame that is told while none is left
pub frame_told : (r new : Run) (waits : Option Input) (jobs : List (Option Job)) → new ≡ with_script r (with_main_frame r.script) → is_left r.script (past r) ≡ false → is_sent (sched (past r)).main_state ≡ false → IsLive r waits jobs → IsLive new waits jobs
frame_told r new waits jobs e left free live = subst (λ (z : Run). IsLive z waits jobs) (sym e) (frame_more r waits jobs (none_left r.script (past r) left) free live)

-- it is left to be sent
pub one_left : (s : ScriptModel) (n : ℕ) (h : List Entry) → Legal s n h → nat_lt (counted sends h) (length (s.main ++ [] ∷ [])) ≡ true
one_left s n h l = let few = sent_few s n h l in let more : length (s.main ++ [] ∷ []) ≡ suc (length s.main) = longer s.main [] in before (counted sends h) (length (s.main ++ [] ∷ [])) (omega (arith, few, more))
  where
    before : (m k : ℕ) → m < k → nat_lt m k ≡ true
    before m k e = grind (arith, nat_tests, e)
