-- A main frame that is edited, told and answered.
use Rattle.std.proofs.Common.{◌≡◌, ℕ, zero, suc, ◌<◌, ◌≤◌, Bool, true, false, not, cond, ◌&&◌, List, [], ◌∷◌, ◌++◌, length, slice_get, slice_index_or, Option, Some, None, Result, Ok, Err, refl, sym, ◌∙◌, ap, subst, arith}
use Rattle.std.specs.Prelude.{OnOk, OnErr, ⊤}
use Rattle.std.specs.List.{list_all, list_any}
use Rattle.std.specs.declared.alloc.AllocError.{AllocError}
use Rattle.geom.specs.declared.rect.Point.{Point}
use Rattle.geom.specs.declared.tile.TileKey.{TileKey}
use Rattle.geom.specs.KeyLists.{has_key}
use Rattle.tile_raster.specs.declared.job.Job.{Job}
use Rattle.model_states.specs.declared.kind.Kind.TheVariants as kind
use Rattle.model_states.specs.Kinds.{is_sent}
use Rattle.page_layers.specs.declared.command.Command.{Command}
use Rattle.page_layers.specs.declared.moves.Move.{Move}
use Rattle.page_layers.specs.Pages.{Page}
use Rattle.page_layers.specs.Effects.{page_after_command, page_after_pulls, commanded}
use Rattle.page_layers.specs.Outcomes.{Accepts}
use Rattle.model_history.specs.declared.event.Event.TheVariants as event
use Rattle.model_history.specs.declared.history.Entry.{Entry}
use Rattle.model_history.specs.declared.input.Input.{Input}
use Rattle.model_history.specs.Scripts.{ScriptModel}
use Rattle.model_history.specs.Accepted.{IsPlayable, TakesAll}
use Rattle.model_history.specs.Due.{due, on_if}
use Rattle.model_history.specs.DueParts.{due_ready, due_abort}
use Rattle.model_history.specs.Ended.{AreBounded, Tells}
use Rattle.model_history.specs.EventFields.{sends, answers}
use Rattle.model_history.specs.Frames.{commands_of, page, changes, pulls_of}
use Rattle.model_history.specs.Growth.{with_last, with_commands}
use Rattle.model_history.specs.Legal.{sched, can, Legal}
use Rattle.model_history.specs.Ranges.{command_in_range}
use Rattle.model_history.specs.SameChanges.{SameChanges}
use Rattle.model_history.specs.Scrolls.{scrolls_to}
use Rattle.model_history.specs.Scans.{counted, held, has_ended}
use Rattle.model_history.specs.Stamps.{changed_by, unchanged, stamp_in}
use Rattle.model_history.specs.Tiles.{page_keys}
use Rattle.model_history.proofs.Course.{course}
use Rattle.model_history.proofs.AnsweredFrames.{answered_course, answered_next}
use Rattle.model_history.proofs.Grown.{page_same, stamp_same}
use Rattle.model_history.proofs.GrownSteps.{as_many, reads_commands, one_waits}
use Rattle.model_history.proofs.PageFacts.{with_values, pulled_values, takes_values}
use Rattle.model_history.proofs.PullBounds.{pulls_bounded}
use Rattle.model_history.proofs.RangeBounds.{sent_few}
use Rattle.model_history.proofs.GrownPlays.{playable_commands}
use Rattle.model_history.proofs.DueFacts.{entry}
use Rattle.model_steps.proofs.GrownKeys.{still_shows}
use Rattle.impl_log.specs.Runs.{Run, past, now, with_entry, Entered}
use Rattle.impl_core.specs.Handovers.{IsPreparedFor}
use Rattle.impl_core.specs.Replies.{told_frame}
use Rattle.impl_core.specs.declared.handed.Handed.{Handed}
use Rattle.impl_core.proofs.ToldFrames.{IsToldFrame, told_frame_is}
use Rattle.cc_live.specs.declared.open_frame.OpenFrame.{OpenFrame}
use Rattle.cc_live.specs.declared.main_fault.MainFault.{MainFault}
use Rattle.cc_live.specs.declared.main_fault.MainFault.TheVariants as fault
use Rattle.cc_live.specs.Lives.{LiveModel, OpenModel, open_of}
use Rattle.cc_live.specs.MainSide.{Edits, EditsFrame, IsMade, MadeOf, told_run}
use Rattle.cc_live.specs.inner.Kept.{IsTold, IsLive, HasJob, IfSettled, IsMainPage, IsMainSide, IsEdited, IsOpen}
use Rattle.cc_live.proofs.ToldInputs.{longer, all_with}
use Rattle.cc_live.proofs.ToldRuns.{stays, stays_entered, same, past_with}
use Rattle.cc_live.proofs.MainSides.{side_sent, side_same}

-- ---- a main frame is sent

pub both_sent : (r new : Run) (waits : Option Input) (jobs : List (Option Job)) (p : Page) (o : Option OpenModel) (x : Result ⊤ AllocError) → OnOk x (Entered r kind.Send 0 new) → OnOk x (Legal new.script new.workers (past new)) → OnErr x (new ≡ r)
    → IsLive r waits jobs × IsMainSide r p o → IsLive new waits jobs × IsMainSide new p o
both_sent r new waits jobs p o (Ok u) e l f inv = (stays r new kind.Send waits jobs refl e inv.0, side_sent r new p o l e inv.1)
both_sent r new waits jobs p o (Err refused) e l f inv = (same r new waits jobs f inv.0, side_same r new p o f inv.1)

-- ---- a main frame is opened

pub side_opened : (r : Run) (p : Page) (o : Option OpenModel) (frame : OpenModel) (ms : List Move) → frame.page ≡ page_after_pulls ms p → frame.commands ≡ [] → IsMainSide r p o → IsMainSide r p (Some frame)
side_opened r p o frame ms pages none side = record {
  main = side.main;
  open_frame = record {
    pulls = ms;
    page = pages ∙ sym (ap (λ (cs : List Command). commanded cs (page_after_pulls ms p)) none);
    takes = subst (TakesAll (page_after_pulls ms p)) (sym none) tt;
    ranges = ap (list_all (command_in_range 2)) none;
    few = subst (λ (cs : List Command). length cs < 4294967296) (sym none) (omega arith);
  };
}

-- ---- an open main frame with a command more

commanded_last : (cs : List Command) (c : Command) (p : Page) → commanded (cs ++ c ∷ []) p ≡ page_after_command (commanded cs p) c
commanded_last [] c p = refl
commanded_last (d ∷ cs) c p = commanded_last cs c (page_after_command p d)

takes_last : (cs : List Command) (c : Command) (p : Page) → TakesAll p cs → Accepts (commanded cs p) c → TakesAll p (cs ++ c ∷ [])
takes_last [] c p t a = (a, tt)
takes_last (d ∷ cs) c p t a = (t.0, takes_last cs c (page_after_command p d) t.1 a)

same_frame : (p : Page) (old new : OpenModel) → new.page ≡ old.page → new.commands ≡ old.commands → IsEdited p old → IsEdited p new
same_frame p old new pages commands i = record {
  pulls = i.pulls;
  page = pages ∙ (i.page ∙ sym (ap (λ (cs : List Command). commanded cs (page_after_pulls i.pulls p)) commands));
  takes = subst (TakesAll (page_after_pulls i.pulls p)) (sym commands) i.takes;
  ranges = ap (list_all (command_in_range 2)) commands ∙ i.ranges;
  few = subst (λ (cs : List Command). length cs < 4294967296) (sym commands) i.few;
}

one_more_command : (p : Page) (old new : OpenModel) (c : Command) → command_in_range 2 c ≡ true → Accepts old.page c → new.page ≡ page_after_command old.page c → new.commands ≡ old.commands ++ c ∷ [] → length old.commands < 4294967295
    → IsEdited p old → IsEdited p new
one_more_command p old new c fits accepts pages commands few i =
    let start : Page = page_after_pulls i.pulls p in
    let l : length (old.commands ++ c ∷ []) ≡ suc (length old.commands) = longer old.commands c in
    record {
      pulls = i.pulls;
      page = pages ∙ (ap (λ (q : Page). page_after_command q c) i.page ∙ (sym (commanded_last old.commands c start) ∙ sym (ap (λ (cs : List Command). commanded cs start) commands)));
      takes = subst (TakesAll start) (sym commands) (takes_last old.commands c start i.takes (subst (λ (q : Page). Accepts q c) i.page accepts));
      ranges = ap (list_all (command_in_range 2)) commands ∙ all_with (command_in_range 2) old.commands c i.ranges fits;
      few = subst (λ (cs : List Command). length cs < 4294967296) (sym commands) (omega (arith, l, few));
    }

pub edit_kept : (p : Page) (old new : OpenFrame) (c : Command) (x : Result ⊤ MainFault) → command_in_range 2 c ≡ true → EditsFrame old c new x → IsOpen p (open_of (Some old)) → IsOpen p (open_of (Some new))
edit_kept p old new c (Ok u) fits e i =
    one_more_command p (record { page = old.page; commands = old.commands.items }) (record { page = new.page; commands = new.commands.items }) c fits e.0 e.1 e.2 e.3 i
edit_kept p old new c (Err (fault.Refused why)) fits e i = same_frame p (record { page = old.page; commands = old.commands.items }) (record { page = new.page; commands = new.commands.items }) e.1 e.2 i
edit_kept p old new c (Err fault.Worn) fits e i = same_frame p (record { page = old.page; commands = old.commands.items }) (record { page = new.page; commands = new.commands.items }) e.1 e.2 i
edit_kept p old new c (Err (fault.Memory refused)) fits e i = same_frame p (record { page = old.page; commands = old.commands.items }) (record { page = new.page; commands = new.commands.items }) e.0 e.1 i
edit_kept p old new c (Err fault.NotNow) fits e i = absurd e

frame_is : (l : LiveModel) (old new : OpenFrame) → l.open_frame ≡ open_of (Some old) → new.page ≡ old.page → new.commands.items ≡ old.commands.items → record l { open_frame = open_of (Some new) } ≡ l
frame_is l old new was pages commands =
    (λ i. record l { open_frame = Some (record { page = pages i; commands = commands i }) }) ∙ (λ i. record l { open_frame = sym was i })

pub edits_of : (l : LiveModel) (old new : OpenFrame) (c : Command) (x : Result ⊤ MainFault) → l.open_frame ≡ open_of (Some old) → EditsFrame old c new x → Edits l c (record l { open_frame = open_of (Some new) }) x
edits_of l old new c (Ok u) was e = (record { page = old.page; commands = old.commands.items }, was, e.0, λ i. record l { open_frame = Some (record { page = e.1 i; commands = e.2 i }) })
edits_of l old new c (Err (fault.Refused why)) was e = (record { page = old.page; commands = old.commands.items }, was, e.0, frame_is l old new was e.1 e.2)
edits_of l old new c (Err fault.Worn) was e = (record { page = old.page; commands = old.commands.items }, was, e.0, frame_is l old new was e.1 e.2)
edits_of l old new c (Err (fault.Memory refused)) was e = frame_is l old new was e.0 e.1
edits_of l old new c (Err fault.NotNow) was e = absurd e

-- ---- the main frame in flight

pub told_same : (r : Run) (k j : ℕ) (ms ns : List Move) → told_frame r ≡ Some (k, ms) → Some (j, ns) ≡ told_frame r → ns ≡ ms
told_same r k j ms ns e f = moves_of (j, ns) (k, ms) (f ∙ e)
  where
    moves_of : (p q : ℕ × List Move) → Some p ≡ Some q → p.1 ≡ q.1
    moves_of p q i = let h : p ≡ q = cc in ap (λ (z : ℕ × List Move). z.1) h

pub flying_bounded : (r : Run) (k : ℕ) (ms : List Move) → Legal r.script r.workers (past r) → IsPlayable r.script → told_frame r ≡ Some (k, ms) → AreBounded ms
flying_bounded r k ms legal plays e = let f : IsToldFrame r k ms = told_frame_is r k ms (sym e) in subst AreBounded (sym f.pulls) (pulls_bounded r.script r.workers (past r) k plays legal)

module _ (r : Run) (legal : Legal r.script r.workers (past r)) (k : ℕ) (ms : List Move) (f : IsToldFrame r k ms) where
  pub answered_is : counted answers (past r) ≡ k
  answered_is = answered_next (past r) k (course r.script r.workers (past r) legal) (answered_course r.script r.workers (past r) legal) f.sent f.last

  pub total_is : counted sends (past r) ≡ suc k
  total_is = (course r.script r.workers (past r) legal).last_is k f.last

  pub frame_last : (waits : Option Input) → IsTold r waits → suc k ≡ length r.script.main
  frame_last waits told =
      let few : counted sends (past r) ≤ length r.script.main = sent_few r.script r.workers (past r) legal in
      let all : length r.script.main ≤ counted sends (past r) = told.all_sent f.sent in
      let total : counted sends (past r) ≡ suc k = total_is in
      omega (arith, few, all, total)

-- ---- its commands are told

takes_pulled : (p : Page) (ms ns : List Move) (cs : List Command) → TakesAll (page_after_pulls ms p) cs → TakesAll (page_after_pulls ns p) cs
takes_pulled p ms ns cs t =
    let vs : List (ℕ × Point) = (page_after_pulls ns p).values in
    subst (λ (q : Page). TakesAll q cs) (ap (λ (q : Page). with_values q vs) (pulled_values ms p) ∙ sym (pulled_values ns p)) (takes_values cs (page_after_pulls ms p) vs t)

commands_last : (cs : List Command) (fs : List (List Command)) (k : ℕ) → suc k ≡ length fs → slice_index_or (with_last cs fs) k [] ≡ cs
commands_last cs [] k e = absurd (omega (arith, e))
commands_last cs (f ∷ []) zero e = refl
commands_last cs (f ∷ []) (suc k) e = absurd (omega (arith, e))
commands_last cs (f ∷ g ∷ fs) zero e = absurd (omega (arith, e))
commands_last cs (f ∷ g ∷ fs) (suc k) e = commands_last cs (g ∷ fs) k (omega (arith, e))

module _ (r : Run) (legal : Legal r.script r.workers (past r)) (sent : is_sent (sched (past r)).main_state ≡ true) (cs : List Command) where
  abbrev s : ScriptModel
  s = r.script

  abbrev t : ScriptModel
  t = with_commands r.script cs

  same_below : (k : ℕ) → k < counted answers (past r) → commands_of t k ≡ commands_of s k
  same_below = (reads_commands s r.workers (past r) cs legal (one_waits s r.workers (past r) legal sent)).answered

  no_inputs : (i : ℕ) → i < 0 → slice_get s.inputs i ≡ slice_get s.inputs i
  no_inputs i h = refl

  pub page_told : (ps : ℕ → List Move) (n : ℕ) → n ≤ counted answers (past r) → page t ps n ≡ page s ps n
  page_told ps n le = page_same s (with_last cs s.main) s.inputs (counted answers (past r)) 0 same_below no_inputs ps n le

  stamp_told : (ps : ℕ → List Move) (n : ℕ) → n ≤ counted answers (past r) → stamp_in t ps n ≡ stamp_in s ps n
  stamp_told ps n le = stamp_same s (with_last cs s.main) s.inputs (counted answers (past r)) 0 same_below no_inputs ps n le

  settled_told : (o : Option TileKey) → IfSettled s (past r) o → IfSettled t (past r) o
  settled_told None i = tt
  settled_told (Some q) i = record {
    pulls = i.pulls;
    frames = i.frames;
    answered = i.answered;
    has = (λ j. has_key (page_keys (page_told i.pulls i.frames i.answered j) (stamp_told i.pulls i.frames i.answered j)) q) ∙ i.has;
  }

  job_told : IsPlayable t → (o : Option TileKey) (j : Option Job) → IfSettled s (past r) o → HasJob s o j → HasJob t o j
  job_told a None j i h = h
  job_told a (Some q) None i h = h
  job_told a (Some q) (Some job) i h = record {
    key = h.key;
    shows = still_shows s t i.pulls i.frames q job.rect job.list.value a (page_told i.pulls i.frames i.answered) (stamp_told i.pulls i.frames i.answered) i.has h.shows;
    sound = h.sound;
  }

  pub live_told : (waits : Option Input) (jobs : List (Option Job)) → IsPlayable t → IsLive r waits jobs → IsLive (told_run r cs) waits jobs
  live_told waits jobs a live =
      let told = live.told in
      let many : length (with_last cs s.main) ≡ length s.main = as_many cs s.main in
      let few = told.sent in
      record {
        told = record {
          going = told.going;
          looked = told.looked;
          used = told.used;
          next = told.next;
          sent = omega (arith, many, few);
          all_sent = λ u. let all = told.all_sent u in omega (arith, many, all);
          version = told.version;
        };
        out = record {
          count = live.out.count;
          each = λ w lt. job_told a (held w (past r)) (slice_index_or jobs w None) (live.out.settled w lt) (live.out.each w lt);
          settled = λ w lt. settled_told (held w (past r)) (live.out.settled w lt);
        };
      }

  pub side_told : (p : Page) (o : Option OpenModel) → IsMainSide r p o → IsMainSide (told_run r cs) p None
  side_told p o side = record { main = side.main ∙ sym (page_told (pulls_of (past r)) (counted answers (past r)) (omega arith)); open_frame = tt }

module _ (r : Run) (legal : Legal r.script r.workers (past r)) (k : ℕ) (ms : List Move) (f : IsToldFrame r k ms) (p : Page) (frame : OpenModel) (side : IsMainSide r p (Some frame)) (waits : Option Input) (told : IsTold r waits) where
  last : suc k ≡ length r.script.main
  last = frame_last r legal k ms f waits told

  page_is : page r.script (pulls_of (past r)) k ≡ p
  page_is = ap (page r.script (pulls_of (past r))) (sym (answered_is r legal k ms f)) ∙ sym side.main

  pub told_playable : IsPlayable r.script → IsPlayable (with_commands r.script frame.commands)
  told_playable a =
      let i : IsEdited p frame = side.open_frame in
      playable_commands r.script (pulls_of (past r)) k frame.commands a last
      (subst (λ (q : Page). TakesAll (page_after_pulls (pulls_of (past r) k) q) frame.commands) (sym page_is) (takes_pulled p i.pulls (pulls_of (past r) k) frame.commands i.takes))

  before_told : page (with_commands r.script frame.commands) (pulls_of (past r)) k ≡ p
  before_told = let le = answered_is r legal k ms f in page_told r legal f.sent frame.commands (pulls_of (past r)) k (omega (arith, le)) ∙ page_is

  pub own_commands : commands_of (with_commands r.script frame.commands) k ≡ frame.commands
  own_commands = commands_last frame.commands r.script.main k last

  pub told_prepared : (handed : Handed) → MadeOf p ms frame.commands handed → IsPreparedFor (with_commands r.script frame.commands) (pulls_of (past r)) k handed.tree.value handed.changes handed.outright.items
  told_prepared handed made =
      let own : frame.commands ≡ commands_of (with_commands r.script frame.commands) k = sym own_commands in
      let start : p ≡ page (with_commands r.script frame.commands) (pulls_of (past r)) k = sym before_told in
      record {
        page = made.page ∙ (λ i. commanded (own i) (page_after_pulls (f.pulls i) (start i)));
        changes = subst (SameChanges handed.changes) (λ i. changed_by (page_after_pulls (f.pulls i) (start i)) (own i) unchanged) made.changes;
        outright_are = λ sc. made.outright sc ∙ ap (λ (cs : List Command). list_any (scrolls_to sc) cs) own;
      }

  -- the page takes the commands with any pulls
  pub takes_told : TakesAll (page_after_pulls ms p) frame.commands
  takes_told = let i : IsEdited p frame = side.open_frame in takes_pulled p i.pulls ms frame.commands i.takes

-- ---- it is answered

-- the answer of whether it changes something
pub tells_changes : (r : Run) (k : ℕ) (ms : List Move) (p : Page) (o : Option OpenModel) (q : Page) (answer : Bool) → Legal r.script r.workers (past r) → told_frame r ≡ Some (k, ms) → IsMainSide r p o → q ≡ page r.script (pulls_of (past r)) (suc k) → Tells r.script k ms p q answer
    → answer ≡ changes r.script (pulls_of (past r)) k
tells_changes r k ms p o q answer legal e side is tells =
    let f : IsToldFrame r k ms = told_frame_is r k ms (sym e) in
    tells (pulls_of (past r)) (sym f.pulls) (side.main ∙ ap (page r.script (pulls_of (past r))) (answered_is r legal k ms f)) is

module _ (r : Run) (legal : Legal r.script r.workers (past r)) (going : has_ended (past r) ≡ false) (k : ℕ) (ms : List Move) (f : IsToldFrame r k ms) where
  ready_due : can r.script (past r) kind.Ready 1 ≡ on_if (changes r.script (pulls_of (past r)) k) (event.Ready k)
  ready_due = (λ i. cond (not (going i) && f.sent i) (due r.script (past r) kind.Ready 1) None) ∙ ap (due_ready r.script (past r)) f.last

  abort_due : can r.script (past r) kind.Abort 1 ≡ on_if (not (changes r.script (pulls_of (past r)) k)) (event.Abort k)
  abort_due = (λ i. cond (not (going i) && f.sent i) (due r.script (past r) kind.Abort 1) None) ∙ ap (due_abort r.script (past r)) f.last

  pub ready_now : changes r.script (pulls_of (past r)) k ≡ true → now r kind.Ready 1 ≡ Some (event.Ready k)
  ready_now x = ready_due ∙ ap (λ b. on_if b (event.Ready k)) x

  pub abort_now : changes r.script (pulls_of (past r)) k ≡ false → now r kind.Abort 1 ≡ Some (event.Abort k)
  abort_now x = abort_due ∙ ap (λ b. on_if (not b) (event.Abort k)) x

  page_ready : (q : Page) → q ≡ page r.script (pulls_of (past r)) (suc k) → IsMainPage r.script (entry 1 (event.Ready k) ∷ past r) q
  page_ready q is = is ∙ ap (page r.script (pulls_of (past r))) (ap suc (sym (answered_is r legal k ms f)))

  page_abort : (q : Page) → q ≡ page r.script (pulls_of (past r)) (suc k) → IsMainPage r.script (entry 1 (event.Abort k) ∷ past r) q
  page_abort q is = is ∙ ap (page r.script (pulls_of (past r))) (ap suc (sym (answered_is r legal k ms f)))

  pub side_ready : (new : Run) (q : Page) → new ≡ with_entry r 1 (event.Ready k) → q ≡ page r.script (pulls_of (past r)) (suc k) → IsMainSide new q None
  side_ready new q e is =
      subst (λ (z : Run). IsMainSide z q None) (sym e) (record {
        main = subst (λ (h : List Entry). IsMainPage r.script h q) (sym (past_with r 1 (event.Ready k))) (page_ready q is);
        open_frame = tt;
      })

  pub side_abort : (new : Run) (q : Page) → new ≡ with_entry r 1 (event.Abort k) → q ≡ page r.script (pulls_of (past r)) (suc k) → IsMainSide new q None
  side_abort new q e is =
      subst (λ (z : Run). IsMainSide z q None) (sym e) (record {
        main = subst (λ (h : List Entry). IsMainPage r.script h q) (sym (past_with r 1 (event.Abort k))) (page_abort q is);
        open_frame = tt;
      })

pub both_ready : (r new : Run) (waits : Option Input) (jobs : List (Option Job)) (p : Page) (o : Option OpenModel) (k : ℕ) (ms : List Move) (q : Page) → Legal r.script r.workers (past r) → told_frame r ≡ Some (k, ms) → o ≡ None → q ≡ page r.script (pulls_of (past r)) (suc k) → new ≡ with_entry r 1 (event.Ready k)
    → IsLive r waits jobs × IsMainSide r p o → IsLive new waits jobs × IsMainSide new q o
both_ready r new waits jobs p o k ms q legal e closed is entered inv = (
  stays_entered r new 1 (event.Ready k) waits jobs refl entered inv.0,
  subst (IsMainSide new q) (sym closed) (side_ready r legal inv.0.told.going k ms (told_frame_is r k ms (sym e)) new q entered is),
)

pub both_abort : (r new : Run) (waits : Option Input) (jobs : List (Option Job)) (p : Page) (o : Option OpenModel) (k : ℕ) (ms : List Move) (q : Page) → Legal r.script r.workers (past r) → told_frame r ≡ Some (k, ms) → o ≡ None → q ≡ page r.script (pulls_of (past r)) (suc k) → new ≡ with_entry r 1 (event.Abort k)
    → IsLive r waits jobs × IsMainSide r p o → IsLive new waits jobs × IsMainSide new q o
both_abort r new waits jobs p o k ms q legal e closed is entered inv = (
  stays_entered r new 1 (event.Abort k) waits jobs refl entered inv.0,
  subst (IsMainSide new q) (sym closed) (side_abort r legal inv.0.told.going k ms (told_frame_is r k ms (sym e)) new q entered is),
)

-- once its commands are told
pub both_told : (r new : Run) (waits : Option Input) (jobs : List (Option Job)) (p : Page) (frame : OpenModel) (k : ℕ) (ms : List Move) → Legal r.script r.workers (past r) → IsPlayable r.script → told_frame r ≡ Some (k, ms) → new ≡ told_run r frame.commands
    → IsLive r waits jobs × IsMainSide r p (Some frame) → IsLive new waits jobs × IsMainSide new p None
both_told r new waits jobs p frame k ms legal a e is inv =
    let f : IsToldFrame r k ms = told_frame_is r k ms (sym e) in (
      subst (λ (z : Run). IsLive z waits jobs) (sym is) (live_told r legal f.sent frame.commands waits jobs (told_playable r legal k ms f p frame inv.1 waits inv.0.told a) inv.0),
      subst (λ (z : Run). IsMainSide z p None) (sym is) (side_told r legal f.sent frame.commands p (Some frame) inv.1),
    )

pub some_same : {A : Type 0} (x y : A) → Some x ≡ Some y → x ≡ y
some_same x y e = cc

pub made_told : (r : Run) (l : LiveModel) (frame : OpenModel) (k : ℕ) (ms : List Move) (handed : Handed) → told_frame r ≡ Some (k, ms) → l.open_frame ≡ None → IsPreparedFor (with_commands r.script frame.commands) (pulls_of (past r)) k handed.tree.value handed.changes handed.outright.items
    → l.run ≡ told_run r frame.commands → IsMade l k handed
made_told r l frame k ms handed e closed prepared is = record {
  closed = closed;
  pulls = ms;
  in_flight = ap told_frame is ∙ e;
  prepared = subst (λ (z : Run). IsPreparedFor z.script (pulls_of (past z)) k handed.tree.value handed.changes handed.outright.items) (sym is) prepared;
}
