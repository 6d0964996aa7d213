-- The table of the kinds of events: in which states each may come, and what state it leaves.
use Rattle.std.specs.Prelude.{Bool, true, false, ◌&&◌, not}
use Rattle.model_states.specs.declared.sched.Sched.{Sched}
use Rattle.model_states.specs.declared.kind.Kind.{Kind}
use Rattle.model_states.specs.declared.kind.Kind.TheVariants as kind
use Rattle.model_states.specs.declared.states.ImplState.{ImplState}
use Rattle.model_states.specs.declared.states.ImplState.TheVariants as impl
use Rattle.model_states.specs.declared.states.MainState.{MainState}
use Rattle.model_states.specs.declared.states.MainState.TheVariants as main
use Rattle.model_states.specs.declared.states.Begun.{Begun}
use Rattle.model_states.specs.declared.states.Begun.TheVariants as begun

-- the state before the first event
abbrev pub start_state : Sched
start_state = record { impl_state = impl.Idle; main_state = main.Idle; has_pending = false; sent_in_frame = false; begun = begun.Nothing }

-- no impl frame is open; one was begun and is not drawn yet; one was drawn and is not finished yet
abbrev pub is_idle : ImplState → Bool
is_idle impl.Idle = true
is_idle _ = false

abbrev pub is_inside_begin_frame : ImplState → Bool
is_inside_begin_frame impl.InsideBeginFrame = true
is_inside_begin_frame _ = false

abbrev pub is_inside_deadline : ImplState → Bool
is_inside_deadline impl.InsideDeadline = true
is_inside_deadline _ = false

-- no main frame is in flight; one was sent and has not ended; one has a commit that was not taken yet
abbrev pub is_main_idle : MainState → Bool
is_main_idle main.Idle = true
is_main_idle _ = false

abbrev pub is_sent : MainState → Bool
is_sent main.Sent = true
is_sent _ = false

abbrev pub is_ready_to_commit : MainState → Bool
is_ready_to_commit main.ReadyToCommit = true
is_ready_to_commit _ = false

-- the impl frame was begun for a draw; for a main frame alone
abbrev pub is_for_draw : Begun → Bool
is_for_draw begun.ForDraw = true
is_for_draw _ = false

abbrev pub is_plain : Begun → Bool
is_plain begun.Plain = true
is_plain _ = false

-- the states in which an event of each kind may come
abbrev pub may : Sched → Kind → Bool
may s kind.BeginDraw = is_idle s.impl_state
may s kind.BeginPlain = is_idle s.impl_state && is_main_idle s.main_state
may s kind.Send = is_inside_begin_frame s.impl_state && is_main_idle s.main_state && not s.sent_in_frame
may s kind.Ready = is_sent s.main_state
may s kind.Abort = is_sent s.main_state
may s kind.Commit = not (is_inside_deadline s.impl_state) && is_ready_to_commit s.main_state && not s.has_pending
may s kind.Activate = not (is_inside_deadline s.impl_state) && s.has_pending
may s kind.Scroll = not (is_inside_deadline s.impl_state)
may s kind.Wheel = not (is_inside_deadline s.impl_state)
may s kind.Start = true
may s kind.Done = true
may s kind.Draw = is_inside_begin_frame s.impl_state && is_for_draw s.begun
may s kind.Skip = is_inside_begin_frame s.impl_state && is_for_draw s.begun
may s kind.NoDraw = is_inside_begin_frame s.impl_state && is_plain s.begun && s.sent_in_frame
may s kind.Finish = is_inside_deadline s.impl_state
may s kind.Await = is_idle s.impl_state
may s kind.Settle = is_idle s.impl_state && not s.has_pending
may s kind.End = is_idle s.impl_state && is_main_idle s.main_state && not s.has_pending
may s kind.Stop = true

-- inside an impl frame that was begun for this and has sent nothing yet
abbrev pub begun_for : Begun → Sched → Sched
begun_for b s = record s { impl_state = impl.InsideBeginFrame; begun = b; sent_in_frame = false }

-- the state after an event of each kind; what is not named stays
abbrev pub sched_after : Sched → Kind → Sched
sched_after s kind.BeginDraw = begun_for begun.ForDraw s
sched_after s kind.BeginPlain = begun_for begun.Plain s
sched_after s kind.Send = record s { main_state = main.Sent; sent_in_frame = true }
sched_after s kind.Ready = record s { main_state = main.ReadyToCommit }
sched_after s kind.Abort = record s { main_state = main.Idle }
sched_after s kind.Commit = record s { main_state = main.Idle; has_pending = true }
sched_after s kind.Activate = record s { has_pending = false }
sched_after s kind.Draw = record s { impl_state = impl.InsideDeadline }
sched_after s kind.Skip = record s { impl_state = impl.InsideDeadline }
sched_after s kind.NoDraw = record s { impl_state = impl.InsideDeadline }
sched_after s kind.Finish = record s { impl_state = impl.Idle; begun = begun.Nothing; sent_in_frame = false }
sched_after s _ = s
