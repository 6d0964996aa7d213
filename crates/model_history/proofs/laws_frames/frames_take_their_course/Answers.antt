use Rattle.model_history.proofs.Course.{course, sent_are_first, ended_or_in_flight}
use Rattle.model_history.proofs.FrameFacts.{changes_course}
use Rattle.model_history.proofs.laws_frames.frames_take_their_course.Goals as goal

pub returns : goal.returns
returns c = record {
  sent = λ s n h k l. sent_are_first h (course s n h l) k;
  ended = λ s n h k l. ended_or_in_flight h (course s n h l) k;
  one_end = λ s n h k l. (course s n h l).one_end k;
  commit = λ s n h k l. (changes_course s n h l).committed_changed k;
  abort = λ s n h k l. (changes_course s n h l).aborted_unchanged k;
  activated = λ s n h k l t. ((course s n h l).activated_committed k t, (course s n h l).activated_to k t);
  pending = λ s n h k l e. ((course s n h l).pending_committed k e, (course s n h l).pending_not_activated k e, (course s n h l).pending_from k e);
  not_activated = λ s n h k l. (course s n h l).activated_or_pending k;
  state = λ s n h l. (course s n h l).pending_state;
}
