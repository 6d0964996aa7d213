use Rattle.model_history.proofs.Course.{course}
use Rattle.model_history.proofs.AnsweredFrames.{answered_course, active_answered, pending_answered}
use Rattle.model_history.proofs.laws_frames.sent_frames_are_answered.Goals as goal

pub returns : goal.returns
returns c = record {
  all = λ s n h l. (answered_course s n h l).all;
  all_but_one = λ s n h l. (answered_course s n h l).all_but_one;
  active = λ s n h l. active_answered h (course s n h l) (answered_course s n h l);
  pending = λ s n h l. pending_answered h (course s n h l) (answered_course s n h l);
}
