-- Runs that stay on course, part by part.
use Rattle.std.proofs.Common.{◌≡◌, ℕ, Bool, true, false, not, ◌||◌, List, [], ◌∷◌, ◌++◌, ◌<◌, length, refl, ap, sym, ◌∙◌, append_assoc, subst, arith}
use Rattle.std.specs.Prelude.{reverse, Result, Ok, Err, IfErr, IfOk, OnOk}
use Rattle.std.proofs.lemmas.List.{reverse-append, reverse-reverse}
use Rattle.model_history.specs.declared.history.Entry.{Entry}
use Rattle.model_history.specs.declared.input.Input.{Input}
use Rattle.model_states.specs.declared.kind.Kind.TheVariants as kind
use Rattle.model_history.specs.declared.input.Input.TheVariants as input
use Rattle.model_history.specs.Frames.{is_left}
use Rattle.model_history.specs.Lockstep.{Enters, InputSteps, IsLockstep, Round, Step, is_possible, waits}
use Rattle.model_history.specs.Scripts.{ScriptModel}
use Rattle.model_history.proofs.LockstepWords as words
use Rattle.model_lockstep.specs.Measures.{rounds_left}
use Rattle.model_lockstep.specs.Walks.{Way, WalkState, CanFollow, Follows, BeginsLockstep, PlaysEnd, PlaysPart, entering, has_rounds, input_played, is_waited_for, rest_played, run_end}
use Rattle.model_lockstep.specs.Receivers.{Begins, HasTaken, OnCourse, ReachesEnd, Part, OneRound, Rest, TheEnd, Since, StaysOn, TakesPart, part_played, whole_played}
use Rattle.model_lockstep.proofs.Following.{turn_first, turn_before, none_first, none_before}
use Rattle.model_lockstep.proofs.Fronts as fronts
use Rattle.model_lockstep.proofs.Fronts.{Grows, both}
use Rattle.model_lockstep.proofs.Parts as parts

-- a past that leads to the end of the lockstep history begins it
begins_whole : (left : List Input) (r : WalkState) (past : List Entry) → (end : List Entry) → IsLockstep r.script (reverse end) → (newer : List Entry) → end ≡ newer ++ past → BeginsLockstep r.script (reverse past)
begins_whole left r past end lockstep newer is =
    (reverse newer, subst (λ (es : List Entry). IsLockstep r.script es) (ap (λ (h : List Entry). reverse h) is ∙ reverse-append newer past) lockstep)

-- what was played so far begins it
pub course_begins : (left : List Input) (r : WalkState) → OnCourse left r → BeginsLockstep r.script (reverse r.past)
course_begins left r course =
    let more = both (InputSteps r.script left) (run_end r.script) (parts.inputs_grow left r.script) (parts.end_grows r.script) r.past course.end course.way in
    begins_whole left r r.past course.end (course.leads course.end course.way) more.0 more.1

-- ---- parts

-- awaits wait as long as this holds
abbrev waits_on : ScriptModel → List Entry → Bool
waits_on s h = not (is_possible s kind.Await 0 h)

-- what does not wait is what is left
pub rest_can : (i : Input) (r : WalkState) → is_waited_for i r ≡ false → CanFollow (input_played i) r → CanFollow (rest_played i) r
rest_can (input.Await f) r none c = record { end = c.end; way = none_first (waits_on r.script) (Round r.script) (Enters r.script kind.Await 0) r.past c.end none c.way }
rest_can (input.Scroll sc dx dy) r none c = record { end = c.end; way = c.way }
rest_can (input.Wheel x y dx dy) r none c = record { end = c.end; way = c.way }
rest_can input.Draw r none c = record { end = c.end; way = c.way }
rest_can input.Settle r none c = record { end = c.end; way = c.way }

rest_way : (i : Input) (r : WalkState) (g : List Entry) → is_waited_for i r ≡ false → rest_played i r.script r.past g → input_played i r.script r.past g
rest_way (input.Await f) r g none q = none_before (waits_on r.script) (Round r.script) (Enters r.script kind.Await 0) r.past g none q
rest_way (input.Scroll sc dx dy) r g none q = q
rest_way (input.Wheel x y dx dy) r g none q = q
rest_way input.Draw r g none q = q
rest_way input.Settle r g none q = q

rest_grows : (i : Input) (s : ScriptModel) → Grows (rest_played i s)
rest_grows (input.Await f) s = fronts.enters s kind.Await 0
rest_grows (input.Scroll sc dx dy) s = fronts.enters s kind.Scroll 0
rest_grows (input.Wheel x y dx dy) s = fronts.enters s kind.Wheel 0
rest_grows input.Draw s = parts.input_grows input.Draw s
rest_grows input.Settle s = parts.input_grows input.Settle s

-- an await that waits begins with a round
pub round_can : (i : Input) (r : WalkState) → is_waited_for i r ≡ true → CanFollow (input_played i) r → CanFollow Round r
round_can (input.Await f) r t c = let turn = turn_first (waits_on r.script) (Round r.script) (Enters r.script kind.Await 0) r.past c.end t c.way in record { end = turn.0; way = turn.1 }
round_can (input.Scroll sc dx dy) r t c = absurd cc
round_can (input.Wheel x y dx dy) r t c = absurd cc
round_can input.Draw r t c = absurd cc
round_can input.Settle r t c = absurd cc

-- and goes on after it
after_round : (i : Input) (r : WalkState) (m g : List Entry) → is_waited_for i r ≡ true → Round r.script r.past m → input_played i r.script r.past g → input_played i r.script m g
after_round (input.Await f) r m g t p q =
    let turn = turn_first (waits_on r.script) (Round r.script) (Enters r.script kind.Await 0) r.past g t q in
    subst (λ (z : List Entry). input_played (input.Await f) r.script z g) ((words.round r.script).one r.past turn.0 m turn.1 p) turn.2
after_round (input.Scroll sc dx dy) r m g t p q = absurd cc
after_round (input.Wheel x y dx dy) r m g t p q = absurd cc
after_round input.Draw r m g t p q = absurd cc
after_round input.Settle r m g t p q = absurd cc

before_round : (i : Input) (r : WalkState) (m g : List Entry) → is_waited_for i r ≡ true → Round r.script r.past m → input_played i r.script m g → input_played i r.script r.past g
before_round (input.Await f) r m g t p q = turn_before (waits_on r.script) (Round r.script) (Enters r.script kind.Await 0) r.past m g t p q
before_round (input.Scroll sc dx dy) r m g t p q = absurd cc
before_round (input.Wheel x y dx dy) r m g t p q = absurd cc
before_round input.Draw r m g t p q = absurd cc
before_round input.Settle r m g t p q = absurd cc

-- the end of a run the same
abbrev goes_on : ScriptModel → List Entry → Bool
goes_on s h = is_left s h || waits h

pub end_rest_can : (r : WalkState) → has_rounds r ≡ false → CanFollow run_end r → CanFollow (entering kind.End 0) r
end_rest_can r none c = record { end = c.end; way = none_first (goes_on r.script) (Round r.script) (Enters r.script kind.End 0) r.past c.end none c.way }

pub end_round_can : (r : WalkState) → has_rounds r ≡ true → CanFollow run_end r → CanFollow Round r
end_round_can r t c = let turn = turn_first (goes_on r.script) (Round r.script) (Enters r.script kind.End 0) r.past c.end t c.way in record { end = turn.0; way = turn.1 }

end_after_round : (r : WalkState) (m g : List Entry) → has_rounds r ≡ true → Round r.script r.past m → run_end r.script r.past g → run_end r.script m g
end_after_round r m g t p q =
    let turn = turn_first (goes_on r.script) (Round r.script) (Enters r.script kind.End 0) r.past g t q in
    subst (λ (z : List Entry). run_end r.script z g) ((words.round r.script).one r.past turn.0 m turn.1 p) turn.2

-- ---- inputs

-- the first of the inputs that are left
module _ (left after : List Input) (i : Input) (is : left ≡ i ∷ after) where
  there : (r : WalkState) (g : List Entry) → whole_played left r.script r.past g → whole_played (i ∷ after) r.script r.past g
  there r g way = subst (λ (inputs : List Input). whole_played inputs r.script r.past g) is way

  pub first_can : (r : WalkState) → OnCourse left r → CanFollow (input_played i) r
  first_can r course = let way = there r course.end course.way in record { end = way.1.0; way = way.1.1 }

  pub first_played : (old new : WalkState) → OnCourse left old → HasTaken (input_played i) old new → OnCourse after new
  first_played old new course taken =
      let s : ScriptModel = old.script in
      let h : List Entry = old.past in
      let way = there old course.end course.way in
      let one : way.1.0 ≡ new.past = (parts.input_good i s).one h way.1.0 new.past way.1.1 taken.way in
      record {
        all = taken.all;
        end = course.end;
        way =
            subst (λ (z : ScriptModel). whole_played after z new.past course.end) (sym taken.same)
            (way.0, subst (λ (g : List Entry). InputSteps s after g way.0) one way.1.2, way.2);
        leads = λ g on.
            let from : whole_played after s new.past g = subst (λ (z : ScriptModel). whole_played after z new.past g) taken.same on in
            let all : whole_played (i ∷ after) s h g = (from.0, (new.past, taken.way, from.1), from.2) in
            subst (λ (z : ScriptModel). IsLockstep z (reverse g)) (sym taken.same) (course.leads g (subst (λ (inputs : List Input). whole_played inputs s h g) (sym is) all));
      }

  rest_taken : (old new : WalkState) → is_waited_for i old ≡ false → HasTaken (rest_played i) old new → HasTaken (input_played i) old new
  rest_taken old new none taken = record { same = taken.same; all = taken.all; way = rest_way i old new.past none taken.way }

  -- a round of the first input leaves them all
  round_played : (old new : WalkState) → is_waited_for i old ≡ true → OnCourse left old → HasTaken Round old new → OnCourse left new
  round_played old new t course taken =
      let s : ScriptModel = old.script in
      let h : List Entry = old.past in
      let way = there old course.end course.way in
      let on : input_played i s new.past way.1.0 = after_round i old new.past way.1.0 t taken.way way.1.1 in
      record {
        all = taken.all;
        end = course.end;
        way =
            subst (λ (z : ScriptModel). whole_played left z new.past course.end) (sym taken.same)
            (subst (λ (inputs : List Input). whole_played inputs s new.past course.end) (sym is) (way.0, (way.1.0, on, way.1.2), way.2));
        leads = λ g later.
            let from : whole_played (i ∷ after) s new.past g =
            subst (λ (inputs : List Input). whole_played inputs s new.past g) is (subst (λ (z : ScriptModel). whole_played left z new.past g) taken.same later) in
            let all : whole_played (i ∷ after) s h g = (from.0, (from.1.0, before_round i old new.past from.1.0 t taken.way from.1.1, from.1.2), from.2) in
            subst (λ (z : ScriptModel). IsLockstep z (reverse g)) (sym taken.same) (course.leads g (subst (λ (inputs : List Input). whole_played inputs s h g) (sym is) all));
      }

  -- after what is left of the first input the others are left
  pub stays_on : (first old new : WalkState) → StaysOn left first old → TakesPart i true old new → StaysOn after first new
  stays_on first old new stays (none, taken) = record { course = first_played old new stays.course (rest_taken old new none taken); script = taken.same ∙ stays.script }

  -- after a round of it they are all left
  pub stays_there : (first old new : WalkState) → StaysOn left first old → TakesPart i false old new → StaysOn left first new
  stays_there first old new stays (t, taken) = record { course = round_played old new t stays.course taken; script = taken.same ∙ stays.script }

  -- a past that begins what the first input brings
  pub first_begins : (r : WalkState) (past : List Entry) → OnCourse left r → Begins (input_played i) r past → BeginsLockstep r.script (reverse past)
  first_begins r past course begins =
      let way = there r course.end course.way in
      let one : way.1.0 ≡ begins.end = (parts.input_good i r.script).one r.past way.1.0 begins.end way.1.1 begins.way in
      let more = both (InputSteps r.script after) (run_end r.script) (parts.inputs_grow after r.script) (parts.end_grows r.script) way.1.0 course.end (way.0, way.1.2, way.2) in
      begins_whole left r past course.end (course.leads course.end course.way) (more.0 ++ begins.newer)
      (more.1 ∙ ap (λ (h : List Entry). more.0 ++ h) (one ∙ begins.beginning) ∙ sym (append_assoc more.0 begins.newer past))

no_inputs : (is : List Input) → length is ≡ 0 → is ≡ []
no_inputs [] e = refl
no_inputs (i ∷ is) e = absurd (omega (arith, e))

-- nothing is left of the inputs
pub none_left : (left : List Input) (first r : WalkState) → length left ≡ 0 → StaysOn left first r → StaysOn [] first r
none_left left first r none stays = subst (λ (is : List Input). StaysOn is first r) (no_inputs left none) stays

pub end_can : (r : WalkState) → OnCourse [] r → CanFollow run_end r
end_can r course = record { end = course.end; way = subst (λ (h : List Entry). run_end r.script h course.end) course.way.1 course.way.2 }

end_played : (old : WalkState) (past : List Entry) → OnCourse [] old → run_end old.script old.past past → IsLockstep old.script (reverse past)
end_played old past course way = course.leads past (old.past, refl, way)

-- a round leaves the end
end_round_played : (old new : WalkState) → has_rounds old ≡ true → OnCourse [] old → HasTaken Round old new → OnCourse [] new
end_round_played old new t course taken =
    let s : ScriptModel = old.script in
    let can = end_can old course in
    record {
      all = taken.all;
      end = can.end;
      way = subst (λ (z : ScriptModel). whole_played [] z new.past can.end) (sym taken.same) (new.past, refl, end_after_round old new.past can.end t taken.way can.way);
      leads = λ g later.
          let from : whole_played [] s new.past g = subst (λ (z : ScriptModel). whole_played [] z new.past g) taken.same later in
          let on : run_end s new.past g = subst (λ (z : List Entry). run_end s z g) from.1 from.2 in
          subst (λ (z : ScriptModel). IsLockstep z (reverse g)) (sym taken.same)
          (end_played old g course (turn_before (goes_on s) (Round s) (Enters s kind.End 0) old.past new.past g t taken.way on));
    }

-- the end itself ends the run
ends_here : (old new : WalkState) → has_rounds old ≡ false → OnCourse [] old → HasTaken (entering kind.End 0) old new → IsLockstep old.script (reverse new.past)
ends_here old new none course taken = end_played old new.past course (none_before (goes_on old.script) (Round old.script) (Enters old.script kind.End 0) old.past new.past none taken.way)

-- a past that begins the end of the run
pub end_begins : (r : WalkState) (past : List Entry) → OnCourse [] r → Begins run_end r past → BeginsLockstep r.script (reverse past)
end_begins r past course begins = begins_whole [] r past begins.end (end_played r begins.end course begins.way) begins.newer begins.beginning

-- ---- a step

-- what was followed can be taken
pub since : (i : Input) (over : Bool) (old now : WalkState) → old.written ≡ length old.past → PlaysPart i over old now → Since old now
since i true old now all (none, follows) = record { all = all; part = Rest i; follows = follows }
since i false old now all (t, follows) = record { all = all; part = OneRound; follows = follows }

pub since_end : (over : Bool) (old now : WalkState) → old.written ≡ length old.past → PlaysEnd over old now → Since old now
since_end true old now all (none, follows) = record { all = all; part = TheEnd; follows = follows }
since_end false old now all (t, follows) = record { all = all; part = OneRound; follows = follows }

-- a way was followed, and then all was taken
taken : (P : Way) (old mid new : WalkState) → Follows P old mid → new.script ≡ mid.script → new.past ≡ mid.past → new.written ≡ length mid.past → HasTaken P old new
taken P old mid new follows script past all = record {
  same = script ∙ follows.same;
  all = all ∙ ap (λ (h : List Entry). length h) (sym past);
  way = subst (λ (h : List Entry). P old.script old.past h) (sym past) follows.way;
}

pub part_taken : (i : Input) (over : Bool) (old mid new : WalkState) → PlaysPart i over old mid → new.script ≡ mid.script → new.past ≡ mid.past → new.written ≡ length mid.past → TakesPart i over old new
part_taken i true old mid new (none, follows) script past all = (none, taken (rest_played i) old mid new follows script past all)
part_taken i false old mid new (t, follows) script past all = (t, taken Round old mid new follows script past all)

-- a part begins what the input brings
pub begins_part : (i : Input) (over : Bool) (old now : WalkState) → CanFollow (input_played i) old → PlaysPart i over old now → Begins (input_played i) old now.past
begins_part i true old now can (none, follows) = record { end = now.past; way = rest_way i old now.past none follows.way; newer = []; beginning = refl }
begins_part i false old now can (t, follows) =
    let more = parts.input_grows i old.script now.past can.end (after_round i old now.past can.end t follows.way can.way) in
    record { end = can.end; way = can.way; newer = more.0; beginning = more.1 }

begins_end_part : (over : Bool) (old now : WalkState) → CanFollow run_end old → PlaysEnd over old now → Begins run_end old now.past
begins_end_part true old now can (none, follows) = record { end = now.past; way = none_before (goes_on old.script) (Round old.script) (Enters old.script kind.End 0) old.past now.past none follows.way; newer = []; beginning = refl }
begins_end_part false old now can (t, follows) =
    let more = parts.end_grows old.script now.past can.end (end_after_round old now.past can.end t follows.way can.way) in
    record { end = can.end; way = can.way; newer = more.0; beginning = more.1 }

-- what was played of the end begins the lockstep history
pub begins_end : (over : Bool) (old now : WalkState) → OnCourse [] old → PlaysEnd over old now → BeginsLockstep old.script (reverse now.past)
begins_end over old now course plays = end_begins old now.past course (begins_end_part over old now (end_can old course) plays)

-- a part of the end was played, and then all was taken
pub reaches_end : (over : Bool) (old mid new : WalkState) → OnCourse [] old → PlaysEnd over old mid → new.script ≡ mid.script → new.past ≡ mid.past → new.written ≡ length mid.past → ReachesEnd over old new
reaches_end true old mid new course (none, follows) script past all = ends_here old new none course (taken (entering kind.End 0) old mid new follows script past all)
reaches_end false old mid new course (t, follows) script past all =
    let round : HasTaken Round old new = taken Round old mid new follows script past all in
    let fewer = parts.fewer_rounds old mid follows in (
      record { course = end_round_played old new t course round; script = round.same },
      subst (λ (z : ScriptModel). rounds_left z new.past < rounds_left old.script old.past) (sym script)
          (subst (λ (h : List Entry). rounds_left mid.script h < rounds_left old.script old.past) (sym past) fewer),
    )

-- what was there before begins what the way brings, too
pub begins_none : (P : Way) (old : WalkState) → ((s : ScriptModel) → Grows (P s)) → CanFollow P old → Begins P old old.past
begins_none P old grows can = let more = grows old.script old.past can.end can.way in record { end = can.end; way = can.way; newer = more.0; beginning = more.1 }

-- what was entered since all was taken
part_grows : (p : Part) (s : ScriptModel) → Grows (part_played p s)
part_grows OneRound s = fronts.round s
part_grows (Rest i) s = rest_grows i s
part_grows TheEnd s = fronts.enters s kind.End 0

pub newer_since : (old now : WalkState) → Since old now → (newer : List Entry) × (now.past ≡ newer ++ old.past)
newer_since old now since = part_grows since.part old.script old.past now.past since.follows.way

pub same_since : (old now : WalkState) → Since old now → now.script ≡ old.script
same_since old now since = since.follows.same

pub count_since : (old now : WalkState) → Since old now → now.written ≡ length old.past
count_since old now since = since.follows.written ∙ since.all

-- ---- answers

-- what holds however it ends holds where it ends well
pub in_ok : {A E : Type 0} (result : Result A E) (P : Type 0) → P → OnOk result P
in_ok (Ok x) P p = p
in_ok (Err e) P p = tt

-- what is told of a fault, told otherwise
pub err_as : {A E : Type 0} (F G : E → Type 0) (result : Result A E) → ((e : E) → F e → G e) → IfErr result F → IfErr result G
err_as F G (Ok x) is holds = tt
err_as F G (Err e) is holds = is e holds
