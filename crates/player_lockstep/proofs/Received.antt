-- What is taken of a run that was followed from where all was taken.
use Rattle.std.proofs.Common.{◌≡◌, ℕ, ◌≤◌, List, [], ◌++◌, length, take, refl, ap, sym, ◌∙◌, append_assoc, append-nil, subst, arith}
use Rattle.std.specs.Prelude.{reverse, Option, None, Result, Ok, Err, IfErr, OnOk, ⊤}
use Rattle.std.proofs.lemmas.List.{length-reverse, reverse-append, reverse-reverse, take_at}
use Rattle.byte_io.specs.Pieces.{GainsPrefix, PutsAll, WriteCause}
use Rattle.byte_io.specs.declared.writing.PutFault.{PutFault}
use Rattle.byte_io.specs.declared.writing.PutFault.TheVariants.{Memory}
use Rattle.std.specs.declared.alloc.AllocError.{AllocError}
use Rattle.viz_scene.specs.Views.{SceneView}
use Rattle.model_history.specs.declared.history.Entry.{Entry}
use Rattle.model_history.specs.declared.input.Input.{Input}
use Rattle.model_history.specs.Accepted.{IsAccepted}
use Rattle.model_history.specs.Lockstep.{IsLockstep}
use Rattle.model_history.specs.Recordings.{header, pieces}
use Rattle.model_history.specs.Scripts.{ScriptModel}
use Rattle.model_lockstep.specs.Walks.{WalkState, CanFollow}
use Rattle.model_lockstep.specs.Receivers.{OnCourse, Since, StopsAt, whole_played}
use Rattle.model_lockstep.proofs.Courses.{newer_since, same_since, count_since}
use Rattle.model_lockstep.proofs.Parts as parts
use Rattle.impl_log.specs.Runs.{Run, past}
use Rattle.proxy_single_thread.specs.Singles.{SingleModel, walk_of}
use Rattle.thread_pieces.proofs.Gains.{blames_from, gains_longer}
use Rattle.recording_writer.proofs.Gains.{parts_join, written_after}
use Rattle.recording_writer.proofs.KeptPictures.{keeps_longer}
use Rattle.recording_writer.specs.declared.recorder.Recorder.{Recorder}
use Rattle.recording_writer.specs.Parts.{Half, WritesPart}
use Rattle.recording_writer.specs.Repeats.{Keeps, KeepsFrom}
use Rattle.script_json.specs.Recordings.{script_text, recording}
use Rattle.player_lockstep.specs.Recordings.{IsLockstepRecording}
use Rattle.player_lockstep.specs.Films.{Films, images_before, last_image, IsLastImage}
use Rattle.player_lockstep.specs.inner.Filming.{newer_images, standing, standing_at}
use Rattle.player_lockstep.specs.inner.Receivers.{Began, FilmStopped, HasFilmed, HasGathered, HasRecorded, RecordStopped, Waited}
use Rattle.player_lockstep.specs.inner.Shooting.{shown}
use Rattle.player_lockstep.specs.inner.Ways.{IsFresh, IsWritten}
use Rattle.player_lockstep.proofs.FilmedRuns.{begun_film, fresh_all, fresh_images, fresh_past, fresh_script, images_grow, whole_film}
use Rattle.player_lockstep.proofs.RecordedRuns.{fresh_can, text_grows, whole_of}

-- ---- a run before anything was entered

-- it is on course
pub fresh_course : (s : ScriptModel) (inputs : List Input) (m : SingleModel) → IsFresh s m → IsAccepted s → inputs ≡ s.inputs → OnCourse inputs (walk_of m)
fresh_course s inputs m fresh accepted is =
    let can : CanFollow (whole_played inputs) (walk_of m) = fresh_can s m inputs fresh accepted is in
    let own : inputs ≡ m.run.script.inputs = is ∙ ap (λ (z : ScriptModel). z.inputs) (sym (fresh_script s m fresh)) in
    record {
      all = fresh_all s m fresh ∙ sym (length-reverse m.run.entries);
      end = can.end;
      way = can.way;
      leads = λ g way. parts.is_lockstep (standing_at m.run) inputs (standing m.run.script g) (fresh_past s m fresh) own (record { same = refl; written = refl; way = way });
    }

-- ---- films

module _ (b : Began) (old : WalkState) (now : SingleModel) (before after : Option (List ℕ)) (f g : ℕ) (is : Since old (walk_of now)) (had : HasFilmed b old.script old.past before f) (few : f ≤ g) where
  -- the images of what was entered since were put after those before, or a prefix of them
  film_put : {X : Type 0} (result : Result X PutFault) → ((newer h : List Entry) → past now.run ≡ newer ++ h → now.written ≡ length h → PutsAll before after (newer_images now.run.script newer h) result)
      → PutsAll b.held after (images_before old.script (past now.run)) result
  film_put result puts =
      let more = newer_since old (walk_of now) is in
      let put = puts more.0 old.past more.1 (count_since old (walk_of now) is) in
      let here = subst (λ (s : ScriptModel). PutsAll before after (newer_images s more.0 old.past) result) (same_since old (walk_of now) is) put in
      let whole : images_before old.script old.past ++ newer_images old.script more.0 old.past ≡ images_before old.script (past now.run) =
      sym (ap (λ (h : List Entry). images_before old.script h) more.1 ∙ images_grow old.script more.0 old.past) in
      written_after result b.held before after (images_before old.script old.past) (newer_images old.script more.0 old.past) (images_before old.script (past now.run)) had.bytes here whole

  pub film_has : {X : Type 0} (result : Result X PutFault) → ((newer h : List Entry) → past now.run ≡ newer ++ h → now.written ≡ length h → PutsAll before after (newer_images now.run.script newer h) result)
      → OnOk result (HasFilmed b old.script (past now.run) after g)
  film_has (Ok x) puts = record { bytes = film_put (Ok x) puts; grows = omega (arith, had.grows, few) }
  film_has (Err fault) puts = tt

  pub film_stopped : {X : Type 0} (result : Result X PutFault) → ((newer h : List Entry) → past now.run ≡ newer ++ h → now.written ≡ length h → PutsAll before after (newer_images now.run.script newer h) result)
      → WriteCause f g result → IfErr result (λ fault. FilmStopped b old.script (past now.run) fault after g)
  film_stopped (Ok x) puts cause = tt
  film_stopped {X} (Err fault) puts cause = record {
    bytes = film_put {X = X} (Err fault) puts;
    grows = omega (arith, had.grows, few);
    cause = blames_from {X = ⊤} b.faults f g (Err fault) had.grows cause;
  }

-- memory was refused to what is played, and nothing more was put
pub film_refused : (b : Began) (s : ScriptModel) (past : List Entry) (error : AllocError) (now : Option (List ℕ)) (f : ℕ) → HasFilmed b s past now f → FilmStopped b s past (Memory error) now f
film_refused b s past error now f had = record { bytes = (images_before s past, [], append-nil (images_before s past), had.bytes); grows = had.grows; cause = tt }

-- a sink to which nothing was put yet
abbrev pub began : Option (List ℕ) → ℕ → Began
began held faults = record { held = held; faults = faults }

pub fresh_film : (s : ScriptModel) (m : SingleModel) (held : Option (List ℕ)) (f : ℕ) → IsFresh s m → HasFilmed (began held f) m.run.script (past m.run) held f
fresh_film s m held f fresh = record { bytes = fresh_images s m held fresh; grows = omega arith }

module _ (s : ScriptModel) (m new : SingleModel) (held after : Option (List ℕ)) (f g : ℕ) (fresh : IsFresh s m) where
  pub film_all : {X : Type 0} (result : Result X PutFault) → OnOk result (IsLockstep m.run.script (reverse (past new.run))) → OnOk result (HasFilmed (began held f) m.run.script (past new.run) after g)
      → IfErr result (λ fault. StopsAt m.run.script (λ past. FilmStopped (began held f) m.run.script past fault after g)) → Films s held after result
  film_all {X} (Ok x) lockstep has stopped =
      subst (λ (z : ScriptModel). Films {X = X} z held after (Ok x)) (fresh_script s m fresh) (whole_film m.run.script held after (past new.run) lockstep has.bytes)
  film_all {X} (Err fault) lockstep has (played, begins, stopped) =
      subst (λ (z : ScriptModel). Films {X = X} z held after (Err fault)) (fresh_script s m fresh) (begun_film m.run.script held after played begins stopped.bytes)

  pub film_grows : {X : Type 0} (result : Result X PutFault) → OnOk result (HasFilmed (began held f) m.run.script (past new.run) after g)
      → IfErr result (λ fault. StopsAt m.run.script (λ past. FilmStopped (began held f) m.run.script past fault after g)) → f ≤ g
  film_grows (Ok x) has stopped = has.grows
  film_grows (Err fault) has (played, begins, stopped) = stopped.grows

  pub film_cause : {X : Type 0} (result : Result X PutFault) → IfErr result (λ fault. StopsAt m.run.script (λ past. FilmStopped (began held f) m.run.script past fault after g)) → WriteCause f g result
  film_cause (Ok x) stopped = tt
  film_cause (Err fault) (played, begins, stopped) = stopped.cause

-- ---- the newest picture

pub newest_has : (old : WalkState) (now : SingleModel) (before after : Option SceneView) → Since old (walk_of now)
    → ((newer h : List Entry) → past now.run ≡ newer ++ h → now.written ≡ length h → shown before ≡ last_image now.run.script h → shown after ≡ last_image now.run.script (newer ++ h))
    → shown before ≡ last_image old.script old.past → shown after ≡ last_image old.script (past now.run)
newest_has old now before after is keeps had =
    let more = newer_since old (walk_of now) is in
    let same : now.run.script ≡ old.script = same_since old (walk_of now) is in
    keeps more.0 old.past more.1 (count_since old (walk_of now) is) (had ∙ ap (λ (s : ScriptModel). last_image s old.past) (sym same))
    ∙ ap (λ (h : List Entry). last_image now.run.script h) (sym more.1)
    ∙ ap (λ (s : ScriptModel). last_image s (past now.run)) same

pub newest_all : (s : ScriptModel) (m new : SingleModel) (image : Option (List ℕ)) → IsFresh s m → IsLockstep m.run.script (reverse (past new.run)) → image ≡ last_image m.run.script (past new.run) → IsLastImage s image
newest_all s m new image fresh lockstep is =
    subst (λ (z : ScriptModel). IsLastImage z image) (fresh_script s m fresh)
    (reverse (past new.run), lockstep, is ∙ ap (λ (h : List Entry). last_image m.run.script h) (sym (reverse-reverse (past new.run))))

-- ---- recordings

-- the entries since all was taken, the oldest first
module _ (old : WalkState) (now : SingleModel) (is : Since old (walk_of now)) where
  abbrev news : List Entry
  news = reverse (newer_since old (walk_of now) is).0

  entries_since : now.run.entries ≡ reverse old.past ++ news
  entries_since =
      let more = newer_since old (walk_of now) is in
      sym (reverse-reverse now.run.entries) ∙ ap (λ (h : List Entry). reverse h) more.1 ∙ reverse-append more.0 old.past

  taken_since : now.written ≡ length (reverse old.past)
  taken_since = count_since old (walk_of now) is ∙ sym (length-reverse old.past)

  -- what they add to the recording
  text_since : recording old.script (reverse (past now.run)) ≡ recording old.script (reverse old.past) ++ pieces old.script old.past news
  text_since =
      ap (λ (es : List Entry). recording old.script es) (reverse-reverse now.run.entries ∙ entries_since)
      ∙ text_grows old.script (reverse old.past) news
      ∙ ap (λ (h : List Entry). recording old.script (reverse old.past) ++ pieces old.script h news) (reverse-reverse old.past)

  -- the picture of the last draw is kept after what was taken
  pub keeps_since : (r : Recorder) → Keeps old.script old.past (reverse old.past) r.last → Keeps now.run.script (reverse (take now.written now.run.entries)) now.run.entries r.last
  keeps_since r keeps =
      let front : take now.written now.run.entries ≡ reverse old.past =
      ap (λ (es : List Entry). take now.written es) entries_since ∙ take_at (reverse old.past) news now.written (sym taken_since) in
      let before : reverse (take now.written now.run.entries) ≡ old.past = ap (λ (es : List Entry). reverse es) front ∙ reverse-reverse old.past in
      subst (λ (s : ScriptModel). Keeps s (reverse (take now.written now.run.entries)) now.run.entries r.last) (sym (same_since old (walk_of now) is))
      (subst (λ (h : List Entry). Keeps old.script h now.run.entries r.last) (sym before)
      (subst (λ (es : List Entry). Keeps old.script old.past es r.last) (sym entries_since)
      (keeps_longer old.script old.past (reverse old.past) news r.last keeps)))

abbrev WritesNews : SingleModel → Option (List ℕ) → Option (List ℕ) → Recorder → Recorder → Result ⊤ PutFault → Type 0
WritesNews now before after r q result =
    (done news : List Entry) → now.run.entries ≡ done ++ news → now.written ≡ length done → WritesPart before after (r.lines.items ++ pieces now.run.script (reverse done) news) q.lines.items result

module _ (b : Began) (old : WalkState) (now : SingleModel) (before after : Option (List ℕ)) (f g : ℕ) (r q : Recorder) (is : Since old (walk_of now)) (had : HasRecorded b old.script old.past r before f) (few : f ≤ g) where
  -- what was entered since was written after what was before, or a prefix of it
  recorded_part : (result : Result ⊤ PutFault) → WritesNews now before after r q result → WritesPart b.held after (recording old.script (reverse (past now.run))) q.lines.items result
  recorded_part result writes =
      let part = writes (reverse old.past) (news old now is) (entries_since old now is) (taken_since old now is) in
      let here = subst (λ (h : List Entry). WritesPart before after (r.lines.items ++ pieces now.run.script h (news old now is)) q.lines.items result) (reverse-reverse old.past) part in
      let there = subst (λ (s : ScriptModel). WritesPart before after (r.lines.items ++ pieces s old.past (news old now is)) q.lines.items result) (same_since old (walk_of now) is) here in
      subst (λ (w : List ℕ). WritesPart b.held after w q.lines.items result) (sym (text_since old now is))
      (parts_join result b.held before after [] (recording old.script (reverse old.past)) r.lines.items (pieces old.script old.past (news old now is)) q.lines.items had.bytes there)

  pub recorded_has : (new : SingleModel) (result : Result ⊤ PutFault) → new.run ≡ now.run → OnOk result (IsWritten new q) → WritesNews now before after r q result → OnOk result (HasRecorded b old.script (past now.run) q after g)
  recorded_has new (Ok x) same written writes =
      let all = subst (λ (z : Run). Keeps z.script (past z) z.entries q.last) same written.keeps in
      let here = subst (λ (s : ScriptModel). Keeps s (past now.run) now.run.entries q.last) (same_since old (walk_of now) is) all in
      record {
        bytes = recorded_part (Ok x) writes;
        keeps = subst (λ (es : List Entry). Keeps old.script (past now.run) es q.last) (sym (reverse-reverse now.run.entries)) here;
        grows = omega (arith, had.grows, few);
      }
  recorded_has new (Err fault) same written writes = tt

  pub recorded_stopped : (result : Result ⊤ PutFault) → WritesNews now before after r q result → WriteCause f g result → IfErr result (λ fault. RecordStopped b old.script (past now.run) fault after g)
  recorded_stopped (Ok x) writes cause = tt
  recorded_stopped (Err fault) writes cause = record {
    bytes = recorded_part (Err fault) writes;
    grows = omega (arith, had.grows, few);
    cause = blames_from {X = ⊤} b.faults f g (Err fault) had.grows cause;
  }

pub recorded_refused : (b : Began) (s : ScriptModel) (past : List Entry) (error : AllocError) (r : Recorder) (now : Option (List ℕ)) (f : ℕ) → HasRecorded b s past r now f → RecordStopped b s past (Memory error) now f
recorded_refused b s past error r now f had = record { bytes = (had.bytes.0, r.lines.items, had.bytes.1, had.bytes.2); grows = had.grows; cause = tt }

-- before anything was entered, the recording is the lines before the events
pub fresh_recorded : (s : ScriptModel) (m : SingleModel) (r : Recorder) (start now : Option (List ℕ)) (f : ℕ) → IsFresh s m → r.last.place ≡ None → Half start now (header (script_text s)) r.lines.items
    → HasRecorded (began start f) m.run.script (past m.run) r now f
fresh_recorded s m r start now f fresh none half =
    let text : header (script_text s) ≡ recording s [] = sym (append-nil (header (script_text s))) ∙ whole_of s [] in
    subst (λ (z : SingleModel). HasRecorded (began start f) z.run.script (past z.run) r now f) (sym fresh.1)
    (record {
      bytes = subst (λ (w : List ℕ). Half start now w r.lines.items) text half;
      keeps = subst (λ (o : Option ℕ). KeepsFrom s [] [] r.last.painter.canvas o) (sym none) tt;
      grows = omega arith;
    })

-- the recording of what was played begins that of the history that it begins
begun_recording : (s : ScriptModel) (old new : Option (List ℕ)) (played : List Entry) (later : List Entry) → IsLockstep s (reverse played ++ later) → GainsPrefix old new (recording s (reverse played))
    → (whole : List ℕ) × IsLockstepRecording s whole × GainsPrefix old new whole
begun_recording s old new played later lockstep front = (
  recording s (reverse played ++ later),
  (reverse played ++ later, lockstep, refl),
  subst (λ (w : List ℕ). GainsPrefix old new w) (sym (text_grows s (reverse played) later)) (gains_longer old new (recording s (reverse played)) (pieces s (reverse (reverse played)) later) front),
)

module _ (s : ScriptModel) (m : SingleModel) (start after : Option (List ℕ)) (f g : ℕ) (fresh : IsFresh s m) where
  pub record_stopped : (fault : PutFault) → StopsAt m.run.script (λ past. RecordStopped (began start f) m.run.script past fault after g) → (whole : List ℕ) × IsLockstepRecording s whole × GainsPrefix start after whole
  record_stopped fault (played, begins, stopped) =
      subst (λ (z : ScriptModel). (whole : List ℕ) × IsLockstepRecording z whole × GainsPrefix start after whole) (fresh_script s m fresh)
      (begun_recording m.run.script start after played begins.0 begins.1 stopped.bytes)

  -- all was written but for what was held back, which was put then, or a prefix of it
  pub record_put : {X E : Type 0} (new : SingleModel) (r : Recorder) (end : Option (List ℕ)) (result : Result X E) → IsLockstep m.run.script (reverse (past new.run)) → HasRecorded (began start f) m.run.script (past new.run) r after g
      → PutsAll after end r.lines.items result → (whole : List ℕ) × IsLockstepRecording s whole × PutsAll start end whole result
  record_put new r end result lockstep has puts =
      let whole : List ℕ = recording m.run.script (reverse (past new.run)) in
      subst (λ (z : ScriptModel). (whole : List ℕ) × IsLockstepRecording z whole × PutsAll start end whole result) (fresh_script s m fresh)
      (whole, (reverse (past new.run), lockstep, refl), written_after result start after end has.bytes.0 r.lines.items whole has.bytes.2 puts has.bytes.1)

pub record_entries : (s : ScriptModel) (m new : SingleModel) → IsFresh s m → IsLockstep m.run.script (reverse (past new.run)) → IsLockstep s new.run.entries
record_entries s m new fresh lockstep =
    subst (λ (z : ScriptModel). IsLockstep z new.run.entries) (fresh_script s m fresh) (subst (λ (es : List Entry). IsLockstep m.run.script es) (reverse-reverse new.run.entries) lockstep)

-- ---- batches

pub gathered_has : (b : Waited) (old : WalkState) (now : SingleModel) (before after : List ℕ) → Since old (walk_of now) → ((done news : List Entry) → now.run.entries ≡ done ++ news → now.written ≡ length done → after ≡ before ++ pieces now.run.script (reverse done) news)
    → HasGathered b old.script old.past before → HasGathered b old.script (past now.run) after
gathered_has b old now before after is adds had = λ lead same.
    let more : List Entry = news old now is in
    let added : after ≡ before ++ pieces old.script old.past more =
    adds (reverse old.past) more (entries_since old now is) (taken_since old now is)
    ∙ ap (λ (h : List Entry). before ++ pieces now.run.script h more) (reverse-reverse old.past)
    ∙ ap (λ (s : ScriptModel). before ++ pieces s old.past more) (same_since old (walk_of now) is) in
    ap (λ (w : List ℕ). lead ++ w) added
    ∙ sym (append_assoc lead before (pieces old.script old.past more))
    ∙ ap (λ (w : List ℕ). w ++ pieces old.script old.past more) (had lead same)
    ∙ sym (text_since old now is)
