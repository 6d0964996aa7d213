-- Fronts and appends one after the other.
use Rattle.std.proofs.Common.{◌≡◌, inl, inr, arith, ◌≤◌, ℕ, List, [], ◌++◌, take, drop, Option, Some, None, Result, Ok, Err, ap, sym, subst, ◌∙◌, append_assoc}
use Rattle.std.specs.Io.KnownBytes.{Appends}
use Rattle.std.specs.Global.{Vec}
use Rattle.std.proofs.lemmas.List.{take-append-drop}
use Rattle.std.proofs.lemmas.Grind.{flat_map-append}
use Rattle.byte_io.specs.Counts.{Rose}
use Rattle.byte_io.specs.Pieces.{GainsPrefix, NotFailed, PutAppends, PutsAll, WriteCause}
use Rattle.byte_io.specs.declared.writing.PutFault.{PutFault}
use Rattle.byte_io.specs.declared.writing.PutFault.TheVariants as put_fault
use Rattle.thread_pieces.specs.Ring.{joined}
use Rattle.thread_pieces.proofs.Gains.{puts_same}
use Rattle.thread_pieces.specs.Answers.{AddsBytes, Blames, Served, Stops, Takes, answer_for_all}

-- a prefix of the bytes is a prefix of the bytes and more
pub front_more : (old new : Option (List ℕ)) (done more : List ℕ) → GainsPrefix old new done → GainsPrefix old new (done ++ more)
front_more old new done more gains = (gains.0, gains.1 ++ more, sym (append_assoc gains.0 gains.1 more) ∙ ap (λ bytes. bytes ++ more) gains.2, gains.3)

-- two appends are one
pub appends_then : (first old new : Option (List ℕ)) (done more : List ℕ) → Appends first old done → Appends old new more → Appends first new (done ++ more)
appends_then None old new done more a b = tt
appends_then (Some xs) None new done more a b = absurd a
appends_then (Some xs) (Some ys) None done more a b = absurd b
appends_then (Some xs) (Some ys) (Some zs) done more a b = b ∙ ap (λ bytes. bytes ++ more) a ∙ append_assoc xs done more

-- all that was, then a prefix of the piece
pub front_after : (first old new : Option (List ℕ)) (done piece : List ℕ) → Appends first old done → GainsPrefix old new piece → GainsPrefix first new (done ++ piece)
front_after first old new done piece a gains = (done ++ gains.0, gains.1, append_assoc done gains.0 gains.1 ∙ ap (λ bytes. done ++ bytes) gains.2, appends_then first old new done gains.0 a gains.3)

-- a prefix of the same bytes
pub front_same : (first new : Option (List ℕ)) (held bytes : List ℕ) → held ≡ bytes → GainsPrefix first new held → GainsPrefix first new bytes
front_same first new held bytes same gains = (gains.0, gains.1, gains.2 ∙ same, gains.3)

-- an append of the same bytes
pub appends_same : (first new : Option (List ℕ)) (held bytes : List ℕ) → held ≡ bytes → Appends first new held → Appends first new bytes
appends_same first new held bytes same gained = let P : List ℕ → Type 0 = λ all. Appends first new all in subst P same gained

-- what was gained of the bytes that were put is, by the answer for all, gained of all bytes
pub gained_of_all : {X : Type 0} (finished put : Result X PutFault) (first new : Option (List ℕ)) (held bytes : List ℕ) → PutsAll first new held finished → PutsAll (Some []) (Some held) bytes put → PutsAll first new bytes (answer_for_all finished put)
gained_of_all (Ok x) (Ok y) first new held bytes gained filled = appends_same first new held bytes filled gained
gained_of_all (Ok x) (Err fault) first new held bytes gained filled = (filled.0, filled.1, filled.2, appends_same first new held filled.0 filled.3 gained)
gained_of_all (Err fault) (Ok y) first new held bytes gained filled = front_same first new held bytes filled gained
gained_of_all (Err fault) (Err more) first new held bytes gained filled = front_same first new (filled.0 ++ filled.1) bytes filled.2 (front_more first new filled.0 filled.1 (front_same first new held filled.0 filled.3 gained))

-- a fault of the sink has its cause, where putting into the ring gave none
pub blamed_for_all : {X : Type 0} (finished put : Result X PutFault) (old new : ℕ) → NotFailed put → WriteCause old new finished → WriteCause old new (answer_for_all finished put)
blamed_for_all (Ok x) (Ok y) old new memory cause = tt
blamed_for_all (Ok x) (Err put_fault.Failed) old new memory cause = absurd memory
blamed_for_all (Ok x) (Err (put_fault.Memory _)) old new memory cause = tt
blamed_for_all (Err fault) put old new memory cause = cause

-- a refusal for lack of memory left the bytes as they were
pub refusal_keeps : (e : PutFault) (old new piece : List ℕ) → PutAppends {X = Unit {0}} (Some old) (Some new) piece (Err e) → NotFailed {X = Unit {0}} (Err e) → new ≡ old
refusal_keeps put_fault.Failed old new piece appends answers = absurd answers
refusal_keeps (put_fault.Memory _) old new piece appends answers = appends

-- the first n pieces and the rest are all
pub joined_parts : (n : ℕ) (pieces : List (Vec ℕ)) → joined (take n pieces) ++ joined (drop n pieces) ≡ joined pieces
joined_parts n pieces = sym (flat_map-append (λ piece. piece.items) (take n pieces) (drop n pieces)) ∙ ap (λ all. joined all) (take-append-drop n pieces)

-- the first n pieces are a prefix of all
pub gains_pieces : (n : ℕ) (pieces : List (Vec ℕ)) (old new : List ℕ) → new ≡ old ++ joined (take n pieces) → GainsPrefix (Some old) (Some new) (joined pieces)
gains_pieces n pieces old new grown = (joined (take n pieces), joined (drop n pieces), joined_parts n pieces, grown)

-- what was put is added, or a prefix of it
pub puts_add : {X : Type 0} (x : X) (put : Result X PutFault) (old new : Option (List ℕ)) (bytes : List ℕ) → PutsAll old new bytes put → AddsBytes (Ok x) put old new bytes
puts_add x (Ok y) old new bytes put = λ first done given. appends_then first old new done bytes given put
puts_add x (Err fault) old new bytes put = λ first done given. front_after first old new done bytes given put

-- a count that rose has risen from any earlier one
rose_from : (count old new : ℕ) → count ≤ old → Rose old new → Rose count new
rose_from count old new few (inl less) = inl (omega (arith, few, less))
rose_from count old new few (inr last) = inr last

-- a fault of a put has its cause
pub put_blames : {X : Type 0} (x : X) (put : Result X PutFault) (old new : ℕ) → old ≤ new → WriteCause old new put → Blames (Ok x) put old new
put_blames x (Ok y) old new grows cause = λ count few rose. tt
put_blames x (Err put_fault.Failed) old new grows cause = λ count few rose. rose_from count old new few cause
put_blames x (Err (put_fault.Memory _)) old new grows cause = λ count few rose. tt

-- what was served, and then what was taken more
pub served_on : {X : Type 0} (state answer : Result X PutFault) (old mid new : Option (List ℕ)) (before between after : List ℕ) → Served state old mid before between → Takes state answer mid new between after → Served answer old new before after
served_on state answer old mid new before between after served takes =
    (served.0 ++ takes.0, takes.1 ∙ ap (λ bytes. bytes ++ takes.0) served.1 ∙ append_assoc before served.0 takes.0, takes.2 old served.0 served.2)

-- one step and then another add the bytes of both
pub adds_both : {X : Type 0} (one two three : Result X PutFault) (old mid new : Option (List ℕ)) (done more all : List ℕ) → done ++ more ≡ all → AddsBytes one two old mid done → AddsBytes two three mid new more → AddsBytes one three old new all
adds_both one two three old mid new done more all parts adds then = λ first before given.
    puts_same first new ((before ++ done) ++ more) (before ++ all) three (append_assoc before done more ∙ ap (λ bytes. before ++ bytes) parts) (then first (before ++ done) (adds first before given))

-- a stop is kept by a step more
pub stops_on : {X Y : Type 0} (one two three : Result X PutFault) (old mid new : Y) → Stops one two old mid → Stops two three mid new → Stops one three old new
stops_on (Ok x) two three old mid new stops then = tt
stops_on {X = X} (Err fault) two three old mid new stops then =
    let P : Result X PutFault → Type 0 = λ state. Stops state three mid new in
    let stopped : Stops {X = X} (Err fault) three mid new = subst P stops.0 then in
    (stopped.0, stopped.1 ∙ stops.1)

-- a piece that was taken and is lost after a batch
pub taken_and_lost : (before batch mid piece after : List ℕ) → mid ≡ before ++ batch → after ≡ mid ++ piece → (more : List ℕ) × (after ≡ before ++ more)
taken_and_lost before batch mid piece after taken more = (batch ++ piece, more ∙ ap (λ bytes. bytes ++ piece) taken ∙ append_assoc before batch piece)
