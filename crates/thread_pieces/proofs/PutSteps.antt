-- Bytes that are put in steps, as one record.
use Rattle.std.proofs.Common.{◌≡◌, ℕ, ◌≤◌, List, [], ◌++◌, refl, ◌∙◌, subst, sym, append-nil, arith}
use Rattle.std.specs.Prelude.{⊤, Result, Ok, Err}
use Rattle.std.specs.declared.alloc.AllocError.{AllocError}
use Rattle.byte_io.specs.Pieces.{PutAppends, PutCause}
use Rattle.byte_io.specs.declared.writing.PutFault.{PutFault}
use Rattle.byte_io.specs.declared.writing.PutFault.TheVariants as put_fault
use Rattle.byte_io.specs.declared.writing.Sink as sink
use Rattle.byte_io.proofs.Puts.{puts_piece, piece_cause}
use Rattle.thread_pieces.specs.Answers.{Presents, Stops}
use Rattle.thread_pieces.specs.Puts.{PutsBytes}
use Rattle.thread_pieces.proofs.Gains.{appends_nothing, gains_nothing, puts_same}
use Rattle.thread_pieces.proofs.RingGains.{adds_both, front_more, put_blames, puts_add, stops_on}

-- no bytes
pub puts_none : {K P : Type 0} (k : sink.Ghosts K P) (out : K) → PutsBytes {X = ⊤} k out out [] (Ok tt)
puts_none k out = record { bytes = appends_nothing (k.held out); grows = omega arith; refusals = omega arith; cause = tt; place = refl }

-- one put
pub puts_one : {K P : Type 0} (k : sink.Ghosts K P) (old new : K) (bytes : List ℕ) (put : Result ⊤ PutFault) → PutAppends (k.held old) (k.held new) bytes put → k.faults old ≤ k.faults new → k.refusals old ≤ k.refusals new → PutCause (k.faults old) (k.faults new) (k.refusals old) (k.refusals new) put → k.place new ≡ k.place old → PutsBytes k old new bytes put
puts_one k old new bytes put appends grows refusals cause place = record { bytes = puts_piece (k.held old) (k.held new) bytes put appends; grows = grows; refusals = refusals; cause = piece_cause (k.faults old) (k.faults new) (k.refusals old) (k.refusals new) put cause; place = place }

-- the same bytes, however they are told
pub puts_as : {K P X : Type 0} (k : sink.Ghosts K P) (old new : K) (bytes all : List ℕ) (put : Result X PutFault) → bytes ≡ all → PutsBytes k old new bytes put → PutsBytes k old new all put
puts_as k old new bytes all put same puts = subst (λ (w : List ℕ). PutsBytes k old new w put) same puts

-- ---- steps of the presenter

-- a put is a step, if none was refused before
pub puts_present : {K P X : Type 0} (k : sink.Ghosts K P) (x : X) (state put : Result X PutFault) (old new : K) (bytes : List ℕ) → state ≡ Ok x → PutsBytes k old new bytes put → Presents k state put old new bytes
puts_present {X = X} k x state put old new bytes is puts =
    let P : Result X PutFault → Type 0 = λ before. Presents k before put old new bytes in
    subst P (sym is) (record {
      adds = puts_add x put (k.held old) (k.held new) bytes puts.bytes;
      faults = puts.grows;
      refusals = puts.refusals;
      stops = tt;
      cause = put_blames x put (k.faults old) (k.faults new) puts.grows puts.cause;
      place = puts.place;
    })

-- after a refusal nothing happens
pub presents_nothing : {K P X : Type 0} (k : sink.Ghosts K P) (state : Result X PutFault) (fault : PutFault) (out : K) (bytes : List ℕ) → state ≡ Err fault → Presents k state (Err fault) out out bytes
presents_nothing {X = X} k state fault out bytes is =
    let P : Result X PutFault → Type 0 = λ before. Presents k before (Err fault) out out bytes in
    subst P (sym is) (record {
      adds = λ first done given. front_more first (k.held out) done bytes given;
      faults = omega arith;
      refusals = omega arith;
      stops = (refl, refl);
      cause = λ count few rose. rose;
      place = refl;
    })

-- memory ran out where none was refused before
pub presents_refused : {K P X : Type 0} (k : sink.Ghosts K P) (x : X) (state : Result X PutFault) (refused : AllocError) (out : K) (bytes : List ℕ) → state ≡ Ok x → Presents k state (Err (put_fault.Memory refused)) out out bytes
presents_refused {X = X} k x state refused out bytes is =
    puts_present k x state (Err (put_fault.Memory refused)) out out bytes is
    (record { bytes = gains_nothing (k.held out) bytes; grows = omega arith; refusals = omega arith; cause = tt; place = refl })

-- no step
no_stop : {X Y : Type 0} (state : Result X PutFault) (out : Y) → Stops state state out out
no_stop (Ok x) out = tt
no_stop (Err fault) out = (refl, refl)

pub presents_none : {K P X : Type 0} (k : sink.Ghosts K P) (state : Result X PutFault) (out : K) → Presents k state state out out []
presents_none k state out = record {
  adds = λ first done given. puts_same first (k.held out) done (done ++ []) state (sym (append-nil done)) given;
  faults = omega arith;
  refusals = omega arith;
  stops = no_stop state out;
  cause = λ count few rose. rose;
  place = refl;
}

-- one step and then another
pub presents_then : {K P X : Type 0} (k : sink.Ghosts K P) (one two three : Result X PutFault) (old mid new : K) (done more all : List ℕ) → done ++ more ≡ all → Presents k one two old mid done → Presents k two three mid new more → Presents k one three old new all
presents_then k one two three old mid new done more all parts first then = record {
  adds = adds_both one two three (k.held old) (k.held mid) (k.held new) done more all parts first.adds then.adds;
  faults = omega (arith, first.faults, then.faults);
  refusals = omega (arith, first.refusals, then.refusals);
  stops = stops_on one two three old mid new first.stops then.stops;
  cause = λ count few blames. then.cause count (omega (arith, few, first.faults)) (first.cause count few blames);
  place = then.place ∙ first.place;
}

-- a step with the same bytes, however they are told
pub presents_as : {K P X : Type 0} (k : sink.Ghosts K P) (one two : Result X PutFault) (old new : K) (bytes all : List ℕ) → bytes ≡ all → Presents k one two old new bytes → Presents k one two old new all
presents_as k one two old new bytes all same step = subst (λ (w : List ℕ). Presents k one two old new w) same step
