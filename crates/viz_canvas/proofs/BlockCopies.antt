-- Bytes that were copied block by block.
use Rattle.std.proofs.Common.{◌≡◌, ℕ, ◌+◌, ◌-◌, ◌<◌, ◌≤◌, List, slice_index, inl, inr, sym, ◌∙◌, ap, arith}
use Rattle.std.proofs.lemmas.Bool.{cases_lt}
use Rattle.viz_canvas.specs.inner.Copies.{AreCopied}

-- the next block, of bytes that go to before where they stand
pub more_to_before : (from to done n : ℕ) (old mid new : List ℕ) → to < from → AreCopied from to done old mid → AreCopied (from + done) (to + done) n mid new
    → AreCopied from to (done + n) old new
more_to_before from to done n old mid new order first next = record {
  inside = λ i lt. elim (cases_lt i done) as (λ _. slice_index new (to + i) ≡ slice_index old (from + i)) [
    | inl low ↦ next.before (to + i) (omega arith) ∙ first.inside i low
    | inr from_there ↦
        let j = i - done in
        let there : to + done + j ≡ to + i = omega arith in
        let source : from + done + j ≡ from + i = omega arith in
        ap (slice_index new) (sym there) ∙ next.inside j (omega arith) ∙ first.after (from + done + j) (omega arith) ∙ ap (slice_index old) source
  ];
  before = λ i lt. next.before i (omega arith) ∙ first.before i lt;
  after = λ i le. next.after i (omega arith) ∙ first.after i (omega arith);
}

-- the block before, of bytes that go to after where they stand
pub more_to_after : (from to left n all : ℕ) (old mid new : List ℕ) → from < to → left + n ≤ all
    → AreCopied (from + (left + n)) (to + (left + n)) (all - (left + n)) old mid → AreCopied (from + left) (to + left) n mid new
    → AreCopied (from + left) (to + left) (all - left) old new
more_to_after from to left n all old mid new order fit first next = record {
  inside = λ i lt. elim (cases_lt i n) as (λ _. slice_index new (to + left + i) ≡ slice_index old (from + left + i)) [
    | inl low ↦ next.inside i low ∙ first.before (from + left + i) (omega arith)
    | inr from_there ↦
        let j = i - n in
        let there : to + (left + n) + j ≡ to + left + i = omega arith in
        let source : from + (left + n) + j ≡ from + left + i = omega arith in
        next.after (to + left + i) (omega arith) ∙ ap (slice_index mid) (sym there) ∙ first.inside j (omega arith) ∙ ap (slice_index old) source
  ];
  before = λ i lt. next.before i lt ∙ first.before i (omega arith);
  after = λ i le. next.after i (omega arith) ∙ first.after i (omega arith);
}
