-- One act more: what came, what went, and whether the client has no more.
use Rattle.std.specs.Prelude.{◌≡◌, ◌==◌, ℕ, ◌-◌, ◌≤◌, ◌<◌, Bool, true, false, List, [], ◌∷◌, ◌++◌, length, take, drop, ⊤, Some, Ok, Err}
use Rattle.std.proofs.Common.{refl, sym, ap, subst, ◌∙◌, append-nil, append_assoc, arith, length-append, length-take}
use Rattle.std.proofs.lemmas.Bool.Decides.{nat_tests}
use Rattle.std.proofs.lemmas.List.{take-append-drop, drop_all}
use Rattle.player_lines.specs.Sessions.{Act, Got, NotGot, Data, Text, TornData, TornText, came, frame}
use Rattle.byte_io.specs.Pieces.{PutAppends}
use Rattle.byte_io.specs.declared.writing.PutFault.{PutFault}
use Rattle.byte_io.specs.declared.writing.PutFault.TheVariants.{Failed, Memory}
use Rattle.byte_io.specs.Logs.{ends_by}
use Rattle.test_cases.specs.Talks.{IsTold}

-- ---- bytes came

cancel : (front xs ys : List ℕ) → front ++ xs ≡ front ++ ys → xs ≡ ys
cancel [] xs ys is = is
cancel (x ∷ front) xs ys is = cancel front xs ys (cc is)

-- what was left is what came and what is left
pub left_more : (xs came : List ℕ) (g h : ℕ) → take h xs ≡ take g xs ++ came → drop g xs ≡ came ++ drop h xs
left_more xs came g h is =
    let whole : take g xs ++ (came ++ drop h xs) ≡ xs =
    sym (append_assoc (take g xs) came (drop h xs)) ∙ ap (λ (l : List ℕ). l ++ drop h xs) (sym is) ∙ take-append-drop h xs in
    cancel (take g xs) (drop g xs) (came ++ drop h xs) (take-append-drop g xs ∙ sym whole)

-- nothing is left if the end was told
pub none_left : (ended : Bool) (xs : List ℕ) (h n room more : ℕ) → 0 < room → ended ≡ ends_by {E = ⊤} (Ok n) room → (ended ≡ true → h ≡ length xs) → n ≡ 0 → 0 < more → drop h xs ≡ []
none_left ended xs h n room more some told whole none other =
    let at_end : ended ≡ true = told ∙ ends n room none some in
    ap (λ (k : ℕ). drop k xs) (whole at_end) ∙ drop_all (length xs) xs (omega arith)
  where
    ends : (n room : ℕ) → n ≡ 0 → 0 < room → ends_by {E = ⊤} (Ok n) room ≡ true
    ends n room none some =
        let nothing : (n == 0) ≡ true = grind (arith, nat_tests, none) in
        let room_left : (room == 0) ≡ false = grind (arith, nat_tests, some) in
        rw nothing (rw room_left refl)

short : (xs : List ℕ) → length xs ≡ 0 → xs ≡ []
short [] is = refl
short (x ∷ xs) is = absurd (omega (arith, is))

adds_none : (xs ys : List ℕ) → xs ≡ xs ++ ys → length ys ≡ 0
adds_none xs ys is =
    let long = ap length is in
    let both = length-append xs ys in
    omega (arith, long, both)

took_none : (n : ℕ) (buf : List ℕ) → n ≤ length buf → length (take n buf) ≡ 0 → n ≡ 0
took_none n buf fits none =
    let long = length-take n buf in
    omega (arith, fits, none, long)

got_known : (h : List Act) (n : ℕ) (buf left rest all out : List ℕ) → n ≤ length buf → 1 ≤ length buf → left ≡ take n buf ++ rest
    → (n ≡ 0 → 0 < length buf → rest ≡ []) → IsTold h left all out → IsTold (Got (take n buf) ∷ h) rest all out
got_known h n buf left rest all out fits room cut last (heard, said, ended) = (
  append_assoc (came h) (take n buf) rest ∙ ap (λ (l : List ℕ). came h ++ l) (sym cut) ∙ heard,
  said,
  λ none. last (took_none n buf fits (adds_none (came h) (take n buf) none)) (omega (arith, room)),
)

pub got_told : (g h : List Act) (n : ℕ) (buf left rest all out : List ℕ) → g ≡ Got (take n buf) ∷ h → n ≤ length buf → 1 ≤ length buf → left ≡ take n buf ++ rest
    → (n ≡ 0 → 0 < length buf → rest ≡ []) → IsTold h left all out → IsTold g rest all out
got_told g h n buf left rest all out is fits room cut last told =
    subst (λ (x : List Act). IsTold x rest all out) (sym is) (got_known h n buf left rest all out fits room cut last told)

-- where as much was given as before, as much is left
pub left_same : (xs : List ℕ) (g h : ℕ) → take h xs ≡ take g xs → drop h xs ≡ drop g xs
left_same xs g h is = sym (left_more xs [] g h (is ∙ sym (append-nil (take g xs))))

-- a read that failed brought nothing
pub not_told : (g h : List Act) (left rest all out : List ℕ) → g ≡ NotGot ∷ h → rest ≡ left → IsTold h left all out → IsTold g rest all out
not_told g h left rest all out is same told =
    subst (λ (x : List Act). IsTold x rest all out) (sym is) (subst (λ (l : List ℕ). IsTold (NotGot ∷ h) l all out) (sym same) told)

-- ---- bytes went

pub data_told : (g h : List Act) (piece rest all out new : List ℕ) → g ≡ Data piece ∷ h → new ≡ out ++ frame piece → IsTold h rest all out → IsTold g rest all new
data_told g h piece rest all out new is gained (heard, said, ended) =
    subst (λ (x : List Act). IsTold x rest all new) (sym is) (heard, ap (λ (l : List ℕ). l ++ frame piece) said ∙ sym gained, ended)

pub text_told : (g h : List Act) (text rest all out new : List ℕ) → g ≡ Text text ∷ h → new ≡ out ++ text → IsTold h rest all out → IsTold g rest all new
text_told g h text rest all out new is gained (heard, said, ended) =
    subst (λ (x : List Act). IsTold x rest all new) (sym is) (heard, ap (λ (l : List ℕ). l ++ text) said ∙ sym gained, ended)

take_front : (xs ys : List ℕ) → take (length xs) (xs ++ ys) ≡ xs
take_front [] ys = refl
take_front (x ∷ xs) ys = ap (λ (l : List ℕ). x ∷ l) (take_front xs ys)

-- a put that failed took a prefix of the text
pub torn_put : (X : Type 0) (old new text : List ℕ) (e : PutFault) → PutAppends {X = X} (Some old) (Some new) text (Err e)
    → (front : List ℕ) × (after : List ℕ) × (front ++ after ≡ text) × (new ≡ old ++ front)
torn_put X old new text Failed gains = gains
torn_put X old new text (Memory m) keeps = ([], text, refl, keeps ∙ sym (append-nil old))

-- the bytes that were gained are the given number of the first ones
gained_first : (count : ℕ) (out new front after whole : List ℕ) → new ≡ out ++ front → front ++ after ≡ whole → count ≡ length new - length out → out ++ take count whole ≡ new
gained_first count out new front after whole gained parts is =
    let long = ap length gained in
    let both = length-append out front in
    let much : count ≡ length front = omega (arith, is, long, both) in
    ap (λ (l : List ℕ). out ++ l) (ap (λ (n : ℕ). take n whole) much ∙ ap (take (length front)) (sym parts) ∙ take_front front after) ∙ sym gained

pub torn_data_told : (g h : List Act) (count : ℕ) (piece rest all out new : List ℕ) → g ≡ TornData piece count ∷ h → count ≡ length new - length out
    → ((front : List ℕ) × (after : List ℕ) × (front ++ after ≡ frame piece) × (new ≡ out ++ front)) → IsTold h rest all out → IsTold g rest all new
torn_data_told g h count piece rest all out new is much (front, after, parts, gained) (heard, said, ended) =
    subst (λ (x : List Act). IsTold x rest all new) (sym is)
    (heard, ap (λ (l : List ℕ). l ++ take count (frame piece)) said ∙ gained_first count out new front after (frame piece) gained parts much, ended)

pub torn_text_told : (g h : List Act) (count : ℕ) (text rest all out new : List ℕ) → g ≡ TornText text count ∷ h → count ≡ length new - length out
    → ((front : List ℕ) × (after : List ℕ) × (front ++ after ≡ text) × (new ≡ out ++ front)) → IsTold h rest all out → IsTold g rest all new
torn_text_told g h count text rest all out new is much (front, after, parts, gained) (heard, said, ended) =
    subst (λ (x : List Act). IsTold x rest all new) (sym is)
    (heard, ap (λ (l : List ℕ). l ++ take count text) said ∙ gained_first count out new front after text gained parts much, ended)
