-- Lists that are made one element after another: what was made, with what is still to come, is the whole.
use Rattle.std.proofs.Common.{◌≡◌, ℕ, zero, suc, ◌+◌, ◌*◌, ◌-◌, ◌<◌, ◌≤◌, List, [], ◌∷◌, ◌++◌, map, refl, sym, ◌∙◌, ap, subst, arith}
use Rattle.std.proofs.lemmas.List.{append_assoc, append-nil}
use Rattle.page_display_list.specs.declared.item.Item.{Item}
use Rattle.page_layers.specs.declared.command.Command.{Command}
use Rattle.page_layers.specs.declared.command.Command.TheVariants as command
use Rattle.model_history.specs.declared.input.Input.{Input}
use Rattle.script_generator.specs.Draws.{next, after_draws}
use Rattle.script_generator.specs.Generated.{drawn_item, inserts, first_frame, drawn_input, input_draws, drawn_inputs, frame_draws, later_frame, later_frames, after_frames, frames}

-- one more of the list
one_more : {X : Type 0} (now rest : List X) (x : X) → (now ++ x ∷ []) ++ rest ≡ now ++ x ∷ rest
one_more now rest x = append_assoc now (x ∷ []) rest

-- ---- the items of layer 1

pub record Inserting (before now : List Command) (from kept at : ℕ) : Type 0 where
  pub within : at ≤ 200
  pub items : now ++ inserts kept at (200 - at) ≡ before ++ inserts from 0 200
  pub draws : after_draws kept (7 * (200 - at)) ≡ after_draws from 1400

inserts_more : (x at n : ℕ) → inserts x at (suc n) ≡ command.InsertItem (record { layer = 1; at = at; item = (drawn_item x) }) ∷ inserts (after_draws x 7) (suc at) n
unfolding inserts
inserts_more x at n = refl

more_draws : (x m n : ℕ) → after_draws x (m + n) ≡ after_draws (after_draws x m) n
unfolding after_draws
more_draws x zero n = let e : 0 + n ≡ n = omega arith in ap (after_draws x) e
more_draws x (suc m) n = let e : suc m + n ≡ suc (m + n) = omega arith in ap (after_draws x) e ∙ more_draws (next x) m n

put_in : (before now : List Command) (from kept at : ℕ) → at < 200 → Inserting before now from kept at
    → Inserting before (now ++ command.InsertItem (record { layer = 1; at = at; item = (drawn_item kept) }) ∷ []) from (after_draws kept 7) (suc at)
put_in before now from kept at l i =
    let n = 200 - suc at in
    let one : 200 - at ≡ suc n = omega (arith, l) in
    let seven : 7 * (200 - at) ≡ 7 + 7 * n = omega (arith, l) in
    record {
      within = omega (arith, l);
      items = one_more now (inserts (after_draws kept 7) (suc at) n) (command.InsertItem (record { layer = 1; at = at; item = (drawn_item kept) }))
          ∙ (ap (λ (cs : List Command). now ++ cs) (sym (ap (inserts kept at) one ∙ inserts_more kept at n)) ∙ i.items);
      draws = sym (ap (after_draws kept) seven ∙ more_draws kept 7 (7 * n)) ∙ i.draws;
    }

pub inserted : (before now more : List Command) (from kept after at : ℕ) (i : Item) → at < 200 → Inserting before now from kept at
    → more ≡ now ++ command.InsertItem (record { layer = 1; at = at; item = i }) ∷ [] → i ≡ drawn_item kept → after ≡ after_draws kept 7 → Inserting before more from after (at + 1)
inserted before now more from kept after at i l ins is item is_kept =
    let one : suc at ≡ at + 1 = omega arith in
    let all : more ≡ now ++ command.InsertItem (record { layer = 1; at = at; item = (drawn_item kept) }) ∷ [] = is ∙ ap (λ (x : Item). now ++ command.InsertItem (record { layer = 1; at = at; item = x }) ∷ []) item in
    subst (λ (cs : List Command). Inserting before cs from after (at + 1)) (sym all)
    (subst (λ (k : ℕ). Inserting before (now ++ command.InsertItem (record { layer = 1; at = at; item = (drawn_item kept) }) ∷ []) from k (at + 1)) (sym is_kept)
    (subst (λ (n : ℕ). Inserting before (now ++ command.InsertItem (record { layer = 1; at = at; item = (drawn_item kept) }) ∷ []) from (after_draws kept 7) n) one (put_in before now from kept at l ins)))

none_left : (x at n : ℕ) → n ≡ 0 → inserts x at n ≡ []
unfolding inserts
none_left x at zero e = refl
none_left x at (suc n) e = absurd (omega (arith, e))

no_draws : (x n : ℕ) → n ≡ 0 → after_draws x n ≡ x
unfolding after_draws
no_draws x zero e = refl
no_draws x (suc n) e = absurd (omega (arith, e))

pub all_inserted : (before now : List Command) (from kept at : ℕ) → 200 ≤ at → Inserting before now from kept at
    → (now ≡ before ++ inserts from 0 200) × (kept ≡ after_draws from 1400)
all_inserted before now from kept at l i = (
  sym (append-nil now) ∙ (ap (λ (cs : List Command). now ++ cs) (sym (none_left kept at (200 - at) (omega (arith, l)))) ∙ i.items),
  sym (no_draws kept (7 * (200 - at)) (omega (arith, l))) ∙ i.draws,
)

-- ---- the inputs

pub record Drawing (before now : List Input) (from kept left : ℕ) : Type 0 where
  pub items : now ++ drawn_inputs kept left ≡ before ++ drawn_inputs from 200

inputs_more : (x n : ℕ) → drawn_inputs x (suc n) ≡ drawn_input x ∷ drawn_inputs (after_draws x (input_draws x)) n
unfolding drawn_inputs
inputs_more x n = refl

put_behind : (before now : List Input) (from kept left : ℕ) → 0 < left → Drawing before now from kept left
    → Drawing before (now ++ drawn_input kept ∷ []) from (after_draws kept (input_draws kept)) (left - 1)
put_behind before now from kept left l d =
    let n = left - 1 in
    let one : left ≡ suc n = omega (arith, l) in
    record {
      items = one_more now (drawn_inputs (after_draws kept (input_draws kept)) n) (drawn_input kept)
          ∙ (ap (λ (is : List Input). now ++ is) (sym (ap (drawn_inputs kept) one ∙ inputs_more kept n)) ∙ d.items);
    }

pub one_drawn : (before now more : List Input) (from kept after left : ℕ) (i : Input) → 0 < left → Drawing before now from kept left
    → more ≡ now ++ i ∷ [] → i ≡ drawn_input kept → after ≡ after_draws kept (input_draws kept) → Drawing before more from after (left - 1)
one_drawn before now more from kept after left i l d is input is_kept =
    let all : more ≡ now ++ drawn_input kept ∷ [] = is ∙ ap (λ (x : Input). now ++ x ∷ []) input in
    subst (λ (is : List Input). Drawing before is from after (left - 1)) (sym all)
    (subst (λ (k : ℕ). Drawing before (now ++ drawn_input kept ∷ []) from k (left - 1)) (sym is_kept) (put_behind before now from kept left l d))

no_inputs : (x n : ℕ) → n ≡ 0 → drawn_inputs x n ≡ []
unfolding drawn_inputs
no_inputs x zero e = refl
no_inputs x (suc n) e = absurd (omega (arith, e))

pub all_drawn : (before now : List Input) (from kept left : ℕ) → left ≡ 0 → Drawing before now from kept left → now ≡ before ++ drawn_inputs from 200
all_drawn before now from kept left e d = sym (append-nil now) ∙ (ap (λ (is : List Input). now ++ is) (sym (no_inputs kept left e)) ∙ d.items)

-- ---- the later frames

pub record Framing (first now : List (List Command)) (from kept number : ℕ) : Type 0 where
  pub low : 1 ≤ number
  pub high : number ≤ 21
  pub frames : now ++ later_frames kept number (21 - number) ≡ first ++ later_frames from 1 20
  pub draws : after_frames kept number (21 - number) ≡ after_frames from 1 20

frames_more : (x k n : ℕ) → later_frames x k (suc n) ≡ later_frame k x ∷ later_frames (after_draws x (frame_draws k)) (suc k) n
unfolding later_frames
frames_more x k n = refl

after_more : (x k n : ℕ) → after_frames x k (suc n) ≡ after_frames (after_draws x (frame_draws k)) (suc k) n
unfolding after_frames
after_more x k n = refl

add_frame : (first now : List (List Command)) (from kept number : ℕ) → number ≤ 20 → Framing first now from kept number
    → Framing first (now ++ later_frame number kept ∷ []) from (after_draws kept (frame_draws number)) (suc number)
add_frame first now from kept number l f =
    let n = 21 - suc number in
    let one : 21 - number ≡ suc n = omega (arith, l) in
    record {
      low = omega arith;
      high = omega (arith, l);
      frames = one_more now (later_frames (after_draws kept (frame_draws number)) (suc number) n) (later_frame number kept)
          ∙ (ap (λ (fs : List (List Command)). now ++ fs) (sym (ap (later_frames kept number) one ∙ frames_more kept number n)) ∙ f.frames);
      draws = sym (ap (after_frames kept number) one ∙ after_more kept number n) ∙ f.draws;
    }

pub one_framed : (first now more : List (List Command)) (from kept after number : ℕ) (f : List Command) → number ≤ 20 → Framing first now from kept number
    → more ≡ now ++ f ∷ [] → f ≡ later_frame number kept → after ≡ after_draws kept (frame_draws number) → Framing first more from after (number + 1)
one_framed first now more from kept after number f l fr is frame is_kept =
    let one : suc number ≡ number + 1 = omega arith in
    let all : more ≡ now ++ later_frame number kept ∷ [] = is ∙ ap (λ (x : List Command). now ++ x ∷ []) frame in
    subst (λ (fs : List (List Command)). Framing first fs from after (number + 1)) (sym all)
    (subst (λ (k : ℕ). Framing first (now ++ later_frame number kept ∷ []) from k (number + 1)) (sym is_kept)
    (subst (λ (n : ℕ). Framing first (now ++ later_frame number kept ∷ []) from (after_draws kept (frame_draws number)) n) one (add_frame first now from kept number l fr)))

no_frames : (x k n : ℕ) → n ≡ 0 → (later_frames x k n ≡ []) × (after_frames x k n ≡ x)
unfolding later_frames after_frames
no_frames x k zero e = (refl, refl)
no_frames x k (suc n) e = absurd (omega (arith, e))

pub all_framed : (first now : List (List Command)) (from kept number : ℕ) → 20 < number → Framing first now from kept number
    → (now ≡ first ++ later_frames from 1 20) × (kept ≡ after_frames from 1 20)
all_framed first now from kept number l f =
    let none = no_frames kept number (21 - number) (omega (arith, l)) in
    (sym (append-nil now) ∙ (ap (λ (fs : List (List Command)). now ++ fs) (sym none.0) ∙ f.frames), sym none.1 ∙ f.draws)

pub all_frames : (first now : List (List Command)) (x from kept number : ℕ) (one : List Command) → 20 < number → Framing first now from kept number
    → first ≡ one ∷ [] → one ≡ first_frame x → from ≡ after_draws x 1400 → (now ≡ frames x) × (kept ≡ after_frames (after_draws x 1400) 1 20)
all_frames first now x from kept number one l f is_first is_one is_from =
    let (a, b) = all_framed first now from kept number l f in (
      a ∙ (ap (λ (fs : List (List Command)). fs ++ later_frames from 1 20) is_first ∙ (λ i. is_one i ∷ later_frames (is_from i) 1 20)),
      b ∙ ap (λ (k : ℕ). after_frames k 1 20) is_from,
    )

-- a list with one more, element by element
pub mapped_more : {X Y : Type 0} (g : X → Y) (xs ys : List X) (x : X) → ys ≡ xs ++ x ∷ [] → map g ys ≡ map g xs ++ g x ∷ []
mapped_more {X} {Y} g xs ys x is = ap (map g) is ∙ behind xs
  where
    behind : (zs : List X) → map g (zs ++ x ∷ []) ≡ map g zs ++ g x ∷ []
    behind [] = refl
    behind (z ∷ zs) = ap (λ (ws : List Y). g z ∷ ws) (behind zs)

-- the first of a list
pub mapped_one : {X Y : Type 0} (g : X → Y) (xs ys : List X) (x : X) → xs ≡ [] → ys ≡ xs ++ x ∷ [] → map g ys ≡ g x ∷ []
mapped_one {X} {Y} g xs ys x none is = ap (map g) (is ∙ ap (λ (zs : List X). zs ++ x ∷ []) none)
