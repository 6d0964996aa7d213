-- Which event may come, by what the past tells.
use Rattle.std.proofs.Common.{◌≡◌, ℕ, ◌+◌, ◌-◌, ◌<◌, ℤ, pos, Bool, true, false, cond, not, ◌&&◌, List, ◌∷◌, Option, Some, None, is_some, option_map, refl, sym, ◌∙◌, ap, subst, arith}
use Rattle.geom.specs.declared.tile.TileKey.{TileKey}
use Rattle.geom.specs.KeyLists.{has_key}
use Rattle.tile_priority.specs.declared.rank.Rank.{Rank}
use Rattle.tile_queue.specs.Queues.{rank_key}
use Rattle.model_states.specs.declared.kind.Kind.{Kind}
use Rattle.model_states.specs.declared.kind.Kind.TheVariants as kind
use Rattle.page_layers.specs.declared.moves.Move.{Move}
use Rattle.page_layers.specs.Axes.{across, down}
use Rattle.page_layers.specs.Hits.{target}
use Rattle.page_layers.specs.Wheels.{wheel_parts, wheel_rest}
use Rattle.model_history.specs.declared.event.Event.{Event}
use Rattle.model_history.specs.declared.event.Event.TheVariants as event
use Rattle.model_history.specs.declared.input.Input.TheVariants as input
use Rattle.model_history.specs.declared.history.Entry.{Entry}
use Rattle.model_history.specs.Scripts.{ScriptModel}
use Rattle.model_history.specs.EventFields.{kind_of, actor_of, sends}
use Rattle.model_history.specs.Scans.{has_ended, counted, held}
use Rattle.model_history.specs.Frames.{is_left, pending, active_page}
use Rattle.model_history.specs.Scrolls.{accepted, next_pulls, next_clamps, active_offsets}
use Rattle.model_history.specs.Tiles.{live_keys, required, are_ready}
use Rattle.model_history.specs.Ranking.{rank_to_start, evicted_for}
use Rattle.model_history.specs.Due.{due, on_if, next_input, input_now, due_scroll, due_wheel}
use Rattle.model_history.specs.DueParts.{due_activate, due_start, due_done}
use Rattle.model_history.specs.Legal.{is_open, can, Legal}
use Rattle.model_history.proofs.DueFacts.{entry}
use Rattle.model_history.proofs.RankFacts.{first_unmade}
use Rattle.impl_log.specs.Runs.{Run, past}
use Rattle.impl_log.proofs.LogSteps.{next_is}
use Rattle.impl_core.specs.Replies.{next_key}

module _ (s : ScriptModel) (h : List Entry) where
  -- what is due may come where its kind is open
  opened : (k : Kind) (a : ℕ) → is_open h k ≡ true → can s h k a ≡ due s h k a
  opened k a o = ap (λ b. cond b (due s h k a) None) o

  pub send_now : is_open h kind.Send ≡ true → is_left s h ≡ true → (k : ℕ) → k ≡ counted sends h → (ms : List Move) → ms ≡ next_pulls s h → can s h kind.Send 0 ≡ Some (event.Send k ms)
  send_now o left k is_k ms is_ms =
      opened kind.Send 0 o ∙ (ap (λ b. on_if b (event.Send (counted sends h) (next_pulls s h))) left ∙ (λ i. Some (event.Send (sym is_k i) (sym is_ms i))))

  pub wheel_now : is_open h kind.Wheel ≡ true → (x y : ℕ) (dx dy : ℤ) → input_now s h ≡ Some (input.Wheel x y dx dy) → (i layer : ℕ) (rest_x rest_y : ℤ) (ms : List Move) → i ≡ next_input h
      → layer ≡ target (active_page s h) (active_offsets s h) (pos x) (pos y) → rest_x ≡ wheel_rest (active_page s h) (active_offsets s h) (pos x) (pos y) across dx
      → rest_y ≡ wheel_rest (active_page s h) (active_offsets s h) (pos x) (pos y) down dy → ms ≡ wheel_parts (active_page s h) (active_offsets s h) (pos x) (pos y) dx dy
      → can s h kind.Wheel 0 ≡ Some (event.Wheel i layer rest_x rest_y ms)
  wheel_now o x y dx dy asked i layer rest_x rest_y ms place hits right downwards parts =
      opened kind.Wheel 0 o ∙ (ap (due_wheel s h (next_input h)) asked ∙ (λ j. Some (event.Wheel (sym place j) (sym hits j) (sym right j) (sym downwards j) (sym parts j))))

  pub scroll_now : is_open h kind.Scroll ≡ true → (sc : ℕ) (x y : ℤ) → input_now s h ≡ Some (input.Scroll sc x y) → (i : ℕ) (dx dy : ℤ) → i ≡ next_input h
      → dx ≡ accepted s h sc across x → dy ≡ accepted s h sc down y → can s h kind.Scroll 0 ≡ Some (event.Scroll i dx dy)
  scroll_now o sc x y asked i dx dy place right downwards =
      opened kind.Scroll 0 o ∙ (ap (due_scroll s h (next_input h)) asked ∙ (λ j. Some (event.Scroll (sym place j) (sym right j) (sym downwards j))))

  -- where an activation may come, it is that of the pending frame
  pub activation_now : is_some (can s h kind.Activate 0) ≡ true → (k : ℕ) → pending h ≡ Some k → (ms : List Move) → ms ≡ next_clamps s h → can s h kind.Activate 0 ≡ Some (event.Activate k ms)
  activation_now t k is_pending ms clamps = by_open (is_open h kind.Activate) (pending h) is_pending t ∙ (λ j. Some (event.Activate k (sym clamps j)))
    where
      by_ready : (r : Bool) (j : ℕ) → j ≡ k → is_some (on_if r (event.Activate j (next_clamps s h))) ≡ true → on_if r (event.Activate j (next_clamps s h)) ≡ Some (event.Activate k (next_clamps s h))
      by_ready true j e t = ap (λ i. Some (event.Activate i (next_clamps s h))) e
      by_ready false j e t = absurd cc

      by_open : (b : Bool) (o : Option ℕ) → o ≡ Some k → is_some (cond b (due_activate s h o) None) ≡ true → cond b (due_activate s h o) None ≡ Some (event.Activate k (next_clamps s h))
      by_open true (Some j) e t = let same : j ≡ k = cc in by_ready (are_ready s h (required s h)) j same t
      by_open true None e t = absurd cc
      by_open false o e t = absurd cc

  -- a worker that holds nothing

  worker_back : (w : ℕ) → (2 + w) - 2 ≡ w
  worker_back w = omega arith

  going : has_ended h ≡ false → is_open h kind.Start ≡ true
  going g = ap (λ b. not b && true) g

  due_start_at : (w : ℕ) → due s h kind.Start (2 + w) ≡ due_start s h w (held w h) (rank_to_start s h)
  due_start_at w = ap (λ v. due_start s h v (held v h) (rank_to_start s h)) (worker_back w)

  pub start_now : has_ended h ≡ false → (w : ℕ) → held w h ≡ None → (r : Rank) → rank_to_start s h ≡ Some r → (q : TileKey) → r.key ≡ q → (ks : List TileKey) → ks ≡ evicted_for s h r
      → can s h kind.Start (2 + w) ≡ Some (event.Start w q ks)
  start_now g w free r is_first q key ks evictions =
      opened kind.Start (2 + w) (going g)
      ∙ (due_start_at w ∙ ((λ j. due_start s h w (free j) (is_first j)) ∙ (λ j. Some (event.Start w (key j) (sym evictions j)))))

  pub done_now : has_ended h ≡ false → (w : ℕ) (q : TileKey) → held w h ≡ Some q → can s h kind.Done (2 + w) ≡ Some (event.DoneTile w q)
  done_now g w q holds =
      ap (λ b. cond (not b && true) (due s h kind.Done (2 + w)) None) g
      ∙ (ap (λ v. due_done v (held v h)) (worker_back w) ∙ ap (due_done w) holds)

-- the next key is that of the rank that is first, while the run goes on
pub record IsFirst (s : ScriptModel) (h : List Entry) (q : TileKey) : Type 0 where
  pub going : has_ended h ≡ false
  pub rank : Rank
  pub is_first : rank_to_start s h ≡ Some rank
  pub key : rank.key ≡ q

pub next_first : (s : ScriptModel) (h : List Entry) (q : TileKey) → cond (has_ended h) None (option_map rank_key (rank_to_start s h)) ≡ Some q → IsFirst s h q
next_first s h q e = by_cases (has_ended h) (rank_to_start s h) refl refl e
  where
    by_cases : (b : Bool) (o : Option Rank) → has_ended h ≡ b → rank_to_start s h ≡ o → cond b None (option_map rank_key o) ≡ Some q → IsFirst s h q
    by_cases false (Some r) g f e = record { going = g; rank = r; is_first = f; key = cc }
    by_cases false None g f e = absurd cc
    by_cases true o g f e = absurd cc

-- it is live
pub next_live : (r : Run) (q : TileKey) → next_key r ≡ Some q → has_key (live_keys r.script (past r)) q ≡ true
next_live r q e =
    let f : IsFirst r.script (past r) q = next_first r.script (past r) q e in
    subst (λ (k : TileKey). has_key (live_keys r.script (past r)) k ≡ true) f.key (first_unmade r.script (past r) f.rank f.is_first).live

-- an event of the compositor that may come makes a legal past
pub comes_next : (s : ScriptModel) (n : ℕ) (h : List Entry) (a : ℕ) (e : Event) → Legal s n h → can s h (kind_of e) a ≡ Some e → a ≡ actor_of e → a < 2 + n → Legal s n (entry a e ∷ h)
comes_next s n h a e legal is_now actor within = (legal, next_is s n h a e is_now actor within)
