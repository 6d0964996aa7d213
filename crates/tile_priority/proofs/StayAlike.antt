-- Alike choices stay alike.
use Rattle.std.proofs.Common.{◌≡◌, inl, inr, ◌+◌, ◌-◌, Bool, true, false, cond, ◌&&◌, not, Option, Some, None, List, [], ◌∷◌, length, filter, refl, sym, ◌∙◌, ap, suc}
use Rattle.std.specs.Prelude.{filter_map}
use Rattle.geom.specs.declared.tile.TileKey.{TileKey}
use Rattle.tile_priority.specs.Tiles.{Tile}
use Rattle.tile_priority.specs.Choice.{Choice, SameChoice}
use Rattle.tile_priority.specs.Alike.{AsMany, Alike, is_of, is_among, tile_rank, choice_after_start, finished}
use Rattle.tile_priority.specs.Laws.{AlikeStay}
use Rattle.tile_priority.proofs.InOrder.{same_filter, same_trans, same_sym}
use Rattle.tile_priority.proofs.Members.{same_itself, same_append, same_filter_map}

-- what passes two tests
pub filter_both : {X : Type 0} (f g : X → Bool) (xs : List X) → filter f (filter g xs) ≡ filter (λ x. g x && f x) xs
filter_both f g [] = refl
filter_both f g (x ∷ xs) = by_test (g x) (filter_both f g xs)
  where
    by_test : (t : Bool) → filter f (filter g xs) ≡ filter (λ x. g x && f x) xs
        → filter f (cond t (x ∷ filter g xs) (filter g xs)) ≡ cond (t && f x) (x ∷ filter (λ x. g x && f x) xs) (filter (λ x. g x && f x) xs)
    by_test true e = ap (λ zs. cond (f x) (x ∷ zs) zs) e
    by_test false e = e

pub as_many_filter : {X : Type 0} (g : X → Bool) (xs ys : List X) → AsMany xs ys → AsMany (filter g xs) (filter g ys)
as_many_filter g xs ys a f = ap length (filter_both f g xs) ∙ a (λ x. g x && f x) ∙ sym (ap length (filter_both f g ys))

pub as_many_cons : {X : Type 0} (x : X) (xs ys : List X) → AsMany xs ys → AsMany (x ∷ xs) (x ∷ ys)
as_many_cons x xs ys a f = by_test (f x) (a f)
  where
    by_test : (t : Bool) → length (filter f xs) ≡ length (filter f ys)
        → length (cond t (x ∷ filter f xs) (filter f xs)) ≡ length (cond t (x ∷ filter f ys) (filter f ys))
    by_test true e = ap (λ n. suc n) e
    by_test false e = e

all_pass : {X : Type 0} (xs : List X) → filter (λ x. true) xs ≡ xs
all_pass [] = refl
all_pass (x ∷ xs) = ap (λ zs. x ∷ zs) (all_pass xs)

-- the laws

same_choice : (c d : Choice) → Alike c d → SameChoice c d
same_choice c d a = record {
  wanted = a.wanted;
  ready = a.ready;
  as_many = ap length (sym (all_pass c.ready)) ∙ a.as_many (λ t. true) ∙ ap length (all_pass d.ready);
  in_flight = a.in_flight;
  budget = a.budget;
}

alike_itself : (c : Choice) → Alike c c
alike_itself c = record { wanted = same_itself c.wanted; ready = same_itself c.ready; as_many = λ f. refl; in_flight = refl; budget = refl }

alike_back : (c d : Choice) → Alike c d → Alike d c
alike_back c d a = record {
  wanted = same_sym c.wanted d.wanted a.wanted;
  ready = same_sym c.ready d.ready a.ready;
  as_many = λ f. sym (a.as_many f);
  in_flight = sym a.in_flight;
  budget = sym a.budget;
}

alike_through : (c d e : Choice) → Alike c d → Alike d e → Alike c e
alike_through c d e a b = record {
  wanted = same_trans c.wanted d.wanted e.wanted a.wanted b.wanted;
  ready = same_trans c.ready d.ready e.ready a.ready b.ready;
  as_many = λ f. a.as_many f ∙ b.as_many f;
  in_flight = a.in_flight ∙ b.in_flight;
  budget = a.budget ∙ b.budget;
}

started_alike : (c d : Choice) (q : TileKey) (evicted : List TileKey) → Alike c d → Alike (choice_after_start c q evicted) (choice_after_start d q evicted)
started_alike c d q evicted a = record {
  wanted =
      same_append (filter (λ r. not (is_of q r)) c.wanted) (filter_map tile_rank (filter (is_among evicted) c.ready))
      (filter (λ r. not (is_of q r)) d.wanted) (filter_map tile_rank (filter (is_among evicted) d.ready))
      (same_filter (λ r. not (is_of q r)) c.wanted d.wanted a.wanted)
      (same_filter_map tile_rank (filter (is_among evicted) c.ready) (filter (is_among evicted) d.ready) (same_filter (is_among evicted) c.ready d.ready a.ready));
  ready = same_filter (λ t. not (is_among evicted t)) c.ready d.ready a.ready;
  as_many = as_many_filter (λ t. not (is_among evicted t)) c.ready d.ready a.as_many;
  in_flight = ap (λ n. n + 1) a.in_flight;
  budget = a.budget;
}

finished_alike : (c d : Choice) (tile : Option Tile) → Alike c d → Alike (finished c tile) (finished d tile)
finished_alike c d None a = record { wanted = a.wanted; ready = a.ready; as_many = a.as_many; in_flight = ap (λ n. n - 1) a.in_flight; budget = a.budget }
finished_alike c d (Some t) a = record {
  wanted = a.wanted;
  ready = record { there = λ x i. elim i [ inl e ↦ inl e | inr j ↦ inr (a.ready.there x j) ]; back = λ x i. elim i [ inl e ↦ inl e | inr j ↦ inr (a.ready.back x j) ] };
  as_many = as_many_cons t c.ready d.ready a.as_many;
  in_flight = ap (λ n. n - 1) a.in_flight;
  budget = a.budget;
}

pub alike_stay : AlikeStay
alike_stay = record { same_choice = same_choice; itself = alike_itself; back = alike_back; through = alike_through; started = started_alike; finished = finished_alike }
