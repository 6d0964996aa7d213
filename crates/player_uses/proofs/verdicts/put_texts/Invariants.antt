-- The fragments said so far and those that are left are all.
use Rattle.std.proofs.Common.{◌≡◌, ℕ, ◌≤◌, List, ◌∷◌, ◌++◌, length}
use Rattle.std.specs.List.{flat_map}
use Rattle.player_lines.specs.inner.Pasts.{SaidAll}
use Rattle.player_uses.specs.inner.Fragments.{fragment_text}
use Rattle.player_uses.proofs.verdicts.put_texts.Given as goal

abbrev pub invariant-loop-fragment : goal.invariant-loop-fragment
invariant-loop-fragment g l =
    (done : List ℕ) × SaidAll (g.C.Client.past l.fn.session.client) (g.C.Client.past l.session.client) done
    × (done ++ flat_map fragment_text l.rest ≡ flat_map fragment_text (l.first ∷ l.others))
    × (l.session.torn ≡ l.fn.session.torn) × (g.C.Client.put_faults l.fn.session.client ≤ g.C.Client.put_faults l.session.client)

abbrev pub decreases-loop-fragment : goal.decreases-loop-fragment
decreases-loop-fragment g l = length l.rest
