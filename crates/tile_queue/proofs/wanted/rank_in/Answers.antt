-- The first rank of the key is found.
use Rattle.std.proofs.Common.{◌≡◌, true, false, get_or, sym, subst, arith, rules}
use Rattle.std.proofs.lemmas.List.{take_all}
use Rattle.geom.proofs.KeyLists.{one_key, same_from}
use Rattle.tile_priority.specs.declared.rank.Bin.TheVariants.{Now}
use Rattle.tile_priority.specs.declared.rank.Rank.{Rank}
use Rattle.tile_priority.specs.Ordered.{In}
use Rattle.tile_priority.specs.Alike.{is_of}
use Rattle.tile_queue.proofs.Parting.{none_of_more}
use Rattle.tile_queue.proofs.Places.{in_at}
use Rattle.tile_queue.proofs.wanted.rank_in.Goals as goal

-- what would be read past the end
abbrev none : Rank
none = record { bin = Now; tree = 0; distance = 0; key = record { layer = 0; x = 0; y = 0; stamp = 0 } }

pub returns-then-eq : goal.returns-then-eq
returns-then-eq c =
    let r : Rank = get_or c.args.ranks.now c.loop-rank.rank-index none in
    let t : is_of c.args.key r ≡ true = search rules in
    (in_at c.args.ranks.now c.loop-rank.rank-index none (omega arith), one_key r.key c.args.key t)

pub loop-rank-preserved : goal.loop-rank-preserved
loop-rank-preserved c =
    let r : Rank = get_or c.args.ranks.now c.loop-rank.rank-index none in
    let f : is_of c.args.key r ≡ false = search rules in
    none_of_more c.args.key c.args.ranks.now c.loop-rank.rank-index none (omega arith) c.loop-rank.invariant (λ k. let t : is_of c.args.key r ≡ true = same_from r.key c.args.key k in cc)

pub returns : goal.returns
returns c = λ r i k. c.loop-rank.invariant r (subst (In r) (sym (take_all c.loop-rank.rank-index c.args.ranks.now (omega arith))) i) k
