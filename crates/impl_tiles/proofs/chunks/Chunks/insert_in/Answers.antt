-- The key is among all keys where it is put.
use Rattle.std.proofs.Common.{◌≡◌, ◌<◌, ◌+◌, suc, List, [], ◌∷◌, ◌++◌, length, take, drop, get_or, set, sym, ◌∙◌, ap, subst, arith}
use Rattle.std.specs.List.{insert}
use Rattle.impl_tiles.specs.inner.Chunked.{flat, index_of, IsGap}
use Rattle.impl_tiles.specs.declared.held.KeyedPlace.{KeyedPlace}
use Rattle.impl_tiles.proofs.Flats.{chunk_at, chunk_is, inserted_in, inserted_after, inserted_parting}
use Rattle.impl_tiles.proofs.chunks.Chunks.insert_in.Goals as goal

pub returns-then-len-lt-MOST : goal.returns-then-len-lt-MOST
returns-then-len-lt-MOST c =
    let cs : List (List KeyedPlace) = c.self.inside.chunks.items in
    let s = c.args.spot in
    let lt : s.chunk < length cs = subst (λ m. s.chunk < length m.chunks) (sym c.self.view_is) c.requires.chunk in
    let gap : IsGap cs s = subst (λ m. IsGap m.chunks s) (sym c.self.view_is) c.requires.gap in
    let own : c.index_mut.result.now ≡ chunk_at cs s.chunk = chunk_is cs s.chunk c.index_mut.result.now lt c.index_mut.ensures.value in
    record {
      held =
          ap (λ l. flat (set cs s.chunk l)) (c.insert.ensures ∙ ap (λ l. insert l s.at c.args.one) own)
          ∙ inserted_in cs s lt c.args.one gap.at
          ∙ ap (λ m. insert (flat m.chunks) (index_of m.chunks s) c.args.one) c.self.view_is;
    }

pub returns-then-spot-len : goal.returns-then-spot-len
returns-then-spot-len c =
    let ms : List (List KeyedPlace) = c.args.self.now.chunks in
    let s = c.args.spot in
    let lower : List KeyedPlace = take s.at (get_or ms s.chunk []) ++ c.args.one ∷ [] in
    record {
      held =
          ap flat (c.part.ensures.chunks ∙ ap (λ k. insert (set ms s.chunk lower) k (drop s.at (get_or ms s.chunk []))) {x = s.chunk + 1} {y = suc s.chunk} (omega arith))
          ∙ inserted_parting ms s c.requires.chunk c.args.one c.requires.gap.at;
    }

pub returns-else-spot-len : goal.returns-else-spot-len
returns-else-spot-len c =
    let cs : List (List KeyedPlace) = c.self.inside.chunks.items in
    let ms : List (List KeyedPlace) = c.args.self.now.chunks in
    let s = c.args.spot in
    let lt : s.chunk < length cs = subst (λ m. s.chunk < length m.chunks) (sym c.self.view_is) c.requires.chunk in
    let own : c.index.result.now ≡ chunk_at ms s.chunk = chunk_is cs s.chunk c.index.result.now lt c.index.ensures ∙ ap (λ m. chunk_at m.chunks s.chunk) c.self.view_is in
    let end : s.at ≡ length (chunk_at ms s.chunk) = omega (arith, c.requires.gap.at, c.if-spot-len.false, c.len-len.ensures.value, ap length own) in
    record {
      held =
          ap flat (c.insert_chunk.ensures.chunks ∙ ap (λ k. insert ms k (c.args.one ∷ [])) {x = s.chunk + 1} {y = suc s.chunk} (omega arith))
          ∙ inserted_after ms s c.requires.chunk c.args.one end;
    }
