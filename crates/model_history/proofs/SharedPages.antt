-- Pages that have a key in common show the same in its tile, and each page between has the key.
use Rattle.std.proofs.Common.{ℕ, suc, ◌≡◌, ◌+◌, ◌-◌, ◌≤◌, ℤ, Bool, true, false, List, refl, ap, sym, ◌∙◌, subst, arith}
use Rattle.std.specs.Prelude.{nat_le}
use Rattle.std.proofs.lemmas.Bool.Decides.{nat_tests}
use Rattle.geom.specs.declared.rect.Rect.{Rect}
use Rattle.geom.specs.declared.tile.TileKey.{TileKey}
use Rattle.geom.specs.Covers.{covers}
use Rattle.page_layers.specs.Pages.{Page}
use Rattle.page_layers.specs.Contents.{content_at, size_of}
use Rattle.page_layers.specs.declared.moves.Move.{Move}
use Rattle.model_history.specs.declared.history.Entry.{Entry}
use Rattle.model_history.specs.Scripts.{ScriptModel}
use Rattle.model_history.specs.EventFields.{commits}
use Rattle.model_history.specs.Scans.{was_named}
use Rattle.model_history.specs.Frames.{page, pulls_of}
use Rattle.model_history.specs.Accepted.{IsPlayable}
use Rattle.model_history.specs.Legal.{Legal}
use Rattle.model_history.specs.Ranking.{place_named}
use Rattle.model_history.specs.Sharing.{has_page_key, key_rect, HaveSameContent}
use Rattle.model_history.proofs.BarePages.{bare, page_bare}
use Rattle.model_history.proofs.ScriptPages.{ahead, ahead_is, plain}
use Rattle.model_history.proofs.KeptStamps.{plain_key, IsKept, key_between, keys_plain, rect_kept}

-- a number that is not smaller is that much further on
ahead_to : (m n : ℕ) → m ≤ n → ahead (n - m) m ≡ n
ahead_to m n le = let is : ahead (n - m) m ≡ (n - m) + m = ahead_is (n - m) m in omega (arith, is, le)

-- a key of two pages is a key of each page between
pub kept : (s : ScriptModel) → IsPlayable s → (q : TileKey) (m k n : ℕ) → m ≤ k → k ≤ n → plain_key s m q ≡ true → plain_key s n q ≡ true → IsKept s q m k
kept s a q m k n low high first last =
    let at_k : ahead (k - m) m ≡ k = ahead_to m k low in
    let at_n : ahead (n - k) k ≡ n = ahead_to k n high in
    let then : plain_key s (ahead (n - k) (ahead (k - m) m)) q ≡ true = ap (λ (i : ℕ). plain_key s (ahead (n - k) i) q) at_k ∙ ap (λ (i : ℕ). plain_key s i q) at_n ∙ last in
    subst (λ (i : ℕ). IsKept s q m i) at_k (key_between s a q (n - k) (k - m) m first then)

pub key_stays : (s : ScriptModel) (ps : ℕ → List Move) (q : TileKey) (m k n : ℕ) → IsPlayable s → m ≤ k → k ≤ n → has_page_key s ps m q ≡ true → has_page_key s ps n q ≡ true → has_page_key s ps k q ≡ true
key_stays s ps q m k n a low high first last =
    keys_plain s a ps k q ∙ (kept s a q m k n low high (sym (keys_plain s a ps m q) ∙ first) (sym (keys_plain s a ps n q) ∙ last)).key

-- ---- what is shown

same_back : (q : TileKey) (p r : Page) → HaveSameContent q p r → HaveSameContent q r p
same_back q p r same = record { rect = sym same.rect; content = λ x y in'. sym (same.content x y (ap (λ (z : Rect). covers z x y) (sym same.rect) ∙ in')) }

same_after : (s : ScriptModel) → IsPlayable s → (q : TileKey) (m n : ℕ) → m ≤ n → plain_key s m q ≡ true → plain_key s n q ≡ true → HaveSameContent q (plain s m) (plain s n)
same_after s a q m n le first last =
    let k : IsKept s q m n = kept s a q m n n le (omega arith) first last in
    record { rect = k.rect; content = k.keeps.content }

same_plain : (s : ScriptModel) → IsPlayable s → (q : TileKey) (m n : ℕ) → plain_key s m q ≡ true → plain_key s n q ≡ true → HaveSameContent q (plain s m) (plain s n)
same_plain s a q m n first last = go (nat_le m n) refl
  where
    go : (b : Bool) → nat_le m n ≡ b → HaveSameContent q (plain s m) (plain s n)
    go true e = same_after s a q m n (grind (arith, nat_tests, e)) first last
    go false e = same_back q (plain s n) (plain s m) (same_after s a q n m (grind (arith, nat_tests, e)) last first)

-- pulls change nothing of what is shown
bare_rect : (s : ScriptModel) (ps : ℕ → List Move) (n : ℕ) (q : TileKey) → key_rect (page s ps n) q ≡ key_rect (plain s n) q
bare_rect s ps n q =
    let same : bare (page s ps n) ≡ bare (plain s n) = page_bare s ps n in
    rect_kept (plain s n) (page s ps n) q.layer (place_named q) (ap (λ (z : Page). size_of z q.layer) same) (ap (λ (z : Page). z.view.tile) same)

bare_content : (s : ScriptModel) (ps : ℕ → List Move) (n layer : ℕ) (x y : ℤ) → content_at (page s ps n) layer x y ≡ content_at (plain s n) layer x y
bare_content s ps n layer x y = ap (λ (z : Page). content_at z layer x y) (page_bare s ps n)

pub same_pages : (s : ScriptModel) (ps qs : ℕ → List Move) (m n : ℕ) (q : TileKey) → IsPlayable s → has_page_key s ps m q ≡ true → has_page_key s qs n q ≡ true → HaveSameContent q (page s ps m) (page s qs n)
same_pages s ps qs m n q a first last =
    let same : HaveSameContent q (plain s m) (plain s n) = same_plain s a q m n (sym (keys_plain s a ps m q) ∙ first) (sym (keys_plain s a qs n q) ∙ last) in
    record {
      rect = bare_rect s qs n q ∙ same.rect ∙ sym (bare_rect s ps m q);
      content = λ x y in'. bare_content s qs n q.layer x y ∙ same.content x y (ap (λ (z : Rect). covers z x y) (sym (bare_rect s ps m q)) ∙ in') ∙ sym (bare_content s ps m q.layer x y);
    }

pub same_commits : (s : ScriptModel) (workers : ℕ) (h : List Entry) (j k : ℕ) (q : TileKey) → IsPlayable s → Legal s workers h → was_named commits h j ≡ true → was_named commits h k ≡ true
    → has_page_key s (pulls_of h) (suc j) q ≡ true → has_page_key s (pulls_of h) (suc k) q ≡ true → HaveSameContent q (page s (pulls_of h) (suc j)) (page s (pulls_of h) (suc k))
same_commits s workers h j k q a l cj ck first last = same_pages s (pulls_of h) (pulls_of h) (suc j) (suc k) q a first last
