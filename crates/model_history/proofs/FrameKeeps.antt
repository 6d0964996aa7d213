-- What the commands of a frame did not change in a rect of a layer, the layer shows there as before.
use Rattle.std.proofs.Common.{ℕ, ℤ, ◌≡◌, ◌<◌, ◌≤◌, ◌==◌, nat_lt, nat_eq, Bool, true, false, cond, not, ◌&&◌, ◌||◌, if◌then◌else◌, Option, Some, None, List, [], ◌∷◌, refl, ap, sym, ◌∙◌, eqb-true, arith}
use Rattle.std.proofs.lemmas.Bool.Decides.{nat_tests}
use Rattle.std.proofs.lemmas.List.Folds.{list_any-append}
use Rattle.geom.specs.declared.rect.Rect.{Rect}
use Rattle.geom.specs.Covers.{covers}
use Rattle.geom.specs.Common.{meets}
use Rattle.region.specs.declared.change.LayerChange.{LayerChange}
use Rattle.region.specs.Lists.{Changed, AreChangesAbove, IsRising, without_layer}
use Rattle.region.specs.Lists as changes
use Rattle.region.specs.Points.{covered, touched}
use Rattle.region.proofs.Covering.{points_decide}
use Rattle.tile_tiling.specs.Tiles.{shows_in}
use Rattle.tile_tiling.specs.Stamps.{may_show_in}
use Rattle.page_layers.specs.declared.command.Command.{Command}
use Rattle.page_layers.specs.declared.command.Command.TheVariants as command
use Rattle.page_layers.specs.Layers.{PageLayer, has_id}
use Rattle.page_layers.specs.Lists as layers
use Rattle.page_layers.specs.Pages.{Page}
use Rattle.page_layers.specs.Refusals.{has_layer}
use Rattle.page_layers.specs.Sound.{AreDistinctLayers, IsPage}
use Rattle.page_layers.specs.Effects.{Change, page_after_command, layer_change_of, retiles, commanded}
use Rattle.page_layers.specs.Outcomes.{Accepts}
use Rattle.page_layers.specs.Contents.{content_at, size_of, shows_at, is_changed_whole, KeepsTheRest}
use Rattle.page_layers.proofs.LayerKeeps.{absent-taken}
use Rattle.page_layers.proofs.Unlisted.{unlisted_stays}
use Rattle.model_history.specs.Accepted.{TakesAll}
use Rattle.model_history.specs.Stamps.{with_later, alone, with_change, with_some, with_command, changed_by}
use Rattle.model_history.proofs.BoolFacts.{not_both, is_false, or_left_false, or_right_false, or_neither, not_false}
use Rattle.model_history.proofs.BarePages.{with_next}
use Rattle.model_history.proofs.ScriptPages.{page_after}
use Rattle.model_history.proofs.LayersStay.{there_between}

-- ---- lists of changes

-- the change of one command shows in a rect of a layer
abbrev pub shows : ℕ → Rect → Change → Bool
shows layer r c = (c.layer == layer) && (c.whole || touched c.rects r)

abbrev pub some_shows : ℕ → Rect → Option Change → Bool
some_shows layer r None = false
some_shows layer r (Some c) = shows layer r c

-- the listed change of a layer shows in a rect
abbrev pub listed_shows : ℕ → Rect → List LayerChange → Bool
listed_shows layer r ds = may_show_in (changes.change_of ds layer) r

-- a list whose layers are above this one does not list it
above_none : (layer n : ℕ) (ds : List LayerChange) → layer ≤ n → AreChangesAbove n ds → changes.change_of ds layer ≡ None
above_none layer n [] le all = refl
above_none layer n (d ∷ ds) le all =
    let lt : n < d.layer = all.0 in
    let out : nat_eq d.layer layer ≡ false = grind (arith, nat_tests, le, lt) in
    ap (λ (b : Bool). if b then Some d else changes.change_of ds layer) out ∙ above_none layer n ds le all.1

above_change : (n : ℕ) (c : Change) (ds : List LayerChange) → n < c.layer → AreChangesAbove n ds → AreChangesAbove n (with_change c ds)
above_change n c [] lt all = (lt, tt)
above_change n c (d ∷ ds) lt all = go (d.layer == c.layer) (nat_lt d.layer c.layer) (above_change n c ds lt all.1)
  where
    go : (a b : Bool) → AreChangesAbove n (with_change c ds) → AreChangesAbove n (cond a (with_later d c ∷ ds) (cond b (d ∷ with_change c ds) (alone c ∷ d ∷ ds)))
    go true b rest = (all.0, all.1)
    go false true rest = (all.0, rest)
    go false false rest = (lt, all)

above_weaker : (m n : ℕ) (ds : List LayerChange) → m ≤ n → AreChangesAbove n ds → AreChangesAbove m ds
above_weaker m n [] le all = tt
above_weaker m n (d ∷ ds) le all = let lt : n < d.layer = all.0 in (omega (arith, le, lt), above_weaker m n ds le all.1)

rising_change : (c : Change) (ds : List LayerChange) → IsRising ds → IsRising (with_change c ds)
rising_change c [] up = (tt, tt)
rising_change c (d ∷ ds) up = go (d.layer == c.layer) refl (nat_lt d.layer c.layer) refl (rising_change c ds up.1)
  where
    go : (a : Bool) → (d.layer == c.layer) ≡ a → (b : Bool) → nat_lt d.layer c.layer ≡ b → IsRising (with_change c ds) → IsRising (cond a (with_later d c ∷ ds) (cond b (d ∷ with_change c ds) (alone c ∷ d ∷ ds)))
    go true e b l rest = up
    go false e true l rest = (above_change d.layer c ds (grind (arith, nat_tests, l)) up.0, rest)
    go false e false l rest =
        let lt : c.layer < d.layer = grind (arith, nat_tests, e, l) in
        ((lt, above_weaker c.layer d.layer ds (omega (arith, lt)) up.0), up)

above_without : (n layer : ℕ) (ds : List LayerChange) → AreChangesAbove n ds → AreChangesAbove n (without_layer layer ds)
above_without n layer [] all = tt
above_without n layer (d ∷ ds) all = go (not (nat_eq d.layer layer)) (above_without n layer ds all.1)
  where
    go : (b : Bool) → AreChangesAbove n (without_layer layer ds) → AreChangesAbove n (cond b (d ∷ without_layer layer ds) (without_layer layer ds))
    go true rest = (all.0, rest)
    go false rest = rest

rising_without : (layer : ℕ) (ds : List LayerChange) → IsRising ds → IsRising (without_layer layer ds)
rising_without layer [] up = tt
rising_without layer (d ∷ ds) up = go (not (nat_eq d.layer layer)) (rising_without layer ds up.1)
  where
    go : (b : Bool) → IsRising (without_layer layer ds) → IsRising (cond b (d ∷ without_layer layer ds) (without_layer layer ds))
    go true rest = (above_without d.layer layer ds up.0, rest)
    go false rest = rest

rising_some : (o : Option Change) (ds : List LayerChange) → IsRising ds → IsRising (with_some o ds)
rising_some None ds up = up
rising_some (Some c) ds up = rising_change c ds up

pub rising_command : (p : Page) (c : Command) (ds : List LayerChange) → IsRising ds → IsRising (with_command p c ds)
rising_command p (command.RemoveLayer c) ds up = rising_without c.id ds up
rising_command p (command.AddTransform c) ds up = up
rising_command p c ds up = rising_some (layer_change_of p c) ds up

-- ---- what a list with one change more does not show, neither shows

and_nothing : (a b : Bool) → b ≡ false → a && b ≡ false
and_nothing true b e = e
and_nothing false b e = refl

one_shows : (layer : ℕ) (r : Rect) (c : Change) → listed_shows layer r (alone c ∷ []) ≡ false → shows layer r c ≡ false
one_shows layer r c h = go (c.layer == layer) h
  where
    go : (b : Bool) → may_show_in (if b then Some (alone c) else None) r ≡ false → b && (c.whole || touched c.rects r) ≡ false
    go true h = h
    go false h = refl

-- neither of two changes of one layer shows where they together do not
joined_parts : (v w a b : Bool) → (v || w) || (a || b) ≡ false → (v || a ≡ false) × (w || b ≡ false)
joined_parts false false false false h = (refl, refl)
joined_parts false false false true h = absurd (cc)
joined_parts false false true b h = absurd (cc)
joined_parts false true a b h = absurd (cc)
joined_parts true w a b h = absurd (cc)

later_parts : (r : Rect) (d : LayerChange) (c : Change) → shows_in (with_later d c) r ≡ false → (shows_in d r ≡ false) × (c.whole || touched c.rects r ≡ false)
later_parts r d c h =
    joined_parts d.whole c.whole (touched d.region r) (touched c.rects r)
    (ap (λ (b : Bool). (d.whole || c.whole) || b) (sym (list_any-append (λ s. meets s r) d.region c.rects)) ∙ h)

-- what is listed first of a layer
first_shows : (layer : ℕ) (r : Rect) (d : LayerChange) (ds : List LayerChange) (x : Bool) → (d.layer == layer) ≡ x → listed_shows layer r (d ∷ ds) ≡ may_show_in (if x then Some d else changes.change_of ds layer) r
first_shows layer r d ds x e = ap (λ (b : Bool). may_show_in (if b then Some d else changes.change_of ds layer) r) e

abbrev Parts : ℕ → Rect → Change → List LayerChange → Type 0
Parts layer r c ds = (listed_shows layer r ds ≡ false) × (shows layer r c ≡ false)

-- another layer than the first
apart : (a b n : ℕ) → (a == b) ≡ false → (a == n) ≡ true → (b == n) ≡ false
apart a b n e f = grind (arith, nat_tests, e, f)

unlike : (layer : ℕ) (r : Rect) (c : Change) → (c.layer == layer) ≡ false → shows layer r c ≡ false
unlike layer r c e = ap (λ (b : Bool). b && (c.whole || touched c.rects r)) e

change_parts : (layer : ℕ) (r : Rect) (c : Change) (ds : List LayerChange) → IsRising ds → listed_shows layer r (with_change c ds) ≡ false → Parts layer r c ds
change_parts layer r c [] up h = (refl, one_shows layer r c h)
change_parts layer r c (d ∷ ds) up h = go (d.layer == c.layer) refl (nat_lt d.layer c.layer) refl (change_parts layer r c ds up.1) h
  where
    same : (d.layer == c.layer) ≡ true → (x : Bool) → (d.layer == layer) ≡ x → listed_shows layer r (with_later d c ∷ ds) ≡ false → Parts layer r c (d ∷ ds)
    same e true f h =
        let both : (shows_in d r ≡ false) × (c.whole || touched c.rects r ≡ false) = later_parts r d c (sym (first_shows layer r (with_later d c) ds true f) ∙ h) in
        (first_shows layer r d ds true f ∙ both.0, and_nothing (c.layer == layer) (c.whole || touched c.rects r) both.1)
    same e false f h = (first_shows layer r d ds false f ∙ sym (first_shows layer r (with_later d c) ds false f) ∙ h, unlike layer r c (ap (λ (n : ℕ). n == layer) (sym (eqb-true d.layer c.layer e)) ∙ f))

    behind : (d.layer == c.layer) ≡ false → (x : Bool) → (d.layer == layer) ≡ x → (listed_shows layer r (with_change c ds) ≡ false → Parts layer r c ds) → listed_shows layer r (d ∷ with_change c ds) ≡ false → Parts layer r c (d ∷ ds)
    behind e true f rest h = (first_shows layer r d ds true f ∙ sym (first_shows layer r d (with_change c ds) true f) ∙ h, unlike layer r c (apart d.layer c.layer layer e f))
    behind e false f rest h =
        let both : Parts layer r c ds = rest (sym (first_shows layer r d (with_change c ds) false f) ∙ h) in
        (first_shows layer r d ds false f ∙ both.0, both.1)

    before : c.layer < d.layer → (y : Bool) → (c.layer == layer) ≡ y → listed_shows layer r (alone c ∷ d ∷ ds) ≡ false → Parts layer r c (d ∷ ds)
    before lt true f h =
        let is : c.layer ≡ layer = eqb-true c.layer layer f in
        let none : changes.change_of (d ∷ ds) layer ≡ None = above_none layer c.layer (d ∷ ds) (omega (arith, is)) (lt, above_weaker c.layer d.layer ds (omega (arith, lt)) up.0) in
        (ap (λ (o : Option LayerChange). may_show_in o r) none, and_nothing (c.layer == layer) (c.whole || touched c.rects r) (sym (first_shows layer r (alone c) (d ∷ ds) true f) ∙ h))
    before lt false f h = (sym (first_shows layer r (alone c) (d ∷ ds) false f) ∙ h, unlike layer r c f)

    go : (a : Bool) → (d.layer == c.layer) ≡ a → (b : Bool) → nat_lt d.layer c.layer ≡ b → (listed_shows layer r (with_change c ds) ≡ false → Parts layer r c ds) → listed_shows layer r (cond a (with_later d c ∷ ds) (cond b (d ∷ with_change c ds) (alone c ∷ d ∷ ds))) ≡ false → Parts layer r c (d ∷ ds)
    go true e b l rest h = same e (d.layer == layer) refl h
    go false e true l rest h = behind e (d.layer == layer) refl rest h
    go false e false l rest h = before (grind (arith, nat_tests, e, l)) (c.layer == layer) refl h

some_parts : (layer : ℕ) (r : Rect) (o : Option Change) (ds : List LayerChange) → IsRising ds → listed_shows layer r (with_some o ds) ≡ false → (listed_shows layer r ds ≡ false) × (some_shows layer r o ≡ false)
some_parts layer r None ds up h = (h, refl)
some_parts layer r (Some c) ds up h = change_parts layer r c ds up h

-- another layer is no longer listed
other_listed : (id layer : ℕ) (ds : List LayerChange) → (id == layer) ≡ false → changes.change_of (without_layer id ds) layer ≡ changes.change_of ds layer
other_listed id layer [] out = refl
other_listed id layer (d ∷ ds) out = go (d.layer == id) refl (d.layer == layer) refl (other_listed id layer ds out)
  where
    go : (a : Bool) → (d.layer == id) ≡ a → (x : Bool) → (d.layer == layer) ≡ x → changes.change_of (without_layer id ds) layer ≡ changes.change_of ds layer
        → changes.change_of (cond (not a) (d ∷ without_layer id ds) (without_layer id ds)) layer ≡ changes.change_of (d ∷ ds) layer
    go true e x f rest = rest ∙ sym (ap (λ (b : Bool). if b then Some d else changes.change_of ds layer) (ap (λ (n : ℕ). n == layer) (eqb-true d.layer id e) ∙ out))
    go false e x f rest = ap (λ (o : Option LayerChange). if d.layer == layer then Some d else o) rest

-- a layer that is still there is not the one that was removed
still_there : (i id : ℕ) (ls : List PageLayer) → AreDistinctLayers ls → has_layer id (layers.without_first (has_id i) ls) ≡ true → (i == id) ≡ false
still_there i id ls d there = is_false (i == id) (λ e. not_both (has_layer id (layers.without_first (has_id i) ls)) there (ap (λ (n : ℕ). has_layer n (layers.without_first (has_id i) ls)) (sym (eqb-true i id e)) ∙ absent-taken i ls d))

command_parts : (p : Page) (c : Command) (layer : ℕ) (r : Rect) (ds : List LayerChange) → IsPage p → IsRising ds → has_layer layer (page_after_command p c).layers ≡ true → listed_shows layer r (with_command p c ds) ≡ false
    → (listed_shows layer r ds ≡ false) × (some_shows layer r (layer_change_of p c) ≡ false)
command_parts p (command.RemoveLayer c) layer r ds is up there h = (ap (λ (o : Option LayerChange). may_show_in o r) (sym (other_listed c.id layer ds (still_there c.id layer p.layers is.distinct there))) ∙ h, refl)
command_parts p (command.AddTransform c) layer r ds is up there h = (h, refl)
command_parts p c layer r ds is up there h = some_parts layer r (layer_change_of p c) ds up h

-- ---- what a command keeps

-- two pages show the same in a rect of a layer, and cut the layer alike
pub record KeepsLayer (layer : ℕ) (r : Rect) (p q : Page) : Type 0 where
  pub content : (x y : ℤ) → covers r x y ≡ true → content_at q layer x y ≡ content_at p layer x y
  pub size : size_of q layer ≡ size_of p layer
  pub tile : q.view.tile ≡ p.view.tile

pub keeps_same : (layer : ℕ) (r : Rect) (p : Page) → KeepsLayer layer r p p
keeps_same layer r p = record { content = λ x y in'. refl; size = refl; tile = refl }

pub keeps_then : (layer : ℕ) (r : Rect) (p q o : Page) → KeepsLayer layer r p q → KeepsLayer layer r q o → KeepsLayer layer r p o
keeps_then layer r p q o a b = record { content = λ x y in'. b.content x y in' ∙ a.content x y in'; size = b.size ∙ a.size; tile = b.tile ∙ a.tile }

-- a change that does not show in the rect shows at none of its points, and is not of the whole layer
untouched : (rs : List Rect) (r : Rect) (x y : ℤ) → touched rs r ≡ false → covers r x y ≡ true → covered rs x y ≡ false
untouched rs r x y out in' = is_false (covered rs x y) (λ c. not_both (touched rs r) (points_decide.touches rs r (x, y, c, in')) out)

quiet_points : (layer : ℕ) (r : Rect) (o : Option Change) (x y : ℤ) → some_shows layer r o ≡ false → covers r x y ≡ true → shows_at o layer x y ≡ false
quiet_points layer r None x y out in' = refl
quiet_points layer r (Some c) x y out in' = go (c.layer == layer) out
  where
    go : (b : Bool) → b && (c.whole || touched c.rects r) ≡ false → b && (c.whole || covered c.rects x y) ≡ false
    go false h = refl
    go true h = or_neither c.whole (covered c.rects x y) (or_left_false c.whole (touched c.rects r) h) (untouched c.rects r x y (or_right_false c.whole (touched c.rects r) h) in')

quiet_whole : (layer : ℕ) (r : Rect) (o : Option Change) → some_shows layer r o ≡ false → is_changed_whole o layer ≡ false
quiet_whole layer r None out = refl
quiet_whole layer r (Some c) out = go (c.layer == layer) out
  where
    go : (b : Bool) → b && (c.whole || touched c.rects r) ≡ false → b && c.whole ≡ false
    go false h = refl
    go true h = or_left_false c.whole (touched c.rects r) h

same_tile : (p : Page) (c : Command) → retiles p c ≡ false → (page_after_command p c).view.tile ≡ p.view.tile
same_tile p (command.SetView c) out = eqb-true c.tile p.view.tile (not_false (c.tile == p.view.tile) out)
same_tile p _ out = refl

after_keeps : (p : Page) (c : Command) (layer : ℕ) (r : Rect) → IsPage p → Accepts p c → has_layer layer p.layers ≡ true → has_layer layer (page_after_command p c).layers ≡ true → some_shows layer r (layer_change_of p c) ≡ false → retiles p c ≡ false → KeepsLayer layer r p (page_after_command p c)
after_keeps p c layer r is ok before there out tiles =
    let keeps : KeepsTheRest p c = unlisted_stays p c is ok in
    record {
      content = λ x y in'. keeps.content layer x y before there (quiet_points layer r (layer_change_of p c) x y out in');
      size = keeps.size layer before there (quiet_whole layer r (layer_change_of p c) out);
      tile = same_tile p c tiles;
    }

-- ---- what the commands of a frame keep

-- what changed shows in a rect of a layer
abbrev pub changed_shows : ℕ → Rect → Changed → Bool
changed_shows layer r done = done.retiled || listed_shows layer r done.list

-- a layer that is there before and after the commands, where what they changed does not show in the rect
pub commanded_keeps : (cs : List Command) (p : Page) (layer : ℕ) (r : Rect) (done : Changed) → IsPage p → TakesAll p cs → IsRising done.list → has_layer layer p.layers ≡ true → has_layer layer (commanded cs p).layers ≡ true
    → changed_shows layer r (changed_by p cs done) ≡ false → (changed_shows layer r done ≡ false) × KeepsLayer layer r p (commanded cs p)
commanded_keeps [] p layer r done is t up before last out = (out, keeps_same layer r p)
commanded_keeps (c ∷ cs) p layer r done is t up before last out =
    let there : has_layer layer (page_after_command p c).layers ≡ true = there_between c cs p layer is t before last in
    let rest : (changed_shows layer r (with_next p c done) ≡ false) × KeepsLayer layer r (page_after_command p c) (commanded cs (page_after_command p c)) =
    commanded_keeps cs (page_after_command p c) layer r (with_next p c done) (page_after p c is t.0) t.1 (rising_command p c done.list up) there last out in
    let tiles : done.retiled || retiles p c ≡ false = or_left_false (done.retiled || retiles p c) (listed_shows layer r (with_command p c done.list)) rest.0 in
    let lists : listed_shows layer r (with_command p c done.list) ≡ false = or_right_false (done.retiled || retiles p c) (listed_shows layer r (with_command p c done.list)) rest.0 in
    let parts : (listed_shows layer r done.list ≡ false) × (some_shows layer r (layer_change_of p c) ≡ false) = command_parts p c layer r done.list is up there lists in (
      or_neither done.retiled (listed_shows layer r done.list) (or_left_false done.retiled (retiles p c) tiles) parts.0,
      keeps_then layer r p (page_after_command p c) (commanded cs (page_after_command p c)) (after_keeps p c layer r is t.0 before there parts.1 (or_right_false done.retiled (retiles p c) tiles)) rest.1,
    )
