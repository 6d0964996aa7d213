-- What pulls leave as it is: all of a page but the main values of its scrollers, and so what frames change and the stamps.
use Rattle.std.proofs.Common.{ℕ, zero, suc, ◌≡◌, ◌||◌, List, [], ◌∷◌, refl, ap, sym, ◌∙◌}
use Rattle.std.specs.Prelude.{unwrap_or}
use Rattle.std.specs.List.{find}
use Rattle.geom.specs.declared.rect.Rect.{Rect}
use Rattle.geom.specs.declared.tile.Place.{Place}
use Rattle.region.specs.Lists.{Changed}
use Rattle.tile_tiling.specs.Stamps.{Commit, stamp_of}
use Rattle.page_layers.specs.declared.command.Command.{Command}
use Rattle.page_layers.specs.declared.command.Command.TheVariants as command
use Rattle.page_layers.specs.Layers.{has_id}
use Rattle.page_layers.specs.Pages.{Page}
use Rattle.page_layers.specs.Effects.{page_after_command, retiles}
use Rattle.page_layers.specs.declared.moves.Move.{Move}
use Rattle.model_history.specs.Scripts.{ScriptModel}
use Rattle.model_history.specs.Frames.{commands_of, page, page_before}
use Rattle.model_history.proofs.PageFacts.{page_values, page_before_values}
use Rattle.model_history.specs.Stamps.{with_command, changed_by, unchanged, frame_changes, commits_to, place_rect, stamp_in}

-- a page without its main values
abbrev pub bare : Page → Page
bare p = record p { values = [] }

-- no frame has a pull
abbrev pub no_pulls : ℕ → List Move
no_pulls k = []

-- ---- pages

after_bare : (p : Page) (c : Command) → bare (page_after_command p c) ≡ bare (page_after_command (bare p) c)
after_bare p (command.AddTransform c) = refl
after_bare p _ = refl

after_alike : (p q : Page) (c : Command) → bare p ≡ bare q → bare (page_after_command p c) ≡ bare (page_after_command q c)
after_alike p q c same = after_bare p c ∙ ap (λ (z : Page). bare (page_after_command z c)) same ∙ sym (after_bare q c)

-- pages with and without pulls, and the pages that a frame's commands act on
pub page_bare : (s : ScriptModel) (ps : ℕ → List Move) (n : ℕ) → bare (page s ps n) ≡ bare (page s no_pulls n)
page_bare s ps n = ap (λ (z : Page). bare z) (page_values s ps no_pulls n)

before_bare : (s : ScriptModel) (ps : ℕ → List Move) (k : ℕ) → bare (page_before s ps k) ≡ bare (page_before s no_pulls k)
before_bare s ps k = ap (λ (z : Page). bare z) (page_before_values s ps no_pulls k)

-- ---- changes

-- what is changed with one command more
abbrev pub with_next : Page → Command → Changed → Changed
with_next p c done = record { list = with_command p c done.list; retiled = done.retiled || retiles p c }

next_bare : (p : Page) (c : Command) (done : Changed) → with_next p c done ≡ with_next (bare p) c done
next_bare p (command.AddTransform c) done = refl
next_bare p _ done = refl

changed_alike : (cs : List Command) (p q : Page) (done : Changed) → bare p ≡ bare q → changed_by p cs done ≡ changed_by q cs done
changed_alike [] p q done same = refl
changed_alike (c ∷ cs) p q done same =
    ap (λ (d : Changed). changed_by (page_after_command p c) cs d) (next_bare p c done ∙ ap (λ (z : Page). with_next z c done) same ∙ sym (next_bare q c done))
    ∙ changed_alike cs (page_after_command p c) (page_after_command q c) (with_next q c done) (after_alike p q c same)

frame_alike : (s : ScriptModel) (ps : ℕ → List Move) (k : ℕ) → frame_changes s ps k ≡ frame_changes s no_pulls k
frame_alike s ps k = changed_alike (commands_of s k) (page_before s ps k) (page_before s no_pulls k) unchanged (before_bare s ps k)

commits_alike : (s : ScriptModel) (ps : ℕ → List Move) (n : ℕ) → commits_to s ps n ≡ commits_to s no_pulls n
commits_alike s ps zero = refl
commits_alike s ps (suc k) =
    ap (λ (c : Changed). record { frame = k; changed = c } ∷ commits_to s ps k) (frame_alike s ps k)
    ∙ ap (λ (cs : List Commit). record { frame = k; changed = frame_changes s no_pulls k } ∷ cs) (commits_alike s ps k)

-- ---- stamps

-- the rect of a place of the layer with this id
abbrev pub rect_in : Page → ℕ → Place → Rect
rect_in p layer place = place_rect p place (find (has_id layer) p.layers)

stamp_with : (s : ScriptModel) (ps qs : ℕ → List Move) (n layer : ℕ) (place : Place) → bare (page s ps n) ≡ bare (page s qs n) → commits_to s ps n ≡ commits_to s qs n → stamp_in s ps n layer place ≡ stamp_in s qs n layer place
unfolding stamp_in
stamp_with s ps qs n layer place same commits =
    ap (λ (z : Page). unwrap_or (stamp_of layer (rect_in z layer place) (commits_to s ps n)) 0) same
    ∙ ap (λ (cs : List Commit). unwrap_or (stamp_of layer (rect_in (page s qs n) layer place) cs) 0) commits

pub stamp_alike : (s : ScriptModel) (ps : ℕ → List Move) (n layer : ℕ) (place : Place) → stamp_in s ps n layer place ≡ stamp_in s no_pulls n layer place
stamp_alike s ps n layer place = stamp_with s ps no_pulls n layer place (page_bare s ps n) (commits_alike s ps n)
