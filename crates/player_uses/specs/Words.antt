-- Which words the program takes, and what they ask for: `step N`, `play N`, `gen NUMBER`, `demo NUMBER`, `film N`, `shot N`, `serve N`, `frames`, `check`.
use Rattle.std.specs.Prelude.{ℕ, ◌≤◌, ⊤, Bool, true, false, ◌+◌, ◌-◌, ◌*◌, ◌^◌, ◌&&◌, nat_le, nat_lt, List, [], ◌∷◌, Option, Some, None, option_and_then, Result, Ok, Err, codes, decimal, if◌then◌else◌}
use Rattle.std.specs.Str.{bytes_eq}
use Rattle.player_uses.specs.declared.words.Use.{Use}
use Rattle.player_uses.specs.declared.words.Use.TheVariants.{Step, Play, Gen, Demo, Film, Shot, Frames, Check, Serve}

-- what the digits of a word say, if those before them say n
abbrev pub digits_value : ℕ → List ℕ → ℕ
digits_value n [] = n
digits_value n (c ∷ cs) = digits_value (n * 10 + (c - 48)) cs

-- the number below 2^64 whose plain decimal the word is, no other word is a number; such a number of raster workers: 1 to 16
unfoldable pub number_in : List ℕ → Option ℕ
number_in w =
    if nat_lt (digits_value 0 w) (2 ^ 64) && bytes_eq (decimal (digits_value 0 w)) w then Some (digits_value 0 w) else None

abbrev pub workers_in : List ℕ → Option ℕ
workers_in w = option_and_then (λ n. if nat_le 1 n && nat_le n 16 then Some n else None) (number_in w)

-- the use, if no word stands after its own; else the index of the next word
abbrev pub no_more_words : Use → ℕ → List (List ℕ) → Result Use ℕ
no_more_words wanted index [] = Ok wanted
no_more_words wanted index (w ∷ ws) = Err index

-- the use of a number, which is word 1, if there is one: after `step`, `play`, `film`, `shot` and `serve` it is that of raster workers, after `gen` and `demo` that of which the script is made
abbrev pub numbered : Option ℕ → (ℕ → Use) → List (List ℕ) → Result Use ℕ
numbered None wanted ws = Err 1
numbered (Some n) wanted ws = no_more_words (wanted n) 2 ws

abbrev pub with_number : (List ℕ → Option ℕ) → (ℕ → Use) → List (List ℕ) → Result Use ℕ
with_number said_by wanted [] = Err 1
with_number said_by wanted (w ∷ ws) = numbered (said_by w) wanted ws

-- what the words after the first one, which is none of `step`, ask for
abbrev pub after_other : List ℕ → List (List ℕ) → Result Use ℕ
after_other w ws =
    if bytes_eq w (codes "play") then with_number workers_in Play ws
    else (if bytes_eq w (codes "gen") then with_number number_in Gen ws
    else (if bytes_eq w (codes "demo") then with_number number_in Demo ws
    else (if bytes_eq w (codes "film") then with_number workers_in Film ws
    else (if bytes_eq w (codes "shot") then with_number workers_in Shot ws
    else (if bytes_eq w (codes "frames") then no_more_words Frames 1 ws
    else (if bytes_eq w (codes "check") then no_more_words Check 1 ws
    else (if bytes_eq w (codes "serve") then with_number workers_in Serve ws else Err 0)))))))

-- what the words ask for; or the index of the first word that, with those before it, begins no use, and if there is no such word and more words are needed, their count
abbrev pub use_of : List (List ℕ) → Result Use ℕ
use_of [] = Err 0
use_of (w ∷ ws) = if bytes_eq w (codes "step") then with_number workers_in Step ws else after_other w ws

-- the use is `play N`, the only one that may wait without end
abbrev pub is_play : Use → Bool
is_play (Play workers) = true
is_play _ = false

-- the words are those of `play N`
abbrev pub asks_play : Result Use ℕ → Bool
asks_play (Ok wanted) = is_play wanted
asks_play (Err word) = false

-- if it has raster workers, they are 1 to 16
abbrev pub IsFew : Use → Type 0
IsFew (Step workers) = (1 ≤ workers) × (workers ≤ 16)
IsFew (Play workers) = (1 ≤ workers) × (workers ≤ 16)
IsFew (Film workers) = (1 ≤ workers) × (workers ≤ 16)
IsFew (Shot workers) = (1 ≤ workers) × (workers ≤ 16)
IsFew (Serve workers) = (1 ≤ workers) × (workers ≤ 16)
IsFew _ = ⊤
