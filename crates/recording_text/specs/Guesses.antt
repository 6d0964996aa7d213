-- The one event that the numbers of a line can be, if its line is an event's.
--
-- The word of a line is told by its first and its third byte alone, and its numbers are taken whatever stands between them; whether the line is that of the event is seen afterwards.
use Rattle.std.specs.Prelude.{ℕ, ◌==◌, ℤ, Bool, false, if◌then◌else◌, List, [], ◌∷◌, take, drop, Option, Some, None}
use Rattle.model_history.specs.declared.event.Event.{Event}
use Rattle.model_history.specs.declared.event.Event.TheVariants as event
use Rattle.page_layers.specs.declared.moves.Move.{Move}
use Rattle.geom.specs.declared.rect.Point.{Point}
use Rattle.recording_text.specs.declared.guess.Hit.{Hit}
use Rattle.recording_text.specs.declared.word.Word.{Word}
use Rattle.recording_text.specs.declared.word.Word.TheVariants as word
use Rattle.recording_text.specs.Numbers.{◌>>=◌, numbers, u32_of, i32_of, key_in, keys_from, moves_of}

-- by the third byte: the words that begin with `a`, with `s`, with `d`
unfoldable pub word_a : ℕ → Option Word
word_a third =
    if third == 111 then Some word.Abort
    else (if third == 116 then Some word.Activate
    else (if third == 97 then Some word.Await else None))

unfoldable pub word_s : ℕ → Option Word
word_s third =
    if third == 110 then Some word.Send
    else (if third == 114 then Some word.Scroll
    else (if third == 97 then Some word.Start
    else (if third == 105 then Some word.Skip
    else (if third == 116 then Some word.Settle
    else (if third == 111 then Some word.Stop else None)))))

unfoldable pub word_d : ℕ → Option Word
word_d third = if third == 110 then Some word.Done else (if third == 97 then Some word.Draw else None)

-- by the first byte and the third
unfoldable pub word_by : ℕ → ℕ → Option Word
word_by first third =
    if first == 97 then word_a third
    else (if first == 115 then word_s third
    else (if first == 100 then word_d third
    else (if first == 98 then Some word.Begin
    else (if first == 114 then Some word.Ready
    else (if first == 99 then Some word.Commit
    else (if first == 119 then Some word.Wheel
    else (if first == 110 then Some word.NoDraw
    else (if first == 102 then Some word.Finish
    else (if first == 101 then Some word.End else None)))))))))

unfoldable pub word_at : List ℕ → Option Word
word_at (first ∷ second ∷ third ∷ rest) = word_by first third
word_at _ = None

-- how many bytes stand before the first number: the word and one more
unfoldable pub head : Word → ℕ
head word.Begin = 6
head word.Send = 5
head word.Ready = 6
head word.Abort = 6
head word.Commit = 7
head word.Activate = 9
head word.Scroll = 7
head word.Wheel = 6
head word.Start = 6
head word.Done = 5
head word.Draw = 5
head word.Skip = 5
head word.NoDraw = 7
head word.Finish = 7
head word.Await = 6
head word.Settle = 7
head word.End = 4
head word.Stop = 5

-- the one number of an event
abbrev pub number_of : List ℤ → Option ℕ
number_of (n ∷ []) = u32_of n
number_of _ = None

unfoldable pub send_of : List ℤ → Option Event
send_of [] = None
send_of (n ∷ rest) = do
  frame ← u32_of n
  pulls ← moves_of rest
  Some (event.Send frame pulls)

unfoldable pub activate_of : List ℤ → Option Event
activate_of [] = None
activate_of (n ∷ rest) = do
  frame ← u32_of n
  clamps ← moves_of rest
  Some (event.Activate frame clamps)

unfoldable pub scroll_of : List ℤ → Option Event
scroll_of (n ∷ x ∷ y ∷ []) = do
  input ← u32_of n
  dx ← i32_of x
  dy ← i32_of y
  Some (event.Scroll input dx dy)
scroll_of _ = None

-- a wheel's input and target
unfoldable pub hit_in : List ℤ → Option Hit
hit_in (n ∷ t ∷ []) = do
  input ← u32_of n
  target ← u32_of t
  Some (record { input = input; target = target })
hit_in _ = None

-- what it leaves over
unfoldable pub rest_in : List ℤ → Option Point
rest_in (x ∷ y ∷ []) = do
  right ← i32_of x
  down ← i32_of y
  Some (record { x = right; y = down })
rest_in _ = None

abbrev pub turned : Hit → Point → List Move → Event
turned h p moves = event.Wheel h.input h.target p.x p.y moves

unfoldable pub wheel_of : List ℤ → Option Event
wheel_of ns = do
  hit ← hit_in (take 2 ns)
  rest ← rest_in (take 2 (drop 2 ns))
  moves ← moves_of (drop 4 ns)
  Some (turned hit rest moves)

unfoldable pub start_of : List ℤ → Option Event
start_of [] = None
start_of (n ∷ rest) = do
  worker ← u32_of n
  key ← key_in (take 4 rest)
  evicted ← keys_from (drop 4 rest)
  Some (event.Start worker key evicted)

unfoldable pub done_of : List ℤ → Option Event
done_of [] = None
done_of (n ∷ rest) = do
  worker ← u32_of n
  key ← key_in rest
  Some (event.DoneTile worker key)

unfoldable pub draw_of : List ℤ → Option Event
draw_of [] = None
draw_of (n ∷ rest) = do
  input ← u32_of n
  missing ← keys_from rest
  Some (event.Draw input missing)

-- the event of one number that a word begins
unfoldable pub plain_of : Word → ℕ → Option Event
plain_of word.Begin n = Some (event.Begin n)
plain_of word.Ready n = Some (event.Ready n)
plain_of word.Abort n = Some (event.Abort n)
plain_of word.Commit n = Some (event.Commit n)
plain_of word.Skip n = Some (event.Skip n)
plain_of word.Await n = Some (event.Await n)
plain_of word.Settle n = Some (event.Settle n)
plain_of word.Stop n = Some (event.Stop n)
plain_of _ n = None

-- the same for one number
abbrev pub single_of : Word → List ℤ → Option Event
single_of w ns = do
  n ← number_of ns
  plain_of w n

-- the event of these numbers that a word begins
unfoldable pub event_of : Word → List ℤ → Option Event
event_of word.Send ns = send_of ns
event_of word.Activate ns = activate_of ns
event_of word.Scroll ns = scroll_of ns
event_of word.Wheel ns = wheel_of ns
event_of word.Start ns = start_of ns
event_of word.Done ns = done_of ns
event_of word.Draw ns = draw_of ns
event_of w ns = single_of w ns

abbrev pub event_with_numbers : Word → List ℕ → Option Event
event_with_numbers w xs = do
  ns ← numbers false 0 (drop (head w) xs)
  event_of w ns

-- a `-` stands where the number after `begin` would
abbrev pub has_plain_dash : List ℕ → Bool
has_plain_dash (a ∷ b ∷ c ∷ d ∷ e ∷ f ∷ dash ∷ rest) = dash == 45
has_plain_dash _ = false

-- the event that a line beginning with this word can be
unfoldable pub guess_of : List ℕ → Word → Option Event
guess_of xs word.Begin = if has_plain_dash xs then Some event.BeginPlain else event_with_numbers word.Begin xs
guess_of xs word.NoDraw = Some event.NoDraw
guess_of xs word.Finish = Some event.Finish
guess_of xs word.End = Some event.End
guess_of xs w = event_with_numbers w xs

-- the event that the line at the start of these bytes can be
unfoldable pub guess : List ℕ → Option Event
guess xs = do
  w ← word_at xs
  guess_of xs w
