-- What is read as an event has numbers that fit.
use Rattle.std.proofs.Common.{◌≡◌, ℕ, zero, suc, ◌+◌, ◌-◌, ◌*◌, ◌<◌, ◌^◌, true, false, List, [], ◌∷◌, take, drop, refl, arith, None, Some, subst}
use Rattle.std.specs.Prelude.{Bool, ℤ, pos, negsuc, FitsSigned, Option, nat_eq, nat_lt, nat_le, int_le, ◌&&◌, ◌==◌, if◌then◌else◌}
use Rattle.std.specs.Int.{w32, w64}
use Rattle.std.specs.Char.{is_ascii_digit}
use Rattle.std.specs.List.{starts_with}
use Rattle.std.proofs.lemmas.Bool.Decides.{nat_tests}
use Rattle.std.proofs.lemmas.Int.{ints}
use Rattle.geom.specs.declared.tile.TileKey.{TileKey}
use Rattle.page_layers.specs.declared.moves.Move.{Move}
use Rattle.model_history.specs.declared.event.Event.{Event}
use Rattle.model_history.specs.declared.event.Event.TheVariants as event
use Rattle.model_history.specs.Texts.{event_line}
use Rattle.geom.specs.declared.rect.Point.{Point}
use Rattle.recording_text.specs.declared.guess.Hit.{Hit}
use Rattle.recording_text.specs.declared.word.Word.{Word}
use Rattle.recording_text.specs.declared.word.Word.TheVariants as word
use Rattle.recording_text.specs.Fits.{FitsKey, FitKeys, FitsMove, FitMoves, FitsEvent}
use Rattle.recording_text.specs.Numbers.{◌>>=◌, before, signed, numbers, u32_of, i32_of, key_from, key_in, keys_from, move_from, moves_of}
use Rattle.recording_text.specs.Guesses.{guess, guess_of, has_plain_dash, event_with_numbers, event_of, single_of, plain_of, number_of, send_of, activate_of, scroll_of, hit_in, rest_in, turned, wheel_of, start_of, done_of, draw_of, word_at, head}
use Rattle.recording_text.specs.Lines.{checked, event_at}
use Rattle.recording_text.proofs.Binds.{bind_some, either_way}

-- numbers of 64 bits
abbrev AllFit : List ℤ → Type 0
AllFit [] = Unit {0}
AllFit (z ∷ zs) = FitsSigned w64 z × AllFit zs

signed_in : (b : Bool) (n : ℕ) (z y : ℤ) → nat_lt n 9223372036854775808 ≡ b → (n < 9223372036854775808 → FitsSigned w64 z) → (if b then Some z else None) ≡ Some y → FitsSigned w64 y
signed_in true n z y small fits is = let one : z ≡ y = cc (is) in let few : n < 9223372036854775808 = grind (arith, nat_tests) in subst (λ (x : ℤ). FitsSigned w64 x) one (fits few)
signed_in false n z y small fits is = absurd (cc (is))

signed_fits : (b : Bool) (n : ℕ) (z : ℤ) → signed b n ≡ Some z → FitsSigned w64 z
signed_fits false n z is = signed_in (nat_lt n 9223372036854775808) n (pos n) z refl (λ few. omega (arith, ints)) is
signed_fits true zero z is = let one : pos zero ≡ z = cc (is) in subst (λ (x : ℤ). FitsSigned w64 x) one (omega (arith, ints))
signed_fits true (suc n) z is = signed_in (nat_lt n 9223372036854775808) n (negsuc n) z refl (λ few. omega (arith, ints)) is

before_fits : (b : Bool) (n : ℕ) (o : Option (List ℤ)) (zs : List ℤ) → before (signed b n) o ≡ Some zs → ((rest : List ℤ) → o ≡ Some rest → AllFit rest) → AllFit zs
before_fits b n o zs is rest = before_in (signed b n) o zs is (λ z there. signed_fits b n z there) rest where
  before_in : (p : Option ℤ) (o : Option (List ℤ)) (zs : List ℤ) → before p o ≡ Some zs → ((z : ℤ) → p ≡ Some z → FitsSigned w64 z) → ((rest : List ℤ) → o ≡ Some rest → AllFit rest) → AllFit zs
  before_in None o zs is first rest = absurd (cc (is))
  before_in (Some z) None zs is first rest = absurd (cc (is))
  before_in (Some z) (Some ys) zs is first rest = let one : z ∷ ys ≡ zs = cc (is) in subst AllFit one (first z refl, rest ys refl)

nothing_fits : (rest : List ℤ) → Some [] ≡ Some rest → AllFit rest
nothing_fits rest is = let one : [] ≡ rest = cc (is) in subst AllFit one tt

numbers_fit : (b : Bool) (n : ℕ) (xs : List ℕ) (zs : List ℤ) → numbers b n xs ≡ Some zs → AllFit zs
unfolding numbers
numbers_fit b n [] zs is = absurd (cc (is))
numbers_fit b n (c ∷ r) zs is =
    either_way (is_ascii_digit c) _ _ (Some zs) is
    (λ digit. either_way (nat_le n 922337203685477580) _ _ (Some zs) digit (λ more. numbers_fit b (n * 10 + (c - 48)) r zs more) (λ none. absurd (cc (none))))
    (λ other. either_way (c == 45) _ _ (Some zs) other (λ more. numbers_fit true n r zs more)
    (λ ends. either_way (c == 10) _ _ (Some zs) ends (λ last. before_fits b n (Some []) zs last nothing_fits) (λ more. before_fits b n (numbers false 0 r) zs more (λ ys there. numbers_fit false 0 r ys there))))

u32_in : (b : Bool) (n m : ℕ) → nat_lt n 4294967296 ≡ b → (if b then Some n else None) ≡ Some m → m < 2 ^ 32
u32_in true n m small is = let one : n ≡ m = cc (is) in let few : n < 4294967296 = grind (arith, nat_tests) in omega (arith, one)
u32_in false n m small is = absurd (cc (is))

u32_fits : (z : ℤ) (n : ℕ) → u32_of z ≡ Some n → n < 2 ^ 32
u32_fits (pos m) n is = u32_in (nat_lt m 4294967296) m n refl is
u32_fits (negsuc m) n is = absurd (cc (is))

i32_in : (a b : Bool) (z y : ℤ) → int_le (negsuc 2147483647) z ≡ a → int_le z (pos 2147483647) ≡ b → (if a && b then Some z else None) ≡ Some y → FitsSigned w32 y
i32_in true true z y low high is = let one : z ≡ y = cc (is) in let fits : FitsSigned w32 z = grind (arith, ints) in subst (λ (x : ℤ). FitsSigned w32 x) one fits
i32_in true false z y low high is = absurd (cc (is))
i32_in false b z y low high is = absurd (cc (is))

i32_fits : (z y : ℤ) → i32_of z ≡ Some y → FitsSigned w32 y
i32_fits z y is = i32_in (int_le (negsuc 2147483647) z) (int_le z (pos 2147483647)) z y refl refl is

key_of_fits : (layer x y stamp : ℤ) (k : TileKey) → key_from layer x y stamp ≡ Some k → FitsKey k
unfolding key_from
key_of_fits layer x y stamp k is =
    let a = bind_some (u32_of layer) _ k is in
    let b = bind_some (u32_of x) _ k a.2 in
    let c = bind_some (u32_of y) _ k b.2 in
    let d = bind_some (u32_of stamp) _ k c.2 in
    let one : record { layer = a.0; x = b.0; y = c.0; stamp = d.0 } ≡ k = cc (d.2) in
    subst FitsKey one (u32_fits layer a.0 a.1, u32_fits x b.0 b.1, u32_fits y c.0 c.1, u32_fits stamp d.0 d.1)

key_in_fits : (zs : List ℤ) (k : TileKey) → key_in zs ≡ Some k → FitsKey k
unfolding key_in
key_in_fits [] k is = absurd (cc (is))
key_in_fits (a ∷ []) k is = absurd (cc (is))
key_in_fits (a ∷ b ∷ []) k is = absurd (cc (is))
key_in_fits (a ∷ b ∷ c ∷ []) k is = absurd (cc (is))
key_in_fits (a ∷ b ∷ c ∷ d ∷ []) k is = key_of_fits a b c d k is
key_in_fits (a ∷ b ∷ c ∷ d ∷ e ∷ r) k is = absurd (cc (is))

keys_before : (o : Option TileKey) (p : Option (List TileKey)) (ks : List TileKey) → before o p ≡ Some ks → ((k : TileKey) → o ≡ Some k → FitsKey k) → ((rest : List TileKey) → p ≡ Some rest → FitKeys rest) → FitKeys ks
keys_before None p ks is first rest = absurd (cc (is))
keys_before (Some k) None ks is first rest = absurd (cc (is))
keys_before (Some k) (Some ls) ks is first rest = let one : k ∷ ls ≡ ks = cc (is) in subst FitKeys one (first k refl, rest ls refl)

keys_fit : (zs : List ℤ) (ks : List TileKey) → keys_from zs ≡ Some ks → FitKeys ks
unfolding keys_from
keys_fit [] ks is = let one : [] ≡ ks = cc (is) in subst FitKeys one tt
keys_fit (a ∷ []) ks is = absurd (cc (is))
keys_fit (a ∷ b ∷ []) ks is = absurd (cc (is))
keys_fit (a ∷ b ∷ c ∷ []) ks is = absurd (cc (is))
keys_fit (a ∷ b ∷ c ∷ d ∷ r) ks is = keys_before (key_from a b c d) (keys_from r) ks is (λ k there. key_of_fits a b c d k there) (λ rest there. keys_fit r rest there)

move_of_fits : (s x y : ℤ) (m : Move) → FitsSigned w64 x → FitsSigned w64 y → move_from s x y ≡ Some m → FitsMove m
unfolding move_from
move_of_fits s x y m across down is =
    let a = bind_some (u32_of s) _ m is in
    let one : record { scroller = a.0; dx = x; dy = y } ≡ m = cc (a.2) in
    subst FitsMove one (u32_fits s a.0 a.1, across, down)

moves_before : (o : Option Move) (p : Option (List Move)) (ms : List Move) → before o p ≡ Some ms → ((m : Move) → o ≡ Some m → FitsMove m) → ((rest : List Move) → p ≡ Some rest → FitMoves rest) → FitMoves ms
moves_before None p ms is first rest = absurd (cc (is))
moves_before (Some m) None ms is first rest = absurd (cc (is))
moves_before (Some m) (Some ls) ms is first rest = let one : m ∷ ls ≡ ms = cc (is) in subst FitMoves one (first m refl, rest ls refl)

moves_fit : (zs : List ℤ) (ms : List Move) → AllFit zs → moves_of zs ≡ Some ms → FitMoves ms
unfolding moves_of
moves_fit [] ms fits is = let one : [] ≡ ms = cc (is) in subst FitMoves one tt
moves_fit (a ∷ []) ms fits is = absurd (cc (is))
moves_fit (a ∷ b ∷ []) ms fits is = absurd (cc (is))
moves_fit (a ∷ b ∷ c ∷ r) ms fits is = moves_before (move_from a b c) (moves_of r) ms is (λ m there. move_of_fits a b c m fits.1.0 fits.1.1.0 there) (λ rest there. moves_fit r rest fits.1.1.1 there)

fit_drop : (n : ℕ) (zs : List ℤ) → AllFit zs → AllFit (drop n zs)
fit_drop zero zs fits = fits
fit_drop (suc n) [] fits = tt
fit_drop (suc n) (z ∷ zs) fits = fit_drop n zs fits.1

send_fits : (zs : List ℤ) (e : Event) → AllFit zs → send_of zs ≡ Some e → FitsEvent e
unfolding send_of
send_fits [] e fits is = absurd (cc (is))
send_fits (n ∷ r) e fits is =
    let a = bind_some (u32_of n) _ e is in
    let b = bind_some (moves_of r) _ e a.2 in
    let one : event.Send a.0 b.0 ≡ e = cc (b.2) in
    subst FitsEvent one (u32_fits n a.0 a.1, moves_fit r b.0 fits.1 b.1)

activate_fits : (zs : List ℤ) (e : Event) → AllFit zs → activate_of zs ≡ Some e → FitsEvent e
unfolding activate_of
activate_fits [] e fits is = absurd (cc (is))
activate_fits (n ∷ r) e fits is =
    let a = bind_some (u32_of n) _ e is in
    let b = bind_some (moves_of r) _ e a.2 in
    let one : event.Activate a.0 b.0 ≡ e = cc (b.2) in
    subst FitsEvent one (u32_fits n a.0 a.1, moves_fit r b.0 fits.1 b.1)

scroll_fits : (zs : List ℤ) (e : Event) → scroll_of zs ≡ Some e → FitsEvent e
unfolding scroll_of
scroll_fits [] e is = absurd (cc (is))
scroll_fits (n ∷ []) e is = absurd (cc (is))
scroll_fits (n ∷ x ∷ []) e is = absurd (cc (is))
scroll_fits (n ∷ x ∷ y ∷ []) e is =
    let a = bind_some (u32_of n) _ e is in
    let b = bind_some (i32_of x) _ e a.2 in
    let c = bind_some (i32_of y) _ e b.2 in
    let one : event.Scroll a.0 b.0 c.0 ≡ e = cc (c.2) in
    subst FitsEvent one (u32_fits n a.0 a.1, i32_fits x b.0 b.1, i32_fits y c.0 c.1)
scroll_fits (n ∷ x ∷ y ∷ z ∷ r) e is = absurd (cc (is))

abbrev FitsHit : Hit → Type 0
FitsHit t = (t.input < 2 ^ 32) × (t.target < 2 ^ 32)

hit_fits : (zs : List ℤ) (t : Hit) → hit_in zs ≡ Some t → FitsHit t
unfolding hit_in
hit_fits [] t is = absurd (cc (is))
hit_fits (n ∷ []) t is = absurd (cc (is))
hit_fits (n ∷ g ∷ []) t is =
    let a = bind_some (u32_of n) _ t is in
    let b = bind_some (u32_of g) _ t a.2 in
    let one : record { input = a.0; target = b.0 } ≡ t = cc (b.2) in
    subst FitsHit one (u32_fits n a.0 a.1, u32_fits g b.0 b.1)
hit_fits (n ∷ g ∷ x ∷ r) t is = absurd (cc (is))

abbrev FitsRest : Point → Type 0
FitsRest p = FitsSigned w32 p.x × FitsSigned w32 p.y

rest_fits : (zs : List ℤ) (p : Point) → rest_in zs ≡ Some p → FitsRest p
unfolding rest_in
rest_fits [] p is = absurd (cc (is))
rest_fits (x ∷ []) p is = absurd (cc (is))
rest_fits (x ∷ y ∷ []) p is =
    let a = bind_some (i32_of x) _ p is in
    let b = bind_some (i32_of y) _ p a.2 in
    let one : record { x = a.0; y = b.0 } ≡ p = cc (b.2) in
    subst FitsRest one (i32_fits x a.0 a.1, i32_fits y b.0 b.1)
rest_fits (x ∷ y ∷ z ∷ r) p is = absurd (cc (is))

wheel_fits : (zs : List ℤ) (e : Event) → AllFit zs → wheel_of zs ≡ Some e → FitsEvent e
unfolding wheel_of
wheel_fits zs e fits is =
    let a = bind_some (hit_in (take 2 zs)) _ e is in
    let b = bind_some (rest_in (take 2 (drop 2 zs))) _ e a.2 in
    let d = bind_some (moves_of (drop 4 zs)) _ e b.2 in
    let one : turned a.0 b.0 d.0 ≡ e = cc (d.2) in
    let hit = hit_fits (take 2 zs) a.0 a.1 in
    let rest = rest_fits (take 2 (drop 2 zs)) b.0 b.1 in
    subst FitsEvent one (hit.0, hit.1, rest.0, rest.1, moves_fit (drop 4 zs) d.0 (fit_drop 4 zs fits) d.1)

start_fits : (zs : List ℤ) (e : Event) → start_of zs ≡ Some e → FitsEvent e
unfolding start_of
start_fits [] e is = absurd (cc (is))
start_fits (n ∷ r) e is =
    let a = bind_some (u32_of n) _ e is in
    let b = bind_some (key_in (take 4 r)) _ e a.2 in
    let c = bind_some (keys_from (drop 4 r)) _ e b.2 in
    let one : event.Start a.0 b.0 c.0 ≡ e = cc (c.2) in
    subst FitsEvent one (u32_fits n a.0 a.1, key_in_fits (take 4 r) b.0 b.1, keys_fit (drop 4 r) c.0 c.1)

done_fits : (zs : List ℤ) (e : Event) → done_of zs ≡ Some e → FitsEvent e
unfolding done_of
done_fits [] e is = absurd (cc (is))
done_fits (n ∷ r) e is =
    let a = bind_some (u32_of n) _ e is in
    let b = bind_some (key_in r) _ e a.2 in
    let one : event.DoneTile a.0 b.0 ≡ e = cc (b.2) in
    subst FitsEvent one (u32_fits n a.0 a.1, key_in_fits r b.0 b.1)

draw_fits : (zs : List ℤ) (e : Event) → draw_of zs ≡ Some e → FitsEvent e
unfolding draw_of
draw_fits [] e is = absurd (cc (is))
draw_fits (n ∷ r) e is =
    let a = bind_some (u32_of n) _ e is in
    let b = bind_some (keys_from r) _ e a.2 in
    let one : event.Draw a.0 b.0 ≡ e = cc (b.2) in
    subst FitsEvent one (u32_fits n a.0 a.1, keys_fit r b.0 b.1)

number_fits : (zs : List ℤ) (n : ℕ) → number_of zs ≡ Some n → n < 2 ^ 32
number_fits [] n is = absurd (cc (is))
number_fits (z ∷ []) n is = u32_fits z n is
number_fits (z ∷ y ∷ r) n is = absurd (cc (is))

plain_fits : (w : Word) (n : ℕ) (e : Event) → n < 2 ^ 32 → plain_of w n ≡ Some e → FitsEvent e
unfolding plain_of
plain_fits word.Begin n e few is = let one : event.Begin n ≡ e = cc (is) in subst FitsEvent one few
plain_fits word.Ready n e few is = let one : event.Ready n ≡ e = cc (is) in subst FitsEvent one few
plain_fits word.Abort n e few is = let one : event.Abort n ≡ e = cc (is) in subst FitsEvent one few
plain_fits word.Commit n e few is = let one : event.Commit n ≡ e = cc (is) in subst FitsEvent one few
plain_fits word.Skip n e few is = let one : event.Skip n ≡ e = cc (is) in subst FitsEvent one few
plain_fits word.Await n e few is = let one : event.Await n ≡ e = cc (is) in subst FitsEvent one few
plain_fits word.Settle n e few is = let one : event.Settle n ≡ e = cc (is) in subst FitsEvent one few
plain_fits word.Stop n e few is = let one : event.Stop n ≡ e = cc (is) in subst FitsEvent one few
plain_fits word.Send n e few is = absurd (cc (is))
plain_fits word.Activate n e few is = absurd (cc (is))
plain_fits word.Scroll n e few is = absurd (cc (is))
plain_fits word.Wheel n e few is = absurd (cc (is))
plain_fits word.Start n e few is = absurd (cc (is))
plain_fits word.Done n e few is = absurd (cc (is))
plain_fits word.Draw n e few is = absurd (cc (is))
plain_fits word.NoDraw n e few is = absurd (cc (is))
plain_fits word.Finish n e few is = absurd (cc (is))
plain_fits word.End n e few is = absurd (cc (is))

single_fits : (w : Word) (zs : List ℤ) (e : Event) → single_of w zs ≡ Some e → FitsEvent e
single_fits w zs e is = let a = bind_some (number_of zs) _ e is in plain_fits w a.0 e (number_fits zs a.0 a.1) a.2

event_of_fits : (w : Word) (zs : List ℤ) (e : Event) → AllFit zs → event_of w zs ≡ Some e → FitsEvent e
unfolding event_of
event_of_fits word.Send zs e fits is = send_fits zs e fits is
event_of_fits word.Activate zs e fits is = activate_fits zs e fits is
event_of_fits word.Scroll zs e fits is = scroll_fits zs e is
event_of_fits word.Wheel zs e fits is = wheel_fits zs e fits is
event_of_fits word.Start zs e fits is = start_fits zs e is
event_of_fits word.Done zs e fits is = done_fits zs e is
event_of_fits word.Draw zs e fits is = draw_fits zs e is
event_of_fits w zs e fits is = single_fits w zs e is

with_numbers_fits : (w : Word) (xs : List ℕ) (e : Event) → event_with_numbers w xs ≡ Some e → FitsEvent e
with_numbers_fits w xs e is =
    let a = bind_some (numbers false 0 (drop (head w) xs)) _ e is in
    event_of_fits w a.0 e (numbers_fit false 0 (drop (head w) xs) a.0 a.1) a.2

guess_of_fits : (w : Word) (xs : List ℕ) (e : Event) → guess_of xs w ≡ Some e → FitsEvent e
unfolding guess_of
guess_of_fits word.Begin xs e is = either_way (has_plain_dash xs) _ _ (Some e) is (λ plain. let one : event.BeginPlain ≡ e = cc (plain) in subst FitsEvent one tt) (λ more. with_numbers_fits word.Begin xs e more)
guess_of_fits word.NoDraw xs e is = let one : event.NoDraw ≡ e = cc (is) in subst FitsEvent one tt
guess_of_fits word.Finish xs e is = let one : event.Finish ≡ e = cc (is) in subst FitsEvent one tt
guess_of_fits word.End xs e is = let one : event.End ≡ e = cc (is) in subst FitsEvent one tt
guess_of_fits w xs e is = with_numbers_fits w xs e is

checked_same : (xs : List ℕ) (f e : Event) → checked xs f ≡ Some e → f ≡ e
unfolding checked
checked_same xs f e is = either_way (starts_with nat_eq xs (event_line f)) _ _ (Some e) is (λ same. cc (same)) (λ none. absurd (cc (none)))

-- the numbers of an event that was read fit
pub event_fits : (xs : List ℕ) (e : Event) → event_at xs ≡ Some e → FitsEvent e
unfolding event_at guess
event_fits xs e is =
    let f = bind_some (guess xs) (checked xs) e is in
    let w = bind_some (word_at xs) (guess_of xs) f.0 f.1 in
    subst FitsEvent (checked_same xs f.0 e f.2) (guess_of_fits w.0 xs f.0 w.2)
