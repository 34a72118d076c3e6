-- A text read octet by octet: after each octet, the ranges that the character begun still asks for. This says what `octets`
-- says, since no octet begins two rows: each row begins above the ends of those before it.
-- Assumes nothing.
use mathlib.Core.Bool.{Bool, true, false, ◌&&◌, cond}
use mathlib.Core.List.{List, [], ◌∷◌}
use mathlib.Core.Path.{◌≡◌, refl, ap, sym, ◌∙◌}
use Prim.Native.Nat.{ℕ, suc, ◌≤◌, ◌<◌}
use native.Mathlib.Omega.{arith}
use lib.Dec.{T, leb, ltb, ltb→lt}
use lib.ListN.{length}
use Rattle.std.proofs.Common.{Option, None, Some}
use borrow.Author.Tests.{leb-true, lt-leb}
use Rattle.text.proofs.Table.{both, both_left, both_right}
use Rattle.text.specs.Utf8.{Bytes, Range, inside, rows, starts, char_length, past, octets, text}

-- after an octet: nothing is valid any more, or these ranges are asked for
pub data Next : Type 0 where
  stop : Next
  go : List Range → Next

-- after the first octet of a character
abbrev pub row_after : List (List Range) → ℕ → Next
row_after [] b = stop
row_after ([] ∷ more) b = row_after more b
row_after ((r ∷ rs) ∷ more) b = cond (inside r b) (go rs) (row_after more b)

-- after an octet, where these ranges were asked for
abbrev pub after : List Range → ℕ → Next
after [] b = row_after rows b
after (r ∷ rs) b = cond (inside r b) (go rs) stop

-- what f says of the ranges that are asked for
abbrev pub run : Next → (List Range → Bool) → Bool
run stop f = false
run (go q) f = f q

-- no range is asked for
abbrev pub none? : List Range → Bool
none? [] = true
none? (r ∷ rs) = false

-- the text is right, where these ranges are asked for first
unfoldable pub pend : List Range → Bytes → Bool
pend rs [] = none? rs
pend rs (b ∷ s) = run (after rs b) (λ q. pend q s)

-- each row begins above h
pub above : ℕ → List (List Range) → Bool
above h [] = true
above h ([] ∷ more) = false
above h ((r ∷ rs) ∷ more) = both (ltb h r.low) (above h more)

-- each row begins above the ends of those before it
unfoldable pub ascending : List (List Range) → Bool
unfolding above
ascending [] = true
ascending ([] ∷ more) = false
ascending ((r ∷ rs) ∷ more) = both (above r.high more) (ascending more)

-- the rows of the RFC do
pub ascends : T (ascending rows)
unfolding ascending above
ascends = tt

-- an octet that is not above h begins no row above h
none_above : (more : List (List Range)) (h b : ℕ) → b ≤ h → T (above h more) → row_after more b ≡ stop
unfolding above
none_above [] h b l t = refl
none_above ([] ∷ more) h b l t = absurd t
none_above ((r ∷ rs) ∷ more) h b l t =
    let w : h < r.low = ltb→lt h r.low (both_left (ltb h r.low) (above h more) t) in
    let e : leb r.low b ≡ false = lt-leb r.low b (omega arith) in
    rw e (none_above more h b l (both_right (ltb h r.low) (above h more) t))

-- an octet inside a range is not above it
inside-high : (r : Range) (b : ℕ) → inside r b ≡ true → b ≤ r.high
inside-high r b e = leb-true b r.high (second (leb r.low b) (leb b r.high) e)
  where
    second : (x y : Bool) → x && y ≡ true → y ≡ true
    second true y q = q
    second false true q = refl
    second false false q = q

-- the rows behind the first of ascending ones ascend, and none of them begins with an octet that the first begins with
pub behind : (r : Range) (rs : List Range) (more : List (List Range)) (b : ℕ) → T (ascending ((r ∷ rs) ∷ more))
    → T (ascending more) × (inside r b ≡ true → row_after more b ≡ stop)
unfolding ascending
behind r rs more b t = (
  both_right (above r.high more) (ascending more) t,
  λ e. none_above more r.high b (inside-high r b e) (both_left (above r.high more) (ascending more) t),
)

-- the length of the character whose first octet is passed
abbrev pub size : Next → Bytes → Option ℕ
size stop s = None
size (go rs) s = cond (starts rs s) (Some (suc (length rs))) None

-- one row more
size-row : (i x : Bool) (rs : List Range) (s : Bytes) (n : Next) (l : Option ℕ) → starts rs s ≡ x → (i ≡ true → n ≡ stop)
    → l ≡ size n s → cond (i && x) (Some (suc (length rs))) l ≡ size (cond i (go rs) n) s
size-row true true rs s n l e z h = rw e refl
size-row true false rs s n l e z h = rw e (h ∙ ap (λ (m : Next). size m s) (z refl))
size-row false x rs s n l e z h = h

-- the length of the first character is that of the row that its first octet begins
pub size-rows : (more : List (List Range)) (b : ℕ) (s : Bytes) → T (ascending more) → char_length more (b ∷ s) ≡ size (row_after more b) s
unfolding char_length starts ascending
size-rows [] b s t = refl
size-rows ([] ∷ more) b s t = absurd t
size-rows ((r ∷ rs) ∷ more) b s t =
    let w = behind r rs more b t in
    size-row (inside r b) (starts rs s) rs s (row_after more b) (char_length more (b ∷ s)) refl w.1 (size-rows more b s w.0)

-- a character and what is behind it, by its length
past_size : (x : Bool) (n : ℕ) (f : ℕ → Bool) → (x && f n) ≡ past (cond x (Some (suc n)) None) f
past_size true n f = refl
past_size false n f = refl

-- the same, after any first octet
run_past : (n : Next) (s : Bytes) → ((q : List Range) → pend q s ≡ (starts q s && octets (length q) s))
    → run n (λ q. pend q s) ≡ past (size n s) (λ k. octets k s)
run_past stop s ih = refl
run_past (go q) s ih = ih q ∙ past_size (starts q s) (length q) (λ k. octets k s)

-- one range more
one_range : (p q x : Bool) (rs : List Range) (s : Bytes) → pend rs s ≡ (q && x)
    → run (cond p (go rs) stop) (λ u. pend u s) ≡ ((p && q) && x)
one_range true q x rs s h = h
one_range false q x rs s h = refl

-- where ranges are asked for, the text begins with an octet of each and then goes on with a character
pend-octets : (rs : List Range) (s : Bytes) → pend rs s ≡ (starts rs s && octets (length rs) s)
unfolding pend starts octets
pend-octets [] [] = refl
pend-octets (r ∷ rs) [] = refl
pend-octets [] (b ∷ s) =
    run_past (row_after rows b) s (λ q. pend-octets q s)
    ∙ ap (λ (n : Option ℕ). past n (λ k. octets k s)) (sym (size-rows rows b s ascends))
pend-octets (r ∷ rs) (b ∷ s) = one_range (inside r b) (starts rs s) (octets (length rs) s) rs s (pend-octets rs s)

-- a valid text is one that asks for nothing before it begins
pub text-pend : (s : Bytes) → text s ≡ pend [] s
unfolding text starts
text-pend s = sym (pend-octets [] s)
