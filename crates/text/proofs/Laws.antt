-- Laws of valid text for other crates: joined, cut at an ASCII octet, and free of zero bytes. Read octet by octet
-- (Reading.antt), an octet below 128 can only stand where no range is asked for, and there it is a whole character.
-- Assumes nothing.
use mathlib.Core.Bool.{Bool, true, false, cond}
use mathlib.Core.List.{List, [], ◌∷◌, ◌++◌}
use mathlib.Core.Path.{◌≡◌, refl, subst, sym}
use Prim.Native.Nat.{ℕ, zero, suc, ◌≤◌, ◌<◌}
use native.Mathlib.Nat.{le_of_suc-le-suc, not-suc-le-zero}
use native.Mathlib.Omega.{arith}
use lib.Dec.{T, leb, leb→le}
use lib.ListN.{length, get_or}
use borrow.Author.Tests.{le-leb, lt-leb}
use Rattle.text.proofs.Table.{both, both_left, both_right}
use Rattle.text.proofs.Reading.{Next, stop, go, row_after, after, run, pend, text-pend}
use Rattle.text.specs.Utf8.{Bytes, Range, inside, rows, octets, text}

-- each range begins at m or above
lows : ℕ → List Range → Bool
lows m [] = true
lows m (r ∷ rs) = both (leb m r.low) (lows m rs)

-- each range of each row but the first begins at m or above
row_lows : ℕ → List (List Range) → Bool
unfolding lows
row_lows m [] = true
row_lows m ([] ∷ more) = row_lows m more
row_lows m ((r ∷ rs) ∷ more) = both (lows m rs) (row_lows m more)

-- an octet below the ranges that are asked for is refused
below : (m d : ℕ) (r : Range) (rs : List Range) → d < m → T (lows m (r ∷ rs)) → after (r ∷ rs) d ≡ stop
unfolding lows
below m d r rs l t =
    let w : m ≤ r.low = leb→le m r.low (both_left (leb m r.low) (lows m rs) t) in
    let e : leb r.low d ≡ false = lt-leb r.low d (omega arith) in
    rw e

-- what is asked for after a first octet
row-lows : (m : ℕ) (more : List (List Range)) (b : ℕ) (q : List Range) → T (row_lows m more) → row_after more b ≡ go q → T (lows m q)
unfolding row_lows
row-lows m [] b q t e = absurd (let z : ◌≡◌ {A = ℕ} 0 1 = cc in omega arith)
row-lows m ([] ∷ more) b q t e = row-lows m more b q t e
row-lows m ((r ∷ rs) ∷ more) b q t e =
    pick (inside r b) (row-lows m more b q (both_right (lows m rs) (row_lows m more) t)) e
  where
    pick : (i : Bool) → (row_after more b ≡ go q → T (lows m q)) → cond i (go rs) (row_after more b) ≡ go q → T (lows m q)
    pick true f h =
        let z : rs ≡ q = cc in
        subst (λ (x : List Range). T (lows m x)) z (both_left (lows m rs) (row_lows m more) t)
    pick false f h = f h

-- what is asked for after an octet: only a first octet of a character is below 128
after-lows : (rs : List Range) (b : ℕ) (q : List Range) → T (lows 128 rs) → after rs b ≡ go q → T (lows 128 q)
unfolding lows row_lows
after-lows [] b q t e = row-lows 128 rows b q tt e
after-lows (r ∷ rs) b q t e = pick (inside r b) e
  where
    pick : (i : Bool) → cond i (go rs) stop ≡ go q → T (lows 128 q)
    pick true h =
        let z : rs ≡ q = cc in
        subst (λ (x : List Range). T (lows 128 x)) z (both_right (leb 128 r.low) (lows 128 rs) t)
    pick false h = absurd (let z : ◌≡◌ {A = ℕ} 0 1 = cc in omega arith)

-- a right text goes on after its first octet
record Goes (rs : List Range) (b : ℕ) (s : Bytes) : Type 0 where
  then : List Range
  goes : after rs b ≡ go then
  high : T (lows 128 then)
  right : T (pend then s)

-- it does
follow : (rs : List Range) (b : ℕ) (s : Bytes) → T (lows 128 rs) → T (pend rs (b ∷ s)) → Goes rs b s
unfolding pend
follow rs b s l t = pick (after rs b) refl t
  where
    pick : (n : Next) → after rs b ≡ n → T (run n (λ q. pend q s)) → Goes rs b s
    pick stop e h = absurd h
    pick (go q) e h = record { then = q; goes = e; high = after-lows rs b q l e; right = h }

-- what f says of the ranges that are asked for, g says too
run-map : (n : Next) (f g : List Range → Bool) → ((q : List Range) → T (f q) → T (g q)) → T (run n f) → T (run n g)
run-map stop f g h t = t
run-map (go q) f g h t = h q t

-- right texts joined
pub pend-append : (rs : List Range) (a b : Bytes) → T (pend rs a) → T (pend [] b) → T (pend rs (a ++ b))
unfolding pend
pend-append [] [] b t u = u
pend-append (r ∷ rs) [] b t u = absurd t
pend-append rs (x ∷ a) b t u =
    run-map (after rs x) (λ q. pend q a) (λ q. pend q (a ++ b)) (λ q h. pend-append q a b h u) t

-- an ASCII octet is a whole character
plain-after : (d : ℕ) → 1 ≤ d → d < 128 → row_after rows d ≡ go []
plain-after d l h = rw (le-leb 1 d l, le-leb d 127 (omega arith))

-- right texts cut
cut : (rs : List Range) (a b : Bytes) (d : ℕ) → 1 ≤ d → d < 128 → T (lows 128 rs) → T (pend rs (a ++ (d ∷ b)))
    → T (pend rs a) × T (pend [] b)
unfolding pend
cut [] [] b d l h w t = (tt, rw (plain-after d l h) at t)
cut (r ∷ rs) [] b d l h w t =
    absurd (subst (λ (n : Next). T (run n (λ q. pend q b))) (below 128 d r rs h w) t)
cut rs (x ∷ a) b d l h w t =
    let f = follow rs x (a ++ (d ∷ b)) w t in
    let i = cut f.then a b d l h f.high f.right in
    (subst (λ (n : Next). T (run n (λ q. pend q a))) (sym f.goes) i.0, i.1)

-- a zero byte is right nowhere
zero-stops : (rs : List Range) → T (lows 128 rs) → after rs 0 ≡ stop
zero-stops [] t = refl
zero-stops (r ∷ rs) t = below 128 0 r rs (omega arith) t

-- a right text has none
nonzero : (rs : List Range) (s : Bytes) → T (lows 128 rs) → T (pend rs s) → (k : ℕ) → k < length s → get_or s k 0 ≡ 0 → ⊥
nonzero rs [] l t k h e = not-suc-le-zero h
nonzero rs (b ∷ s) l t zero h e =
    let f = follow rs b s l t in
    let g : after rs 0 ≡ go f.then = subst (λ (x : ℕ). after rs x ≡ go f.then) e f.goes in
    let q = zero-stops rs l in
    let z : ◌≡◌ {A = ℕ} 0 1 = cc in
    omega arith
nonzero rs (b ∷ s) l t (suc k) h e =
    let f = follow rs b s l t in
    nonzero f.then s f.high f.right k (le_of_suc-le-suc h) e

-- the empty text
pub text_none : T (text [])
unfolding text octets
text_none = tt

-- two texts joined are a text
pub text-append : (a b : Bytes) → T (text a) → T (text b) → T (text (a ++ b))
text-append a b t u = rw (text-pend (a ++ b)) (pend-append [] a b (rw (text-pend a) at t) (rw (text-pend b) at u))

-- a text cut at an ASCII octet, as at a slash, gives two texts
pub text-cut : (a b : Bytes) (d : ℕ) → 1 ≤ d → d < 128 → T (text (a ++ (d ∷ b))) → T (text a) × T (text b)
unfolding lows
text-cut a b d l h t =
    let w = cut [] a b d l h tt (rw (text-pend (a ++ (d ∷ b))) at t) in
    (rw (text-pend a) w.0, rw (text-pend b) w.1)

-- an ASCII octet before a text
pub text-ascii : (d : ℕ) (s : Bytes) → 1 ≤ d → d < 128 → T (text s) → T (text (d ∷ s))
unfolding pend
text-ascii d s l h t = text-append (d ∷ []) s (rw (text-pend (d ∷ [])) (rw (plain-after d l h) tt)) t

-- no octet of a text is zero
pub text-nonzero : (s : Bytes) → T (text s) → (k : ℕ) → k < length s → get_or s k 0 ≡ 0 → ⊥
unfolding lows
text-nonzero s t = nonzero [] s tt (rw (text-pend s) at t)
