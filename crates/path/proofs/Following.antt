-- A text in which no slash is followed by a slash, by a dot or by nothing, and which does not begin so, has only names for
-- pieces.
-- Assumes nothing.
use mathlib.Core.Bool.{Bool, true, false, ◌||◌}
use mathlib.Core.List.{List, [], ◌∷◌, ◌++◌}
use mathlib.Core.Path.{◌≡◌, refl, sym, ap, ◌∙◌, subst}
use Prim.Native.Nat.{ℕ, zero, suc, ◌+◌, ◌-◌, ◌≤◌, ◌<◌, zero-le}
use native.Mathlib.Nat.{le_refl}
use native.Mathlib.Numerals.{add-one}
use native.Mathlib.Omega.{arith}
use lib.Dec.{eqb}
use lib.ListN.{length, take, drop, get_or, length-take, take-append-drop}
use borrow.Author.Tests.{eqb-true}
use Rattle.text.specs.Utf8.{Bytes}
use Rattle.path.specs.Path.{Name, cut, pieces, body}
use Rattle.path.specs.Backward.{Sifted, kind_of, mk, sift_one, sift, sifted, front, part}
use Rattle.path.specs.Answer.{AllNames, Clean, EndIs, PieceIs, PlainIs}
use Rattle.path.specs.declared.pieces.Piece.{Piece}
use Rattle.path.specs.declared.pieces.Piece.TheVariants as kind
use Rattle.std.specs.Prelude.{Some}
use Rattle.path.proofs.Cutting.{first, front-part, part-empty, piece_is}
use Rattle.path.proofs.Dots.{kind_none, kind_other}
use Rattle.path.proofs.Dropping.{body-pieces}
use Rattle.path.proofs.Every.{Every}
use Rattle.path.proofs.Reading.{sift-append, pass_none, pass-vanished, read_none}

-- a piece that is a name for its first byte
pub record Named (n : Name) : Type 0 where
  pub some : 0 < length n
  pub begins : get_or n 0 0 ≡ 46 → ⊥

-- behind a slash comes neither a slash nor a dot, nor the end
pub Follows : ℕ → Bytes → Type 0
Follows p [] = p ≡ 47 → ⊥
Follows p (b ∷ s) = (p ≡ 47 → (b ≡ 47 → ⊥) × (b ≡ 46 → ⊥)) × Follows b s

-- behind p the pieces but the first are names, and so is the first where p is a slash
Tail : ℕ → List Name → Type 0
Tail p [] = Unit {0}
Tail p (n ∷ ns) = (p ≡ 47 → Named n) × Every Named ns

tail : (p : ℕ) (s : Bytes) → Follows p s → Tail p (pieces s)
unfolding pieces Follows Tail
tail p [] h = (λ e. absurd (h e), tt)
tail p (b ∷ s) h = go (pieces s) (tail b s h.1) (eqb b 47) refl (first s)
  where
    go : (ps : List Name) → Tail b ps → (t : Bool) → eqb b 47 ≡ t → (x : Name) × (r : List Name) × (pieces s ≡ x ∷ r) → Tail p (cut t b ps)
    go [] w true e f = (λ q. absurd ((h.0 q).0 (eqb-true b 47 e)), tt)
    go (n ∷ ns) w true e f = (λ q. absurd ((h.0 q).0 (eqb-true b 47 e)), (w.0 (eqb-true b 47 e), w.1))
    go [] w false e f = (λ q. record { some = omega arith; begins = (h.0 q).1 }, tt)
    go (n ∷ ns) w false e f = (λ q. record { some = omega arith; begins = (h.0 q).1 }, w.1)

named-kept : (strike : Bool) (ns : List Name) → Every Named ns → sift strike ns (mk 0 []) ≡ mk 0 ns
unfolding sift
named-kept strike [] h = refl
named-kept strike (n ∷ ns) h =
    ap (λ (z : Sifted). sift_one (kind_of strike n) n z) (named-kept strike ns h.1)
    ∙ ap (λ (k : Piece). sift_one k n (mk 0 ns)) (kind_other strike n h.0.some h.0.begins)

pub all-names : (s : Bytes) → Follows 47 s → AllNames s
unfolding Tail
all-names s h strike = named-kept strike (pieces s) (go (pieces s) (tail 47 s h))
  where
    go : (ps : List Name) → Tail 47 ps → Every Named ps
    go [] w = tt
    go (n ∷ ns) w = (w.0 refl, w.1)

-- ---- a text that is read byte by byte

pub never : {A : Type 0} → false ≡ true → A
never e = let z : ◌≡◌ {A = ℕ} 0 1 = cc in absurd (omega arith)

pub or-false : (a b : Bool) → a || b ≡ false → (a ≡ false) × (b ≡ false)
or-false true b e = (e, let z : true ≡ false = e in cc)
or-false false b e = (refl, e)

clean-follows : (b : ℕ) (s : Bytes) → Clean (b ∷ s) → ((k : ℕ) → suc k ≡ length (b ∷ s) → get_or (b ∷ s) k 0 ≡ 47 → ⊥) → Follows b s
unfolding Follows
clean-follows b [] w e = e 0 refl
clean-follows b (c ∷ s) w e = (
  w 0 (omega arith),
  clean-follows c s (λ k h. let n : suc k + 1 ≡ suc (suc k) = omega arith in rw (add-one k) (rw n at (w (suc k) (omega arith)))) (λ k h. e (suc k) (ap suc h)),
)

-- a clean text of some bytes that neither begins nor ends like a piece that is no name
pub clean-names : (s : Bytes) → 0 < length s → (get_or s 0 0 ≡ 47 → ⊥) → (get_or s 0 0 ≡ 46 → ⊥) → (get_or s (length s - 1) 0 ≡ 47 → ⊥)
    → Clean s → AllNames s
unfolding Follows
clean-names [] l h d e w = absurd (omega arith)
clean-names (b ∷ s) l h d e w = all-names (b ∷ s) ((λ q. (h, d)), clean-follows b s w last)
  where
    last : (k : ℕ) → suc k ≡ length (b ∷ s) → get_or (b ∷ s) k 0 ≡ 47 → ⊥
    last k n = let m : length (b ∷ s) - 1 ≡ k = omega arith in rw m at e

-- ---- what stands beside the names

one_gone : (strike : Bool) (z : Sifted) → sift_one (kind_of strike []) [] z ≡ z
one_gone strike z = ap (λ (k : Piece). sift_one k [] z) (kind_none strike [] refl)

-- no text keeps nothing
pub sifted-empty : (strike : Bool) (k : ℕ) (s : Bytes) → length s ≡ 0 → sifted strike k s ≡ mk k []
unfolding sifted pieces sift
sifted-empty strike k [] l = one_gone strike (mk k [])
sifted-empty strike k (b ∷ s) l = absurd (omega arith)

-- no slash at the end
pub end_whole : (s : Bytes) → EndIs s (length s)
end_whole s = (le_refl (length s), λ strike. (read_none strike s 0).same)

-- a slash at the end: behind it stands an empty piece
pub end-slash : (s : Bytes) → 0 < length s → get_or s (length s - 1) 0 ≡ 47 → EndIs s (length s - 1)
end-slash s l q =
    let p : length s - 1 + 1 ≡ length s = omega arith in
    let n : length s + 1 - 1 ≡ length s = omega arith in (
      omega arith,
      λ strike.
          let piece : PieceIs s (length s) (length s + 1 - 1) = rw n (piece_is s (length s) (length s) (le_refl (length s)) (le_refl (length s)) (rw part-empty tt) (λ _. q)) in
          let k : kind_of strike (part (length s) (length s + 1 - 1) s) ≡ kind.Vanishes = rw (n, part-empty (length s) s) (kind_none strike [] refl) in
          rw p ((read_none strike s 0).same ∙ (pass-vanished strike s (length s + 1) (length s) (omega arith) piece (length s + 1) 0 0 (pass_none strike s (length s + 1) 0) k).same []),
    )

-- a slash in front, or none
module _ (s : Bytes) (e : ℕ) (end : EndIs s e) (strike : Bool) where
  between : (a : ℕ) → a < e → (0 < a → get_or s (a - 1) 0 ≡ 47) → AllNames (part a e s) → sifted strike 0 s ≡ sift strike (front a s) (mk 0 (pieces (part a e s)))
  between a l f h =
      end.1 strike ∙ ap (λ (x : List Name). sift strike x (mk 0 [])) (rw add-one (front-part s a e (omega arith) end.0 f))
      ∙ sift-append strike (front a s) (pieces (part a e s)) (mk 0 []) ∙ ap (λ (z : Sifted). sift strike (front a s) z) (h strike)

  -- what stands between is all names
  pub plain-between : (a : ℕ) (t : Bytes) → a ≤ 1 → (0 < a → get_or s 0 0 ≡ 47) → t ≡ part a e s → 0 < length t → AllNames t → PlainIs (Some (a, e)) strike 0 s
  unfolding front sift pieces
  plain-between zero t l q n w h =
      let m : 0 < e = omega (arith, ap length n, length-take (e - 0) (drop 0 s)) in
      (zero-le, end.0, between 0 m (λ z. absurd (omega arith)) (subst AllNames n h))
  plain-between (suc zero) t l q n w h =
      let m : 1 < e = omega (arith, ap length n, length-take (e - 1) (drop 1 s)) in
      (omega arith, end.0, between 1 m (λ z. q (omega arith)) (subst AllNames n h) ∙ one_gone strike (mk 0 (pieces (part 1 e s))))
  plain-between (suc (suc a)) t l q n w h = absurd (omega arith)

-- ---- what is kept of a plain text

module _ (s : Bytes) (a e : ℕ) (strike : Bool) (k : ℕ) (w : PlainIs (Some (a, e)) strike k s) where
  pub plain_body : body (sifted strike k s).kept ≡ 47 ∷ part a e s
  plain_body = ap (λ (z : Sifted). body z.kept) w.2 ∙ body-pieces (part a e s)

-- the text behind its slash, stored where it ends
pub plain-stored : (out after t u : Bytes) (end at : ℕ) → 47 ∷ t ≡ u → at ≡ end - length u → length u ≤ end
    → after ≡ take at out ++ ((47 ∷ t) ++ drop (at + 1 + length t) out) → after ≡ take (end - length u) out ++ (u ++ drop end out)
plain-stored out after t u end at eu ea fits w =
    let n : at + 1 + length t ≡ end = omega (arith, ap length eu) in
    w ∙ ap (λ (k : ℕ). take at out ++ ((47 ∷ t) ++ drop k out)) n ∙ ap (λ (x : Bytes). take at out ++ (x ++ drop end out)) eu
    ∙ ap (λ (k : ℕ). take k out ++ (u ++ drop end out)) ea

-- of no text nothing is stored
pub empty-stored : (strike : Bool) (k : ℕ) (s out : Bytes) (end : ℕ) → length s ≡ 0
    → out ≡ take (end - length (body (sifted strike k s).kept)) out ++ (body (sifted strike k s).kept ++ drop end out)
unfolding body
empty-stored strike k s out end l =
    let n : end - 0 ≡ end = omega arith in
    rw (sifted-empty strike k s l, n) (sym (take-append-drop end out))
