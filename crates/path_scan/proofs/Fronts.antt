-- A text read from its end by its fronts: the last piece of a front is a piece of the text.
-- Assumes nothing.
use mathlib.Core.Bool.{Bool}
use mathlib.Core.List.{[], ◌∷◌, ◌++◌}
use mathlib.Core.Path.{◌≡◌, refl, sym, ap, ◌∙◌, subst}
use Prim.Native.Nat.{ℕ, zero, suc, ◌+◌, ◌-◌, ◌≤◌, ◌<◌}
use native.Mathlib.Omega.{arith}
use lib.ListN.{length, take, drop, length-take}
use lib.Seq.{take-take, take-length, get_or-take}
use denote.Ref.{Bor}
use Rattle.std.specs.Prelude.{Option, Some, None}
use Rattle.text.specs.Utf8.{Bytes}
use Rattle.path.specs.Path.{Name, pieces}
use Rattle.path.specs.Backward.{kind_of, front, part}
use Rattle.path.specs.Answer.{PieceIs, NextIs}
use Rattle.path.specs.declared.pieces.Piece.TheVariants as kind
use Rattle.path.proofs.Cutting.{drop_of_take}
use Rattle.path.proofs.Reading.{Passed, pass_none, pass_all, pass-vanished, pass_up, pass-dropped, pass_kept}
use Rattle.path_scan.specs.Left.{rest, FrontOf, ReadsOn}

-- a front is no longer than the text
pub front-fits : (s l : Bytes) → l ≡ take (length l) s → length l ≤ length s
front-fits s l e = omega (arith, ap length e, length-take (length l) s)

-- all of a text is left
pub front-whole : (l : Bor Bytes) (left : Option (Bor Bytes)) → left ≡ Some l → FrontOf l.now left
front-whole l left e = subst (FrontOf l.now) (sym e) (sym (take-length l.now))

-- a front of a front
front-again : (s : Bytes) (l : Bor Bytes) (r : Option (Bor Bytes)) → l.now ≡ take (length l.now) s → FrontOf l.now r → FrontOf s r
front-again s l None e f = tt
front-again s l (Some x) e f =
    let m : length x.now ≤ length l.now = front-fits l.now x.now f in
    f ∙ ap (take (length x.now)) e ∙ take-take (length x.now) (length l.now) s m

module _ (s : Bytes) (e : ℕ) where
  front-within : (k : ℕ) → k ≤ e + 1 → front k (take e s) ≡ front k s
  unfolding front
  front-within zero h = refl
  front-within (suc k) h = ap pieces (take-take k e s (omega (arith, h)))

  part-within : (a : ℕ) → part a e (take e s) ≡ part a e s
  part-within a = ap (take (e - a)) (drop_of_take a e s) ∙ take-take (e - a) (e - a) (drop a s) (omega arith)

  -- the last piece of the first e bytes
  piece-within : (a : ℕ) → PieceIs (take e s) a e → PieceIs s a e
  piece-within a p =
      let n = part-within a in
      record {
        fits = p.fits;
        last = sym (front-within (e + 1) (omega arith)) ∙ p.last ∙ (λ i. front-within a (omega (arith, p.fits)) i ++ (n i ∷ []));
        one = subst (λ (x : Bytes). pieces x ≡ x ∷ []) n p.one;
        slash = λ h. sym (get_or-take e s (a - 1) 0 (omega (arith, p.fits, h))) ∙ p.slash h;
      }

-- the last piece of the front l
record Met (s l : Bytes) (a : ℕ) : Type 0 where
  piece : PieceIs s a (length l + 1 - 1)
  same : part a (length l) l ≡ part a (length l + 1 - 1) s

met : (s l : Bytes) (a : ℕ) → l ≡ take (length l) s → PieceIs l a (length l) → Met s l a
met s l a f p =
    let n : length l + 1 - 1 ≡ length l = omega arith in
    record {
      piece = rw n (piece-within s (length l) a (subst (λ (x : Bytes). PieceIs x a (length l)) f p));
      same = rw n (ap (part a (length l)) f ∙ part-within s (length l) a);
    }

-- pieces that keep no name were read, of whatever text `left0` was the front
abbrev pub Reads : (strike : Bool) (left0 : Option (Bor Bytes)) (skip0 : ℕ) (left : Option (Bor Bytes)) (skip : ℕ) → Type 0
Reads strike left0 skip0 left skip = (s : Bytes) → FrontOf s left0 → FrontOf s left × Passed strike s (rest left0) skip0 (rest left) skip

pub reads_none : (strike : Bool) (left : Option (Bor Bytes)) (skip : ℕ) → Reads strike left skip left skip
reads_none strike left skip = λ s f. (f, pass_none strike s (rest left) skip)

module _ (strike : Bool) (left0 left : Option (Bor Bytes)) (skip0 skip : ℕ) (w : Reads strike left0 skip0 left skip) where
  pub reads-all : left ≡ None → ReadsOn strike left0 skip0 None left skip
  reads-all e = λ s f. (
    (w s f).0,
    subst (λ (o : Option (Bor Bytes)). NextIs strike s (rest left0) skip0 None (rest o) skip) (sym e)
        (pass_all strike s (rest left0) skip0 skip (subst (λ (o : Option (Bor Bytes)). Passed strike s (rest left0) skip0 (rest o) skip) e (w s f).1)),
  )

  -- the last piece of the front begins at a, and what stands in front of it is left
  module _ (left' : Option (Bor Bytes)) (l : Bor Bytes) (a : ℕ) (is : left ≡ Some l) (piece : PieceIs l.now a (length l.now))
      (next : (rest left' ≡ a) × FrontOf l.now left') where
    abbrev n : Name
    n = part a (length l.now) l.now

    at : (s : Bytes) → FrontOf s left0 → (l.now ≡ take (length l.now) s) × Passed strike s (rest left0) skip0 (length l.now + 1) skip
    at s f = subst (λ (o : Option (Bor Bytes)). FrontOf s o × Passed strike s (rest left0) skip0 (rest o) skip) is (w s f)

    -- what a turn makes of what it met
    on : (skip' : ℕ)
        → ((s : Bytes) → Passed strike s (rest left0) skip0 (length l.now + 1) skip → PieceIs s a (length l.now + 1 - 1)
        → n ≡ part a (length l.now + 1 - 1) s → Passed strike s (rest left0) skip0 a skip')
        → Reads strike left0 skip0 left' skip'
    on skip' turn = λ s f.
        let v = at s f in
        let m = met s l.now a v.0 piece in
        (front-again s l left' v.0 next.1, rw next.0 (turn s v.1 m.piece m.same))

    pub reads-vanished : kind_of strike n ≡ kind.Vanishes → Reads strike left0 skip0 left' skip
    reads-vanished q = on skip (λ s p m e. pass-vanished strike s (length l.now + 1) a (omega arith) m (rest left0) skip0 skip p (ap (kind_of strike) (sym e) ∙ q))

    pub reads_up : kind_of strike n ≡ kind.Drops → Reads strike left0 skip0 left' (skip + 1)
    reads_up q = on (skip + 1) (λ s p m e. pass_up strike s (length l.now + 1) a (omega arith) m (rest left0) skip0 skip p (ap (kind_of strike) (sym e) ∙ q))

    pub reads-dropped : kind_of strike n ≡ kind.Name → 0 < skip → Reads strike left0 skip0 left' (skip - 1)
    reads-dropped q h = on (skip - 1) (λ s p m e. pass-dropped strike s (length l.now + 1) a (omega arith) m (rest left0) skip0 skip p (ap (kind_of strike) (sym e) ∙ q) h)

    pub reads-kept : kind_of strike n ≡ kind.Name → skip ≡ 0 → ReadsOn strike left0 skip0 (Some (a, length l.now)) left' skip
    reads-kept q h = λ s f.
        let v = at s f in
        let m = met s l.now a v.0 piece in
        let k : length l.now + 1 - 1 ≡ length l.now = omega arith in (
          front-again s l left' v.0 next.1,
          rw next.0 (subst (λ (e : ℕ). NextIs strike s (rest left0) skip0 (Some (a, e)) a skip) k
              (pass_kept strike s (length l.now + 1) a (omega arith) m.piece (rest left0) skip0 skip v.1 (ap (kind_of strike) (sym m.same) ∙ q) h)),
        )
