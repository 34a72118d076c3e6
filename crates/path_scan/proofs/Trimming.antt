-- The text but for a slash in front and one at its end; where its pieces are all names, these are what the text keeps.
-- Assumes nothing.
use mathlib.Core.Bool.{Bool, true, false}
use mathlib.Core.List.{[], ◌∷◌, ◌++◌}
use mathlib.Core.Logic.{◌⊎◌, inl, inr}
use mathlib.Core.Path.{◌≡◌, refl, sym, ap, ◌∙◌, subst}
use Prim.Native.Nat.{ℕ, ◌+◌, ◌-◌, ◌≤◌, ◌<◌, zero-le}
use native.Mathlib.Omega.{arith}
use lib.Dec.{eqb}
use lib.ListN.{length, take, drop, get_or, length-drop, length-append}
use lib.Seq.{take_all, take_at, get_or-drop, get_or-append_seam}
use borrow.Author.Tests.{eqb-true}
use denote.Ref.{Bor}
use Rattle.std.specs.Prelude.{Option, Some, IfSome}
use Rattle.std.specs.Bool.{then_some}
use Rattle.text.specs.Utf8.{Bytes}
use Rattle.path.specs.Path.{is_absolute, body}
use Rattle.path.specs.Backward.{sifted}
use Rattle.path.specs.Answer.{AllNames, EndIs}
use Rattle.path.proofs.Following.{end_whole, end-slash, plain-between, plain_body}
use Rattle.path_scan.specs.Plain.{lead, PlainPart, TrimIs}

-- where the text begins
pub record Lead (s : Bytes) : Type 0 where
  pub fits : lead s ≤ length s
  pub one : lead s ≤ 1
  pub slash : 0 < lead s → get_or s 0 0 ≡ 47

pub lead-is : (s : Bytes) → Lead s
unfolding is_absolute
lead-is [] = record { fits = zero-le; one = zero-le; slash = λ h. absurd (omega arith) }
lead-is (b ∷ s) = go (eqb b 47) refl
  where
    go : (t : Bool) → eqb b 47 ≡ t → Lead (b ∷ s)
    go true e = record { fits = rw e (omega arith); one = rw e (omega arith); slash = λ _. eqb-true b 47 e }
    go false e = record { fits = rw e zero-le; one = rw e zero-le; slash = λ h. absurd (let z = rw e at h in omega (arith, z)) }

-- a text that begins with a slash, and one that does not
pub lead_slash : (s : Bytes) → 0 < length s → get_or s 0 0 ≡ 47 → lead s ≡ 1
unfolding is_absolute
lead_slash [] h e = absurd (omega (arith, h))
lead_slash (b ∷ s) h e = rw e refl

pub lead_other : (s : Bytes) → (get_or s 0 0 ≡ 47 → ⊥) → lead s ≡ 0
unfolding is_absolute
lead_other [] h = refl
lead_other (b ∷ s) h = go (eqb b 47) refl
  where
    go : (t : Bool) → eqb b 47 ≡ t → lead (b ∷ s) ≡ 0
    go true e = absurd (h (eqb-true b 47 e))
    go false e = rw e refl

module _ (s n : Bytes) where
  abbrev a : ℕ
  a = lead s

  trim-whole : n ≡ drop a s → TrimIs s n
  trim-whole e =
      let f = (lead-is s).fits in
      let l : length n ≡ length s - a = omega (arith, ap length e, length-drop a s) in
      let w : length s ≡ a + length n = omega (arith, l, f) in
      record { there = e ∙ sym (take_all (a + length n - a) (drop a s) (omega (arith, l, length-drop a s))); end = subst (EndIs s) w (end_whole s) }

  trim-slash : drop a s ≡ n ++ (47 ∷ []) → TrimIs s n
  trim-slash e =
      let l : length s - a ≡ length n + 1 = omega (arith, ap length e, length-drop a s, length-append n (47 ∷ [])) in
      let w : length s - 1 ≡ a + length n = omega (arith, l) in
      let q : get_or s (length s - 1) 0 ≡ 47 = rw w (sym (get_or-drop a s (length n) 0) ∙ ap (λ (u : Bytes). get_or u (length n) 0) e ∙ get_or-append_seam n 47 [] 0) in
      record {
        there = sym (ap (take (a + length n - a)) e ∙ take_at n (47 ∷ []) (a + length n - a) (omega arith));
        end = subst (EndIs s) w (end-slash s (omega (arith, l)) q);
      }

  pub trim-is : (n ≡ drop a s) ⊎ (drop a s ≡ n ++ (47 ∷ [])) → TrimIs s n
  trim-is (inl e) = trim-whole e
  trim-is (inr e) = trim-slash e

  -- where its pieces are all names
  trim-plain : TrimIs s n → 0 < length n → AllNames n → (strike : Bool) → PlainPart n strike 0 s
  trim-plain t w all strike =
      let l = lead-is s in
      (t.there, plain-between s (a + length n) t.end strike a n l.one l.slash t.there w all)

pub plain-tested : (s : Bytes) (b : Bool) (n : Bor Bytes) → TrimIs s n.now → (b ≡ true → (0 < length n.now) × AllNames n.now) → (strike : Bool)
    → IfSome (then_some b n) (λ names. PlainPart names.now strike 0 s)
plain-tested s true n t h strike = let w = h refl in trim-plain s n.now t w.0 w.1 strike
plain-tested s false n t h strike = tt

-- ---- what is kept of a plain text

module _ (n : Bytes) (strike : Bool) (k : ℕ) (s : Bytes) (p : PlainPart n strike k s) where
  pub part_body : body (sifted strike k s).kept ≡ 47 ∷ n
  part_body = plain_body s _ _ strike k p.1 ∙ ap (λ (x : Bytes). 47 ∷ x) (sym p.0)

  pub part-long : length n + 1 ≡ length (body (sifted strike k s).kept)
  part-long = rw part_body (omega arith)

pub plain-told : {r : Option (Bor Bytes)} {n : Bor Bytes} (strike : Bool) (k : ℕ) (s : Bytes) → r ≡ Some n
    → IfSome r (λ names. PlainPart names.now strike k s) → PlainPart n.now strike k s
plain-told strike k s e w = subst (λ (o : Option (Bor Bytes)). IfSome o (λ names. PlainPart names.now strike k s)) e w
