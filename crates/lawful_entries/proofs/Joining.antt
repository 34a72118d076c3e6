-- The rules of the entries are the rules of their places and the rules of their names' bytes.
-- Assumes nothing.
use mathlib.Core.Bool.{Bool, true, false, ◌&&◌, not, and-true, and-false, and_assoc}
use mathlib.Core.List.{List, [], ◌∷◌}
use mathlib.Core.Path.{◌≡◌, refl, sym, ap, ◌∙◌}
use Prim.Native.Nat.{ℕ}
use native.Mathlib.Omega.{arith}
use lib.Dec.{eqb, leb, ltb}
use lib.ListN.{length}
use Rattle.text.specs.Utf8.{octets, text}
use Rattle.path.specs.Path.{Name, vanishes, is_up, no_slash, proper}
use Rattle.model.specs.Tree.{Path}
use Rattle.model.specs.Prog.{is_nil}
use Rattle.model.specs.Rules.{name_ok}
use Rattle.layout.specs.Rows.{Row, path_of}
use Rattle.layout.specs.Lawful.{follows, walk_ok, rows_ok}
use Rattle.lawful_entries.specs.Fits.{walk_fits, rows_fit}
use Rattle.lawful_entries.specs.Looks.{clean_name, clean_rows}

swap : (x f w c : Bool) → (x && f) && (w && c) ≡ (f && w) && (x && c)
swap true true w c = refl
swap true false w c = refl
swap false true true c = refl
swap false true false c = refl
swap false false w c = refl

shuffle : (a v u s t f w c : Bool) → (a && (((v && (u && s)) && t) && f)) && (w && c) ≡ ((a && ((v && u) && f)) && w) && ((s && t) && c)
shuffle true true true s t f w c = swap (s && t) f w c
shuffle true true false true true f w c = refl
shuffle true true false true false f w c = refl
shuffle true true false false t f w c = refl
shuffle true false u s t f w c = refl
shuffle false v u s t f w c = refl

walk_both : (kind : ℕ → ℕ) (n : ℕ) (p : Path) (d : Bool) (rs : List Row) → walk_ok kind n p d rs ≡ walk_fits kind n p d rs && clean_rows rs
unfolding walk_ok walk_fits clean_rows name_ok proper
walk_both kind n p d [] = refl
walk_both kind n p d (r ∷ rs) =
    let x = r.name in
    let q = walk_fits kind n (path_of p r) (eqb (kind r.slot) 1) rs in
    let s = no_slash x in
    let t = leb (length x) 255 && text x in
    let f = follows p d r.depth x in
    ap (λ (b : Bool). (ltb r.slot n && (((not (vanishes x) && (not (is_up x) && s)) && t) && f)) && b) (walk_both kind n (path_of p r) (eqb (kind r.slot) 1) rs)
    ∙ shuffle (ltb r.slot n) (not (vanishes x)) (not (is_up x)) s t f q (clean_rows rs)

clean-nil : (x : Name) → is_nil x ≡ true → clean_name x ≡ true
unfolding no_slash text octets
clean-nil [] e = refl
clean-nil (b ∷ x) e = absurd (let z : ◌≡◌ {A = ℕ} 0 1 = cc in omega arith)

pub rows_both : (kind : ℕ → ℕ) (n : ℕ) (rs : List Row) → rows_ok kind n rs ≡ rows_fit kind n rs && clean_rows rs
unfolding rows_ok rows_fit clean_rows
rows_both kind n [] = refl
rows_both kind n (r ∷ rs) = go (eqb r.depth 0) (is_nil r.name) refl (ltb r.slot n && eqb (kind r.slot) 1)
  where
    w : Bool
    w = walk_fits kind n [] true rs

    go : (a b : Bool) → is_nil r.name ≡ b → (c : Bool) → (a && (b && c)) && walk_ok kind n [] true rs ≡ ((a && (b && c)) && w) && (clean_name r.name && clean_rows rs)
    go true true e c =
        ap (λ (t : Bool). c && t) (walk_both kind n [] true rs) ∙ sym (and_assoc c w (clean_rows rs)) ∙ ap (λ (t : Bool). (c && w) && (t && clean_rows rs)) (sym (clean-nil r.name e))
    go true false e c = refl
    go false b e c = refl

module _ (kind : ℕ → ℕ) (n : ℕ) (rs : List Row) where
  pub rows-unclean : clean_rows rs ≡ false → false ≡ rows_ok kind n rs
  rows-unclean e = sym (rows_both kind n rs ∙ ap (λ (t : Bool). rows_fit kind n rs && t) e ∙ and-false (rows_fit kind n rs))

  pub rows-clean : clean_rows rs ≡ true → rows_fit kind n rs ≡ rows_ok kind n rs
  rows-clean e = sym (rows_both kind n rs ∙ ap (λ (t : Bool). rows_fit kind n rs && t) e ∙ and-true (rows_fit kind n rs))
