-- The last name of a path once absolute: the last name that the path keeps; if it keeps none, the last that is kept of the
-- current directory before it.
-- Assumes nothing.
use mathlib.Core.Bool.{Bool, true, false, cond}
use mathlib.Core.List.{List, [], ◌∷◌, ◌++◌, append-nil, append_assoc}
use mathlib.Core.Path.{◌≡◌, refl, sym, ap, ◌∙◌}
use Prim.Native.Nat.{ℕ, ◌+◌}
use native.Mathlib.Omega.{arith}
use lib.ListN.{length}
use Rattle.text.specs.Utf8.{Bytes}
use Rattle.path.specs.Path.{Name, names, norm, normal, is_absolute, from, absolute, last_name}
use Rattle.path.specs.Backward.{Sifted, sifted, mk, part, drop_n}
use Rattle.path.specs.Answer.{LastIs, NextIs, PlaceIs}
use Rattle.path.specs.declared.answer.Place.TheVariants.{InPath, InCwd}
use Rattle.std.specs.Prelude.{Option, Some, None, Ok, Err, ok_or}
use Rattle.path.proofs.Dropping.{drop_n-nil}
use Rattle.path.proofs.Reading.{norm-sifted, read_none, read-next, read_end, read_last}

-- the first name that is read from the end, or else how many are still to drop
pub last_found : (s : Bytes) (k : ℕ) (r : Option (ℕ × ℕ)) (rest skip : ℕ) → NextIs true s (length s + 1) k r rest skip → LastIs (ok_or r skip) s k
last_found s k (Some p) rest skip n =
    let z = read_last true s k rest skip (part p.0 p.1 s) (read-next true s k (length s + 1) k [] (read_none true s k) p.0 p.1 rest skip n) in
    (n.1, omega (arith, n.2), z.0, z.1)
last_found s k None rest skip n = read_end true s k (length s + 1) k [] (read_none true s k) rest skip n

last_snoc : (l : List Name) (n : Name) → last_name (l ++ (n ∷ [])) ≡ n
unfolding last_name
last_snoc [] n = refl
last_snoc (m ∷ []) n = refl
last_snoc (m ∷ k ∷ l) n = last_snoc (k ∷ l) n

-- the last name of a path of which k names are dropped behind
norm_last : (k : ℕ) (base : List Name) (s : Bytes) (n : Name) → (init : List Name) × ((sifted true k s).kept ≡ init ++ (n ∷ []))
    → last_name (drop_n k (norm base (names s))) ≡ n
norm_last k base s n w =
    ap last_name (norm-sifted k base s ∙ ap (λ (r : List Name). drop_n (sifted true k s).skip base ++ r) w.1
    ∙ sym (append_assoc (drop_n (sifted true k s).skip base) w.0 (n ∷ [])))
    ∙ last_snoc (drop_n (sifted true k s).skip base ++ w.0) n

-- where the path keeps none, the directory before it is what is left
norm_left : (k j : ℕ) (base : List Name) (s : Bytes) → sifted true k s ≡ mk j [] → drop_n k (norm base (names s)) ≡ drop_n j base
norm_left k j base s e =
    norm-sifted k base s ∙ ap (λ (z : Sifted). drop_n z.skip base ++ z.kept) e ∙ append-nil (drop_n j base)

module _ (path cwd : Bytes) where
  pub in_path : (a e : ℕ) → LastIs (Ok (a, e)) path 0 → PlaceIs (Some (InPath a e)) path cwd
  unfolding absolute drop_n
  in_path a e w = (w.0, w.1, norm_last 0 (from (normal cwd) path) path (part a e path) (w.2, w.3))

  module _ (j : ℕ) (w : LastIs (Err j) path 0) where
    left : absolute (normal cwd) path ≡ drop_n j (from (normal cwd) path)
    unfolding absolute drop_n
    left = norm_left 0 j (from (normal cwd) path) path w.0

    pub at-root : is_absolute path ≡ true → PlaceIs None path cwd
    unfolding from
    at-root h = left ∙ ap (λ (t : Bool). drop_n j (cond t [] (normal cwd))) h ∙ drop_n-nil j

    relative : is_absolute path ≡ false → absolute (normal cwd) path ≡ drop_n j (normal cwd)
    unfolding from
    relative h = left ∙ ap (λ (t : Bool). drop_n j (cond t [] (normal cwd))) h

    pub in-cwd : is_absolute path ≡ false → (a e : ℕ) → LastIs (Ok (a, e)) cwd j → PlaceIs (Some (InCwd a e)) path cwd
    unfolding normal
    in-cwd h a e v = (v.0, v.1, ap last_name (relative h) ∙ norm_last j [] cwd (part a e cwd) (v.2, v.3))

    pub nowhere : is_absolute path ≡ false → (i : ℕ) → LastIs (Err i) cwd j → PlaceIs None path cwd
    unfolding normal
    nowhere h i v = relative h ∙ norm_left j i [] cwd v.0 ∙ drop_n-nil i

-- the root has no last name
pub place_none : (path cwd : Bytes) → PlaceIs None path cwd → [] ≡ last_name (absolute (normal cwd) path)
unfolding last_name
place_none path cwd w = sym (ap last_name w)
