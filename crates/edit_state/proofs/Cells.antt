-- A path copied into its cell: the cell holds it, and every other cell is as it was, since a cell has 1,024 bytes and the path at most as
-- many.
-- Assumes nothing.
use mathlib.Core.List.{◌++◌}
use mathlib.Core.Path.{◌≡◌, sym, ap, ◌∙◌}
use Prim.Native.Nat.{ℕ, ◌+◌, ◌-◌, ◌*◌, ◌≤◌, ◌<◌}
use native.Mathlib.Omega.{arith}
use lib.Dec.{T, leb→le}
use lib.ListN.{length, take, drop}
use lib.Seq.{paste, take-take, drop_at, drop-drop, take-append-le, length-take-le, take-length, take-paste, drop-paste}
use Rattle.text.specs.Utf8.{Bytes}
use Rattle.path.specs.Path.{names, body, same, path_fits}
use Rattle.path.proofs.Laws.{and_left, and_right, same_equal}
use Rattle.blocks.proofs.Cuts.{drop-take}
use Rattle.model.specs.Rules.{names_ok, path_ok}
use Rattle.model.proofs.Ordering.{Sides, less, equal, more, sides}
use Rattle.layout.specs.Lawful.{cell_ok}

module _ (d s : Bytes) (at : ℕ) (fits : at + length s ≤ length d) where
  front : take (at + length s) (paste d at s (length s)) ≡ take at d ++ take (length s) s
  front = take-paste d at s (length s) (omega arith) (omega arith)

  own : take (length s) (drop at (paste d at s (length s))) ≡ s
  own =
      sym (drop-take at (length s) (paste d at s (length s))) ∙ ap (drop at) front
      ∙ drop_at (take at d) (take (length s) s) at (length-take-le at d (omega arith)) ∙ take-length s

  low : (x m : ℕ) → x + m ≤ at → take m (drop x (paste d at s (length s))) ≡ take m (drop x d)
  low x m h =
      sym (drop-take x m (paste d at s (length s)))
      ∙ ap (drop x) (sym (take-take (x + m) (at + length s) (paste d at s (length s)) (omega arith)) ∙ ap (take (x + m)) front
      ∙ take-append-le (x + m) (take at d) (take (length s) s) (omega (arith, length-take-le at d (omega arith))) ∙ take-take (x + m) at d h)
      ∙ drop-take x m d

  high : (x : ℕ) → at + length s ≤ x → drop x (paste d at s (length s)) ≡ drop x d
  high x h =
      let y : ℕ = x - (at + length s) in
      let e : x ≡ at + length s + y = omega arith in
      ap (λ (k : ℕ). drop k (paste d at s (length s))) e
      ∙ sym (drop-drop y (at + length s) (paste d at s (length s))) ∙ ap (drop y) (drop-paste d at s (length s) (omega arith) (omega arith))
      ∙ drop-drop y (at + length s) d ∙ ap (λ (k : ℕ). drop k d) (sym e)

-- a path as it is kept is at most as long as its cell
pub cell-fits : (s : Bytes) → T (cell_ok s) → length s ≤ 1024
unfolding cell_ok path_ok path_fits
cell-fits s t =
    let a : T (path_ok (names s)) = and_left (path_ok (names s)) (same (body (names s)) s) t in
    let e : body (names s) ≡ s = same_equal (body (names s)) s (and_right (path_ok (names s)) (same (body (names s)) s) t) in
    let b : length (body (names s)) ≤ 1024 = leb→le (length (body (names s))) 1024 (and_right (names_ok (names s)) (path_fits (names s)) a) in
    omega (arith, b, ap length e)

module _ (ps s : Bytes) (c : ℕ) (long : length ps ≡ 33792) (room : c < 33) (short : length s ≤ 1024) where
  pub cell_own : take (length s) (drop (1024 * c) (paste ps (1024 * c) s (length s))) ≡ s
  cell_own = own ps s (1024 * c) (omega arith)

  pub cell_other : (i m : ℕ) → m ≤ 1024 → (i ≡ c → ⊥) → take m (drop (1024 * i) (paste ps (1024 * c) s (length s))) ≡ take m (drop (1024 * i) ps)
  cell_other i m h x = go (sides i c)
    where
      go : Sides i c → take m (drop (1024 * i) (paste ps (1024 * c) s (length s))) ≡ take m (drop (1024 * i) ps)
      go (less l) = low ps s (1024 * c) (omega arith) (1024 * i) m (omega arith)
      go (equal e) = absurd (x e)
      go (more l) = ap (take m) (high ps s (1024 * c) (omega arith) (1024 * i) (omega arith))
