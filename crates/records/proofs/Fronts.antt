-- What is left of the first entries, in the whole of the records: those behind stand as they did.
-- Assumes nothing.
use mathlib.Core.Path.{◌≡◌, sym, ap, ◌∙◌, subst}
use mathlib.Core.List.{List, ◌++◌}
use Prim.Native.Nat.{ℕ, ◌-◌, ◌≤◌, ◌<◌}
use native.Mathlib.Omega.{arith}
use lib.ListN.{length, take, drop, get_or, length-append, length-drop}
use lib.Seq.{length-take-le, take_at, drop_at, take-append-le, take-length, take-take, get_or-take}
use Rattle.layout.specs.Numbers.{most_entries, depths}
use Rattle.layout.specs.Rows.{rows, name_total}
use Rattle.records.specs.Blocks.{changed, lift, raised, move_to, Liftable, Liftables, Closed, Moved}
use Rattle.records.proofs.Swings.{MayMove}

-- a block taken out of the first n
pub closed_in : (ws : List ℕ) (n : ℕ) {bs f bs' : List ℕ} {a b : ℕ} → n ≤ length ws → b ≤ n → Closed (take n ws) bs f bs' (length (take n ws)) a b
    → Closed ws bs (f ++ drop n ws) bs' n a b
closed_in ws n {bs} {f} {bs'} {a} {b} h k o =
    let L : List ℕ = take n ws in
    let Z : List ℕ = drop n ws in
    let l : length L ≡ n = length-take-le n ws h in
    let c : Closed L bs f bs' n a b = subst (λ (j : ℕ). Closed L bs f bs' j a b) l o in
    let t : take n L ≡ L = take-take n n ws (omega arith) in
    let u : take b L ≡ take b ws = take-take b n ws k in
    let front : take (n - (b - a)) (f ++ Z) ≡ take (n - (b - a)) f = take-append-le (n - (b - a)) f Z (omega (arith, c.record_count, l)) in
    record {
      words = front ∙ c.words ∙ (λ i. take a (t i) ++ drop b (t i));
      all = (λ i. rows (front i) bs') ∙ c.all ∙ (λ i. take a (rows (t i) bs) ++ drop b (rows (t i) bs));
      sum = omega (arith, ap name_total front, c.sum, ap name_total t, ap (λ (s : List ℕ). name_total (drop a s)) u);
      texts = λ hs r. c.texts hs (omega (arith, ap name_total t, r));
      record_count = length-append f Z ∙ omega (arith, c.record_count, l, length-drop n ws, h);
      byte_count = c.byte_count;
    }

module _ (f z : List ℕ) {n : ℕ} (l : length f ≡ n) where
  front : take n (f ++ z) ≡ f
  front = take_at f z n l

  same : take n f ≡ f
  same = ap (λ (j : ℕ). take j f) (sym l) ∙ take-length f

  -- a block may be moved
  pub may-move_front : (bs : List ℕ) (a b p u d : ℕ)
      → (a ≤ b) × (b ≤ n) × (p ≤ n) × ((a < p) → b ≤ p) × (n ≤ length (f ++ z)) × (n ≤ most_entries) × (name_total (take n (f ++ z)) ≤ length bs) × (u ≤ depths) × Liftables (f ++ z) a b u d
      → MayMove f bs a b p u d
  may-move_front bs a b p u d q = (
    q.0,
    omega (arith, q.1, l),
    omega (arith, q.2, l),
    q.3,
    omega (arith, q.5, l),
    omega (arith, q.6, ap name_total front),
    q.7,
    λ j x y. subst (λ (w : ℕ). Liftable w u d) (sym (get_or-take n (f ++ z) j 0 (omega (arith, y, q.1))) ∙ ap (λ (s : List ℕ). get_or s j 0) front) (q.8 j x y),
  )

  -- and is
  pub moved_in : {bs f' bs' : List ℕ} {a b p u d : ℕ} → Moved f bs f' bs' (length f) a b p u d → Moved (f ++ z) bs (f' ++ z) bs' n a b p u d
  moved_in {bs} {f'} {bs'} {a} {b} {p} {u} {d} o =
      let c : Moved f bs f' bs' n a b p u d = subst (λ (j : ℕ). Moved f bs f' bs' j a b p u d) l o in
      let l' : length f' ≡ n = c.record_count ∙ l in
      let old : take n f ≡ take n (f ++ z) = same ∙ sym front in
      let new : take n (f' ++ z) ≡ take n f' = take-append-le n f' z (omega (arith, l')) in
      record {
        words = new ∙ c.words ∙ (λ i. move_to (changed (lift u d) (old i) a b) a b p);
        all = (λ i. rows (new i) bs') ∙ c.all ∙ (λ i. move_to (raised (rows (old i) bs) a b u d) a b p);
        sum = ap name_total new ∙ c.sum ∙ ap name_total old;
        behind = drop_at f' z n l' ∙ sym (drop_at f z n l);
        rest = subst (λ (s : List ℕ). drop (name_total s) bs' ≡ drop (name_total s) bs) old c.rest;
        record_count = length-append f' z ∙ omega (arith, length-append f z, c.record_count);
        byte_count = c.byte_count;
      }
