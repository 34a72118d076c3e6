-- What taking a block of entries out leaves: the words behind it and their names move down over it, and the bytes behind the names
-- stay. Assumes nothing.
use mathlib.Core.Path.{◌≡◌, sym, ap, ◌∙◌}
use mathlib.Core.List.{List, ◌++◌, append_assoc}
use Prim.Native.Nat.{ℕ, ◌+◌, ◌-◌, ◌≤◌}
use native.Mathlib.Omega.{arith}
use lib.ListN.{length, take, drop, length-append, length-drop}
use lib.Seq.{length-take-le, take_at, drop_at, take-take, length-slice}
use Rattle.blocks.specs.Moved.{moved}
use Rattle.blocks.proofs.Cuts.{quarter, down}
use Rattle.layout.specs.Rows.{Row, rows, name_total}
use Rattle.records.specs.Blocks.{Closed}
use Rattle.layout.proofs.Named.{total-append}
use Rattle.records.proofs.Entries.{total_up, rows-around, rows-tail, contents-kept}

-- a part closed up
closed : (s : List ℕ) (a b e : ℕ) → a ≤ b → b ≤ e → e ≤ length s
    → (x : List ℕ) × (moved s b a (e - b) ≡ take a s ++ (drop b (take e s) ++ (x ++ drop e s))) × (length x ≡ b - a)
closed s a b e h₁ h₂ h₃ =
    let P : List ℕ = take a s in
    let G : List ℕ = drop a (take b s) in
    let M : List ℕ = drop b (take e s) in
    let Q : List ℕ = drop e s in
    let l_p : length P ≡ a = length-take-le a s (omega arith) in
    let l_g : length G ≡ b - a = length-slice a b s (omega arith) in
    let l_m : length M ≡ e - b = length-slice b e s h₃ in
    let w : b ≡ a + (b - a) = omega arith in (
      drop (e - b) (G ++ M),
      (λ i. moved (quarter s a b e h₁ h₂ i) (w i) a (e - b)) ∙ down P G M Q a (b - a) (e - b) l_p l_g l_m,
      length-drop (e - b) (G ++ M) ∙ omega (arith, length-append G M),
    )

-- the words
words_out : (ws ws' : List ℕ) (a b n : ℕ) → a ≤ b → b ≤ n → n ≤ length ws → ws' ≡ moved ws (a + (b - a)) a (n - (a + (b - a)))
    → take (n - (b - a)) ws' ≡ take a (take n ws) ++ drop b (take n ws)
words_out ws ws' a b n h₁ h₂ h₃ e =
    let w : a + (b - a) ≡ b = omega arith in
    let c = closed ws a b n h₁ h₂ h₃ in
    let l_p : length (take a ws) ≡ a = length-take-le a ws (omega arith) in
    let l_m : length (drop b (take n ws)) ≡ n - b = length-slice b n ws h₃ in
    let t : take a (take n ws) ≡ take a ws = take-take a n ws (omega arith) in
    ap (take (n - (b - a))) (e ∙ (λ i. moved ws (w i) a (n - w i)) ∙ c.1 ∙ sym (append_assoc (take a ws) (drop b (take n ws)) (c.0 ++ drop n ws)))
    ∙ take_at (take a ws ++ drop b (take n ws)) (c.0 ++ drop n ws) (n - (b - a)) (length-append (take a ws) (drop b (take n ws)) ∙ omega arith)
    ∙ ap (λ (l : List ℕ). l ++ drop b (take n ws)) (sym t)

-- the bytes behind the names
rest_out : (bs bs' : List ℕ) (o m u : ℕ) → o ≤ m → m ≤ u → u ≤ length bs → bs' ≡ moved bs m o (u - m) → drop u bs' ≡ drop u bs
rest_out bs bs' o m u h₁ h₂ h₃ e =
    let c = closed bs o m u h₁ h₂ h₃ in
    let B : List ℕ = take o bs in
    let T : List ℕ = drop m (take u bs) in
    let K : List ℕ = drop u bs in
    let l_b : length B ≡ o = length-take-le o bs (omega arith) in
    let l_t : length T ≡ u - m = length-slice m u bs h₃ in
    let lc : length c.0 ≡ m - o = c.2 in
    let shape : bs' ≡ (B ++ (T ++ c.0)) ++ K = e ∙ c.1 ∙ ap (λ (r : List ℕ). B ++ r) (sym (append_assoc T c.0 K)) ∙ sym (append_assoc B (T ++ c.0) K) in
    ap (drop u) shape ∙ drop_at (B ++ (T ++ c.0)) K u (length-append B (T ++ c.0) ∙ omega (arith, length-append T c.0))

pub closed_all : (ws bs ws' bs' : List ℕ) (n a b o m u : ℕ) → a ≤ b → b ≤ n → n ≤ length ws → name_total (take n ws) ≤ length bs
    → o ≡ name_total (take a ws) → m ≡ name_total (take b ws) → u ≡ name_total (take n ws)
    → bs' ≡ moved bs m o (u - m) → length bs' ≡ length bs → ws' ≡ moved ws (a + (b - a)) a (n - (a + (b - a))) → length ws' ≡ length ws → Closed ws bs ws' bs' n a b
closed_all ws bs ws' bs' n a b o m u h₁ h₂ h₃ hn eo em eu e lb f lw =
    let L : List ℕ = take n ws in
    let R : List Row = rows (take n ws) bs in
    let wd : take (n - (b - a)) ws' ≡ take a (take n ws) ++ drop b (take n ws) = words_out ws ws' a b n h₁ h₂ h₃ f in
    let ta : take a (take n ws) ≡ take a ws = take-take a n ws (omega arith) in
    let tb : take b (take n ws) ≡ take b ws = take-take b n ws h₂ in
    let n₁ = total_up ws a b h₁ in
    let n₂ = total_up ws b n h₂ in
    let c = closed bs o m u (omega arith) (omega arith) (omega arith) in
    record {
      words = wd;
      all = (λ t. rows (wd t) ((e ∙ c.1) t))
          ∙ rows-around L bs (drop b L) (drop m (take u bs) ++ (c.0 ++ drop u bs)) a o (eo ∙ ap name_total (sym ta)) (omega arith)
          ∙ ap (λ (r : List Row). take a R ++ r) (rows-tail L bs (c.0 ++ drop u bs) b m u (em ∙ ap name_total (sym tb)) eu (omega arith));
      sum = omega (arith, ap name_total wd ∙ total-append (take a (take n ws)) (drop b (take n ws)), ap name_total ta);
      texts = λ hs r. contents-kept hs bs bs' u (omega arith) lb (rest_out bs bs' o m u (omega arith) (omega arith) (omega arith) e);
      record_count = lw;
      byte_count = lb;
    }
