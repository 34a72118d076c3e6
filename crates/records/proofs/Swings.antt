-- What moving a block of entries leaves: the raised words have the same names, and where two parts of the words are exchanged and their
-- names likewise, the entries of the parts are. What stands behind the first count stays. Assumes nothing.
use mathlib.Core.Path.{◌≡◌, refl, sym, ap, ◌∙◌}
use mathlib.Core.Bool.{Bool, cond}
use mathlib.Core.List.{List, [], ◌∷◌, ◌++◌, append_assoc, map}
use Prim.Native.Nat.{ℕ, suc, ◌+◌, ◌-◌, ◌≤◌, ◌<◌}
use native.Mathlib.Omega.{arith}
use lib.ListN.{length, length-map, take, drop, get_or, length-append, take-append-drop}
use lib.Seq.{length-take-le, take-length, take_at, drop_at, take-append-le, drop-append-le, take-take, get_or-take, get_or-drop, length-slice}
use borrow.Author.Tests.{le-leb, lt-leb}
use Rattle.blocks.specs.Turn.{turned}
use Rattle.blocks.proofs.Turns.{turned-parts, turned-append}
use Rattle.std.proofs.lemmas.Slice.{between_is}
use Rattle.blocks.proofs.Cuts.{thirds, quarter}
use Rattle.layout.specs.Numbers.{most_entries, depths}
use Rattle.layout.specs.Fields.{depth_of, nlen_of, slot_of}
use Rattle.layout.specs.Rows.{Row, rows, name_total}
use Rattle.records.specs.Blocks.{changed, lift, raise, raised, move_to, Liftable, Liftables, Moved}
use Rattle.layout.proofs.Named.{total-append, total-split, length-rows, rows_take, rows_drop}
use Rattle.records.proofs.Entries.{total_up, total-take, rows_short, rows-cat, rows-around, drop-later}
use Rattle.records.proofs.Lifts.{depth-lift, nlen-lift, slot-lift}

-- ---- entries raised

-- the words of some entries, each of which may be lifted
abbrev Ready : ℕ → ℕ → List ℕ → Type 0
Ready u d ws = (j : ℕ) → j < length ws → Liftable (get_or ws j 0) u d

module _ (u d : ℕ) where
  rows_each : (ws bs : List ℕ) → Ready u d ws → rows (map (lift u d) ws) bs ≡ map (raise u d) (rows ws bs)
  unfolding rows
  rows_each [] bs h = refl
  rows_each (w ∷ ws) bs h =
      let l : Liftable w u d = h 0 (omega arith) in
      let t = depth-lift w u d l in
      let n : nlen_of (lift u d w) ≡ nlen_of w = nlen-lift w u d l in
      let k = slot-lift w u d l in
      let f : Row = record { depth = depth_of w + u - d; name = take (nlen_of w) bs; slot = slot_of w } in
      (λ i. record { depth = t i; name = take (n i) bs; slot = k i } ∷ rows (map (lift u d) ws) (drop (n i) bs))
      ∙ ap (λ (r : List Row). f ∷ r) (rows_each ws (drop (nlen_of w) bs) (λ j x. h (suc j) (omega arith)))

  total_each : (ws : List ℕ) → Ready u d ws → name_total (map (lift u d) ws) ≡ name_total ws
  unfolding name_total
  total_each [] h = refl
  total_each (w ∷ ws) h =
      let n = nlen-lift w u d (h 0 (omega arith)) in
      let r = total_each ws (λ j x. h (suc j) (omega arith)) in
      λ i. n i + r i

  module _ (ws : List ℕ) (a b : ℕ) (h₁ : a ≤ b) (h₂ : b ≤ length ws) (hl : (j : ℕ) → a ≤ j → j < b → Liftable (get_or ws j 0) u d) where
    part-ready : Ready u d (drop a (take b ws))
    part-ready j l =
        let m : a + j < b = omega (arith, length-slice a b ws h₂) in
        let g : get_or (drop a (take b ws)) j 0 ≡ get_or ws (a + j) 0 = get_or-drop a (take b ws) j 0 ∙ get_or-take b ws (a + j) 0 m in
        rw g (hl (a + j) (omega arith) m)

    pub total-lifted : name_total (changed (lift u d) ws a b) ≡ name_total ws
    total-lifted =
        let X : List ℕ = drop a (take b ws) in
        total-append (take a ws) (map (lift u d) X ++ drop b ws)
        ∙ omega (arith, total-append (map (lift u d) X) (drop b ws), total_each X part-ready, total_up ws a b h₁, total-split ws b)

    pub rows-lifted : (bs : List ℕ) → name_total ws ≤ length bs → rows (changed (lift u d) ws a b) bs ≡ raised (rows ws bs) a b u d
    rows-lifted bs hn =
        let X : List ℕ = drop a (take b ws) in
        let Z : List ℕ = drop b ws in
        let R : List Row = rows ws bs in
        let o : ℕ = name_total (take a ws) in
        let m : ℕ = name_total (take b ws) in
        let n₁ : name_total (take b ws) ≡ name_total (take a ws) + name_total X = total_up ws a b h₁ in
        let n₂ = total-split ws b in
        let S : List ℕ = drop o (take m bs) in
        let l_s : length S ≡ name_total X = length-slice o m bs (omega arith) ∙ omega arith in
        let n : m - o ≡ name_total X = omega arith in
        let ta : take a (take b ws) ≡ take a ws = take-take a b ws h₁ in
        let mid : rows X S ≡ drop a (take b R) =
        ap (rows X) (sym (between_is bs o m) ∙ ap (λ (k : ℕ). take k (drop o bs)) n)
        ∙ rows_short X (drop o bs)
        ∙ ap (λ (l : List ℕ). rows X (drop (name_total l) bs)) (sym ta)
        ∙ rows_drop (take b ws) bs a
        ∙ ap (drop a) (rows_take ws bs b) in
        ap (rows (changed (lift u d) ws a b)) (thirds bs o m (omega arith))
        ∙ rows-around ws bs (map (lift u d) X ++ Z) (S ++ drop m bs) a o refl (omega arith)
        ∙ ap (λ (r : List Row). take a R ++ r) (rows-cat (map (lift u d) X) Z S (drop m bs) (l_s ∙ sym (total_each X part-ready)))
        ∙ (λ i. take a R ++ ((rows_each X S part-ready ∙ ap (map (raise u d)) mid) i ++ rows_drop ws bs b i))

-- what stands behind the changed part stays
changed-append : (f : ℕ → ℕ) (p q : List ℕ) (a b : ℕ) → a ≤ b → b ≤ length p → changed f (p ++ q) a b ≡ changed f p a b ++ q
changed-append f p q a b h₁ h₂ =
    let X : List ℕ = map f (drop a (take b p)) in
    (λ i. take-append-le a p q (omega arith) i ++ (map f (drop a (take-append-le b p q h₂ i)) ++ drop-append-le b p q h₂ i))
    ∙ ap (λ (l : List ℕ). take a p ++ l) (sym (append_assoc X (drop b p) q))
    ∙ sym (append_assoc (take a p) (X ++ drop b p) q)

pub length-changed : (f : ℕ → ℕ) (s : List ℕ) (a b : ℕ) → a ≤ b → b ≤ length s → length (changed f s a b) ≡ length s
length-changed f s a b h₁ h₂ =
    let X : List ℕ = drop a (take b s) in
    length-append (take a s) (map f X ++ drop b s)
    ∙ omega (arith, length-append (map f X) (drop b s), length-map X f, ap length (thirds s a b h₁), length-append (take a s) (X ++ drop b s), length-append X (drop b s))

-- ---- entries exchanged

record Swung (ws bs : List ℕ) (a m e o n k : ℕ) : Type 0 where
  pub all : rows (turned ws a m e) (turned bs o n k) ≡ turned (rows ws bs) a m e
  pub rest : drop k (turned bs o n k) ≡ drop k bs
  pub sum : name_total (turned ws a m e) ≡ name_total ws
  pub size : length (turned ws a m e) ≡ length ws

swing-law : (ws bs : List ℕ) (a m e o n k : ℕ) → a ≤ m → m ≤ e → e ≤ length ws → name_total ws ≤ length bs
    → o ≡ name_total (take a ws) → n ≡ name_total (take m ws) → k ≡ name_total (take e ws) → Swung ws bs a m e o n k
unfolding turned
swing-law ws bs a m e o n k h₁ h₂ h₃ hn eo en ek =
    let A : List ℕ = take a ws in
    let X : List ℕ = drop a (take m ws) in
    let Y : List ℕ = drop m (take e ws) in
    let Z : List ℕ = drop e ws in
    let B : List ℕ = take o bs in
    let S : List ℕ = drop o (take n bs) in
    let T : List ℕ = drop n (take k bs) in
    let K : List ℕ = drop k bs in
    let n₁ : name_total (take m ws) ≡ name_total A + name_total X = total_up ws a m h₁ in
    let n₂ : name_total (take e ws) ≡ name_total (take m ws) + name_total Y = total_up ws m e h₂ in
    let n₃ : name_total (take e ws) ≤ name_total ws = total-take ws e in
    let l_b : length B ≡ name_total A = length-take-le o bs (omega arith) ∙ eo in
    let l_s : length S ≡ name_total X = length-slice o n bs (omega arith) ∙ omega arith in
    let l_t : length T ≡ name_total Y = length-slice n k bs (omega arith) ∙ omega arith in
    let l_a : length A ≡ a = length-take-le a ws (omega arith) in
    let l_x : length X ≡ m - a = length-slice a m ws (omega arith) in
    let l_y : length Y ≡ e - m = length-slice m e ws h₃ in
    let four = quarter ws a m e h₁ h₂ in
    let old : rows ws bs ≡ rows A B ++ (rows X S ++ (rows Y T ++ rows Z K)) =
    (λ i. rows (four i) (quarter bs o n k (omega arith) (omega arith) i))
    ∙ rows-cat A (X ++ (Y ++ Z)) B (S ++ (T ++ K)) l_b
    ∙ ap (λ (l : List Row). rows A B ++ l) (rows-cat X (Y ++ Z) S (T ++ K) l_s ∙ ap (λ (l : List Row). rows X S ++ l) (rows-cat Y Z T K l_t)) in
    let new : rows (A ++ (Y ++ (X ++ Z))) (B ++ (T ++ (S ++ K))) ≡ rows A B ++ (rows Y T ++ (rows X S ++ rows Z K)) =
    rows-cat A (Y ++ (X ++ Z)) B (T ++ (S ++ K)) l_b
    ∙ ap (λ (l : List Row). rows A B ++ l) (rows-cat Y (X ++ Z) T (S ++ K) l_t ∙ ap (λ (l : List Row). rows Y T ++ l) (rows-cat X Z S K l_s)) in
    let parts : turned (rows A B ++ (rows X S ++ (rows Y T ++ rows Z K))) a m e ≡ rows A B ++ (rows Y T ++ (rows X S ++ rows Z K)) =
    turned-parts (rows A B) (rows X S) (rows Y T) (rows Z K) a m e (length-rows A B ∙ l_a) (omega (arith, length-rows X S)) (omega (arith, length-rows Y T)) in
    let end : B ++ (T ++ (S ++ K)) ≡ (B ++ (T ++ S)) ++ K = ap (λ (l : List ℕ). B ++ l) (sym (append_assoc T S K)) ∙ sym (append_assoc B (T ++ S) K) in
    record {
      all = new ∙ sym (ap (λ (l : List Row). turned l a m e) old ∙ parts);
      rest = ap (drop k) end ∙ drop_at (B ++ (T ++ S)) K k (simp length-append (omega arith));
      sum = total-append A (Y ++ (X ++ Z)) ∙ omega (arith, total-append Y (X ++ Z), total-append X Z, ap name_total four, total-append A (X ++ (Y ++ Z)), total-append X (Y ++ Z), total-append Y Z);
      size = length-append A (Y ++ (X ++ Z)) ∙ omega (arith, length-append Y (X ++ Z), length-append X Z, ap length four, length-append A (X ++ (Y ++ Z)), length-append X (Y ++ Z), length-append Y Z);
    }

-- ---- both

-- which parts a move exchanges
module _ {A : Type 0} (s : List A) (a b p : ℕ) where
  pub move_down : p ≤ a → move_to s a b p ≡ turned s p a b
  move_down h = ap (λ (t : Bool). cond t (turned s p a b) (turned s a b p)) (le-leb p a h)

  pub move_up : a < p → move_to s a b p ≡ turned s a b p
  move_up h = ap (λ (t : Bool). cond t (turned s p a b) (turned s a b p)) (lt-leb p a h)

module _ (ws bs ws₁ : List ℕ) (n a b u d : ℕ) (h₁ : a ≤ b) (h₂ : b ≤ n) (h₃ : n ≤ length ws) (hn : name_total (take n ws) ≤ length bs)
    (hl : (j : ℕ) → a ≤ j → j < b → Liftable (get_or ws j 0) u d) (e₁ : ws₁ ≡ changed (lift u d) ws a b) where
  -- the first n, raised
  abbrev L₁ : List ℕ
  L₁ = changed (lift u d) (take n ws) a b

  size : length (take n ws) ≡ n
  size = length-take-le n ws h₃

  pub size₁ : length L₁ ≡ n
  size₁ = length-changed (lift u d) (take n ws) a b h₁ (omega (arith, size)) ∙ size

  ready : (j : ℕ) → a ≤ j → j < b → Liftable (get_or (take n ws) j 0) u d
  ready j x y = let g : get_or (take n ws) j 0 ≡ get_or ws j 0 = get_or-take n ws j 0 (omega arith) in rw g (hl j x y)

  shape : ws₁ ≡ L₁ ++ drop n ws
  shape =
      e₁ ∙ ap (λ (l : List ℕ). changed (lift u d) l a b) (sym (take-append-drop n ws))
      ∙ changed-append (lift u d) (take n ws) (drop n ws) a b h₁ (omega (arith, size))

  pub first : (k : ℕ) → k ≤ n → take k ws₁ ≡ take k L₁
  first k h = ap (take k) shape ∙ take-append-le k L₁ (drop n ws) (omega (arith, size₁))

  pub total₁ : name_total L₁ ≡ name_total (take n ws)
  total₁ = total-lifted u d (take n ws) a b h₁ (omega (arith, size)) ready

  pub names-room : (k : ℕ) → k ≤ n → name_total (take k ws₁) ≤ length bs
  names-room k h = omega (arith, ap name_total (first k h), total-take L₁ k, total₁)

  pub moved_all : (ws' bs' : List ℕ) (p x y z : ℕ) → x ≤ y → y ≤ z → z ≤ n
      → move_to L₁ a b p ≡ turned L₁ x y z → move_to (raised (rows (take n ws) bs) a b u d) a b p ≡ turned (raised (rows (take n ws) bs) a b u d) x y z
      → ws' ≡ turned ws₁ x y z → bs' ≡ turned bs (name_total (take x ws₁)) (name_total (take y ws₁)) (name_total (take z ws₁))
      → length ws' ≡ length ws → length bs' ≡ length bs → Moved ws bs ws' bs' n a b p u d
  moved_all ws' bs' p x y z k₁ k₂ k₃ mw mr ew eb lw lb =
      let o : ℕ = name_total (take x ws₁) in
      let m : ℕ = name_total (take y ws₁) in
      let k : ℕ = name_total (take z ws₁) in
      let s = swing-law L₁ bs x y z o m k k₁ k₂ (omega (arith, size₁)) (omega (arith, total₁)) (ap name_total (first x (omega arith))) (ap name_total (first y (omega arith))) (ap name_total (first z k₃)) in
      let all : ws' ≡ turned L₁ x y z ++ drop n ws = ew ∙ ap (λ (l : List ℕ). turned l x y z) shape ∙ turned-append L₁ (drop n ws) x y z k₁ k₂ (omega (arith, size₁)) in
      let front : take n ws' ≡ turned L₁ x y z = ap (take n) all ∙ take_at (turned L₁ x y z) (drop n ws) n (s.size ∙ size₁) in
      let low : k ≤ name_total (take n ws) = omega (arith, ap name_total (first z k₃), total-take L₁ z, total₁) in
      record {
        words = front ∙ sym mw;
        all = (λ i. rows (front i) (eb i)) ∙ s.all
            ∙ ap (λ (l : List Row). turned l x y z) (rows-lifted u d (take n ws) a b h₁ (omega (arith, size)) ready bs hn) ∙ sym mr;
        sum = ap name_total front ∙ s.sum ∙ total₁;
        behind = ap (drop n) all ∙ drop_at (turned L₁ x y z) (drop n ws) n (s.size ∙ size₁);
        rest = drop-later bs' bs k (name_total (take n ws)) low (ap (drop k) eb ∙ s.rest);
        record_count = lw;
        byte_count = lb;
      }

-- ---- all the entries

-- those from a to b may be raised and moved before the p-th
abbrev pub MayMove : (ws bs : List ℕ) (a b p u d : ℕ) → Type 0
MayMove ws bs a b p u d = (a ≤ b) × (b ≤ length ws) × (p ≤ length ws) × ((a < p) → b ≤ p) × (length ws ≤ most_entries) × (name_total ws ≤ length bs) × (u ≤ depths) × Liftables ws a b u d

-- two parts may be exchanged
abbrev pub MaySwing : (ws bs : List ℕ) (x y z : ℕ) → Type 0
MaySwing ws bs x y z = (x ≤ y) × (y ≤ z) × (z ≤ length ws) × (z ≤ most_entries) × (name_total (take z ws) ≤ length bs)

-- and are
abbrev pub Exchanged : (ws bs ws' bs' : List ℕ) (x y z : ℕ) → Type 0
Exchanged ws bs ws' bs' x y z = (ws' ≡ turned ws x y z) × (bs' ≡ turned bs (name_total (take x ws)) (name_total (take y ws)) (name_total (take z ws)))

module _ (ws bs : List ℕ) (a b p u d : ℕ) {ws₁ : List ℕ} (q : MayMove ws bs a b p u d) (e : ws₁ ≡ changed (lift u d) ws a b) where
  fits : name_total (take (length ws) ws) ≤ length bs
  fits = omega (arith, ap name_total (take-length ws), q.5)

  long : length ws₁ ≡ length ws
  long = ap length e ∙ length-changed (lift u d) ws a b q.0 q.1

  may_swing : (x y z : ℕ) → x ≤ y → y ≤ z → z ≤ length ws → MaySwing ws₁ bs x y z
  may_swing x y z h k l = (h, k, omega (arith, long), omega (arith, q.4), names-room ws bs ws₁ (length ws) a b u d q.0 q.1 (omega arith) fits q.7 e z l)

  -- down, and up
  pub may-go_down : p ≤ a → MaySwing ws₁ bs p a b
  may-go_down h = may_swing p a b h q.0 q.1

  pub may-go_up : a < p → MaySwing ws₁ bs a b p
  may-go_up h = may_swing a b p q.0 (q.3 h) q.2

  module _ {ws' bs' : List ℕ} (lw : length ws' ≡ length ws₁) (lb : length bs' ≡ length bs) where
    all_moved : (x y z : ℕ) → x ≤ y → y ≤ z → z ≤ length ws → ((A : Type 0) (s : List A) → move_to s a b p ≡ turned s x y z) → Exchanged ws₁ bs ws' bs' x y z → Moved ws bs ws' bs' (length ws) a b p u d
    all_moved x y z h k l f s =
        moved_all ws bs ws₁ (length ws) a b u d q.0 q.1 (omega arith) fits q.7 e ws' bs' p x y z h k l
        (f ℕ (changed (lift u d) (take (length ws) ws) a b)) (f Row (raised (rows (take (length ws) ws) bs) a b u d)) s.0 s.1 (lw ∙ long) lb

    pub moved_down : p ≤ a → Exchanged ws₁ bs ws' bs' p a b → Moved ws bs ws' bs' (length ws) a b p u d
    moved_down h = all_moved p a b h q.0 q.1 (λ A s. move_down s a b p h)

    pub moved_up : a < p → Exchanged ws₁ bs ws' bs' a b p → Moved ws bs ws' bs' (length ws) a b p u d
    moved_up h = all_moved a b p q.0 (q.3 h) q.2 (λ A s. move_up s a b p h)
