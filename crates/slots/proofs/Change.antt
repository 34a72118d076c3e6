-- What a change of the length of one slot's bytes leaves: they are taken apart in what stands in front, the blocks before the slot,
-- its own, and those behind it. The first two move, and what was in front of them makes room or takes it.
-- Assumes nothing.
use mathlib.Core.Path.{◌≡◌, refl, sym, ap, ◌∙◌, subst}
use mathlib.Core.List.{List, [], ◌++◌, append_assoc, append-nil}
use Prim.Native.Nat.{ℕ, suc, ◌+◌, ◌-◌, ◌≤◌, ◌<◌}
use native.Mathlib.Omega.{arith}
use lib.ListN.{length, take, drop, get_or, set, replicate, length-append, length-take, length-drop, length-set, length-replicate, take-append-drop}
use lib.Seq.{paste, set-get_or, get_or-set_same, set-set, length-take-le, take_at, drop_at, take-append-le, take-take, drop-drop, take_all, take-length}
use Rattle.blocks.specs.Moved.{moved}
use Rattle.blocks.proofs.Cuts.{down, up}
use Rattle.layout.specs.Fields.{len_of}
use Rattle.layout.specs.Slots.{total, start, contents}
use Rattle.slots.specs.Put.{with_len, fitted, Put, Freed}
use Rattle.slots.proofs.Totals.{total-set}
use Rattle.slots.proofs.Contents.{length-contents, total_same, contents_same}
use Rattle.slots.proofs.Parts.{join, Fit, split-fit, join-split, fit-total, fit-set, fit-take, fit_at, join_at, join-set, read}

module _ (hs bs : List ℕ) (ht : total hs ≤ length bs) where
  -- the bytes are what stands in front, and then the blocks of the slots, each of its length
  pub fits : Fit hs (contents hs bs)
  fits = split-fit hs (drop (start hs bs) bs) (rw length-drop (omega arith))

  pub whole : bs ≡ take (start hs bs) bs ++ join (contents hs bs)
  whole = sym (take-append-drop (start hs bs) bs) ∙ ap (λ (l : List ℕ). take (start hs bs) bs ++ l) (sym (join-split hs (drop (start hs bs) bs) (rw length-drop (omega arith))))

  pub front : length (take (start hs bs) bs) ≡ start hs bs
  front = length-take-le (start hs bs) bs (omega arith)

  -- each slot has as many bytes as its word says
  pub length_at : (k : ℕ) → length (get_or (contents hs bs) k []) ≡ len_of (get_or hs k 0)
  length_at k = fit_at hs (contents hs bs) k fits

  module _ (k : ℕ) (hk : k < length hs) where
    pub before : length (join (take k (contents hs bs))) ≡ total (take k hs)
    before = fit-total (take k hs) (take k (contents hs bs)) (fit-take hs (contents hs bs) k fits)

    pub within : k < length (contents hs bs)
    within = rw (length-contents hs bs) hk

    pub apart : bs ≡ take (start hs bs) bs ++ (join (take k (contents hs bs)) ++ (get_or (contents hs bs) k [] ++ join (drop (suc k) (contents hs bs))))
    apart = whole ∙ ap (λ (l : List ℕ). take (start hs bs) bs ++ l) (join_at (contents hs bs) k within)

    -- bytes that end in the blocks with x in the k-th place
    pub put : (n : ℕ) (x q bs' : List ℕ) → n < 16777216 → length x ≡ n → bs' ≡ q ++ (join (take k (contents hs bs)) ++ (x ++ join (drop (suc k) (contents hs bs))))
        → ((m : ℕ) → m ≤ start hs bs → m + n ≤ start hs bs + len_of (get_or hs k 0) → take m bs' ≡ take m bs)
        → length bs' ≡ length bs → Put hs bs (set hs k (with_len (get_or hs k 0) n)) bs' k n x
    put n x q bs' hn hx e f l =
        let h : ℕ = with_len (get_or hs k 0) n in
        let eh : len_of h ≡ n = omega arith in
        let r : total (set hs k h) + len_of (get_or hs k 0) ≡ total hs + n = total-set hs k h hk ∙ omega arith in
        record {
          heads = refl;
          texts = ap (contents (set hs k h)) (e ∙ ap (λ (l : List ℕ). q ++ l) (sym (join-set (contents hs bs) k x within)))
              ∙ read (set hs k h) q (set (contents hs bs) k x) (fit-set hs (contents hs bs) k h x fits (hx ∙ sym eh));
          rest = λ m a b. f m (omega arith) (omega arith);
          room = r;
          long = l;
        }

-- what is cut is a part, and what is extended has zeros behind it
fit-short : (n : ℕ) (c : List ℕ) → n ≤ length c → fitted n c ≡ take n c
fit-short n c h =
    let z : n - length c ≡ 0 = omega arith in
    ap (λ (m : ℕ). take n c ++ replicate m 0) z ∙ append-nil (take n c)

fit-long : (n : ℕ) (c : List ℕ) → length c ≤ n → fitted n c ≡ c ++ replicate (n - length c) 0
fit-long n c h = ap (λ (l : List ℕ). l ++ replicate (n - length c) 0) (take_all n c h)

length-fitted : (n : ℕ) (c : List ℕ) → length (fitted n c) ≡ n
length-fitted n c = length-append (take n c) (replicate (n - length c) 0) ∙ omega (arith, length-take n c, length-replicate {A = ℕ} (n - length c) 0)

-- the blocks before the slot and the part of its own that stays, moved up over the rest of its own
pub cut-put : (hs bs bs' : List ℕ) (k n all b : ℕ) → total hs ≤ length bs → k < length hs → n < len_of (get_or hs k 0)
    → all ≡ total hs → b ≡ total (take k hs)
    → bs' ≡ moved bs (length bs - all) (length bs - all + (len_of (get_or hs k 0) - n)) (length bs - all + b + n - (length bs - all))
    → length bs' ≡ length bs → Put hs bs (set hs k (with_len (get_or hs k 0) n)) bs' k n (fitted n (get_or (contents hs bs) k []))
cut-put hs bs bs' k n all b ht hk hn ea eb e el =
    let s : ℕ = start hs bs in
    let P : List ℕ = take (start hs bs) bs in
    let X : List ℕ = join (take k (contents hs bs)) in
    let x : List ℕ = get_or (contents hs bs) k [] in
    let Z : List ℕ = join (drop (suc k) (contents hs bs)) in
    let g : ℕ = len_of (get_or hs k 0) - n in
    let M : List ℕ = X ++ take n x in
    let T : List ℕ = take g (M ++ drop n x) in
    let lx : length x ≡ len_of (get_or hs k 0) = length_at hs bs ht k in
    let l_x : length X ≡ total (take k hs) = before hs bs ht k hk in
    let l_p : length P ≡ s = front hs bs ht in
    let lt : length (take n x) ≡ n = length-take-le n x (omega arith) in
    let l_m : length M ≡ b + n = length-append X (take n x) ∙ omega arith in
    let all-is : all ≡ total hs = ea in
    let e₀ : length bs - all ≡ s = omega arith in
    let e₁ : length bs - all + b + n - (length bs - all) ≡ b + n = omega arith in
    let shape : bs ≡ P ++ (M ++ (drop n x ++ Z)) =
    apart hs bs ht k hk
    ∙ ap (λ (l : List ℕ). P ++ (X ++ (l ++ Z))) (sym (take-append-drop n x))
    ∙ ap (λ (l : List ℕ). P ++ (X ++ l)) (append_assoc (take n x) (drop n x) Z)
    ∙ ap (λ (l : List ℕ). P ++ l) (sym (append_assoc X (take n x) (drop n x ++ Z))) in
    let after : bs' ≡ P ++ (T ++ (M ++ Z)) =
    e ∙ (λ i. moved (shape i) (e₀ i) (e₀ i + g) (e₁ i))
    ∙ up P M (drop n x) Z s g (b + n) l_p (length-drop n x ∙ omega arith) l_m in
    let fx : fitted n x ≡ take n x = fit-short n x (omega arith) in
    put hs bs ht k hk n (fitted n x) (P ++ T) bs' (omega arith) (length-fitted n x)
    (after ∙ sym (append_assoc P T (M ++ Z)) ∙ ap (λ (l : List ℕ). (P ++ T) ++ l) (append_assoc X (take n x) Z ∙ ap (λ (l : List ℕ). X ++ (l ++ Z)) (sym fx)))
    (λ m a c. ap (take m) after ∙ take-append-le m P (T ++ (M ++ Z)) (omega arith) ∙ take-take m s bs a) el

-- sums and differences of the lengths
num₀ : (l t n o : ℕ) → o ≤ n → t ≤ l → t + n ≤ l + o → n - o ≤ l - t
num₀ l t n o h i j = omega arith

num₁ : (s g b o : ℕ) → g ≤ s → s + b + o - (s - g + g) ≡ b + o
num₁ s g b o h = omega arith

num₂ : (s g b o : ℕ) → g ≤ s → s + b + o ≡ s - g + (b + o) + g
num₂ s g b o h = omega arith

num₃ : (s g b o : ℕ) → g ≤ s → s + b + o - g ≡ s - g + (b + o)
num₃ s g b o h = omega arith

num₄ : (s g b o : ℕ) → g ≤ s → s + b + o - (s + b + o - g) ≡ g
num₄ s g b o h = omega arith

num₅ : (s m n o : ℕ) → o ≤ n → m ≤ s → m + n ≤ s + o → m ≤ s - (n - o)
num₅ s m n o h i j = omega arith

-- the blocks before the slot and its own, moved down over what stands in front, and zeros behind them
pub grow-put : (hs bs bs₁ z bs' : List ℕ) (k n all b : ℕ) → total hs ≤ length bs → k < length hs → len_of (get_or hs k 0) ≤ n → n < 16777216 → total hs + n ≤ length bs + len_of (get_or hs k 0)
    → all ≡ total hs → b ≡ total (take k hs)
    → bs₁ ≡ moved bs (length bs - all - (n - len_of (get_or hs k 0)) + (n - len_of (get_or hs k 0))) (length bs - all - (n - len_of (get_or hs k 0))) (length bs - all + b + len_of (get_or hs k 0) - (length bs - all - (n - len_of (get_or hs k 0)) + (n - len_of (get_or hs k 0))))
    → z ≡ replicate (length (take (length bs - all + b + len_of (get_or hs k 0) - (length bs - all + b + len_of (get_or hs k 0) - (n - len_of (get_or hs k 0)))) (drop (length bs - all + b + len_of (get_or hs k 0) - (n - len_of (get_or hs k 0))) bs₁))) 0
    → bs' ≡ take (length bs - all + b + len_of (get_or hs k 0) - (n - len_of (get_or hs k 0))) bs₁ ++ (z ++ drop (length bs - all + b + len_of (get_or hs k 0) - (length bs - all + b + len_of (get_or hs k 0) - (n - len_of (get_or hs k 0)))) (drop (length bs - all + b + len_of (get_or hs k 0) - (n - len_of (get_or hs k 0))) bs₁))
    → Put hs bs (set hs k (with_len (get_or hs k 0) n)) bs' k n (fitted n (get_or (contents hs bs) k []))
grow-put hs bs bs₁ z bs' k n all b ht hk ho hn hr ea eb e ez f =
    let s : ℕ = start hs bs in
    let P : List ℕ = take (start hs bs) bs in
    let X : List ℕ = join (take k (contents hs bs)) in
    let x : List ℕ = get_or (contents hs bs) k [] in
    let Z : List ℕ = join (drop (suc k) (contents hs bs)) in
    let old : ℕ = len_of (get_or hs k 0) in
    let g : ℕ = n - len_of (get_or hs k 0) in
    let p : List ℕ = take (start hs bs - (n - len_of (get_or hs k 0))) P in
    let G : List ℕ = drop (start hs bs - (n - len_of (get_or hs k 0))) P in
    let M : List ℕ = X ++ x in
    let W : List ℕ = drop (b + len_of (get_or hs k 0)) (G ++ M) in
    let lx : length x ≡ old = length_at hs bs ht k in
    let l_x : length X ≡ total (take k hs) = before hs bs ht k hk in
    let l_p : length P ≡ s = front hs bs ht in
    let lp : length p ≡ s - g = length-take-le (s - g) P (omega arith) in
    let l_g : length G ≡ g = length-drop (s - g) P ∙ omega arith in
    let l_m : length M ≡ b + old = length-append X x ∙ omega arith in
    let l_w : length W ≡ g = length-drop (b + old) (G ++ M) ∙ omega (arith, length-append G M) in
    let all-is : all ≡ total hs = ea in
    let e₀ : length bs - all ≡ s = omega arith in
    let gs : g ≤ s = num₀ (length bs) (total hs) n old ho ht hr in
    let e₁ : length bs - all + b + old - (length bs - all - g + g) ≡ b + old = ap (λ (t : ℕ). t + b + old - (t - g + g)) e₀ ∙ num₁ s g b old gs in
    let e₂ : length bs - all + b + old ≡ s - g + (b + old) + g = ap (λ (t : ℕ). t + b + old) e₀ ∙ num₂ s g b old gs in
    let e₃ : length bs - all + b + old - g ≡ s - g + (b + old) = ap (λ (t : ℕ). t + b + old - g) e₀ ∙ num₃ s g b old gs in
    let e₄ : length bs - all + b + old - (length bs - all + b + old - g) ≡ g = ap (λ (t : ℕ). t + b + old - (t + b + old - g)) e₀ ∙ num₄ s g b old gs in
    let shape : bs ≡ p ++ (G ++ (M ++ Z)) =
    apart hs bs ht k hk
    ∙ ap (λ (l : List ℕ). l ++ (X ++ (x ++ Z))) (sym (take-append-drop (s - g) P))
    ∙ append_assoc p G (X ++ (x ++ Z))
    ∙ ap (λ (l : List ℕ). p ++ (G ++ l)) (sym (append_assoc X x Z)) in
    let after : bs₁ ≡ p ++ (M ++ (W ++ Z)) =
    e ∙ (λ i. moved (shape i) (e₀ i - g + g) (e₀ i - g) (e₁ i))
    ∙ down p G M Z (s - g) g (b + old) lp l_g l_m in
    let group : p ++ (M ++ (W ++ Z)) ≡ (p ++ M) ++ (W ++ Z) = sym (append_assoc p M (W ++ Z)) in
    let lp_m : length (p ++ M) ≡ s - g + (b + old) = length-append p M ∙ omega arith in
    let low : take (length bs - all + b + old - g) bs₁ ≡ p ++ M =
    (λ i. take (e₃ i) ((after ∙ group) i)) ∙ take_at (p ++ M) (W ++ Z) (s - g + (b + old)) lp_m in
    let high : drop (length bs - all + b + len_of (get_or hs k 0)) bs₁ ≡ Z =
    (λ i. drop (e₂ i) ((after ∙ group ∙ sym (append_assoc (p ++ M) W Z)) i)) ∙ drop_at ((p ++ M) ++ W) Z (s - g + (b + old) + g) (length-append (p ++ M) W ∙ omega arith) in
    let zs : List ℕ = replicate g 0 in
    let part : ℕ → ℕ → List ℕ = λ a m. take m (drop a bs₁) in
    let back : s - g + (b + old) + g ≡ length bs - all + b + old = sym e₂ in
    let long₁ : length bs₁ ≡ s - g + (b + old) + g + length Z = ap length (after ∙ group ∙ sym (append_assoc (p ++ M) W Z)) ∙ length-append ((p ++ M) ++ W) Z ∙ omega (arith, length-append (p ++ M) W) in
    let many : length (take g (drop (s - g + (b + old)) bs₁)) ≡ g = length-take-le g (drop (s - g + (b + old)) bs₁) (omega (arith, length-drop (s - g + (b + old)) bs₁)) in
    let zeros : z ≡ zs = ez ∙ (λ i. replicate (length (part (e₃ i) (e₄ i))) 0) ∙ ap (λ (m : ℕ). replicate m 0) many in
    let rest : drop (length bs - all + b + len_of (get_or hs k 0) - (length bs - all + b + len_of (get_or hs k 0) - (n - len_of (get_or hs k 0)))) (drop (length bs - all + b + len_of (get_or hs k 0) - (n - len_of (get_or hs k 0))) bs₁) ≡ Z =
    (λ i. drop (e₄ i) (drop (e₃ i) bs₁)) ∙ drop-drop g (s - g + (b + old)) bs₁ ∙ ap (λ (m : ℕ). drop m bs₁) back ∙ high in
    let end : bs' ≡ p ++ (M ++ (zs ++ Z)) =
    f ∙ (λ i. low i ++ (zeros i ++ rest i)) ∙ append_assoc p M (zs ++ Z) in
    let el : length bs' ≡ length bs =
    let new : length bs' ≡ length p + (length M + (length zs + length Z)) = ap length end ∙ simp length-append in
    let was : length bs ≡ length p + (length G + (length M + length Z)) = ap length shape ∙ simp length-append in
    omega (arith, length-replicate {A = ℕ} g 0) in
    let le : n - length x ≡ g = ap (λ (t : ℕ). n - t) lx in
    let fx : fitted n x ≡ x ++ zs = fit-long n x (subst (λ (t : ℕ). t ≤ n) (sym lx) ho) ∙ ap (λ (m : ℕ). x ++ replicate m 0) le in
    put hs bs ht k hk n (fitted n x) p bs' hn (length-fitted n x)
    (end ∙ ap (λ (l : List ℕ). p ++ l) (append_assoc X x (zs ++ Z) ∙ ap (λ (l : List ℕ). X ++ l) (sym (append_assoc x zs Z) ∙ ap (λ (l : List ℕ). l ++ Z) (sym fx))))
    (λ m a c.
    let w : m ≤ s - g = num₅ s m n old ho a c in
    ap (take m) end ∙ take-append-le m p (M ++ (zs ++ Z)) (subst (λ (t : ℕ). m ≤ t) (sym lp) w) ∙ take-take m (s - g) P w ∙ take-take m s bs a) el

-- the word of the slot has the new length
pub put-len : (hs bs hs' bs' : List ℕ) (k n : ℕ) (x : List ℕ) → Put hs bs hs' bs' k n x → k < length hs → n < 16777216 → len_of (get_or hs' k 0) ≡ n
put-len hs bs hs' bs' k n x p hk hn =
    let e : len_of (with_len (get_or hs k 0) n) ≡ n = omega arith in
    ap (λ (l : List ℕ). len_of (get_or l k 0)) p.heads ∙ ap len_of (get_or-set_same hs k (with_len (get_or hs k 0) n) 0 hk) ∙ e

-- text put over bytes of its length
pub write-put : (hs bs hs₁ bs₁ bs' : List ℕ) (k n all b : ℕ) (x d : List ℕ) → total hs ≤ length bs → k < length hs → length d ≡ n → n < 16777216 → total hs + n ≤ length bs + len_of (get_or hs k 0)
    → Put hs bs hs₁ bs₁ k n x → all ≡ total hs₁ → b ≡ total (take k hs₁)
    → bs' ≡ paste bs₁ (length bs₁ - all + b) d (length d) → length bs' ≡ length bs₁ → Put hs bs hs₁ bs' k n d
write-put hs bs hs₁ bs₁ bs' k n all b x d ht hk hd hn hr p ea eb e el =
    let ro = p.room in
    let lo = p.long in
    let ht₁ : total hs₁ ≤ length bs₁ = omega arith in
    let lh : length hs₁ ≡ length hs = ap length p.heads ∙ length-set hs k (with_len (get_or hs k 0) n) in
    let hk₁ : k < length hs₁ = omega arith in
    let ln : len_of (get_or hs₁ k 0) ≡ n = put-len hs bs hs₁ bs₁ k n x p hk hn in
    let P : List ℕ = take (start hs₁ bs₁) bs₁ in
    let X : List ℕ = join (take k (contents hs₁ bs₁)) in
    let c : List ℕ = get_or (contents hs₁ bs₁) k [] in
    let Z : List ℕ = join (drop (suc k) (contents hs₁ bs₁)) in
    let lc : length c ≡ n = length_at hs₁ bs₁ ht₁ k ∙ ln in
    let l_x : length X ≡ total (take k hs₁) = before hs₁ bs₁ ht₁ k hk₁ in
    let l_p : length P ≡ start hs₁ bs₁ = front hs₁ bs₁ ht₁ in
    let at : ℕ = length bs₁ - all + b in
    let all-is : all ≡ total hs₁ = ea in
    let l_pX : length (P ++ X) ≡ at = length-append P X ∙ omega arith in
    let shape : bs₁ ≡ (P ++ X) ++ (c ++ Z) = apart hs₁ bs₁ ht₁ k hk₁ ∙ sym (append_assoc P X (c ++ Z)) in
    let low : take at bs₁ ≡ P ++ X = ap (take at) shape ∙ take_at (P ++ X) (c ++ Z) at l_pX in
    let high : drop (at + length d) bs₁ ≡ Z =
    ap (drop (at + length d)) (shape ∙ sym (append_assoc (P ++ X) c Z)) ∙ drop_at ((P ++ X) ++ c) Z (at + length d) (length-append (P ++ X) c ∙ omega arith) in
    let end : bs' ≡ P ++ (X ++ (d ++ Z)) =
    e ∙ (λ i. low i ++ take-length d i ++ high i) ∙ append_assoc (P ++ X) d Z ∙ append_assoc P X (d ++ Z) in
    let w : k < length (contents hs₁ bs₁) = within hs₁ bs₁ ht₁ k hk₁ in
    let ft : Fit hs₁ (set (contents hs₁ bs₁) k d) =
    subst (λ (l : List ℕ). Fit l (set (contents hs₁ bs₁) k d)) (set-get_or hs₁ k 0) (fit-set hs₁ (contents hs₁ bs₁) k (get_or hs₁ k 0) d (fits hs₁ bs₁ ht₁) (hd ∙ sym ln)) in
    record {
      heads = p.heads;
      texts = ap (contents hs₁) (end ∙ ap (λ (l : List ℕ). P ++ l) (sym (join-set (contents hs₁ bs₁) k d w)))
          ∙ read hs₁ P (set (contents hs₁ bs₁) k d) ft
          ∙ ap (λ (l : List (List ℕ)). set l k d) p.texts
          ∙ set-set (contents hs bs) k x d;
      rest = λ m a c.
          ap (take m) end ∙ take-append-le m P (X ++ (d ++ Z)) (omega arith) ∙ take-take m (start hs₁ bs₁) bs₁ (omega arith) ∙ p.rest m a c;
      room = p.room;
      long = el ∙ p.long;
    }

-- a slot whose bytes are cut to none, and then its word to 0
pub clear-put : (hs bs hs₁ bs₁ : List ℕ) (k : ℕ) → total hs ≤ length bs → k < length hs
    → Put hs bs hs₁ bs₁ k 0 (fitted 0 (get_or (contents hs bs) k [])) → Freed hs bs (set hs₁ k 0) bs₁ (set hs k 0) (set (contents hs bs) k [])
clear-put hs bs hs₁ bs₁ k ht hk p =
    let c : List ℕ = get_or (contents hs bs) k [] in
    let z : 0 - length c ≡ 0 = omega arith in
    let none : fitted 0 c ≡ [] = ap (λ (m : ℕ). replicate m 0) z in
    let l : len_of 0 ≡ len_of (get_or hs₁ k 0) = sym (put-len hs bs hs₁ bs₁ k 0 (fitted 0 c) p hk (omega arith)) in
    let ro = p.room in
    let t : total (set hs₁ k 0) ≡ total hs₁ = total_same 0 hs₁ k l in
    record {
      heads = ap (λ (l : List ℕ). set l k 0) p.heads ∙ set-set hs k (with_len (get_or hs k 0) 0) 0;
      texts = contents_same hs₁ bs₁ k 0 l ∙ p.texts ∙ ap (set (contents hs bs) k) none;
      rest = λ m a. p.rest m (omega arith) (omega arith);
      room = omega arith;
      long = p.long;
    }
