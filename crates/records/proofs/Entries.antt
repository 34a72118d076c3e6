-- Entries by their parts: the entries of one list of words behind another are those of the one, with its names, and those of the
-- other, with the names behind these.
-- Assumes nothing.
use mathlib.Core.Path.{◌≡◌, refl, sym, ap, ◌∙◌}
use mathlib.Core.List.{List, [], ◌∷◌, ◌++◌}
use Prim.Native.Nat.{ℕ, suc, ◌+◌, ◌-◌, ◌≤◌, ◌<◌}
use native.Mathlib.Omega.{arith}
use lib.ListN.{length, take, drop, get_or, length-drop}
use lib.Seq.{length-take-le, take-length, take_at, take-append-le, drop-append-le, take-take, take-suc, drop-drop, length-slice}
use Rattle.std.proofs.lemmas.List.{drop-take}
use Rattle.std.proofs.lemmas.Slice.{between_is}
use Rattle.blocks.proofs.Cuts.{up_to, none_between}
use Rattle.layout.specs.Fields.{depth_of, nlen_of, slot_of}
use Rattle.layout.specs.Rows.{Row, rows, name_total}
use Rattle.layout.specs.Slots.{total, split, contents}
use Rattle.layout.proofs.Named.{total-append, total-split, rows_take, rows_drop}

-- ---- the bytes of the names

-- of the first m, by those of the first a
pub total_up : (ws : List ℕ) (a m : ℕ) → a ≤ m → name_total (take m ws) ≡ name_total (take a ws) + name_total (drop a (take m ws))
total_up ws a m h = ap name_total (sym (up_to ws a m h)) ∙ total-append (take a ws) (drop a (take m ws))

-- the same, of a part as slices are cut
pub total_on : (ws : List ℕ) (a m : ℕ) → a ≤ m → name_total (take m ws) ≡ name_total (take a ws) + name_total (take (m - a) (drop a ws))
total_on ws a m h = total_up ws a m h ∙ ap (λ (l : List ℕ). name_total (take a ws) + name_total l) (sym (between_is ws a m))

-- of all
pub total_end : (ws : List ℕ) (a : ℕ) → a ≤ length ws → name_total ws ≡ name_total (take a ws) + name_total (take (length ws - a) (drop a ws))
total_end ws a h = ap name_total (sym (take-length ws)) ∙ total_on ws a (length ws) h

pub total-take : (ws : List ℕ) (k : ℕ) → name_total (take k ws) ≤ name_total ws
total-take ws k = omega (arith, total-split ws k)

-- of none
pub total_none : (ws : List ℕ) (a : ℕ) → 0 ≡ name_total (drop a (take a ws))
unfolding name_total
total_none ws a = sym (ap name_total (none_between ws a))

-- with one more
pub total-step : (ws : List ℕ) (a j : ℕ) → a ≤ j → j < length ws → name_total (drop a (take (suc j) ws)) ≡ name_total (drop a (take j ws)) + nlen_of (get_or ws j 0)
unfolding name_total
total-step ws a j h l =
    let more : drop a (take (suc j) ws) ≡ drop a (take j ws) ++ (get_or ws j 0 ∷ []) =
    ap (drop a) (take-suc ws j 0 l) ∙ drop-append-le a (take j ws) (get_or ws j 0 ∷ []) (omega (arith, length-take-le j ws (omega arith))) in
    ap name_total more ∙ total-append (drop a (take j ws)) (get_or ws j 0 ∷ []) ∙ omega arith

-- ---- the entries

-- they look at no byte behind their names
pub rows_short : (ws bs : List ℕ) → rows ws (take (name_total ws) bs) ≡ rows ws bs
unfolding rows name_total
rows_short [] bs = refl
rows_short (w ∷ ws) bs =
    let n : ℕ = nlen_of w in
    let one : take n (take (n + name_total ws) bs) ≡ take n bs = take-take n (n + name_total ws) bs (omega arith) in
    let two : rows ws (drop n (take (n + name_total ws) bs)) ≡ rows ws (drop n bs) = ap (rows ws) (drop-take n (name_total ws) bs) ∙ rows_short ws (drop n bs) in
    λ i. record { depth = depth_of w; name = one i; slot = slot_of w } ∷ two i

pub rows-front : (ws s t : List ℕ) → take (name_total ws) s ≡ take (name_total ws) t → rows ws s ≡ rows ws t
rows-front ws s t e = sym (rows_short ws s) ∙ ap (rows ws) e ∙ rows_short ws t

pub rows_more : (ws s t : List ℕ) → length s ≡ name_total ws → rows ws (s ++ t) ≡ rows ws s
rows_more ws s t h = sym (rows_short ws (s ++ t)) ∙ ap (rows ws) (take_at s t (name_total ws) h)

pub rows-cat : (a b s t : List ℕ) → length s ≡ name_total a → rows (a ++ b) (s ++ t) ≡ rows a s ++ rows b t
unfolding name_total rows
rows-cat [] b [] t h = refl
rows-cat [] b (x ∷ s) t h = absurd (omega arith)
rows-cat (w ∷ a) b s t h =
    let n : ℕ = nlen_of w in
    let one : take n (s ++ t) ≡ take n s = take-append-le n s t (omega arith) in
    let two : drop n (s ++ t) ≡ drop n s ++ t = drop-append-le n s t (omega arith) in
    let rest : rows (a ++ b) (drop n (s ++ t)) ≡ rows a (drop n s) ++ rows b t =
    ap (rows (a ++ b)) two ∙ rows-cat a b (drop n s) t (length-drop n s ∙ omega arith) in
    λ i. record { depth = depth_of w; name = one i; slot = slot_of w } ∷ rest i

-- the names of the first m are those of the first a and those from there on
pub total-sum : (ws : List ℕ) (a m o n : ℕ) → a ≤ m → o ≡ name_total (take a ws) → n ≡ name_total (take (m - a) (drop a ws)) → o + n ≡ name_total (take m ws)
total-sum ws a m o n h p q = omega (arith, total_on ws a m h)

-- words behind the first k, with bytes behind their names
pub rows-around : (ws bs m y : List ℕ) (k o : ℕ) → o ≡ name_total (take k ws) → o ≤ length bs → rows (take k ws ++ m) (take o bs ++ y) ≡ take k (rows ws bs) ++ rows m y
rows-around ws bs m y k o e h =
    rows-cat (take k ws) m (take o bs) y (length-take-le o bs h ∙ e)
    ∙ ap (λ (l : List Row). l ++ rows m y) (ap (λ (n : ℕ). rows (take k ws) (take n bs)) e ∙ rows_short (take k ws) bs ∙ rows_take ws bs k)

-- the words from the k-th on, with the bytes from their names on
pub rows-tail : (ws bs y : List ℕ) (k o u : ℕ) → o ≡ name_total (take k ws) → u ≡ name_total ws → u ≤ length bs → rows (drop k ws) (drop o (take u bs) ++ y) ≡ drop k (rows ws bs)
rows-tail ws bs y k o u e f h =
    let Z : List ℕ = drop k ws in
    let s : name_total (take k ws) + name_total Z ≡ name_total ws = total-split ws k in
    let n : u - o ≡ name_total Z = omega arith in
    rows_more Z (drop o (take u bs)) y (length-slice o u bs h ∙ n)
    ∙ ap (rows Z) (sym (between_is bs o u) ∙ ap (λ (m : ℕ). take m (drop o bs)) n)
    ∙ rows_short Z (drop o bs)
    ∙ ap (λ (m : ℕ). rows Z (drop m bs)) e
    ∙ rows_drop ws bs k

-- ---- the bytes behind the names

-- what is alike from m on is alike from any later place on
pub drop-later : (s t : List ℕ) (m n : ℕ) → m ≤ n → drop m s ≡ drop m t → drop n s ≡ drop n t
drop-later s t m n h e =
    let x : n ≡ m + (n - m) = omega arith in
    ap (λ (v : ℕ). drop v s) x ∙ sym (drop-drop (n - m) m s) ∙ ap (drop (n - m)) e ∙ drop-drop (n - m) m t ∙ ap (λ (v : ℕ). drop v t) (sym x)

-- so the bytes of the slots stay where those from m on do
pub contents-kept : (hs s t : List ℕ) (m : ℕ) → m + total hs ≤ length s → length t ≡ length s → drop m t ≡ drop m s → contents hs t ≡ contents hs s
contents-kept hs s t m h l e =
    ap (λ (n : ℕ). split hs (drop (n - total hs) t)) l ∙ ap (split hs) (drop-later t s m (length s - total hs) (omega arith) e)
