-- Where the bytes of a slot stand: the byte storage ends with them and those of all slots behind it.
-- Assumes nothing.
use mathlib.Core.List.{List, [], ◌++◌, append_assoc}
use mathlib.Core.Path.{◌≡◌, sym, ap, ◌∙◌}
use Prim.Native.Nat.{ℕ, suc, ◌+◌, ◌-◌, ◌≤◌, ◌<◌}
use native.Mathlib.Omega.{arith}
use lib.ListN.{length, take, drop, get_or, length-append, length-drop}
use lib.Seq.{drop-cons, take-length, take_at, drop_at}
use Rattle.layout.specs.Fields.{len_of}
use Rattle.layout.specs.Slots.{total, start, contents}
use Rattle.ask_entry.specs.Reads.{Stored}
use Rattle.slots.proofs.Totals.{sums}
use Rattle.slots.proofs.Parts.{join}
use Rattle.slots.proofs.Change.{front, length_at, before, apart}

-- the slots before it, and the slot with all behind it
pub total_from : (hs : List ℕ) (k : ℕ) → k < length hs → (total (take k hs) + total (drop k hs) ≡ total hs) × (len_of (get_or hs k 0) ≤ total (drop k hs))
unfolding total
total_from hs k h =
    let e = ap total (drop-cons hs k 0 h) in
    (omega (arith, e, (sums hs k h).1), omega (arith, e))

-- a part up to the end
pub to_end : (hs : List ℕ) (k : ℕ) → take (length hs - k) (drop k hs) ≡ drop k hs
to_end hs k = ap (λ (n : ℕ). take n (drop k hs)) (sym (length-drop k hs)) ∙ take-length (drop k hs)

pub bytes-place : (hs bs : List ℕ) (k : ℕ) → k < length hs → total hs ≤ length bs
    → take (len_of (get_or hs k 0)) (drop (length bs - total (drop k hs)) bs) ≡ get_or (contents hs bs) k []
bytes-place hs bs k h t =
    let cs = contents hs bs in
    let p = take (start hs bs) bs in
    let q = join (take k cs) in
    let r = join (drop (suc k) cs) in
    let a = length bs - total (drop k hs) in
    let n = len_of (get_or hs k 0) in
    let e : length (p ++ q) ≡ a = length-append p q ∙ omega (arith, front hs bs t, before hs bs t k h, (total_from hs k h).0) in
    ap (λ (l : List ℕ). take n (drop a l)) (apart hs bs t k h ∙ sym (append_assoc p q (get_or cs k [] ++ r)))
    ∙ ap (take n) (drop_at (p ++ q) (get_or cs k [] ++ r) a e)
    ∙ take_at (get_or cs k []) r n (length_at hs bs t k)

-- the bytes of the slots of a lawful store stand within the byte storage
pub stored-room : (hs bs : List ℕ) → Stored hs bs → total hs ≤ length bs
stored-room hs bs s = let l = s.lawful in omega (arith, l.space, l.exact.bytes, ap length s.bytes, ap total s.heads)
