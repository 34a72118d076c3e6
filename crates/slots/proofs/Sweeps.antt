-- A sweep: the bytes of the slots that are kept are moved up, from the last slot to the first. What is left of a slot that is not
-- kept stands in front of those that are done, and the next one is moved over it.
-- Assumes nothing.
use mathlib.Core.Path.{◌≡◌, refl, sym, ap, ◌∙◌, subst}
use mathlib.Core.Bool.{false, cond}
use mathlib.Core.List.{List, [], ◌∷◌, ◌++◌, append_assoc, append-nil}
use Prim.Native.Nat.{ℕ, zero, suc, ◌+◌, ◌-◌, ◌≤◌, ◌<◌}
use native.Mathlib.Omega.{arith}
use native.Mathlib.Numerals.{sub-one}
use borrow.Author.Tests.{ne_eqb}
use lib.Dec.{eqb}
use lib.ListN.{length, take, drop, get_or, set, length-append, get_or-append, drop_of_length-le}
use lib.Seq.{length-take-le, take-append-le, take_all, take-take, take-suc, drop-cons, get_or-take, set_at, append_snoc}
use Rattle.blocks.specs.Moved.{moved}
use Rattle.blocks.proofs.Cuts.{up}
use Rattle.layout.specs.Fields.{len_of}
use Rattle.layout.specs.Slots.{total, start, contents}
use Rattle.slots.specs.Put.{swept_by, swept, swept_c, Step, Freed}
use Rattle.slots.proofs.Totals.{total-take}
use Rattle.slots.proofs.Contents.{length-contents}
use Rattle.slots.proofs.Parts.{join, Fit, fit-total, fit-take, read}
use Rattle.slots.proofs.Change.{fits, whole, front, length_at}

len-pick : (m h : ℕ) (c : List ℕ) → length c ≡ len_of h → length (cond (eqb m 0) [] c) ≡ len_of (cond (eqb m 0) 0 h)
len-pick zero h c e = refl
len-pick (suc m) h c e = rw (ne_eqb (suc m) 0 (λ q. omega arith)) e

pub fit-swept : (ms hs : List ℕ) (cs : List (List ℕ)) → Fit hs cs → Fit (swept ms hs) (swept_c ms cs)
unfolding Fit swept_by
fit-swept [] hs cs f = f
fit-swept (m ∷ ms) [] [] f = tt
fit-swept (m ∷ ms) [] (c ∷ cs) f = absurd f
fit-swept (m ∷ ms) (h ∷ hs) [] f = absurd f
fit-swept (m ∷ ms) (h ∷ hs) (c ∷ cs) f = (len-pick m h c f.0, fit-swept ms hs cs f.1)

join-append : (a b : List (List ℕ)) → join (a ++ b) ≡ join a ++ join b
unfolding join
join-append [] b = refl
join-append (x ∷ a) b = ap (λ (l : List ℕ). x ++ l) (join-append a b) ∙ sym (append_assoc x (join a) (join b))

join-take : (cs : List (List ℕ)) (j : ℕ) → j < length cs → join (take (suc j) cs) ≡ join (take j cs) ++ get_or cs j []
unfolding join
join-take cs j h = ap join (take-suc cs j [] h) ∙ join-append (take j cs) (get_or cs j [] ∷ []) ∙ ap (λ (l : List ℕ). join (take j cs) ++ l) (append-nil (get_or cs j []))

-- how things stand where the slots from i on are done
pub record Sweeping (hs₀ bs₀ ms hs bs : List ℕ) (i src dst : ℕ) : Type 0 where
  pub junk : List ℕ
  pub heads : hs ≡ take i hs₀ ++ swept (drop i ms) (drop i hs₀)
  pub bytes : bs ≡ take (start hs₀ bs₀) bs₀ ++ (join (take i (contents hs₀ bs₀)) ++ (junk ++ join (swept_c (drop i ms) (drop i (contents hs₀ bs₀)))))
  pub from : src ≡ start hs₀ bs₀ + total (take i hs₀)
  pub to : dst ≡ src + length junk

pub sweep-start : (hs bs ms : List ℕ) → length ms ≡ length hs → total hs ≤ length bs → Sweeping hs bs ms hs bs (length hs) (length bs) (length bs)
unfolding swept_by join
sweep-start hs bs ms e ht =
    let f = fits hs bs ht in
    let cs : List (List ℕ) = contents hs bs in
    let lc : length cs ≡ length hs = length-contents hs bs in
    let th : take (length hs) hs ≡ hs = take_all (length hs) hs (omega arith) in
    let dh : drop (length hs) hs ≡ [] = drop_of_length-le hs {i = length hs} (omega arith) in
    let dm : drop (length hs) ms ≡ [] = drop_of_length-le ms {i = length hs} (omega arith) in
    let tc : take (length hs) cs ≡ cs = take_all (length hs) cs (omega arith) in
    let dc : drop (length hs) cs ≡ [] = drop_of_length-le cs {i = length hs} (omega arith) in
    record {
      junk = [];
      heads = sym ((λ i. th i ++ swept (dm i) (dh i)) ∙ append-nil hs);
      bytes = whole hs bs ht ∙ ap (λ (l : List ℕ). take (start hs bs) bs ++ l) (sym ((λ i. join (tc i) ++ join (swept_c (dm i) (dc i))) ∙ append-nil (join cs)));
      from = omega (arith, ap total th);
      to = omega arith;
    }

module _ (hs₀ bs₀ ms hs bs hs' bs' : List ℕ) (j src dst r : ℕ) (e : length ms ≡ length hs₀) (ht : total hs₀ ≤ length bs₀) (hj : j < length hs₀)
    (S : Sweeping hs₀ bs₀ ms hs bs (suc j) src dst) where
  same : get_or hs j 0 ≡ get_or hs₀ j 0
  same =
      ap (λ (l : List ℕ). get_or l j 0) S.heads
      ∙ get_or-append (take (suc j) hs₀) (swept (drop (suc j) ms) (drop (suc j) hs₀)) 0 j (rw length-take-le (omega arith))
      ∙ get_or-take (suc j) hs₀ j 0 (omega arith)

  within : j < length (contents hs₀ bs₀)
  within = omega (arith, length-contents hs₀ bs₀)

  long : length (get_or (contents hs₀ bs₀) j []) ≡ len_of (get_or hs₀ j 0)
  long = length_at hs₀ bs₀ ht j

  heads-turn : (m : ℕ) → get_or ms j 0 ≡ m → hs' ≡ set hs j (cond (eqb m 0) 0 (get_or hs j 0)) → hs' ≡ take j hs₀ ++ swept (drop j ms) (drop j hs₀)
  unfolding swept_by
  heads-turn m em q =
      let v : ℕ = cond (eqb m 0) 0 (get_or hs₀ j 0) in
      let W : List ℕ = swept (drop (suc j) ms) (drop (suc j) hs₀) in
      let dm : drop j ms ≡ m ∷ drop (suc j) ms = drop-cons ms j 0 (omega arith) ∙ ap (λ (n : ℕ). n ∷ drop (suc j) ms) em in
      let dh : drop j hs₀ ≡ get_or hs₀ j 0 ∷ drop (suc j) hs₀ = drop-cons hs₀ j 0 hj in
      let shape : hs ≡ take j hs₀ ++ (get_or hs₀ j 0 ∷ W) =
      S.heads ∙ ap (λ (l : List ℕ). l ++ W) (take-suc hs₀ j 0 hj) ∙ append_snoc (take j hs₀) (get_or hs₀ j 0) W in
      q ∙ (λ i. set (shape i) j (cond (eqb m 0) 0 (same i)))
      ∙ set_at (take j hs₀) (get_or hs₀ j 0) W v j (length-take-le j hs₀ (omega arith))
      ∙ sym (λ i. take j hs₀ ++ swept (dm i) (dh i))

  shape : bs ≡ take (start hs₀ bs₀) bs₀ ++ (join (take j (contents hs₀ bs₀)) ++ (get_or (contents hs₀ bs₀) j [] ++ (S.junk ++ join (swept_c (drop (suc j) ms) (drop (suc j) (contents hs₀ bs₀))))))
  shape =
      let X : List ℕ = join (take j (contents hs₀ bs₀)) in
      let x : List ℕ = get_or (contents hs₀ bs₀) j [] in
      let Q : List ℕ = join (swept_c (drop (suc j) ms) (drop (suc j) (contents hs₀ bs₀))) in
      S.bytes ∙ ap (λ (l : List ℕ). take (start hs₀ bs₀) bs₀ ++ (l ++ (S.junk ++ Q))) (join-take (contents hs₀ bs₀) j within)
      ∙ ap (λ (l : List ℕ). take (start hs₀ bs₀) bs₀ ++ l) (append_assoc X x (S.junk ++ Q))

  rest_is : (m : ℕ) → get_or ms j 0 ≡ m → join (swept_c (drop j ms) (drop j (contents hs₀ bs₀))) ≡ cond (eqb m 0) [] (get_or (contents hs₀ bs₀) j []) ++ join (swept_c (drop (suc j) ms) (drop (suc j) (contents hs₀ bs₀)))
  unfolding swept_by join
  rest_is m em =
      let dm : drop j ms ≡ m ∷ drop (suc j) ms = drop-cons ms j 0 (omega arith) ∙ ap (λ (n : ℕ). n ∷ drop (suc j) ms) em in
      let dc : drop j (contents hs₀ bs₀) ≡ get_or (contents hs₀ bs₀) j [] ∷ drop (suc j) (contents hs₀ bs₀) = drop-cons (contents hs₀ bs₀) j [] within in
      λ i. join (swept_c (dm i) (dc i))

  turn : (m : ℕ) → get_or ms j 0 ≡ m → Step hs bs hs' bs' j m src dst r → Sweeping hs₀ bs₀ ms hs' bs' j (src - len_of (get_or hs j 0)) r
  turn zero em T =
      let P : List ℕ = take (start hs₀ bs₀) bs₀ in
      let X : List ℕ = join (take j (contents hs₀ bs₀)) in
      let x : List ℕ = get_or (contents hs₀ bs₀) j [] in
      let Q : List ℕ = join (swept_c (drop (suc j) ms) (drop (suc j) (contents hs₀ bs₀))) in
      let ls : len_of (get_or hs j 0) ≡ len_of (get_or hs₀ j 0) = ap len_of same in
      let tt : total (take (suc j) hs₀) ≡ total (take j hs₀) + len_of (get_or hs₀ j 0) = total-take hs₀ j hj in
      let f = S.from in
      let g = S.to in
      let nx = T.next in
      record {
        junk = x ++ S.junk;
        heads = heads-turn zero em T.heads;
        bytes = T.bytes ∙ shape ∙ ap (λ (l : List ℕ). P ++ (X ++ l)) (sym (append_assoc x S.junk Q) ∙ ap (λ (l : List ℕ). (x ++ S.junk) ++ l) (sym (rest_is zero em)));
        from = omega arith;
        to = omega (arith, length-append x S.junk, long);
      }
  turn (suc m) em T =
      let P : List ℕ = take (start hs₀ bs₀) bs₀ in
      let X : List ℕ = join (take j (contents hs₀ bs₀)) in
      let x : List ℕ = get_or (contents hs₀ bs₀) j [] in
      let Q : List ℕ = join (swept_c (drop (suc j) ms) (drop (suc j) (contents hs₀ bs₀))) in
      let l : ℕ = len_of (get_or hs j 0) in
      let ls : len_of (get_or hs j 0) ≡ len_of (get_or hs₀ j 0) = ap len_of same in
      let tt : total (take (suc j) hs₀) ≡ total (take j hs₀) + len_of (get_or hs₀ j 0) = total-take hs₀ j hj in
      let f = S.from in
      let g = S.to in
      let b : eqb (suc m) 0 ≡ false = ne_eqb (suc m) 0 (λ q. omega arith) in
      let nx : r ≡ dst - len_of (get_or hs j 0) = rw b at T.next in
      let mv : bs' ≡ moved bs (src - l) (src - l + (dst - src)) l = rw b at T.bytes in
      let J : List ℕ = take (dst - src) (x ++ S.junk) in
      let lj : length S.junk ≡ dst - src = omega arith in
      let lx : length x ≡ l = omega (arith, long) in
      let l_x : length X ≡ total (take j hs₀) = fit-total (take j hs₀) (take j (contents hs₀ bs₀)) (fit-take hs₀ (contents hs₀ bs₀) j (fits hs₀ bs₀ ht)) in
      let l_p : length P ≡ start hs₀ bs₀ = front hs₀ bs₀ ht in
      let l_pX : length (P ++ X) ≡ src - l = length-append P X ∙ omega arith in
      let l_j : length J ≡ dst - src = length-take-le (dst - src) (x ++ S.junk) (rw length-append (omega arith)) in
      let q : cond (eqb (suc m) 0) [] x ≡ x = rw b in
      record {
        junk = J;
        heads = heads-turn (suc m) em T.heads;
        bytes = mv ∙ ap (λ (w : List ℕ). moved w (src - l) (src - l + (dst - src)) l) (shape ∙ sym (append_assoc P X (x ++ (S.junk ++ Q))))
            ∙ up (P ++ X) x S.junk Q (src - l) (dst - src) l l_pX lj lx
            ∙ append_assoc P X (J ++ (x ++ Q))
            ∙ ap (λ (w : List ℕ). P ++ (X ++ (J ++ w))) (sym (rest_is (suc m) em ∙ ap (λ (w : List ℕ). w ++ Q) q));
        from = omega arith;
        to = omega arith;
      }

swept-room : (ms hs : List ℕ) → total (swept ms hs) ≤ total hs
unfolding total swept_by
swept-room [] hs = omega arith
swept-room (m ∷ ms) [] = omega arith
swept-room (zero ∷ ms) (h ∷ hs) = let r = swept-room ms hs in omega arith
swept-room (suc m ∷ ms) (h ∷ hs) = let r = swept-room ms hs in rw (ne_eqb (suc m) 0 (λ q. omega arith)) (omega arith)

pub sweep-done : (hs bs ms hs' bs' : List ℕ) (src dst : ℕ) → total hs ≤ length bs → length bs' ≡ length bs → Sweeping hs bs ms hs' bs' 0 src dst
    → Freed hs bs hs' bs' (swept ms hs) (swept_c ms (contents hs bs))
unfolding join
sweep-done hs bs ms hs' bs' src dst ht l S =
    let P : List ℕ = take (start hs bs) bs in
    let R : List ℕ = join (swept_c ms (contents hs bs)) in
    let f = fit-swept ms hs (contents hs bs) (fits hs bs ht) in
    let l_p : length P ≡ start hs bs = front hs bs ht in
    record {
      heads = S.heads;
      texts = (λ i. contents (S.heads i) ((S.bytes ∙ sym (append_assoc P S.junk R)) i)) ∙ read (swept ms hs) (P ++ S.junk) (swept_c ms (contents hs bs)) f;
      rest = λ m a. ap (take m) S.bytes ∙ take-append-le m P (S.junk ++ R) (omega arith) ∙ take-take m (start hs bs) bs a;
      room = subst (λ (x : List ℕ). total x ≤ total hs) (sym S.heads) (swept-room ms hs);
      long = l;
    }

-- what a step at the slot before i asks for
pub record Ready (hs bs : List ℕ) (src dst i : ℕ) : Type 0 where
  pub low : len_of (get_or hs (i - 1) 0) ≤ src
  pub mid : src ≤ dst
  pub high : dst ≤ length bs

module _ (hs₀ bs₀ ms hs bs : List ℕ) (src dst : ℕ) (e : length ms ≡ length hs₀) (ht : total hs₀ ≤ length bs₀) where
  pub sweep-pre : (i : ℕ) → 0 < i → i ≤ length hs₀ → Sweeping hs₀ bs₀ ms hs bs i src dst → Ready hs bs src dst i
  sweep-pre zero p h S = absurd (omega arith)
  sweep-pre (suc j) p h S =
      let P : List ℕ = take (start hs₀ bs₀) bs₀ in
      let X : List ℕ = join (take (suc j) (contents hs₀ bs₀)) in
      let Q : List ℕ = join (swept_c (drop (suc j) ms) (drop (suc j) (contents hs₀ bs₀))) in
      let one : suc j - 1 ≡ j = sub-one (suc j) in
      let ls : len_of (get_or hs j 0) ≡ len_of (get_or hs₀ j 0) = ap len_of (same hs₀ bs₀ ms hs bs hs bs j src dst 0 e ht (omega arith) S) in
      let tk : total (take (suc j) hs₀) ≡ total (take j hs₀) + len_of (get_or hs₀ j 0) = total-take hs₀ j (omega arith) in
      let f = S.from in
      let g = S.to in
      let l_x : length X ≡ total (take (suc j) hs₀) = fit-total (take (suc j) hs₀) (take (suc j) (contents hs₀ bs₀)) (fit-take hs₀ (contents hs₀ bs₀) (suc j) (fits hs₀ bs₀ ht)) in
      let l_p : length P ≡ start hs₀ bs₀ = front hs₀ bs₀ ht in
      let lb : length bs ≡ length P + (length X + (length S.junk + length Q)) = ap length S.bytes ∙ simp length-append in
      record { low = rw one (omega arith); mid = omega arith; high = omega arith }

  pub sweep_next : (hs' bs' : List ℕ) (i r : ℕ) → 0 < i → i ≤ length hs₀ → Sweeping hs₀ bs₀ ms hs bs i src dst → Step hs bs hs' bs' (i - 1) (get_or ms (i - 1) 0) src dst r
      → Sweeping hs₀ bs₀ ms hs' bs' (i - 1) (src - len_of (get_or hs (i - 1) 0)) r
  sweep_next hs' bs' zero r p h S T = absurd (omega arith)
  sweep_next hs' bs' (suc j) r p h S T =
      let one : suc j - 1 ≡ j = sub-one (suc j) in
      rw one (turn hs₀ bs₀ ms hs bs hs' bs' j src dst r e ht (omega arith) S (get_or ms j 0) refl (rw one at T))
