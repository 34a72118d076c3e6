-- What a change of the slots leaves: of their words, of their bytes, and of what stands in front of these.
-- Assumes nothing.
use Rattle.std.specs.Prelude.{◌≡◌, cond, List, [], ◌∷◌, ◌++◌, ℕ, ◌+◌, ◌-◌, ◌≤◌, eqb, length, take, set, get_or, replicate}
use Rattle.blocks.specs.Moved.{moved}
use Rattle.layout.specs.Fields.{len_of}
use Rattle.layout.specs.Slots.{total, start, contents}

-- the word h with the length n
abbrev pub with_len : ℕ → ℕ → ℕ
with_len h n = h - len_of h + n

-- c cut, or extended by zeros, to the length n
abbrev pub fitted : ℕ → List ℕ → List ℕ
fitted n c = take n c ++ replicate (n - length c) 0

-- x, of length n, put as the bytes of slot k
pub record Put (hs bs hs' bs' : List ℕ) (k n : ℕ) (x : List ℕ) : Type 0 where
  pub heads : hs' ≡ set hs k (with_len (get_or hs k 0) n)
  pub texts : contents hs' bs' ≡ set (contents hs bs) k x
  -- what stands in front of the bytes of the slots, before and after, is as it was
  pub rest : (m : ℕ) → m + total hs ≤ length bs → m + total hs' ≤ length bs → take m bs' ≡ take m bs
  pub room : total hs' + len_of (get_or hs k 0) ≡ total hs + n
  pub long : length bs' ≡ length bs

-- a list with `none` in place of each whose mark is 0
unfoldable pub swept_by : {A : Type 0} → A → List ℕ → List A → List A
swept_by none [] l = l
swept_by none (m ∷ ms) [] = []
swept_by none (m ∷ ms) (x ∷ l) = cond (eqb m 0) none x ∷ swept_by none ms l

-- the words of the slots, each 0 whose mark is 0
abbrev pub swept : List ℕ → List ℕ → List ℕ
swept ms hs = swept_by 0 ms hs

-- the bytes of the slots, none of those whose mark is 0
abbrev pub swept_c : List ℕ → List (List ℕ) → List (List ℕ)
swept_c ms cs = swept_by [] ms cs

-- slots freed: the words ws and the bytes cs are left
pub record Freed (hs bs hs' bs' ws : List ℕ) (cs : List (List ℕ)) : Type 0 where
  pub heads : hs' ≡ ws
  pub texts : contents hs' bs' ≡ cs
  -- what stands in front of the bytes of the slots is as it was
  pub rest : (m : ℕ) → m ≤ start hs bs → take m bs' ≡ take m bs
  pub room : total hs' ≤ total hs
  pub long : length bs' ≡ length bs

-- one slot of a sweep: freed, or its bytes moved up from in front of src to in front of dst; r is where they begin
pub record Step (hs bs hs' bs' : List ℕ) (i keep src dst r : ℕ) : Type 0 where
  pub heads : hs' ≡ set hs i (cond (eqb keep 0) 0 (get_or hs i 0))
  pub bytes : bs' ≡ cond (eqb keep 0) bs (moved bs (src - len_of (get_or hs i 0)) (src - len_of (get_or hs i 0) + (dst - src)) (len_of (get_or hs i 0)))
  pub next : r ≡ cond (eqb keep 0) dst (dst - len_of (get_or hs i 0))
