-- What set up leaves is blank, whatever stood there before.
-- Assumes nothing.
use mathlib.Core.List.{List, ◌∷◌, ◌++◌}
use mathlib.Core.Path.{◌≡◌, ◌∙◌, refl, sym, ap}
use Prim.Native.Nat.{ℕ, ◌+◌, ◌-◌, ◌*◌, ◌≤◌}
use native.Mathlib.Omega.{arith}
use lib.IntN.{ℤ}
use lib.ListN.{length, take, drop, get_or, set, replicate, length-append, length-drop}
use lib.Seq.{take-append_seam, drop-append_seam, length-take-le, get_or-drop}
use Rattle.text.specs.Utf8.{Bytes}
use Rattle.layout.specs.Store.{Store, lent, core, spare}
use Rattle.layout.specs.Lawful.{Long}
use Rattle.layout.proofs.Zeros.{zeros-read}
use Rattle.setup.specs.SetUp.{fresh_words}
use Rattle.setup.proofs.Blank.{Blank}

-- the words of a fresh state
abbrev front : ℕ → ℕ → List ℕ
front m b = m ∷ b ∷ 0 ∷ 0o666 ∷ replicate 98 0

fresh-front : (m b : ℕ) (ws : List ℕ) → fresh_words m b ws ≡ front m b ++ drop 102 ws
unfolding fresh_words
fresh-front m b ws = refl

-- by the words as they are put down
pub fresh_from : (m b : ℕ) (ws xs : List ℕ) → xs ≡ replicate 102 0 ++ drop 102 ws → set (set (set xs 0 m) 1 b) 3 0o666 ≡ fresh_words m b ws
unfolding fresh_words
fresh_from m b ws xs e = ap (λ (y : List ℕ). set (set (set y 0 m) 1 b) 3 0o666) e

fresh-taken : (m b : ℕ) (ws : List ℕ) → take 102 (fresh_words m b ws) ≡ front m b
fresh-taken m b ws = ap (take 102) (fresh-front m b ws) ∙ take-append_seam (front m b) (drop 102 ws)

front-closed : (m b n : ℕ) → get_or (front m b) (5 + 3 * n) 0 ≡ 0
front-closed m b n =
    let e : 5 + 3 * n ≡ 4 + (1 + 3 * n) = omega arith in
    rw e (sym (get_or-drop 4 (front m b) (1 + 3 * n) 0) ∙ zeros-read 98 (1 + 3 * n))

fresh-rest : (m b : ℕ) (ws : List ℕ) → drop 102 (fresh_words m b ws) ≡ drop 102 ws
fresh-rest m b ws = ap (drop 102) (fresh-front m b ws) ∙ drop-append_seam (front m b) (drop 102 ws)

module _ (m b : ℕ) (ws rs hs : List ℕ) (ts : List ℤ) (ps bs : Bytes) where
  -- the store that set up leaves
  abbrev left : Store
  left = lent (fresh_words m b ws) rs hs ts ps bs

  pub left_spare : spare m b left ≡ spare m b (lent ws rs hs ts ps bs)
  left_spare = λ i. lent (fresh-rest m b ws i) (drop m rs) (drop (m + 32) hs) (drop (4 * (m + 32)) ts) (drop 33792 ps) (drop b bs)

  module _ (lw : 102 ≤ length ws) (lr : m ≤ length rs) (lh : m + 32 ≤ length hs) (lt : 4 * (m + 32) ≤ length ts) (lp : 33792 ≤ length ps) (lb : b ≤ length bs) where
    has-most : get_or (fresh_words m b ws) 0 0 ≡ m
    has-most = rw (fresh-front m b ws) refl

    has_room_lem : get_or (fresh_words m b ws) 1 0 ≡ b
    has_room_lem = rw (fresh-front m b ws) refl

    front_length : length (fresh_words m b ws) ≡ 102 + (length ws - 102)
    front_length = ap length (fresh-front m b ws) ∙ (length-append (front m b) (drop 102 ws) ∙ ap (λ (k : ℕ). 102 + k) (length-drop 102 ws))

    no-slot : get_or (fresh_words m b ws) 101 0 ≡ 0
    no-slot = rw (fresh-front m b ws) refl

    pub left-long : Long left
    left-long =
        record {
          words = rw front_length (omega arith);
          records = rw has-most lr;
          heads = rw has-most lh;
          times = rw has-most lt;
          paths = lp;
          bytes = rw has_room_lem lb;
        }

    pub left-blank : Blank m b (core left)
    left-blank =
        record {
          exact =
              record {
                words = rw (fresh-taken m b ws) refl;
                records = rw (fresh-taken m b ws, has-most) (length-take-le m rs lr);
                heads = rw (fresh-taken m b ws, no-slot) refl;
                times = rw (fresh-taken m b ws, has-most) (length-take-le (4 * (m + 32)) ts lt);
                paths = length-take-le 33792 ps lp;
                bytes = rw (fresh-taken m b ws, has_room_lem) (length-take-le b bs lb);
              };
          has_most = rw (fresh-taken m b ws) refl;
          has_room = rw (fresh-taken m b ws) refl;
          no_entry = rw (fresh-taken m b ws) refl;
          has_mask = rw (fresh-taken m b ws) refl;
          at_root = rw (fresh-taken m b ws) refl;
          closed = λ n. rw (fresh-taken m b ws) (front-closed m b n);
          free = λ k. rw no-slot refl;
          no_slot = rw (fresh-taken m b ws) refl;
        }
