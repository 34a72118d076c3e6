-- The three ways out of set up.
-- Assumes nothing.
use mathlib.Core.Bool.{true, false}
use mathlib.Core.List.{List}
use mathlib.Core.Path.{◌≡◌, refl, sym}
use Prim.Native.Nat.{ℕ}
use lib.IntN.{ℤ}
use lib.ListN.{length}
use Rattle.text.specs.Utf8.{Bytes}
use Rattle.layout.specs.Store.{lent}
use Rattle.setup.specs.SetUp.{entries_fit, bytes_fit, refusal_of, fresh_words, IsSetUp}
use Rattle.setup.proofs.Fits.{entry-room, byte-room}
use Rattle.setup.proofs.Blank.{blank-lawful, blank-state}
use Rattle.setup.proofs.Fresh.{left-long, left-blank, left_spare}

module _ (m b : ℕ) (ws rs hs : List ℕ) (ts : List ℤ) (ps bs : Bytes) where
  pub says-15 : entries_fit (length ws) (length rs) (length hs) (length ts) (length ps) m ≡ false
      → IsSetUp m b (lent ws rs hs ts ps bs) (lent ws rs hs ts ps bs) 15
  unfolding refusal_of
  says-15 e = (rw e refl, refl)

  module _ (e : entries_fit (length ws) (length rs) (length hs) (length ts) (length ps) m ≡ true) where
    pub says-16 : bytes_fit (length bs) b ≡ false → IsSetUp m b (lent ws rs hs ts ps bs) (lent ws rs hs ts ps bs) 16
    unfolding refusal_of
    says-16 f = (rw (e, f) refl, refl)

    says-0 : bytes_fit (length bs) b ≡ true → refusal_of m b (lent ws rs hs ts ps bs) ≡ 0
    unfolding refusal_of
    says-0 f = rw (e, f) refl

    pub says-done : (ws' : List ℕ) → ws' ≡ fresh_words m b ws → bytes_fit (length bs) b ≡ true
        → IsSetUp m b (lent ws rs hs ts ps bs) (lent ws' rs hs ts ps bs) 0
    says-done ws' i f =
        let x = entry-room _ _ _ _ _ _ e in
        let y = byte-room _ _ f in
        let o = left-blank m b ws rs hs ts ps bs x.words x.records x.heads x.times x.paths y.1 in
        rw i
        (sym (says-0 f), ((left-long m b ws rs hs ts ps bs x.words x.records x.heads x.times x.paths y.1, blank-lawful m b _ o x.limit y.0), blank-state m b _ o, left_spare m b ws rs hs ts ps bs))
