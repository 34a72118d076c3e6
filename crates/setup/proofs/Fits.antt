-- The tests of set up, one after the other, come to the definitions.
-- Assumes nothing.
use mathlib.Core.Bool.{true, false}
use mathlib.Core.Path.{◌≡◌}
use Prim.Native.Nat.{ℕ, ◌+◌, ◌*◌, ◌≤◌, ◌<◌}
use lib.Dec.{leb, leb→le}
use borrow.Author.Tests.{le-leb, lt-leb}
use Rattle.path.proofs.Laws.{and_left, and_right}
use Rattle.model.proofs.Entries.{of_true}
use Rattle.setup.specs.SetUp.{entries_fit, bytes_fit}

-- what the entry storage is found to be
pub record EntryRoom (w r h t p m : ℕ) : Type 0 where
  pub limit : (1 ≤ m) × (m ≤ 4096)
  pub words : 102 ≤ w
  pub records : m ≤ r
  pub heads : m + 32 ≤ h
  pub times : 4 * (m + 32) ≤ t
  pub paths : 33792 ≤ p

pub entry-room : (w r h t p m : ℕ) → entries_fit w r h t p m ≡ true → EntryRoom w r h t p m
entry-room w r h t p m e =
    let z = of_true e in
    let a = and_right (leb 1 m) _ z in
    let b = and_right (leb m 4096) _ a in
    let c = and_right (leb 102 w) _ b in
    let d = and_right (leb m r) _ c in
    let f = and_right (leb (m + 32) h) _ d in
    record {
      limit = (leb→le 1 m (and_left (leb 1 m) _ z), leb→le m 4096 (and_left (leb m 4096) _ a));
      words = leb→le 102 w (and_left (leb 102 w) _ b);
      records = leb→le m r (and_left (leb m r) _ c);
      heads = leb→le (m + 32) h (and_left (leb (m + 32) h) _ d);
      times = leb→le (4 * (m + 32)) t (and_left (leb (4 * (m + 32)) t) _ f);
      paths = leb→le 33792 p (and_right (leb (4 * (m + 32)) t) _ f);
    }

pub byte-room : (n b : ℕ) → bytes_fit n b ≡ true → ((256 ≤ b) × (b ≤ 1048576)) × (b ≤ n)
byte-room n b e =
    let z = of_true e in
    let a = and_right (leb 256 b) _ z in
    ((leb→le 256 b (and_left (leb 256 b) _ z), leb→le b 1048576 (and_left (leb b 1048576) _ a)), leb→le b n (and_right (leb b 1048576) _ a))

module _ (n b : ℕ) where
  pub bytes_low : b < 256 → bytes_fit n b ≡ false
  bytes_low h = rw (lt-leb 256 b h)

  pub bytes_high : 256 ≤ b → 1048576 < b → bytes_fit n b ≡ false
  bytes_high h k = rw (le-leb 256 b h, lt-leb b 1048576 k)

  pub bytes-long : 256 ≤ b → b ≤ 1048576 → bytes_fit n b ≡ leb b n
  bytes-long h k = rw (le-leb 256 b h, le-leb b 1048576 k)

module _ (w r h t p m : ℕ) where
  pub low : m < 1 → entries_fit w r h t p m ≡ false
  low a = rw (lt-leb 1 m a)

  pub high : 1 ≤ m → 4096 < m → entries_fit w r h t p m ≡ false
  high a b = rw (le-leb 1 m a, lt-leb m 4096 b)

  module _ (a : 1 ≤ m) (b : m ≤ 4096) where
    pub few_words : w < 102 → entries_fit w r h t p m ≡ false
    few_words c = rw (le-leb 1 m a, le-leb m 4096 b, lt-leb 102 w c)

    pub few-records : 102 ≤ w → r < m → entries_fit w r h t p m ≡ false
    few-records c d = rw (le-leb 1 m a, le-leb m 4096 b, le-leb 102 w c, lt-leb m r d)

    pub few-heads : 102 ≤ w → m ≤ r → h < m + 32 → entries_fit w r h t p m ≡ false
    few-heads c d e = rw (le-leb 1 m a, le-leb m 4096 b, le-leb 102 w c, le-leb m r d, lt-leb (m + 32) h e)

    pub few-times : 102 ≤ w → m ≤ r → m + 32 ≤ h → t < 4 * (m + 32) → entries_fit w r h t p m ≡ false
    few-times c d e f = rw (le-leb 1 m a, le-leb m 4096 b, le-leb 102 w c, le-leb m r d, le-leb (m + 32) h e, lt-leb (4 * (m + 32)) t f)

    pub paths-left : 102 ≤ w → m ≤ r → m + 32 ≤ h → 4 * (m + 32) ≤ t → entries_fit w r h t p m ≡ leb 33792 p
    paths-left c d e f = rw (le-leb 1 m a, le-leb m 4096 b, le-leb 102 w c, le-leb m r d, le-leb (m + 32) h e, le-leb (4 * (m + 32)) t f)
