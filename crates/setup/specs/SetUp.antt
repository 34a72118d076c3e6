-- Set up (01, refusals 15 and 16, and docs/LAYOUT.md on sizes).
-- Assumes nothing.
use Rattle.std.specs.Prelude.{Bool, ◌&&◌, cond, List, ◌++◌, ◌≡◌, ℕ, zero, suc, ◌*◌, leb, length, drop, replicate, set}
use Rattle.model.specs.Calls.States.{fresh_state}
use Rattle.layout.specs.Numbers.{most_entries, least_bytes, most_bytes, word_count, most_at, room_at, mask_at, paths_bytes}
use Rattle.layout.specs.Store.{Store, slots_for, core, spare, state}
use Rattle.layout.specs.Lawful.{Keeps}

-- "an entry limit of 1 to 4,096", and each slice of the entry storage long enough for it
abbrev pub entries_fit : ℕ → ℕ → ℕ → ℕ → ℕ → ℕ → Bool
entries_fit words records heads times paths m =
    leb 1 m && (leb m most_entries && (leb word_count words && (leb m records && (leb (slots_for m) heads && (leb (4 * slots_for m) times && leb paths_bytes paths)))))

-- "a byte limit of 256 to 1,048,576", and the byte storage long enough for it
abbrev pub bytes_fit : ℕ → ℕ → Bool
bytes_fit bytes b = leb least_bytes b && (leb b most_bytes && leb b bytes)

-- 15, 16 or 0: 15 is asked before 16
unfoldable pub refusal_of : ℕ → ℕ → Store → ℕ
refusal_of m b st =
    cond (entries_fit (length st.words) (length st.records) (length st.heads) (length st.times) (length st.paths) m)
    (cond (bytes_fit (length st.bytes) b) 0 16)
    15

-- the words of a fresh state, before what stands behind them
unfoldable pub fresh_words : ℕ → ℕ → List ℕ → List ℕ
fresh_words m b ws = set (set (set (replicate word_count 0 ++ drop word_count ws) most_at m) room_at b) mask_at 0o666

-- what stands there after an answer of 0: the fresh state, whatever stood there before, and behind it what was there; and after a
-- refusal
abbrev pub Leaves : ℕ → ℕ → ℕ → Store → Store → Type 0
Leaves zero m b st st' = Keeps st' × (state (core st') ≡ fresh_state m b) × (spare m b st' ≡ spare m b st)
Leaves (suc n) m b st st' = st' ≡ st

-- the answer, and what is left
abbrev pub IsSetUp : ℕ → ℕ → Store → Store → ℕ → Type 0
IsSetUp m b st st' r = (r ≡ refusal_of m b st) × Leaves r m b st st'
