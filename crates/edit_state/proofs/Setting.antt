-- The umask, the current directory, a position and a new number: only words behind the third and one cell are written, so the
-- entries and the slots are as they were.
-- Assumes nothing.
use mathlib.Core.Bool.{Bool}
use mathlib.Core.List.{List, [], ◌∷◌}
use mathlib.Core.Path.{◌≡◌, refl, sym, ap, ◌∙◌, subst}
use Prim.Native.Nat.{ℕ, suc, ◌+◌, ◌*◌, ◌≤◌, ◌<◌, ◌^◌}
use native.Mathlib.Decide.{ℕ_discrete}
use native.Mathlib.Omega.{arith}
use lib.Dec.{T, eqb, leb, le→leb}
use lib.ListN.{length, take, get_or, set, length-set}
use lib.Seq.{paste, length-paste, get_or-set_same, get_or-set_other}
use borrow.Author.Tests.{eq-eqb, ne_eqb}
use Rattle.text.specs.Utf8.{Bytes}
use Rattle.path.specs.Path.{names}
use Rattle.path.proofs.Laws.{and_both}
use Rattle.model.specs.Tree.{Path, Open, open_of}
use Rattle.model.specs.Prog.{umask, seek, go, move_by, seek_num, apply}
use Rattle.model.specs.Calls.States.{state_of, edited}
use Rattle.layout.specs.Rows.{name_total, rows}
use Rattle.layout.specs.Slots.{total}
use Rattle.layout.specs.Store.{Store, room, mask, here_length, position, kept_length, cell, opens_from, state}
use Rattle.layout.specs.Lawful.{cell_ok, kept_ok, Lawful}
use Rattle.layout.specs.Alike.{Spells}
use Rattle.layout.proofs.Tables.{open_at}
use Rattle.layout.proofs.Edited.Frames.{SameSlot, After, stays, Leaves, left-spells}
use Rattle.layout.proofs.Edited.Numbers.{SameNumber, Turn, kept_same, number_same, held_same, opens_by, turn-same}
use Rattle.edit_state.proofs.Cells.{cell-fits, cell_own, cell_other}

-- the store with other words and other kept paths
abbrev pub edit : Store → List ℕ → Bytes → Store
edit st ws ps = record { words = ws; records = st.records; heads = st.heads; times = st.times; paths = ps; bytes = st.bytes }

-- the entries and the slots stay
pub words-leave : (st : Store) (ws : List ℕ) (ps : Bytes) → Lawful st → length ws ≡ length st.words → length ps ≡ length st.paths
    → ((i : ℕ) → i < 3 → get_or ws i 0 ≡ get_or st.words i 0) → get_or ws 101 0 ≡ get_or st.words 101 0 → ((i : ℕ) → After st (edit st ws ps) i) → Leaves st (edit st ws ps)
words-leave st ws ps l a b w x s =
    let m = w 0 (omega arith) in
    let r = w 1 (omega arith) in
    let c = w 2 (omega arith) in
    record {
      exact =
          record {
            words = a ∙ l.exact.words;
            records = l.exact.records ∙ sym m;
            heads = l.exact.heads ∙ sym x;
            times = omega (arith, l.exact.times, m);
            paths = b ∙ l.exact.paths;
            bytes = l.exact.bytes ∙ sym r;
          };
      most_same = m;
      room_same = r;
      count_same = c;
      extent_same = x;
      rows_same = ap (λ (k : ℕ). rows (take k st.records) st.bytes) c;
      space = subst (λ (k : ℕ). name_total (take k st.records) + total st.heads ≤ room st) (sym c) l.space;
      slots = s;
    }

-- a slot is as it was where no words and bytes of the slots are written
pub slot_same : (st : Store) (ws : List ℕ) (ps : Bytes) (i : ℕ) → SameSlot st (edit st ws ps) i
slot_same st ws ps i = record { head = refl; meta = refl; bytes = refl }

-- every number stands on what it stood on
module _ (st : Store) (ws : List ℕ) (ps : Bytes) (l : Lawful st) (a : length ws ≡ length st.words) (b : length ps ≡ length st.paths)
    (w : (i : ℕ) → i < 3 → get_or ws i 0 ≡ get_or st.words i 0) (x : get_or ws 101 0 ≡ get_or st.words 101 0) (n : (j : ℕ) → SameNumber st (edit st ws ps) j) where
  abbrev new : Store
  new = edit st ws ps

  leaves : Leaves st new
  leaves = words-leave st ws ps l a b w x (λ i. stays (slot_same st ws ps i) (held_same st new i (λ j. ap (λ (h : ℕ). eqb h (suc i)) (n j).word) 32 0))

  sets : T (kept_ok new 0 (here_length new)) → mask new < 2 ^ 32 → (os : List Open) → opens_from new 32 0 ≡ os → (p : Path) → (state new).here ≡ p → (m : ℕ) → mask new ≡ m
      → Spells new (state_of (state st) (record { at = (state st).tree; hand = []; files = (state st).files; opens = os; here = p; mask = m }))
  sets h u os o = left-spells st new l leaves (λ j x. number_same st new j refl (n j) (l.numbers j x)) h u os (λ k. ap (λ (s : List Open). open_of s k) o)

  -- the same numbers, at the same positions
  same_opens : ((j : ℕ) → position new j ≡ position st j) → opens_from new 32 0 ≡ opens_from st 32 0
  same_opens p = opens_by st new (λ os. os) refl (λ j x. turn-same st new l (λ os. os) j (position st j) x (n j) (p j) (λ os. refl)) 32 0 (omega arith)

-- a word that is not written
other : (ws : List ℕ) (i v j : ℕ) → (j ≡ i → ⊥) → get_or (set ws i v) j 0 ≡ get_or ws j 0
other ws i v j x = get_or-set_other ws i j v 0 x

module _ (st : Store) (l : Lawful st) where
  -- ---- the umask, and a position

  module _ (w v : ℕ) (low : 3 ≤ w) (four : w ≡ 4 → ⊥) (five : (j : ℕ) → w ≡ 5 + 3 * j → ⊥) (seven : (j : ℕ) → w ≡ 7 + 3 * j → ⊥) where
    abbrev one : Store
    one = edit st (set st.words w v) st.paths

    keeps-number : (j : ℕ) → SameNumber st one j
    keeps-number j =
        record { word = other st.words w v (5 + 3 * j) (λ e. five j (sym e)); long = other st.words w v (7 + 3 * j) (λ e. seven j (sym e)); path = λ h. refl }

    keeps_here : here_length one ≡ here_length st
    keeps_here = other st.words w v 4 (λ e. four (sym e))

    long : length (set st.words w v) ≡ length st.words
    long = length-set st.words w v

    limits : (i : ℕ) → i < 3 → get_or (set st.words w v) i 0 ≡ get_or st.words i 0
    limits i h = other st.words w v i (λ e. omega arith)

    keeps-extent : get_or (set st.words w v) 101 0 ≡ get_or st.words 101 0
    keeps-extent = other st.words w v 101 (λ e. five 32 (sym e))

    word-opens : ((j : ℕ) → position one j ≡ position st j) → opens_from one 32 0 ≡ opens_from st 32 0
    word-opens = same_opens st (set st.words w v) st.paths l long refl limits keeps-extent keeps-number

    word-spells : (os : List Open) → opens_from one 32 0 ≡ os → (m : ℕ) → mask one ≡ m → m < 2 ^ 32
        → Spells one (state_of (state st) (record { at = (state st).tree; hand = []; files = (state st).files; opens = os; here = (state st).here; mask = m }))
    word-spells os o m e u =
        sets st (set st.words w v) st.paths l long refl limits keeps-extent keeps-number
        (kept_same st one 0 (here_length st) (here_length one) keeps_here (λ h. refl) l.here) (omega (arith, e, u)) os o
        (state st).here (ap (λ (k : ℕ). names (cell st 0 k)) keeps_here) m e

  pub umask-spells : (m : ℕ) → m < 2 ^ 32 → Spells (edit st (set st.words 3 m) st.paths) (edited (umask m) (state st))
  unfolding apply
  umask-spells m u =
      word-spells 3 m (omega arith) (λ e. omega arith) (λ j e. omega arith) (λ j e. omega arith) (opens_from st 32 0)
      (word-opens 3 m (omega arith) (λ e. omega arith) (λ j e. omega arith) (λ j e. omega arith) (λ j. other st.words 3 m (6 + 3 * j) (λ e. omega arith)))
      m (get_or-set_same st.words 3 m 0 (omega (arith, l.exact.words))) u

  module _ (n k : ℕ) (low : n < 32) where
    abbrev moved : Store
    moved = edit st (set st.words (6 + 3 * n) k) st.paths

    move-turn : (j : ℕ) → j < 32 → SameNumber st moved j → Dec (j ≡ n) → Turn st moved (seek_num n k) j
    unfolding seek_num
    move-turn j h s (yes e) =
        turn-same st moved l (seek_num n k) j k h s
        (ap (λ (i : ℕ). get_or (set st.words (6 + 3 * n) k) (6 + 3 * i) 0) e ∙ get_or-set_same st.words (6 + 3 * n) k 0 (omega (arith, l.exact.words)))
        (λ os. ap (λ (b : Bool). move_by b k (open_at st j) ∷ seek_num n k os) (eq-eqb j n e))
    move-turn j h s (no x) =
        turn-same st moved l (seek_num n k) j (position st j) h s (other st.words (6 + 3 * n) k (6 + 3 * j) (λ e. x (omega arith)))
        (λ os. ap (λ (b : Bool). move_by b k (open_at st j) ∷ seek_num n k os) (ne_eqb j n x))

    pub seek-spells : Spells moved (edited (seek n k) (state st))
    unfolding apply seek_num
    seek-spells =
        word-spells (6 + 3 * n) k (omega arith) (λ e. omega arith) (λ j e. omega arith) (λ j e. omega arith) (seek_num n k (opens_from st 32 0))
        (opens_by st moved (seek_num n k) refl (λ j h. move-turn j h (keeps-number (6 + 3 * n) k (omega arith) (λ e. omega arith) (λ j e. omega arith) (λ j e. omega arith) j) (ℕ_discrete j n)) 32 0 (omega arith))
        (mask st) (other st.words (6 + 3 * n) k 3 (λ e. omega arith)) l.umask

  -- ---- the current directory

  module _ (s : Bytes) (ok : T (cell_ok s)) where
    abbrev gone : Store
    gone = edit st (set st.words 4 (length s)) (paste st.paths 0 s (length s))

    stores-length : here_length gone ≡ length s
    stores-length = get_or-set_same st.words 4 (length s) 0 (omega (arith, l.exact.words))

    stores-path : cell gone 0 (here_length gone) ≡ s
    stores-path = ap (λ (k : ℕ). cell gone 0 k) stores-length ∙ cell_own st.paths s 0 l.exact.paths (omega arith) (cell-fits s ok)

    other_number : (j : ℕ) → SameNumber st gone j
    other_number j =
        record {
          word = other st.words 4 (length s) (5 + 3 * j) (λ e. omega arith);
          long = other st.words 4 (length s) (7 + 3 * j) (λ e. omega arith);
          path = λ m. cell_other st.paths s 0 l.exact.paths (omega arith) (cell-fits s ok) (suc j) (kept_length st j) m (λ e. omega arith);
        }

    go-done : Spells gone (edited (go (names s)) (state st))
    unfolding apply
    go-done =
        let ws : List ℕ = set st.words 4 (length s) in
        let ps : Bytes = paste st.paths 0 s (length s) in
        let a = length-set st.words 4 (length s) in
        let b = length-paste st.paths 0 s (length s) (omega (arith, l.exact.paths, cell-fits s ok)) (omega arith) in
        let w : (i : ℕ) → i < 3 → get_or ws i 0 ≡ get_or st.words i 0 = λ i h. other st.words 4 (length s) i (λ e. omega arith) in
        let x : get_or ws 101 0 ≡ get_or st.words 101 0 = other st.words 4 (length s) 101 (λ e. omega arith) in
        let m : mask gone ≡ mask st = other st.words 4 (length s) 3 (λ e. omega arith) in
        sets st ws ps l a b w x other_number
        (and_both (leb (here_length gone) 1024) (cell_ok (cell gone 0 (here_length gone)))
        (le→leb (here_length gone) 1024 (omega (arith, stores-length, cell-fits s ok))) (subst (λ (x : Bytes). T (cell_ok x)) (sym stores-path) ok))
        (omega (arith, m, l.umask)) (opens_from st 32 0)
        (same_opens st ws ps l a b w x other_number (λ j. other st.words 4 (length s) (6 + 3 * j) (λ e. omega arith)))
        (names s) (ap names stores-path) (mask st) m

    -- by the paths as they are left
    pub go-spells : (ps : Bytes) → ps ≡ paste st.paths 0 s (length s) → Spells (edit st (set st.words 4 (length s)) ps) (edited (go (names s)) (state st))
    go-spells ps e = subst (λ (x : Bytes). Spells (edit st (set st.words 4 (length s)) x) (edited (go (names s)) (state st))) (sym e) go-done
