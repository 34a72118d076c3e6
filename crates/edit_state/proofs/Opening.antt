-- A new number: its three words and its cell are written. Its file has a name, so the slot stays in order, and every other number is as it
-- was.
-- Assumes nothing.
use mathlib.Core.Bool.{Bool, true, false, not, ◌&&◌}
use mathlib.Core.List.{List, [], ◌∷◌}
use mathlib.Core.Option.{Option, some}
use mathlib.Core.Path.{◌≡◌, refl, sym, ap, ◌∙◌, subst}
use Prim.Native.Nat.{ℕ, suc, ◌+◌, ◌-◌, ◌*◌, ◌≤◌, ◌<◌, ◌^◌}
use native.Mathlib.Decide.{ℕ_discrete}
use native.Mathlib.Omega.{arith}
use lib.Dec.{T, eqb, leb, leb→le, le→leb}
use lib.ListN.{length, get_or, set, length-set}
use lib.Seq.{paste, length-paste, get_or-set_same, get_or-set_other}
use borrow.Author.Tests.{eq-eqb, ne_eqb, eqb-true}
use Rattle.text.specs.Utf8.{Bytes}
use Rattle.path.specs.Path.{names}
use Rattle.path.proofs.Laws.{and_left, and_both}
use Rattle.model.specs.Tree.{Node, file, Open, or_else, keep_if, look, open_of}
use Rattle.model.specs.Prog.{opens, close_num, apply}
use Rattle.model.specs.Prog.{opened_at as opened}
use Rattle.model.specs.Calls.States.{world_of, state_of, edited}
use Rattle.model.proofs.Demand.Contents.{or_right}
use Rattle.layout.specs.Store.{Store, mask, here_length, holder, position, kept_length, cell, rows_of, kind_at, opens_from, state}
use Rattle.layout.specs.Lawful.{uses, cell_ok, kept_ok, number_ok, Lawful}
use Rattle.layout.specs.Alike.{Spells}
use Rattle.layout.proofs.Entered.{slot, entry, file-slot}
use Rattle.layout.proofs.Tables.{open_at, file-found, open_there}
use Rattle.layout.proofs.Edited.Frames.{After, stays, keeps, Leaves, left-lawful, left-spells}
use Rattle.layout.proofs.Edited.Shapes.{lawful-shape}
use Rattle.layout.proofs.Edited.Numbers.{SameNumber, Turn, kept_same, number_same, held_same, opens_by, turn-same, turn-closed}
use Rattle.edit_state.proofs.Cells.{cell-fits, cell_own, cell_other}
use Rattle.edit_state.proofs.Setting.{edit, words-leave, slot_same}

-- ---- a list with a number closed

pub close_past : (n m : ℕ) (os : List Open) → (m ≡ n → ⊥) → open_of (close_num n os) m ≡ open_of os m
unfolding close_num open_of
close_past n m [] x = refl
close_past n m (o ∷ os) x = go (eqb o.num n) refl (close_past n m os x)
  where
    go : (b : Bool) → eqb o.num n ≡ b → open_of (close_num n os) m ≡ open_of os m → open_of (keep_if (not b) o (close_num n os)) m ≡ or_else (eqb o.num m) o (open_of os m)
    go true e ih = ih ∙ sym (ap (λ (b : Bool). or_else b o (open_of os m)) (ne_eqb o.num m (λ z. x (sym z ∙ eqb-true o.num n e))))
    go false e ih = ap (λ (a : Option Open). or_else (eqb o.num m) o a) ih

-- the numbers of a store, but for one that is closed: those of the other, with it closed
pub closes : (st st' : Store) → Lawful st → (n : ℕ) → holder st' n ≡ 0 → ((j : ℕ) → (j ≡ n → ⊥) → SameNumber st st' j) → ((j : ℕ) → (j ≡ n → ⊥) → position st' j ≡ position st j)
    → opens_from st' 32 0 ≡ close_num n (opens_from st 32 0)
unfolding close_num
closes st st' l n z s p = opens_by st st' (close_num n) refl (λ j h. go j h (ℕ_discrete j n)) 32 0 (omega arith)
  where
    go : (j : ℕ) → j < 32 → Dec (j ≡ n) → Turn st st' (close_num n) j
    go j h (yes e) = subst (Turn st st' (close_num n)) (sym e) (turn-closed st st' n z)
    go j h (no x) =
        turn-same st st' l (close_num n) j (position st j) h (s j x) (p j x)
        (λ os. ap (λ (b : Bool). keep_if (not b) (open_at st j) (close_num n os)) (ne_eqb j n x))

module _ (st : Store) (l : Lawful st) (n k id : ℕ) (s : Bytes) (low : n < 32) (free : holder st n ≡ 0) (ok : T (cell_ok s)) (there : look (state st).tree (names s) ≡ some (file id)) where
  abbrev ws : List ℕ
  ws = set (set (set st.words (5 + 3 * n) (suc id)) (6 + 3 * n) k) (7 + 3 * n) (length s)

  abbrev ps : Bytes
  ps = paste st.paths (1024 * suc n) s (length s)

  abbrev new : Store
  new = edit st ws ps

  -- ---- what is written

  longs : length ws ≡ length st.words
  longs =
      length-set (set (set st.words (5 + 3 * n) (suc id)) (6 + 3 * n) k) (7 + 3 * n) (length s)
      ∙ length-set (set st.words (5 + 3 * n) (suc id)) (6 + 3 * n) k ∙ length-set st.words (5 + 3 * n) (suc id)

  rest : (i : ℕ) → (i ≡ 5 + 3 * n → ⊥) → (i ≡ 6 + 3 * n → ⊥) → (i ≡ 7 + 3 * n → ⊥) → get_or ws i 0 ≡ get_or st.words i 0
  rest i a b c =
      get_or-set_other (set (set st.words (5 + 3 * n) (suc id)) (6 + 3 * n) k) (7 + 3 * n) i (length s) 0 c
      ∙ get_or-set_other (set st.words (5 + 3 * n) (suc id)) (6 + 3 * n) i k 0 b ∙ get_or-set_other st.words (5 + 3 * n) i (suc id) 0 a

  has_file-word : holder new n ≡ suc id
  has_file-word =
      get_or-set_other (set (set st.words (5 + 3 * n) (suc id)) (6 + 3 * n) k) (7 + 3 * n) (5 + 3 * n) (length s) 0 (λ e. omega arith)
      ∙ get_or-set_other (set st.words (5 + 3 * n) (suc id)) (6 + 3 * n) (5 + 3 * n) k 0 (λ e. omega arith)
      ∙ get_or-set_same st.words (5 + 3 * n) (suc id) 0 (omega (arith, l.exact.words))

  has_position : position new n ≡ k
  has_position =
      get_or-set_other (set (set st.words (5 + 3 * n) (suc id)) (6 + 3 * n) k) (7 + 3 * n) (6 + 3 * n) (length s) 0 (λ e. omega arith)
      ∙ get_or-set_same (set st.words (5 + 3 * n) (suc id)) (6 + 3 * n) k 0 (omega (arith, l.exact.words, length-set st.words (5 + 3 * n) (suc id)))

  has_length : kept_length new n ≡ length s
  has_length =
      get_or-set_same (set (set st.words (5 + 3 * n) (suc id)) (6 + 3 * n) k) (7 + 3 * n) (length s) 0
      (omega (arith, l.exact.words, longs, length-set (set (set st.words (5 + 3 * n) (suc id)) (6 + 3 * n) k) (7 + 3 * n) (length s)))

  has_path : cell new (suc n) (kept_length new n) ≡ s
  has_path = ap (λ (m : ℕ). cell new (suc n) m) has_length ∙ cell_own st.paths s (suc n) l.exact.paths (omega arith) (cell-fits s ok)

  other_cell : (i m : ℕ) → m ≤ 1024 → (i ≡ suc n → ⊥) → cell new i m ≡ cell st i m
  other_cell i m h x = cell_other st.paths s (suc n) l.exact.paths (omega arith) (cell-fits s ok) i m h x

  other_number : (j : ℕ) → (j ≡ n → ⊥) → SameNumber st new j
  other_number j x =
      record {
        word = rest (5 + 3 * j) (λ e. x (omega arith)) (λ e. omega arith) (λ e. omega arith);
        long = rest (7 + 3 * j) (λ e. omega arith) (λ e. omega arith) (λ e. x (omega arith));
        path = λ m. other_cell (suc j) (kept_length st j) m (λ e. x (omega arith));
      }

  -- ---- the slots

  named : uses id (rows_of st) ≡ 1
  named =
      let a = entry st l (names s) (file id) there in
      let c = file-slot st l a.row.slot id a.used (slot st l a.row.slot a.low) a.node in
      ap (λ (i : ℕ). uses i (rows_of st)) (sym c.0) ∙ c.1

  is_file : (id < length st.heads) × (kind_at st id ≡ 2)
  is_file =
      let f = (lawful-shape st l).nodes (names s) id there in
      let h = file-found st (length st.heads) 0 id f.0 f.1 in
      (omega (arith, h.high), h.kind)

  after : (i : ℕ) → After st new i
  after i = go (ℕ_discrete id i)
    where
      held : (id ≡ i → ⊥) → (j : ℕ) → Dec (j ≡ n) → eqb (holder new j) (suc i) ≡ eqb (holder st j) (suc i)
      held x j (yes e) =
          subst (λ (a : ℕ). eqb (holder new a) (suc i) ≡ eqb (holder st a) (suc i)) (sym e)
          (ap (λ (h : ℕ). eqb h (suc i)) has_file-word ∙ ne_eqb (suc id) (suc i) (λ z. x (omega arith))
          ∙ sym (ap (λ (h : ℕ). eqb h (suc i)) free ∙ ne_eqb 0 (suc i) (λ z. omega arith)))
      held x j (no y) = ap (λ (h : ℕ). eqb h (suc i)) (other_number j y).word

      go : Dec (id ≡ i) → After st new i
      go (yes e) = subst (After st new) e (keeps (slot_same st ws ps id) is_file.1 named)
      go (no x) = stays (slot_same st ws ps i) (held_same st new i (λ j. held x j (ℕ_discrete j n)) 32 0)

  leaves : Leaves st new
  leaves =
      words-leave st ws ps l longs
      (length-paste st.paths (1024 * suc n) s (length s) (omega (arith, l.exact.paths, cell-fits s ok)) (omega arith))
      (λ i h. rest i (λ e. omega arith) (λ e. omega arith) (λ e. omega arith)) (rest 101 (λ e. omega arith) (λ e. omega arith) (λ e. omega arith)) after

  -- ---- the numbers

  numbers : (j : ℕ) → j < 32 → T (number_ok new j)
  numbers j h = go (ℕ_discrete j n)
    where
      this : T (number_ok new n)
      this =
          or_right (eqb (holder new n) 0) (leb (holder new n) (length st.heads) && kept_ok new (suc n) (kept_length new n))
          (and_both (leb (holder new n) (length st.heads)) (kept_ok new (suc n) (kept_length new n))
          (le→leb (holder new n) (length st.heads) (omega (arith, has_file-word, is_file.0)))
          (and_both (leb (kept_length new n) 1024) (cell_ok (cell new (suc n) (kept_length new n)))
          (le→leb (kept_length new n) 1024 (omega (arith, has_length, cell-fits s ok))) (subst (λ (x : Bytes). T (cell_ok x)) (sym has_path) ok)))

      go : Dec (j ≡ n) → T (number_ok new j)
      go (yes e) = subst (λ (i : ℕ). T (number_ok new i)) (sym e) this
      go (no x) = number_same st new j refl (other_number j x) (l.numbers j h)

  -- ---- the current directory and the umask

  same_length : here_length new ≡ here_length st
  same_length = rest 4 (λ e. omega arith) (λ e. omega arith) (λ e. omega arith)

  same_mask : mask new ≡ mask st
  same_mask = rest 3 (λ e. omega arith) (λ e. omega arith) (λ e. omega arith)

  here-ok : T (kept_ok new 0 (here_length new))
  here-ok = kept_same st new 0 (here_length st) (here_length new) same_length (λ h. other_cell 0 (here_length st) h (λ e. omega arith)) l.here

  same_here : (state new).here ≡ (state st).here
  same_here =
      let h = leb→le (here_length st) 1024 (and_left (leb (here_length st) 1024) (cell_ok (cell st 0 (here_length st))) l.here) in
      ap (λ (m : ℕ). names (cell new 0 m)) same_length ∙ ap names (other_cell 0 (here_length st) h (λ e. omega arith))

  mask-ok : mask new < 2 ^ 32
  mask-ok = omega (arith, same_mask, l.umask)

  -- ---- the open numbers

  abbrev fresh : Open
  fresh = record { num = n; id = id; pos = k; kept = names s }

  -- the old numbers are the new ones with it closed, and themselves with it closed
  back : opens_from st 32 0 ≡ close_num n (opens_from new 32 0)
  back =
      closes new st (left-lawful st new l leaves numbers here-ok mask-ok) n free
      (λ j x.
      let o = other_number j x in
      record { word = sym o.word; long = sym o.long; path = λ m. sym (other_cell (suc j) (kept_length new j) m (λ e. x (omega arith))) })
      (λ j x. sym (rest (6 + 3 * j) (λ e. omega arith) (λ e. x (omega arith)) (λ e. omega arith)))

  closed : opens_from st 32 0 ≡ close_num n (opens_from st 32 0)
  closed = closes st st l n free (λ j x. record { word = refl; long = refl; path = λ m. refl }) (λ j x. refl)

  this-open : open_of (opens_from new 32 0) n ≡ some fresh
  this-open =
      let a : holder new n - 1 ≡ id = omega (arith, has_file-word) in
      open_there new 32 0 n (omega arith) (omega arith) (λ e. omega (arith, has_file-word, e))
      ∙ (λ i. some (record { num = n; id = a i; pos = has_position i; kept = names (has_path i) }))

  found : (m : ℕ) → Dec (m ≡ n) → open_of (opens_from new 32 0) m ≡ open_of (fresh ∷ close_num n (opens_from st 32 0)) m
  unfolding open_of
  found m (yes e) =
      ap (open_of (opens_from new 32 0)) e ∙ this-open
      ∙ sym (ap (λ (b : Bool). or_else b fresh (open_of (close_num n (opens_from st 32 0)) m)) (eq-eqb n m (sym e)))
  found m (no x) =
      sym (close_past n m (opens_from new 32 0) x) ∙ ap (λ (os : List Open). open_of os m) (sym back ∙ closed)
      ∙ sym (ap (λ (b : Bool). or_else b fresh (open_of (close_num n (opens_from st 32 0)) m)) (ne_eqb n m (λ e. x (sym e))))

  opens-done : Spells new (edited (opens n (names s) k) (state st))
  unfolding apply
  opens-done =
      subst (λ (o : Option Node). Spells new (state_of (state st) (opened (world_of (state st)) n (names s) k o))) (sym there)
      (left-spells st new l leaves numbers here-ok mask-ok (fresh ∷ close_num n (opens_from st 32 0)) (λ m. found m (ℕ_discrete m n)) (state st).here same_here (mask st) same_mask)

  -- by the words and the paths as they are left
  pub opens-spells : (h at : ℕ) → h ≡ suc id → at ≡ 1024 * suc n → (qs : Bytes) → qs ≡ paste st.paths at s (length s)
      → Spells (edit st (set (set (set st.words (5 + 3 * n) h) (6 + 3 * n) k) (7 + 3 * n) (length s)) qs) (edited (opens n (names s) k) (state st))
  opens-spells h at a b qs e =
      let x : edit st (set (set (set st.words (5 + 3 * n) h) (6 + 3 * n) k) (7 + 3 * n) (length s)) qs ≡ new =
      λ i. edit st (set (set (set st.words (5 + 3 * n) (a i)) (6 + 3 * n) k) (7 + 3 * n) (length s)) ((e ∙ ap (λ (y : ℕ). paste st.paths y s (length s)) b) i) in
      subst (λ (y : Store). Spells y (edited (opens n (names s) k) (state st))) (sym x) opens-done
