-- A number closed: its word becomes 0. Where another number stands on the slot, or an entry has it, the slot stays; else it is freed, and
-- the bytes of every other slot and the names are as they were.
-- Assumes nothing.
use mathlib.Core.Bool.{Bool, true, false, ◌&&◌, ◌||◌}
use mathlib.Core.List.{List, []}
use mathlib.Core.Path.{◌≡◌, refl, sym, ap, ◌∙◌, subst}
use Prim.Native.Nat.{ℕ, suc, ◌+◌, ◌-◌, ◌*◌, ◌≤◌, ◌<◌}
use native.Mathlib.Decide.{ℕ_discrete}
use native.Mathlib.Omega.{arith}
use lib.Dec.{T, eqb, leb}
use lib.ListN.{length, take, get_or, set, length-set}
use lib.Seq.{get_or-set_same, get_or-set_other}
use borrow.Author.Tests.{ne_eqb}
use Rattle.text.specs.Utf8.{Bytes}
use Rattle.path.specs.Path.{names}
use Rattle.model.specs.Tree.{Open, open_of}
use Rattle.model.specs.Prog.{close, close_num, apply}
use Rattle.model.proofs.Entries.{is_true}
use Rattle.layout.specs.Fields.{mode_of}
use Rattle.layout.specs.Rows.{rows, name_total}
use Rattle.layout.specs.Slots.{total, contents}
use Rattle.layout.specs.Store.{Store, lent, mask, here_length, holder, kept_length, cell, live, rows_of, meta_at, room, opens_from, state}
use Rattle.layout.specs.Lawful.{uses, held_from, kept_ok, number_ok, Lawful}
use Rattle.model.specs.Calls.States.{edited}
use Rattle.layout.specs.Alike.{Spells}
use Rattle.layout.proofs.Entered.{slot, stood}
use Rattle.layout.proofs.Slotted.{SlotOf, free, directory, named, removed, target}
use Rattle.layout.proofs.Tables.{held_by}
use Rattle.records.proofs.Entries.{rows-front}
use Rattle.slots.specs.Put.{Freed}
use Rattle.layout.proofs.Edited.Frames.{After, stays, keeps, freed, Leaves, left-spells}
use Rattle.layout.proofs.Edited.Numbers.{SameNumber, kept_same, number_same, held_same}
use Rattle.slots.specs.Uses.{is_used}
use Rattle.edit_state.proofs.Opening.{closes}
use Rattle.slots.proofs.Seeking.{used_some, used_none}
use Rattle.edit_state.proofs.Setting.{edit, words-leave, slot_same}

module _ (st : Store) (l : Lawful st) (n : ℕ) (low : n < 32) (on : holder st n ≡ 0 → ⊥) where
  abbrev ws : List ℕ
  ws = set st.words (5 + 3 * n) 0

  -- the slot that it stood on
  abbrev k : ℕ
  k = holder st n - 1

  -- whatever became of the slots
  abbrev new : List ℕ → Bytes → Store
  new hs bs = record { words = ws; records = st.records; heads = hs; times = st.times; paths = st.paths; bytes = bs }

  rest : (i : ℕ) → (i ≡ 5 + 3 * n → ⊥) → get_or ws i 0 ≡ get_or st.words i 0
  rest i x = get_or-set_other st.words (5 + 3 * n) i 0 0 x

  closed : get_or ws (5 + 3 * n) 0 ≡ 0
  closed = get_or-set_same st.words (5 + 3 * n) 0 0 (omega (arith, l.exact.words))

  stood_on : holder st n ≡ suc k
  stood_on = omega (arith, (stood st l n low on).one)

  module _ (hs : List ℕ) (bs : Bytes) where
    other_number : (j : ℕ) → (j ≡ n → ⊥) → SameNumber st (new hs bs) j
    other_number j x = record { word = rest (5 + 3 * j) (λ e. x (omega arith)); long = rest (7 + 3 * j) (λ e. omega arith); path = λ m. refl }

    -- a number on another slot stands there still
    other-slot : (i : ℕ) → (i ≡ k → ⊥) → held_from (new hs bs) 32 0 i ≡ held_from st 32 0 i
    other-slot i x = held_same st (new hs bs) i (λ j. go j (ℕ_discrete j n)) 32 0
      where
        go : (j : ℕ) → Dec (j ≡ n) → eqb (holder (new hs bs) j) (suc i) ≡ eqb (holder st j) (suc i)
        go j (yes e) =
            subst (λ (a : ℕ). eqb (holder (new hs bs) a) (suc i) ≡ eqb (holder st a) (suc i)) (sym e)
            (ap (λ (h : ℕ). eqb h (suc i)) closed ∙ ne_eqb 0 (suc i) (λ z. omega arith) ∙ sym (ne_eqb (holder st n) (suc i) (λ z. x (omega (arith, stood_on, z)))))
        go j (no y) = ap (λ (h : ℕ). eqb h (suc i)) (other_number j y).word

    close-by : Leaves st (new hs bs) → length hs ≡ length st.heads → Spells (new hs bs) (edited (close n) (state st))
    unfolding apply
    close-by v e =
        left-spells st (new hs bs) l v (λ j h. numbers j h (ℕ_discrete j n))
        (kept_same st (new hs bs) 0 (here_length st) (here_length (new hs bs)) same_length (λ m. refl) l.here)
        (omega (arith, same_mask, l.umask)) (close_num n (opens_from st 32 0))
        (λ m. ap (λ (os : List Open). open_of os m) (closes st (new hs bs) l n closed other_number (λ j x. rest (6 + 3 * j) (λ e. omega arith))))
        (state st).here (ap (λ (m : ℕ). names (cell st 0 m)) same_length) (mask st) same_mask
      where
        same_length : here_length (new hs bs) ≡ here_length st
        same_length = rest 4 (λ e. omega arith)

        same_mask : mask (new hs bs) ≡ mask st
        same_mask = rest 3 (λ e. omega arith)

        numbers : (j : ℕ) → j < 32 → Dec (j ≡ n) → T (number_ok (new hs bs) j)
        numbers j h (yes z) =
            subst (λ (i : ℕ). T (number_ok (new hs bs) i)) (sym z)
            (subst (λ (b : Bool). T (b || (leb (holder (new hs bs) n) (length hs) && kept_ok (new hs bs) (suc n) (kept_length (new hs bs) n)))) (sym (ap (λ (a : ℕ). eqb a 0) closed)) tt)
        numbers j h (no x) = number_same st (new hs bs) j e (other_number j x) (l.numbers j h)

  -- ---- the slot stays

  abbrev kept : Store
  kept = edit st ws st.paths

  stays_by : (After st kept k) → Spells kept (edited (close n) (state st))
  stays_by a =
      close-by st.heads st.bytes
      (words-leave st ws st.paths l (length-set st.words (5 + 3 * n) 0) refl (λ i h. rest i (λ e. omega arith)) (rest 101 (λ e. omega arith)) (λ i. go i (ℕ_discrete i k))) refl
    where
      go : (i : ℕ) → Dec (i ≡ k) → After st kept i
      go i (yes e) = subst (After st kept) (sym e) a
      go i (no x) = stays (slot_same st ws st.paths i) (other-slot st.heads st.bytes i x)

  -- the words alone say whether a number stands on the slot
  by_words : (hs : List ℕ) (bs : Bytes) (b : Bool) → b ≡ held_from (lent ws [] [] [] [] []) 32 0 k → held_from (new hs bs) 32 0 k ≡ b
  by_words hs bs b e = held_same (lent ws [] [] [] [] []) (new hs bs) k (λ j. refl) 32 0 ∙ sym e

  -- another number stands on it
  pub close-held : true ≡ held_from (lent ws [] [] [] [] []) 32 0 k → Spells kept (edited (close n) (state st))
  close-held e =
      stays_by (stays (slot_same st ws st.paths k)
      (by_words st.heads st.bytes true e ∙ sym (is_true (held_from st 32 0 k) (held_by st 32 0 n k (omega arith) (omega arith) stood_on))))

  pub same_count : get_or ws 2 0 ≡ get_or st.words 2 0
  same_count = rest 2 (λ e. omega arith)

  -- an entry has it
  pub close-named : true ≡ is_used k (take (get_or ws 2 0) st.records) → Spells kept (edited (close n) (state st))
  close-named e =
      let s = stood st l n low on in
      let u : 1 ≤ uses k (rows_of st) = used_some k (live st) st.bytes (ap (λ (c : ℕ). is_used k (take c st.records)) (sym same_count) ∙ sym e) in
      stays_by (keeps (slot_same st ws st.paths k) s.kind (go u (slot st l k (omega (arith, s.low, s.one)))))
    where
      go : 1 ≤ uses k (rows_of st) → SlotOf st k → uses k (rows_of st) ≡ 1
      go u (free e x y w) = absurd (omega arith)
      go u (directory e x y w) = y
      go u (named e y) = y
      go u (removed e y w) = absurd (omega arith)
      go u (target e t y w) = y

  -- ---- the slot is freed

  module _ (hs : List ℕ) (bs : Bytes) (f : Freed st.heads st.bytes hs bs (set st.heads k 0) (set (contents st.heads st.bytes) k []))
      (a : false ≡ held_from (lent ws [] [] [] [] []) 32 0 k) (b : false ≡ is_used k (take (get_or ws 2 0) st.records)) where
    in-range : k < length st.heads
    in-range = let s = stood st l n low on in omega (arith, s.low, s.one)

    same-heads : length hs ≡ length st.heads
    same-heads = ap length f.heads ∙ length-set st.heads k 0

    same_rows : rows_of (new hs bs) ≡ rows_of st
    same_rows =
        ap (λ (c : ℕ). rows (take c st.records) bs) same_count
        ∙ rows-front (live st) bs st.bytes (f.rest (name_total (live st)) (omega (arith, l.space, l.exact.bytes)))

    slot-after : (i : ℕ) → Dec (i ≡ k) → After st (new hs bs) i
    slot-after i (yes e) =
        subst (After st (new hs bs)) (sym e)
        (freed (ap (λ (h : List ℕ). get_or h k 0) f.heads ∙ get_or-set_same st.heads k 0 0 in-range)
        (used_none k (live st) st.bytes (ap (λ (c : ℕ). is_used k (take c st.records)) (sym same_count) ∙ sym b)) (by_words hs bs false a))
    slot-after i (no x) =
        let h : get_or hs i 0 ≡ get_or st.heads i 0 = ap (λ (h : List ℕ). get_or h i 0) f.heads ∙ get_or-set_other st.heads k i 0 0 x in
        stays
        (record {
          head = h;
          meta = λ j. record { mode = mode_of (h j); accessed = (meta_at st i).accessed; changed = (meta_at st i).changed; created = (meta_at st i).created; modified = (meta_at st i).modified };
          bytes = ap (λ (c : List Bytes). get_or c i []) f.texts ∙ get_or-set_other (contents st.heads st.bytes) k i [] [] x;
        })
        (other-slot hs bs i x)

    pub close-freed : Spells (new hs bs) (edited (close n) (state st))
    close-freed =
        let m = rest 0 (λ e. omega arith) in
        let r = rest 1 (λ e. omega arith) in
        let x = rest 101 (λ e. omega arith) in
        close-by hs bs
        (record {
          exact =
              record {
                words = length-set st.words (5 + 3 * n) 0 ∙ l.exact.words;
                records = l.exact.records ∙ sym m;
                heads = omega (arith, same-heads, l.exact.heads, x);
                times = omega (arith, l.exact.times, m);
                paths = l.exact.paths;
                bytes = f.long ∙ l.exact.bytes ∙ sym r;
              };
          most_same = m;
          room_same = r;
          count_same = same_count;
          extent_same = x;
          rows_same = same_rows;
          space = subst (λ (c : ℕ). name_total (take c st.records) + total hs ≤ room st) (sym same_count) (omega (arith, l.space, f.room));
          slots = λ i. slot-after i (ℕ_discrete i k);
        })
        same-heads
