-- A store without entries, with every slot free and every number closed, obeys the rules and spells the fresh state: there is
-- nothing in it that could break one.
-- Assumes nothing.
use mathlib.Core.Bool.{true, false}
use mathlib.Core.List.{List, [], ◌∷◌}
use mathlib.Core.Path.{◌≡◌, refl}
use Prim.Native.Nat.{ℕ, zero, suc, ◌≤◌, zero-le}
use lib.Dec.{lit<, eqb-zero-suc}
use lib.ListN.{length, take, drop, get_or}
use Rattle.model.specs.Tree.{Node}
use Rattle.model.specs.Calls.States.{fresh_state}
use Rattle.model.specs.Rules.{names_ok, path_ok}
use Rattle.path.specs.Path.{names, pieces, keep, vanishes, same, body, path_fits}
use Rattle.layout.specs.Rows.{rows, name_total, tree_from}
use Rattle.layout.specs.Slots.{total}
use Rattle.layout.specs.Store.{Store, most, room, count, extent, mask, here_length, holder, kind_at, node_at, files_from, opens_from, state}
use Rattle.layout.specs.Lawful.{Exact, Lawful, rows_ok, uses, held_from, slot_ok, number_ok, kept_ok, cell_ok}

pub record Blank (m b : ℕ) (st : Store) : Type 0 where
  pub exact : Exact st
  pub has_most : most st ≡ m
  pub has_room : room st ≡ b
  pub no_entry : count st ≡ 0
  pub has_mask : mask st ≡ 0o666
  pub at_root : here_length st ≡ 0
  pub closed : (n : ℕ) → holder st n ≡ 0
  pub free : (k : ℕ) → get_or st.heads k 0 ≡ 0
  pub no_slot : extent st ≡ 0

no_total : (hs : List ℕ) → ((k : ℕ) → get_or hs k 0 ≡ 0) → total hs ≡ 0
unfolding total
no_total [] f = refl
no_total (h ∷ hs) f = rw (f 0, no_total hs (λ k. f (suc k)))

root-cell : cell_ok [] ≡ true
unfolding cell_ok path_ok names_ok path_fits names pieces keep vanishes same body
root-cell = refl

module _ (m b : ℕ) (st : Store) (o : Blank m b st) where
  not_held : (n i k : ℕ) → held_from st n i k ≡ false
  unfolding held_from
  not_held zero i k = refl
  not_held (suc n) i k = rw (o.closed i, eqb-zero-suc k) (not_held n (suc i) k)

  no_files : (n k : ℕ) → files_from st n k ≡ []
  unfolding files_from
  no_files zero k = refl
  no_files (suc n) k = rw (o.free k) (no_files n (suc k))

  no_opens : (n k : ℕ) → opens_from st n k ≡ []
  unfolding opens_from
  no_opens zero k = refl
  no_opens (suc n) k = rw (o.closed k) (no_opens n (suc k))

  slot-free : (k : ℕ) → slot_ok st k ≡ true
  unfolding uses rows
  slot-free k = rw (o.free k, o.no_entry, not_held 32 0 k)

  number-closed : (n : ℕ) → number_ok st n ≡ true
  number-closed n = rw (o.closed n)

  kept-root : kept_ok st 0 (here_length st) ≡ true
  kept-root = rw o.at_root root-cell

  no_rows : rows_ok (kind_at st) (length st.heads) (rows (take (count st) st.records) st.bytes) ≡ true
  unfolding rows_ok rows
  no_rows = rw o.no_entry refl

  no_names : name_total (take (count st) st.records) ≡ 0
  unfolding name_total
  no_names = rw o.no_entry refl

  no_tree : (f : ℕ → Node) → tree_from f [] (rows (take (count st) st.records) st.bytes) ≡ []
  unfolding tree_from rows
  no_tree f = rw o.no_entry refl

  pub blank-lawful : (1 ≤ m) × (m ≤ 4096) → (256 ≤ b) × (b ≤ 1048576) → Lawful st
  blank-lawful l k =
      record {
        exact = o.exact;
        entry_limit = rw o.has_most l;
        byte_limit = rw o.has_room k;
        counted = rw o.no_entry zero-le;
        slotted = rw o.no_slot zero-le;
        space = rw (no_names, no_total st.heads o.free) zero-le;
        entries = rw no_rows tt;
        slots = λ j _. rw (slot-free j) tt;
        numbers = λ n _. rw (number-closed n) tt;
        here = rw kept-root tt;
        umask = rw o.has_mask (lit< tt);
      }

  no_here : names (take (here_length st) (drop 0 st.paths)) ≡ []
  unfolding names pieces keep vanishes same
  no_here = rw o.at_root refl

  pub blank-state : state st ≡ fresh_state m b
  blank-state =
      rw (no_tree (node_at st), no_files (length st.heads) 0, no_opens 32 0, no_here, o.has_mask, o.has_most, o.has_room) refl
