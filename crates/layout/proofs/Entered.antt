-- The entries, files and numbers of a lawful store: each entry has a row and a slot, a file's slot has at most one name, and a
-- number stands on a file.
-- Assumes nothing.
use mathlib.Core.Bool.{◌&&◌, ◌||◌}
use mathlib.Core.List.{[]}
use mathlib.Core.Logic.{◌⊎◌, inl, inr}
use mathlib.Core.Option.{some}
use mathlib.Core.Path.{◌≡◌, refl, sym, ap, ◌∙◌, subst}
use Prim.Native.Nat.{ℕ, zero, suc, ◌-◌, ◌≤◌, ◌<◌}
use native.Mathlib.Omega.{arith}
use lib.Dec.{T, eqb, leb, eqb→eq, leb→le}
use lib.ListN.{length}
use Rattle.path.proofs.Laws.{and_left, and_right}
use Rattle.model.specs.Tree.{Path, Node, file, Entries, look, file_of}
use Rattle.model.specs.Calls.States.{is_named, is_held}
use Rattle.model.proofs.Demand.Contents.{or_elim, or_left, or_right, at_named}
use Rattle.model.proofs.Demand.Over.{file-inj}
use Rattle.model.proofs.Demand.OverEdits.{dir_no_file, link_no_file}
use Rattle.layout.specs.Rows.{Row}
use Rattle.layout.specs.Store.{Store, holder, kept_length, rows_of, meta_at, bytes_at, kind_at, node_at, state}
use Rattle.layout.specs.Lawful.{uses, held_from, kept_ok, Lawful}
use Rattle.layout.proofs.Walks.{At, look_at, at_uses, uses_at, at_once, at_slot}
use Rattle.layout.proofs.Roots.{all_slots, all-look}
use Rattle.layout.proofs.Tables.{file_at, file_there, held_by, held-open}
use Rattle.layout.proofs.Slotted.{SlotOf, free, directory, named, removed, target, slot-of, dir_at, file_at_lem, link_at}

positive : (k : ℕ) → (k ≡ 0 → ⊥) → 1 ≤ k
positive zero h = absurd (h refl)
positive (suc k) h = omega arith

module _ (st : Store) (l : Lawful st) where
  abbrev pub all : ℕ
  all = length st.heads

  abbrev pub tree : Entries
  tree = (state st).tree

  pub slot : (k : ℕ) → k < all → SlotOf st k
  slot k h = slot-of st k (l.slots k h)

  pub has_file : (k : ℕ) → k < all → kind_at st k ≡ 2 → file_of (state st).files k ≡ some (file_at st k)
  has_file k h e = file_there st all 0 k (omega arith) (omega arith) e

  -- ---- the slots of the entries

  -- an entry's row
  pub record Entry (p : Path) (m : Node) : Type 0 where
    pub row : Row
    pub at : At [] (rows_of st) p row
    pub low : row.slot < all
    pub used : 1 ≤ uses row.slot (rows_of st)
    pub node : node_at st row.slot ≡ m

  pub entry : (p : Path) (m : Node) → look tree p ≡ some m → Entry p m
  entry p m e =
      let h = look_at (node_at st) [] (rows_of st) p m e in
      record {
        row = h.0;
        at = h.1;
        low = at_slot all [] (rows_of st) (all_slots (kind_at st) all (rows_of st) l.entries) p h.0 h.1;
        used = at_uses [] (rows_of st) p h.0 h.1;
        node = h.2;
      }

  -- the slot of an entry that is a file
  pub file-slot : (k i : ℕ) → 1 ≤ uses k (rows_of st) → SlotOf st k → node_at st k ≡ file i → (k ≡ i) × (uses k (rows_of st) ≡ 1)
  file-slot k i u (free e x y w) d = absurd (omega arith)
  file-slot k i u (directory e x y w) d = absurd (dir_no_file (meta_at st k) i (sym (dir_at st k e) ∙ d))
  file-slot k i u (named e y) d = (file-inj (sym (file_at_lem st k e) ∙ d), y)
  file-slot k i u (removed e y w) d = absurd (omega arith)
  file-slot k i u (target e t y w) d = absurd (link_no_file (meta_at st k) (bytes_at st k) i (sym (link_at st k e) ∙ d))

  pub one_name_lem : (p q : Path) (i : ℕ) → look tree p ≡ some (file i) → look tree q ≡ some (file i) → p ≡ q
  one_name_lem p q i x y =
      let a = entry p (file i) x in
      let b = entry q (file i) y in
      let c = file-slot a.row.slot i a.used (slot a.row.slot a.low) a.node in
      let d = file-slot b.row.slot i b.used (slot b.row.slot b.low) b.node in
      at_once [] (rows_of st) i (subst (λ (k : ℕ). uses k (rows_of st) ≤ 1) c.0 (omega (arith, c.1))) p q a.row b.row a.at b.at c.0 d.0

  -- ---- the files

  pub file-used : (i : ℕ) → kind_at st i ≡ 2 → SlotOf st i → T (is_named tree i || is_held (state st).opens i)
  file-used i k (free e x y w) = absurd (omega arith)
  file-used i k (directory e x y w) = absurd (omega arith)
  file-used i k (named e y) =
      let h = uses_at [] (rows_of st) i (omega arith) in
      or_left (is_named tree i) (is_held (state st).opens i)
      (at_named tree h.0 i (all-look (kind_at st) all (node_at st) (rows_of st) l.entries h.0 h.1 h.2 ∙ ap some (ap (node_at st) h.3 ∙ file_at_lem st i e)))
  file-used i k (removed e y w) = or_right (is_named tree i) (is_held (state st).opens i) (held-open st 32 0 i w)
  file-used i k (target e t y w) = absurd (omega arith)

  -- ---- the numbers

  held-kind : (k : ℕ) → T (held_from st 32 0 k) → SlotOf st k → kind_at st k ≡ 2
  held-kind k t (free e x y w) = absurd (w t)
  held-kind k t (directory e x y w) = absurd (w t)
  held-kind k t (named e y) = e
  held-kind k t (removed e y w) = e
  held-kind k t (target e s y w) = absurd (w t)

  -- what a number that is open stands on
  pub record Stood (i : ℕ) : Type 0 where
    pub one : 1 ≤ holder st i
    pub low : holder st i ≤ all
    pub kind : kind_at st (holder st i - 1) ≡ 2
    pub kept : T (kept_ok st (suc i) (kept_length st i))

  pub stood : (i : ℕ) → i < 32 → (holder st i ≡ 0 → ⊥) → Stood i
  stood i h x = go (or_elim (eqb (holder st i) 0) (leb (holder st i) all && kept_ok st (suc i) (kept_length st i)) (l.numbers i h))
    where
      go : T (eqb (holder st i) 0) ⊎ T (leb (holder st i) all && kept_ok st (suc i) (kept_length st i)) → Stood i
      go (inl t) = absurd (x (eqb→eq (holder st i) 0 t))
      go (inr t) =
          let low : holder st i ≤ all = leb→le (holder st i) all (and_left (leb (holder st i) all) (kept_ok st (suc i) (kept_length st i)) t) in
          let one : 1 ≤ holder st i = positive (holder st i) x in
          let k = holder st i - 1 in
          record {
            one = one;
            low = low;
            kind = held-kind k (held_by st 32 0 i k (omega arith) (omega arith) (omega arith)) (slot k (omega arith));
            kept = and_right (leb (holder st i) all) (kept_ok st (suc i) (kept_length st i)) t;
          }
