-- A slot's metadata after one of the times is stored: of that slot this time is new, and every other slot has its own four.
-- Assumes nothing.
use mathlib.Core.List.{List}
use mathlib.Core.Path.{◌≡◌}
use Prim.Native.Nat.{ℕ, ◌+◌, ◌*◌, ◌≤◌, ◌<◌}
use native.Mathlib.Omega.{arith}
use lib.IntN.{ℤ, pos}
use lib.ListN.{length, get_or, set}
use lib.Seq.{get_or-set_same, get_or-set_other}
use Rattle.model.specs.Tree.{Meta}
use Rattle.layout.specs.Fields.{mode_of}

-- a slot's metadata by its word and the times
abbrev pub meta_by : ℕ → List ℤ → ℕ → Meta
meta_by h ts k =
    record { mode = mode_of h; accessed = get_or ts (4 * k) (pos 0); changed = get_or ts (4 * k + 1) (pos 0); created = get_or ts (4 * k + 2) (pos 0); modified = get_or ts (4 * k + 3) (pos 0) }

-- metadata with another time accessed
abbrev pub with_accessed : ℤ → Meta → Meta
with_accessed v m = record { mode = m.mode; accessed = v; changed = m.changed; created = m.created; modified = m.modified }

-- with another time changed
abbrev pub with_changed : ℤ → Meta → Meta
with_changed v m = record { mode = m.mode; accessed = m.accessed; changed = v; created = m.created; modified = m.modified }

-- with another time created
abbrev pub with_created : ℤ → Meta → Meta
with_created v m = record { mode = m.mode; accessed = m.accessed; changed = m.changed; created = v; modified = m.modified }

-- with another time modified
abbrev pub with_modified : ℤ → Meta → Meta
with_modified v m = record { mode = m.mode; accessed = m.accessed; changed = m.changed; created = m.created; modified = v }

-- another slot
pub meta_past : (h : ℕ) (ts : List ℤ) (k i j : ℕ) (v : ℤ) → 4 * k ≤ i → i < 4 * k + 4 → (j ≡ k → ⊥) → meta_by h (set ts i v) j ≡ meta_by h ts j
meta_past h ts k i j v a b n =
    λ z. record {
      mode = mode_of h;
      accessed = get_or-set_other ts i (4 * j) v (pos 0) (λ e. n (omega arith)) z;
      changed = get_or-set_other ts i (4 * j + 1) v (pos 0) (λ e. n (omega arith)) z;
      created = get_or-set_other ts i (4 * j + 2) v (pos 0) (λ e. n (omega arith)) z;
      modified = get_or-set_other ts i (4 * j + 3) v (pos 0) (λ e. n (omega arith)) z;
    }

module _ (h : ℕ) (ts : List ℤ) (k : ℕ) (v : ℤ) (l : 4 * k + 3 < length ts) where
  past : (i j : ℕ) → (j ≡ i → ⊥) → get_or (set ts i v) j (pos 0) ≡ get_or ts j (pos 0)
  past i j n = get_or-set_other ts i j v (pos 0) n

  here : (i : ℕ) → i < length ts → get_or (set ts i v) i (pos 0) ≡ v
  here i b = get_or-set_same ts i v (pos 0) b

  pub meta-accessed : meta_by h (set ts (4 * k) v) k ≡ with_accessed v (meta_by h ts k)
  meta-accessed =
      λ z. record {
        mode = mode_of h;
        accessed = here (4 * k) (omega arith) z;
        changed = past (4 * k) (4 * k + 1) (λ e. omega arith) z;
        created = past (4 * k) (4 * k + 2) (λ e. omega arith) z;
        modified = past (4 * k) (4 * k + 3) (λ e. omega arith) z;
      }

  pub meta-changed : meta_by h (set ts (4 * k + 1) v) k ≡ with_changed v (meta_by h ts k)
  meta-changed =
      λ z. record {
        mode = mode_of h;
        accessed = past (4 * k + 1) (4 * k) (λ e. omega arith) z;
        changed = here (4 * k + 1) (omega arith) z;
        created = past (4 * k + 1) (4 * k + 2) (λ e. omega arith) z;
        modified = past (4 * k + 1) (4 * k + 3) (λ e. omega arith) z;
      }

  pub meta-created : meta_by h (set ts (4 * k + 2) v) k ≡ with_created v (meta_by h ts k)
  meta-created =
      λ z. record {
        mode = mode_of h;
        accessed = past (4 * k + 2) (4 * k) (λ e. omega arith) z;
        changed = past (4 * k + 2) (4 * k + 1) (λ e. omega arith) z;
        created = here (4 * k + 2) (omega arith) z;
        modified = past (4 * k + 2) (4 * k + 3) (λ e. omega arith) z;
      }

  pub meta-modified : meta_by h (set ts (4 * k + 3) v) k ≡ with_modified v (meta_by h ts k)
  meta-modified =
      λ z. record {
        mode = mode_of h;
        accessed = past (4 * k + 3) (4 * k) (λ e. omega arith) z;
        changed = past (4 * k + 3) (4 * k + 1) (λ e. omega arith) z;
        created = past (4 * k + 3) (4 * k + 2) (λ e. omega arith) z;
        modified = here (4 * k + 3) l z;
      }
