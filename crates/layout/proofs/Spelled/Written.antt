-- The store that a state is written to, and what is read back of each slice.
-- Assumes nothing.
use mathlib.Core.List.{List, [], ◌∷◌, ◌++◌, map, append_assoc}
use mathlib.Core.Option.{Option, none, some}
use mathlib.Core.Path.{◌≡◌, refl, sym, ap, ◌∙◌}
use Prim.Native.Nat.{ℕ, zero, suc, ◌+◌, ◌*◌, ◌/◌, ◌%◌, ◌≤◌, ◌<◌, ◌^◌}
use native.Mathlib.Omega.{arith}
use lib.ListN.{length, take, drop, get_or, replicate, length-append, length-drop}
use lib.Seq.{take_at, drop_at, length-take-le, get_or-take, get_or-drop, ext_get_or}
use Rattle.text.specs.Utf8.{Bytes}
use Rattle.path.specs.Path.{body}
use Rattle.model.specs.Tree.{Time, Meta, Open, open_of}
use Rattle.model.specs.Calls.States.{State}
use Rattle.layout.specs.Fields.{record_word, head_word, len_of}
use Rattle.layout.specs.Rows.{Row, rows, name_total}
use Rattle.layout.specs.Slots.{total, split}
use Rattle.layout.proofs.Worded.{head-length, record-depth, record-name, record-slot, record-small}
use Rattle.layout.proofs.Spelled.Fitting.{Fits}
use Rattle.layout.proofs.Spelled.Items.{Item}
use Rattle.layout.proofs.Spelled.Tracing.{Fit}
use Rattle.layout.proofs.Spelled.Listed.{tab, tab-length, tab_at}

-- ---- records and names

abbrev pub record_of : Row → ℕ
record_of r = record_word r.depth (length r.name) r.slot

unfoldable pub name_text : List Row → Bytes
name_text [] = []
name_text (r ∷ rs) = r.name ++ name_text rs

-- the rows are read back, where their fields fit
pub rows_back : (rs : List Row) (rest : Bytes) → Fit rs → rows (map record_of rs) (name_text rs ++ rest) ≡ rs
unfolding rows name_text
rows_back [] rest f = refl
rows_back (r ∷ rs) rest f =
    let l = record-name r.depth (length r.name) r.slot f.0 f.1 in
    rw (append_assoc r.name (name_text rs) rest, l, record-depth r.depth (length r.name) r.slot f.0 f.1, record-slot r.depth (length r.name) r.slot f.0 f.1, take_at r.name (name_text rs ++ rest) (length r.name) refl, drop_at r.name (name_text rs ++ rest) (length r.name) refl)
    (ap (λ (x : List Row). r ∷ x) (rows_back rs rest f.3))

pub names-counted : (rs : List Row) → Fit rs → name_total (map record_of rs) ≡ length (name_text rs)
unfolding name_total name_text
names-counted [] f = refl
names-counted (r ∷ rs) f =
    omega (arith, record-name r.depth (length r.name) r.slot f.0 f.1, names-counted rs f.3, length-append r.name (name_text rs))

-- their words have 64 bits
pub records-small : (rs : List Row) (k : ℕ) → Fit rs → (i : ℕ) → get_or (map record_of rs ++ replicate k 0) i 0 < 2 ^ 64
records-small [] zero f i = omega arith
records-small [] (suc k) f zero = omega arith
records-small [] (suc k) f (suc i) = records-small [] k f i
records-small (r ∷ rs) k f zero = record-small r.depth (length r.name) r.slot f.0 f.1 f.2
records-small (r ∷ rs) k f (suc i) = records-small rs k f.3 i

-- ---- slots

abbrev pub head_of : Item → ℕ
head_of i = head_word (length i.bytes) i.kind i.meta.mode

-- the bytes of n slots from k on, one behind the other
unfoldable pub join_from : (ℕ → Item) → ℕ → ℕ → Bytes
join_from g zero k = []
join_from g (suc n) k = (g k).bytes ++ join_from g n (suc k)

module _ (g : ℕ → Item) (fits : (k : ℕ) → Fits (g k)) where
  length_at : (k : ℕ) → len_of (head_of (g k)) ≡ length (g k).bytes
  length_at k = head-length (length (g k).bytes) (g k).kind (g k).meta.mode (fits k).length (fits k).kind

  pub split-back : (n k : ℕ) → split (tab (λ i. head_of (g i)) n k) (join_from g n k) ≡ tab (λ i. (g i).bytes) n k
  unfolding split join_from tab
  split-back zero k = refl
  split-back (suc n) k =
      rw (take_at (g k).bytes (join_from g n (suc k)) (len_of (head_of (g k))) (sym (length_at k)), drop_at (g k).bytes (join_from g n (suc k)) (len_of (head_of (g k))) (sym (length_at k)))
      (ap (λ (x : List Bytes). (g k).bytes ∷ x) (split-back n (suc k)))

  pub total-joined : (n k : ℕ) → total (tab (λ i. head_of (g i)) n k) ≡ length (join_from g n k)
  unfolding total join_from tab
  total-joined zero k = refl
  total-joined (suc n) k = omega (arith, length_at k, total-joined n (suc k), length-append (g k).bytes (join_from g n (suc k)))

-- the four times
abbrev pub time_of : Meta → ℕ → Time
time_of m zero = m.accessed
time_of m (suc zero) = m.changed
time_of m (suc (suc zero)) = m.created
time_of m (suc (suc (suc k))) = m.modified

-- ---- kept paths

abbrev pub kept_text : Option Open → Bytes
kept_text none = []
kept_text (some o) = body o.kept

-- the text of a cell
abbrev pub text_of : State → ℕ → Bytes
text_of s zero = body s.here
text_of s (suc n) = kept_text (open_of s.opens n)

-- texts of at most 1,024 bytes, each in its cell
pub cell-back : (t : ℕ → Bytes) (i : ℕ) → i < 33 → length (t i) ≤ 1024
    → take (length (t i)) (drop (1024 * i) (tab (λ k. get_or (t (k / 1024)) (k % 1024) 0) 33792 0)) ≡ t i
cell-back t i h l = ext_get_or 0 (take n (drop (1024 * i) all)) (t i) long same
  where
    n : ℕ
    n = length (t i)

    all : Bytes
    all = tab (λ k. get_or (t (k / 1024)) (k % 1024) 0) 33792 0

    long : length (take n (drop (1024 * i) all)) ≡ n
    long = length-take-le n (drop (1024 * i) all) (omega (arith, length-drop (1024 * i) all, tab-length (λ k. get_or (t (k / 1024)) (k % 1024) 0) 33792 0))

    same : (j : ℕ) → j < length (take n (drop (1024 * i) all)) → get_or (take n (drop (1024 * i) all)) j 0 ≡ get_or (t i) j 0
    same j b =
        let c : j < n = omega (arith, long) in
        get_or-take n (drop (1024 * i) all) j 0 c ∙ get_or-drop (1024 * i) all j 0
        ∙ tab_at (λ k. get_or (t (k / 1024)) (k % 1024) 0) 33792 (1024 * i + j) 0 (omega arith)
        ∙ ap (λ (k : ℕ). get_or (t k) ((1024 * i + j) % 1024) 0) (omega arith) ∙ ap (λ (k : ℕ). get_or (t i) k 0) (omega arith)
