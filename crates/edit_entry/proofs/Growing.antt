-- A store with one entry more between two parts of its entries obeys the rules.
-- Assumes nothing.
use mathlib.Core.Bool.{false}
use mathlib.Core.List.{List, ◌∷◌, ◌++◌}
use mathlib.Core.Path.{◌≡◌}
use Prim.Native.Nat.{ℕ}
use native.Mathlib.Omega.{arith}
use lib.Dec.{T}
use lib.ListN.{length, get_or}
use Rattle.text.specs.Utf8.{Bytes}
use Rattle.model.specs.Tree.{Time}
use Rattle.layout.specs.Fields.{kind_of, mode_of}
use Rattle.layout.specs.Rows.{Row}
use Rattle.layout.specs.Store.{Store, meta_at, bytes_at, kind_at, node_at}
use Rattle.layout.specs.Lawful.{rows_ok, uses, slot_by, Lawful}
use Rattle.layout.specs.Parts.{dir_after}
use Rattle.layout.proofs.Edited.Parted.{Has, has_first, uses_both, dir-slots}
use Rattle.edit_entry.specs.Growth.{new_meta, Grown}
use Rattle.edit_entry.proofs.Adding as adding
use Rattle.edit_entry.proofs.Adding.{Added}

module _ {st st' : Store} {a b : List Row} {row : Row} {h : ℕ} {c : Bytes} {t : Time} (l : Lawful st) (g : Grown st st' a b row h c t) where
  abbrev s : ℕ
  s = row.slot

  added : Added st st' (a ++ b) (a ++ (row ∷ b)) s (length row.name) h c t
  unfolding uses
  added =
      record {
        counted = g.counted;
        old = g.old;
        new = g.new;
        users = λ k. let i = uses_both k a (row ∷ b) in let j = uses_both k a b in omega (arith, i, j);
        low = g.low;
        free = g.free;
        heads = g.heads;
        texts = g.texts;
        size = g.size;
        times = g.times;
        records = g.records;
        bytes = g.bytes;
        names = g.names;
        fits = g.fits;
        more = g.more;
      }

  pub other_head : (k : ℕ) → (k ≡ s → ⊥) → get_or st'.heads k 0 ≡ get_or st.heads k 0
  other_head = adding.other_head l added

  pub other_bytes : (k : ℕ) → (k ≡ s → ⊥) → bytes_at st' k ≡ bytes_at st k
  other_bytes = adding.other_bytes l added

  pub other_meta : (k : ℕ) → (k ≡ s → ⊥) → meta_at st' k ≡ meta_at st k
  other_meta = adding.other_meta l added

  pub new-head : get_or st'.heads s 0 ≡ h
  new-head = adding.new-head l added

  pub new-bytes : bytes_at st' s ≡ c
  new-bytes = adding.new-bytes l added

  pub new-meta : meta_at st' s ≡ new_meta (mode_of h) t
  new-meta = adding.new-meta l added

  pub same_node : (k : ℕ) → Has (a ++ b) k → node_at st' k ≡ node_at st k
  same_node = adding.same_node l added

  -- the rules of the entries that were there hold as well by what the slots now hold
  pub rows_still : T (rows_ok (kind_at st') (length st.heads) (a ++ b))
  rows_still = adding.rows_still l added

  pub dir_still : dir_after (kind_at st) false a ≡ dir_after (kind_at st') false a
  dir_still = dir-slots (kind_at st) (kind_at st') false a (λ k u. adding.same_kind l added k (has_first a b k u))

  pub grown-lawful : T (rows_ok (kind_at st') (length st.heads) (a ++ (row ∷ b))) → T (slot_by (kind_of h) h 1 false c) → Lawful st'
  grown-lawful = adding.added-lawful l added
