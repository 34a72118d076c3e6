-- The state that is read back from a lawful store obeys the rules of a state: its entries are a walk from the root, each slot has
-- at most one of them, a number stands on a file, and the bytes used are those that the words count.
-- Assumes nothing.
use mathlib.Core.List.{List, [], ◌∷◌, ◌++◌}
use mathlib.Core.Option.{some}
use mathlib.Core.Path.{◌≡◌, sym, subst}
use Prim.Native.Nat.{ℕ, zero, suc, ◌-◌, ◌≤◌, ◌<◌, ◌^◌}
use native.Mathlib.Nat.{div-lt_iff_lt-mul}
use native.Mathlib.Omega.{arith}
use lib.Dec.{T, leb, ltb}
use lib.ListN.{length, drop, get_or}
use Rattle.text.specs.Utf8.{Bytes}
use Rattle.path.specs.Path.{names, body, same}
use Rattle.path.proofs.Laws.{and_left, and_right}
use Rattle.model.specs.Tree.{File, Open, file_of}
use Rattle.model.specs.Rules.{path_ok, meta_ok, bytes_ok, FileOk, NodeOk, Obeys}
use Rattle.model.proofs.Space.Steps.{Parents}
use Rattle.model.proofs.Sound.Worlds.{OpenOk}
use Rattle.model.proofs.Sound.Files.{meta_whole}
use Rattle.model.proofs.Sound.Numbers.{prefix-bytes}
use Rattle.layout.specs.Fields.{len_of, mode_of}
use Rattle.layout.specs.Slots.{split, start}
use Rattle.layout.specs.Store.{Store, holder, kept_length, here_length, cell, rows_of, meta_at, bytes_at, kind_at, node_at, state}
use Rattle.layout.specs.Lawful.{uses, cell_ok, kept_ok, Lawful, Sized}
use Rattle.layout.proofs.Entered.{slot, has_file, entry, one_name_lem, file-used, stood}
use Rattle.layout.proofs.Roots.{all_named, all_once, all-rooted, all-home}
use Rattle.layout.proofs.Tables.{file_at, file-found, files-once, open_at, open-found, opens-once}
use Rattle.layout.proofs.Slotted.{SlotOf, free, directory, named, removed, target, dir_at, file_at_lem, link_at}
use Rattle.layout.proofs.Used.{entries-used, bytes-used}

-- ---- numbers of words and bytes

suffix-bytes : (k : ℕ) (s : Bytes) → T (bytes_ok s) → T (bytes_ok (drop k s))
unfolding bytes_ok
suffix-bytes zero s t = t
suffix-bytes (suc k) [] t = tt
suffix-bytes (suc k) (b ∷ s) t = suffix-bytes k s (and_right (ltb b 256) (bytes_ok s) t)

split-bytes : (hs : List ℕ) (s : Bytes) (k : ℕ) → T (bytes_ok s) → T (bytes_ok (get_or (split hs s) k []))
unfolding split bytes_ok
split-bytes [] s k t = tt
split-bytes (h ∷ hs) s zero t = prefix-bytes (len_of h) s t
split-bytes (h ∷ hs) s (suc k) t = split-bytes hs (drop (len_of h) s) k (suffix-bytes (len_of h) s t)

mode_small : (h : ℕ) → h < 2 ^ 64 → mode_of h < 2 ^ 32
mode_small h s = (div-lt_iff_lt-mul {k = 4294967296} {x = h} {y = 2 ^ 32} (omega arith)).1 s

kept-path : (s : Bytes) → T (cell_ok s) → T (path_ok (names s))
unfolding cell_ok
kept-path s t = and_left (path_ok (names s)) (same (body (names s)) s) t

-- only directories have entries
pub lawful-parents : (st : Store) → Lawful st → Parents (state st).tree
lawful-parents st l p x m e =
    let a = entry st l (p ++ (x ∷ [])) m e in
    all-home (kind_at st) (length st.heads) (node_at st) (λ k e. (meta_at st k, dir_at st k e)) (rows_of st) l.entries p x a.row a.at

module _ (st : Store) (z : Sized st) (l : Lawful st) where
  abbrev all : ℕ
  all = length st.heads

  meta-ok : (k : ℕ) → T (meta_ok (meta_at st k))
  meta-ok k =
      meta_whole (meta_at st k)
      (record { mode = mode_small (get_or st.heads k 0) (z.heads k); accessed = z.times _; changed = z.times _; created = z.times _; modified = z.times _ })

  bytes_ok_lem : (k : ℕ) → T (bytes_ok (bytes_at st k))
  bytes_ok_lem k = split-bytes st.heads (drop (start st.heads st.bytes) st.bytes) k (suffix-bytes (start st.heads st.bytes) st.bytes z.bytes)

  node_ok : (k : ℕ) → k < all → 1 ≤ uses k (rows_of st) → SlotOf st k → NodeOk (state st).files (node_at st k)
  node_ok k h u (free e x y w) = absurd (omega arith)
  node_ok k h u (directory e x y w) = subst (NodeOk (state st).files) (sym (dir_at st k e)) (meta-ok k)
  node_ok k h u (named e y) = subst (NodeOk (state st).files) (sym (file_at_lem st k e)) (file_at st k, has_file st l k h e)
  node_ok k h u (removed e y w) = absurd (omega arith)
  node_ok k h u (target e t y w) = subst (NodeOk (state st).files) (sym (link_at st k e)) (meta-ok k, t)

  -- ---- the numbers

  cell-path : (i m : ℕ) → T (kept_ok st i m) → T (path_ok (names (cell st i m)))
  cell-path i m t = kept-path (cell st i m) (and_right (leb m 1024) (cell_ok (cell st i m)) t)

  open-ok : (i : ℕ) → i < 32 → (holder st i ≡ 0 → ⊥) → OpenOk (state st).files i (open_at st i)
  open-ok i h x =
      let a = stood st l i h x in
      let k = holder st i - 1 in
      record {
        small = omega arith;
        place = z.words _;
        path = cell-path (suc i) (kept_length st i) a.kept;
        stands = (file_at st k, has_file st l k (omega (arith, a.one, a.low)) a.kind);
      }

  -- ---- all rules

  pub lawful-obeys : Obeys (state st)
  lawful-obeys =
      record {
        entry_limit = l.entry_limit;
        byte_limit = l.byte_limit;
        entries_fit = omega (arith, entries-used st l, l.counted);
        bytes_fit = omega (arith, bytes-used st l, l.space);
        paths = all_once (kind_at st) all (node_at st) (rows_of st) l.entries;
        root = all-rooted (kind_at st) all (node_at st) (λ k e. (meta_at st k, dir_at st k e)) (rows_of st) l.entries;
        parents = lawful-parents st l;
        named = λ p m e. let a = entry st l p m e in all_named (kind_at st) all (rows_of st) l.entries p a.row a.at;
        nodes = λ p m e.
            let a = entry st l p m e in
            subst (NodeOk (state st).files) a.node (node_ok a.row.slot a.low a.used (slot st l a.row.slot a.low));
        files = files-once st all 0;
        each_file = λ i f e.
            let h = file-found st all 0 i f e in
            subst FileOk (sym h.file) (meta-ok i, bytes_ok_lem i);
        one_name = one_name_lem st l;
        used = λ i f e. let h = file-found st all 0 i f e in file-used st l i h.kind (slot st l i (omega arith));
        numbers = opens-once st 32 0;
        opens = λ n o e.
            let h = open-found st 32 0 n o e in
            let k = open-ok n (omega arith) h.holds in
            subst (λ (a : Open). (n ≤ 31) × (a.pos < 2 ^ 64) × T (path_ok a.kept) × ((f : File) × (file_of (state st).files a.id ≡ some f))) (sym h.number)
            (k.small, k.place, k.path, k.stands);
        current = cell-path 0 (here_length st) l.here;
        umask = l.umask;
      }
