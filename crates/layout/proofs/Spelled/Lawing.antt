-- The store of a state obeys the rules of a store: names and slots have as many bytes as the state uses, so they fit.
-- Assumes nothing.
use mathlib.Core.Bool.{true}
use mathlib.Core.List.{[], ◌∷◌}
use mathlib.Core.Option.{some}
use mathlib.Core.Path.{◌≡◌, refl, sym, ap, ◌∙◌, subst}
use Prim.Native.Nat.{ℕ, ◌+◌, ◌*◌, ◌≤◌, ◌<◌, ◌^◌}
use native.Mathlib.Omega.{arith}
use lib.Dec.{T}
use lib.ListN.{length}
use Rattle.model.specs.Tree.{File, Node, dir, file, link, Entries, Files, file_of, target_length, names_and_targets, contents_length}
use Rattle.model.specs.Calls.States.{State}
use Rattle.model.specs.Rules.{Obeys}
use Rattle.model.proofs.Demand.Contents.{weigh, weigh-le}
use Rattle.layout.specs.Rows.{name_total}
use Rattle.layout.specs.Slots.{total}
use Rattle.layout.specs.Store.{slots_for, live, meta_at, bytes_at, kind_at, files_from, state}
use Rattle.layout.specs.Lawful.{slot_ok, Exact, Lawful}
use Rattle.layout.proofs.Tables.{file_at, file-found, file_there, files-once}
use Rattle.layout.proofs.Used.{bytes_counted}
use Rattle.layout.proofs.Spelled.Housing.{Is, free, a_dir, a_link, named, loose, is, stands}
use Rattle.layout.proofs.Spelled.Items.{Item, file_item, item, home}
use Rattle.layout.proofs.Spelled.Placing.{placed, rows_fit_lem, entries-ok, tree-back}
use Rattle.layout.proofs.Spelled.Slotting.{number_ok_lem, here-ok, slot_ok_lem}
use Rattle.layout.proofs.Climbing.{Ascends}
use Rattle.layout.proofs.Spelled.Stored.{bytes_of, heads_of, spell, words-length, heads-length, times-length, paths-length, most_back, room_back, count-back, extent-back, mask-back, records-length, names-read, total-back, kind-back, meta-back, bytes_back, bytes-long}
use Rattle.layout.proofs.Spelled.Tracing.{renamed}

-- every file counts
contents-weigh : (fs : Files) → contents_length fs ≡ weigh (λ _. true) fs
unfolding contents_length weigh
contents-weigh [] = refl
contents-weigh (f ∷ fs) = ap (λ (k : ℕ). length f.1.bytes + k) (contents-weigh fs)

module _ (s : State) where
  -- other numbers for files change no length
  placed-length : (n : Node) → target_length (placed s n) ≡ target_length n
  unfolding target_length
  placed-length (dir m) = refl
  placed-length (file j) = refl
  placed-length (link m t) = refl

  placed-bytes : (t : Entries) → names_and_targets (renamed (placed s) t) ≡ names_and_targets t
  unfolding names_and_targets renamed
  placed-bytes [] = refl
  placed-bytes (e ∷ t) = omega (arith, placed-length e.1, placed-bytes t)

  module _ (o : Obeys s) where
    -- ---- the files of the store

    -- a slot with a file's item holds the file
    pub file_is : (j : ℕ) (f : File) (k : ℕ) → k < slots_for s.most → item s k ≡ file_item j f → file_at (spell s) k ≡ f
    file_is j f k low e =
        let m : meta_at (spell s) k ≡ f.meta = meta-back s o k low ∙ ap (λ (i : Item). i.meta) e in
        let b : bytes_at (spell s) k ≡ f.bytes = bytes_back s o k low ∙ ap (λ (i : Item). i.bytes) e in
        λ i. record { meta = m i; bytes = b i }

    -- the file of the state that a file of the store is
    from-file : (k : ℕ) (f : File) → k < slots_for s.most → kind_at (spell s) k ≡ 2 → f ≡ file_at (spell s) k → Is s o k → (j : ℕ) × (home s j ≡ k) × T true × (file_of s.files j ≡ some f)
    from-file k f low kd e (free x h) = absurd (omega (arith, kind-back s o k low, ap (λ (i : Item). i.kind) x))
    from-file k f low kd e (a_dir m n x h) = absurd (omega (arith, kind-back s o k low, ap (λ (i : Item). i.kind) x))
    from-file k f low kd e (a_link m t n x h) = absurd (omega (arith, kind-back s o k low, ap (λ (i : Item). i.kind) x))
    from-file k f low kd e (named j g y n x z h) = (j, z, tt, y ∙ ap some (sym (e ∙ file_is j g k low x)))
    from-file k f low kd e (loose j g y x z u h) = (j, z, tt, y ∙ ap some (sym (e ∙ file_is j g k low x)))

    contents-le : contents_length (state (spell s)).files ≤ contents_length s.files
    contents-le =
        let n = length (heads_of s) in
        let h = weigh-le (λ _. true) (λ _. true) (λ i j. home s j ≡ i) (λ i k j x y. sym x ∙ y) (files_from (spell s) n 0) s.files (files-once (spell s) n 0) o.files
        (λ i f e _.
        let g = file-found (spell s) n 0 i f e in
        from-file i f (omega (arith, g.high, heads-length s)) g.kind g.file (is s o i)) in
        omega (arith, h, contents-weigh (files_from (spell s) n 0), contents-weigh s.files)

    -- a file of the state is one of the store
    pub file-back : (j : ℕ) (f : File) → file_of s.files j ≡ some f → file_of (state (spell s)).files (home s j) ≡ some f
    file-back j f e =
        let h = stands s o j f e in
        let kd : kind_at (spell s) (home s j) ≡ 2 = kind-back s o (home s j) h.low ∙ ap (λ (i : Item). i.kind) h.item in
        file_there (spell s) (length (heads_of s)) 0 (home s j) (omega arith) (omega (arith, h.low, heads-length s)) kd ∙ ap some (file_is j f (home s j) h.low h.item)

    -- ---- all rules

    module _ (a : Ascends s.tree) where
      names-low : name_total (live (spell s)) ≤ length (bytes_of s)
      names-low = omega (arith, names-read s (rows_fit_lem s o a), bytes-long s o)

      total-low : total (heads_of s) ≤ length (bytes_of s)
      total-low = omega (arith, total-back s o, bytes-long s o)

      each-slot : (k : ℕ) → k < length (heads_of s) → T (slot_ok (spell s) k)
      each-slot k h = slot_ok_lem s o a k (omega (arith, heads-length s))

      space : name_total (live (spell s)) + total (heads_of s) ≤ s.room
      space =
          omega (
            arith,
            bytes_counted (spell s) names-low total-low (entries-ok s o a) each-slot,
            ap names_and_targets (tree-back s o a),
            placed-bytes s.tree,
            contents-le,
            o.bytes_fit,
          )

      exact : Exact (spell s)
      exact =
          record {
            words = words-length s;
            records = records-length s o.entries_fit ∙ sym (most_back s);
            heads = heads-length s ∙ sym (extent-back s);
            times = times-length s ∙ ap (λ (k : ℕ). 4 * slots_for k) (sym (most_back s));
            paths = paths-length s;
            bytes = omega (arith, bytes-long s o, space, names-read s (rows_fit_lem s o a), total-back s o) ∙ sym (room_back s);
          }

      pub spell-lawful : Lawful (spell s)
      spell-lawful =
          record {
            exact = exact;
            entry_limit = subst (λ (k : ℕ). (1 ≤ k) × (k ≤ 4096)) (sym (most_back s)) o.entry_limit;
            byte_limit = subst (λ (k : ℕ). (256 ≤ k) × (k ≤ 1048576)) (sym (room_back s)) o.byte_limit;
            counted = omega (arith, count-back s, most_back s, o.entries_fit);
            slotted = omega (arith, extent-back s, most_back s);
            space = omega (arith, space, room_back s);
            entries = entries-ok s o a;
            slots = each-slot;
            numbers = number_ok_lem s o;
            here = here-ok s o;
            umask = subst (λ (k : ℕ). k < 2 ^ 32) (sym (mask-back s)) o.umask;
          }
