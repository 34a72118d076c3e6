-- The parts of the slices that the limits ask. Slices that pass show, by these parts, the state that is read back of them; and slices whose
-- parts come back changed, with the rest as it was, are read back as what the parts show.
-- Assumes nothing.
use mathlib.Core.List.{List, [], ◌++◌}
use mathlib.Core.Path.{◌≡◌, refl, sym, ap, ◌∙◌, subst}
use Prim.Native.Nat.{ℕ, ◌+◌, ◌*◌, ◌≤◌}
use native.Mathlib.Omega.{arith}
use lib.Dec.{T}
use lib.IntN.{ℤ, pos}
use lib.ListN.{length, take, drop, get_or, length-append, length-drop}
use mir.Syntax.{w8, w64}
use mir.Val.{Fits}
use lib.Seq.{get_or-take, take-take, length-take-le, take-append_seam, drop-append_seam}
use Rattle.text.specs.Utf8.{Bytes}
use Rattle.model.proofs.Alike.States.{alike_refl}
use Rattle.model.specs.Rules.{time_ok}
use Rattle.model.specs.Alike.{Alike}
use Rattle.model.specs.Calls.States.{State}
use Rattle.layout.specs.Numbers.{word_count, most_at, room_at, extent_at, paths_bytes}
use Rattle.layout.specs.Store.{Store, lent, most, room, extent, slots_for, state, core, spare}
use Rattle.layout.specs.Lawful.{Lawful, Long, Passes, Sized}
use Rattle.layout.specs.Answers.{read_back}
use Rattle.layout.proofs.Edited.Shapes.{lawful-shape}
use Rattle.layout.proofs.Sizes.{sized-cut}
use Rattle.edit_room.specs.Extents.{trim}
use Rattle.store.specs.Shows.{Shows}
use Rattle.layout.specs.declared.slices.Slices.{Slices}
use Rattle.layout.specs.declared.slices.Tree.{Tree}
use Rattle.layout.specs.Lent.{◌∘◌, lent_by, with_tree, with_times}
use Rattle.op.specs.declared.parts.Sizes.{Sizes}
use Rattle.op.specs.Parts.{cut, tree_of, sizes_of, SizesOf}

-- a word of the state stands in the part
word_in : (ws : List ℕ) (i : ℕ) → i + 1 ≤ 102 → get_or (take word_count ws) i 0 ≡ get_or ws i 0
word_in ws i h = get_or-take 102 ws i 0 (omega arith)

-- equal slice by slice
same_store : {ws ws' rs rs' hs hs' : List ℕ} {ts ts' : List ℤ} {ps ps' bs bs' : Bytes} → ws ≡ ws' → rs ≡ rs' → hs ≡ hs' → ts ≡ ts' → ps ≡ ps' → bs ≡ bs'
    → lent ws rs hs ts ps bs ≡ lent ws' rs' hs' ts' ps' bs'
same_store a b c d e f = rw (a, b, c, d, e, f) refl

-- ---- slices that pass

module _ (st : Store) (p : Passes st) where
  slots-low : extent st ≤ slots_for (most st)
  slots-low = omega (arith, p.1.slotted, word_in st.words most_at (omega arith), word_in st.words extent_at (omega arith))

  trim-cut : trim (cut st) ≡ core st
  trim-cut =
      same_store refl refl
      (ap (λ (n : ℕ). take n (take (slots_for (most st)) st.heads)) (word_in st.words extent_at (omega arith))
      ∙ take-take (extent st) (slots_for (most st)) st.heads slots-low) refl refl refl

  pub shows-cut : Shows (cut st) (read_back st)
  shows-cut = record {
    roomy = record {
      lawful = subst Lawful (sym trim-cut) p.1;
      room = omega (arith, length-take-le (slots_for (most st)) st.heads p.0.heads, word_in st.words most_at (omega arith));
    };
    shaped = lawful-shape (core st) p.1;
    alike = subst (λ (x : Store). Alike (state x) (read_back st)) (sym trim-cut) (alike_refl (read_back st) (lawful-shape (core st) p.1));
  }

  -- the limits are low
  pub limits : (most st ≤ 4096) × (room st ≤ 1048576)
  limits = (omega (arith, p.1.entry_limit.1, word_in st.words most_at (omega arith)), omega (arith, p.1.byte_limit.1, word_in st.words room_at (omega arith)))

-- ---- slices that are lent together

-- a store that is another shows what that shows
pub shows_as : {u v : Store} {s : State} → u ≡ v → Shows v s → Shows u s
shows_as {s = s} e h = subst (λ (x : Store). Shows x s) (sym e) h

module _ (u : Slices) {t : Tree} (e : t ≡ tree_of u) where
  -- with those that hold the tree lent as one
  pub with_its_tree : with_tree t (lent_by u) ≡ lent_by u
  with_its_tree = ap (λ (k : Tree). with_tree k (lent_by u)) e

  pub with-times-too : (with_tree t ∘ with_times u.times.now) (lent_by u) ≡ lent_by u
  with-times-too = ap (λ (k : Tree). (with_tree k ∘ with_times u.times.now) (lent_by u)) e

-- ---- slices that come back

-- the first n elements are now ys, the rest is as it was
pub record Back {A : Type 0} (n : ℕ) (xs ys zs : List A) : Type 0 where
  pub front : take n zs ≡ ys
  pub rest : drop n zs ≡ drop n xs
  pub long : length zs ≡ length xs

-- a slice that is not written
pub as_was : {A : Type 0} (n : ℕ) (xs : List A) → Back n xs (take n xs) xs
as_was n xs = record { front = refl; rest = refl; long = refl }

-- a part that was lent and has come back
pub put_back : {A : Type 0} {n : ℕ} {xs ys : List A} → n ≤ length xs → length ys ≡ length (take n xs) → Back n xs ys (ys ++ drop n xs)
put_back {n = n} {xs = xs} {ys = ys} h k =
    let e : length ys ≡ n = k ∙ length-take-le n xs h in
    record {
      front = ap (λ (k : ℕ). take k (ys ++ drop n xs)) (sym e) ∙ take-append_seam ys (drop n xs);
      rest = ap (λ (k : ℕ). drop k (ys ++ drop n xs)) (sym e) ∙ drop-append_seam ys (drop n xs);
      long = length-append ys (drop n xs) ∙ omega (arith, length-drop n xs, e, h);
    }

-- all six, of these lengths
pub record Returned (n : Sizes) (st u after : Store) : Type 0 where
  pub words : Back word_count st.words u.words after.words
  pub records : Back n.records st.records u.records after.records
  pub heads : Back n.heads st.heads u.heads after.heads
  pub times : Back n.times st.times u.times after.times
  pub paths : Back paths_bytes st.paths u.paths after.paths
  pub bytes : Back n.bytes st.bytes u.bytes after.bytes

-- parts of these lengths
abbrev pub cut_by : Sizes → Store → Store
cut_by n st = lent (take word_count st.words) (take n.records st.records) (take n.heads st.heads) (take n.times st.times) (take paths_bytes st.paths) (take n.bytes st.bytes)

module _ {st : Store} {n : Sizes} (z : SizesOf st n) where
  pub cut_alike : cut_by n st ≡ cut st
  cut_alike = ap (λ (k : Sizes). cut_by k st) z.are

  pub returned_alike : {u after : Store} → Returned n st u after → Returned (sizes_of st) st u after
  returned_alike {u = u} {after = after} b = subst (λ (k : Sizes). Returned k st u after) z.are b

-- none of them was written
pub not_written : (st : Store) → Returned (sizes_of st) st (cut st) st
not_written st = record { words = as_was _ _; records = as_was _ _; heads = as_was _ _; times = as_was _ _; paths = as_was _ _; bytes = as_was _ _ }

module _ (st u after : Store) (p : Passes st) (b : Returned (sizes_of st) st u after) (l : Lawful (trim u)) where
  word-now : (i : ℕ) → i + 1 ≤ 102 → get_or after.words i 0 ≡ get_or u.words i 0
  word-now i h = sym (word_in after.words i h) ∙ ap (λ (ws : List ℕ). get_or ws i 0) b.words.front

  -- the limits are as they were: the parts have their lengths
  pub most_kept : most u ≡ most st
  most_kept =
      sym l.exact.records ∙ ap length (sym b.records.front) ∙ length-take-le (most st) after.records (omega (arith, b.records.long, p.0.records))

  pub room-kept : room u ≡ room st
  room-kept = sym l.exact.bytes ∙ ap length (sym b.bytes.front) ∙ length-take-le (room st) after.bytes (omega (arith, b.bytes.long, p.0.bytes))

  pub most_now : most after ≡ most st
  most_now = word-now most_at (omega arith) ∙ most_kept

  room-now : room after ≡ room st
  room-now = word-now room_at (omega arith) ∙ room-kept

  heads-now : take (extent after) after.heads ≡ take (extent u) u.heads
  heads-now =
      ap (λ (n : ℕ). take n after.heads) (word-now extent_at (omega arith))
      ∙ sym (take-take (extent u) (slots_for (most st)) after.heads (omega (arith, l.slotted, most_kept)))
      ∙ ap (take (extent u)) b.heads.front

  pub core-now : core after ≡ trim u
  core-now =
      same_store b.words.front (ap (λ (n : ℕ). take n after.records) most_now ∙ b.records.front) heads-now
      (ap (λ (n : ℕ). take (4 * slots_for n) after.times) most_now ∙ b.times.front) b.paths.front
      (ap (λ (n : ℕ). take n after.bytes) room-now ∙ b.bytes.front)

  pub long-now : Long after
  long-now = record {
    words = omega (arith, p.0.words, b.words.long);
    records = omega (arith, p.0.records, b.records.long, most_now);
    heads = omega (arith, p.0.heads, b.heads.long, most_now);
    times = omega (arith, p.0.times, b.times.long, most_now);
    paths = omega (arith, p.0.paths, b.paths.long);
    bytes = omega (arith, p.0.bytes, b.bytes.long, room-now);
  }

  pub behind-now : spare (most st) (room st) after ≡ spare (most st) (room st) st
  behind-now = same_store b.words.rest b.records.rest b.heads.rest b.times.rest b.paths.rest b.bytes.rest

  -- what the slices hold, where the times are as they were
  pub sized-kept : after.times ≡ st.times → ((i : ℕ) → Fits w64 (get_or after.words i 0)) → ((i : ℕ) → Fits w64 (get_or after.heads i 0)) → ((i : ℕ) → Fits w8 (get_or after.bytes i 0))
      → Sized (core after)
  unfolding time_ok
  sized-kept e ws hs bs =
      let x = sized-cut (lent after.words after.records after.heads [] after.paths after.bytes) (λ i. (ws i).fits) (λ i. (hs i).fits) (λ i. tt) (λ i. (bs i).fits) in
      record {
        words = x.words;
        heads = x.heads;
        times = λ i. subst (λ (l : List ℤ). T (time_ok (get_or (take (4 * slots_for (most after)) l) i (pos 0)))) (sym e) (subst (λ (n : ℕ). T (time_ok (get_or (take (4 * slots_for n) st.times) i (pos 0)))) (sym most_now) (p.2.times i));
        bytes = x.bytes;
      }
