-- What an entry takes up, by its record and its slot: the record says how long its name is, the slot how long its bytes are, and a
-- number is open on a file where its word names the slot.
-- Assumes nothing.
use mathlib.Core.Bool.{Bool, true, false, cond, not, ◌||◌}
use mathlib.Core.List.{List, []}
use mathlib.Core.Option.{some}
use mathlib.Core.Path.{◌≡◌, refl, sym, ap, ◌∙◌, subst}
use Prim.Native.Nat.{ℕ, zero, suc, ◌+◌, ◌-◌, ◌*◌, ◌≤◌, ◌<◌}
use native.Mathlib.Omega.{arith}
use lib.Dec.{T, eqb}
use lib.ListN.{length, take, drop, get_or}
use borrow.Author.Tests.{eqb-true, eqb-false, eq-eqb, ne_eqb}
use Rattle.text.specs.Utf8.{Bytes}
use Rattle.path.specs.Path.{names}
use Rattle.model.specs.Tree.{Path, Meta, File, Node, dir, file, link, Open, keep_if, look, file_of, name_length}
use Rattle.model.specs.Calls.States.{is_held}
use Rattle.model.specs.Space.{size_of, freed_by}
use Rattle.model.proofs.Entries.{some_inj, is_false}
use Rattle.model.proofs.Demand.Spacing.{last_name_lem}
use Rattle.layout.specs.Fields.{nlen_of, slot_of, len_of}
use Rattle.layout.specs.Rows.{Row, name_total, path_by}
use Rattle.layout.specs.Store.{Store, lent, count, live, rows_of, holder, position, kept_length, cell, meta_at, bytes_at, kind_at, node_by, node_at, opens_from, state}
use Rattle.layout.specs.Lawful.{walk_ok, rows_ok, held_from, Lawful}
use Rattle.layout.specs.Parts.{path_after, dir_after}
use Rattle.layout.proofs.Named.{total-split}
use Rattle.layout.proofs.Roots.{root_of}
use Rattle.layout.proofs.Slotted.{SlotOf, free, directory, named, removed, target, dir_at, file_at_lem, bytes-length}
use Rattle.layout.proofs.Entered.{slot, has_file}
use Rattle.layout.proofs.Edited.Removing.{walk-follows}
use Rattle.layout.proofs.Edited.Taking.{one_deep}
use Rattle.ask_find.specs.declared.Spot.{Spot}
use Rattle.ask_find.specs.Paths.{slot_at, row_at, path_at}
use Rattle.ask_find.specs.Spots.{At}
use Rattle.ask_find.proofs.Reading.{names_at, name-length}
use Rattle.ask_find.proofs.Records.{walk-behind, rest_at, parts_at, path_next, path-look, slot-low}
use Rattle.ask_used.specs.Answers.{Weighed, held_in, WeightIs}

-- ---- numbers on a slot

pub held_none : (st : Store) (i k : ℕ) → held_from st 0 i k ≡ false
unfolding held_from
held_none st i k = refl

pub held-here : (st : Store) (n i k : ℕ) → holder st i ≡ suc k → held_from st (suc n) i k ≡ true
unfolding held_from
held-here st n i k e = ap (λ (b : Bool). b || held_from st n (suc i) k) (eq-eqb (holder st i) (suc k) e)

pub held_on : (st : Store) (n i k : ℕ) → (holder st i ≡ suc k → ⊥) → held_from st (suc n) i k ≡ held_from st n (suc i) k
unfolding held_from
held_on st n i k e = ap (λ (b : Bool). b || held_from st n (suc i) k) (ne_eqb (holder st i) (suc k) e)

-- a number that is open on a slot stands on it
held_is : (st : Store) (n i k : ℕ) → is_held (opens_from st n i) k ≡ held_from st n i k
unfolding held_from opens_from is_held
held_is st zero i k = refl
held_is st (suc n) i k = go (eqb (holder st i) 0) refl (eqb (holder st i) (suc k)) refl (held_is st n (suc i) k)
  where
    o : Open
    o = record { num = i; id = holder st i - 1; pos = position st i; kept = names (cell st (suc i) (kept_length st i)) }

    go : (a : Bool) → eqb (holder st i) 0 ≡ a → (b : Bool) → eqb (holder st i) (suc k) ≡ b → is_held (opens_from st n (suc i)) k ≡ held_from st n (suc i) k
        → is_held (keep_if (not a) o (opens_from st n (suc i))) k ≡ b || held_from st n (suc i) k
    go true x true y ih = absurd (omega (arith, eqb-true (holder st i) 0 x, eqb-true (holder st i) (suc k) y))
    go true x false y ih = ih
    go false x true y ih = ap (λ (b : Bool). b || is_held (opens_from st n (suc i)) k) (eq-eqb (holder st i - 1) k (omega (arith, eqb-true (holder st i) (suc k) y)))
    go false x false y ih =
        let u = eqb-false (holder st i) 0 x in
        let v = eqb-false (holder st i) (suc k) y in
        ap (λ (b : Bool). b || is_held (opens_from st n (suc i)) k) (ne_eqb (holder st i - 1) k (λ z. v (omega (arith, z, u)))) ∙ ih

-- ---- the entry at a spot

module _ (st : Store) (l : Lawful st) (s : Spot) (p : Path) (a : At st s p) where
  abbrev i : ℕ
  i = s.at

  abbrev k : ℕ
  k = slot_at st i

  abbrev word : ℕ
  word = get_or st.records i 0

  -- its name is as long as the record says
  pub name-long : length (row_at st i).name ≡ nlen_of word
  name-long =
      name-length st.bytes (name_total (take i (live st))) (nlen_of word)
      (omega (arith, total-split (live st) i, names_at st.records (count st) i (omega (arith, l.exact.records, l.counted)) a.within, l.space, l.exact.bytes))

  name_is : (j : ℕ) → j ≡ i → name_length (path_at st j) ≡ length (row_at st j).name
  unfolding path_after name_length
  name_is zero e =
      let h : 0 < count st = omega (arith, a.within) in
      let o = root_of (kind_at st) (length st.heads) (row_at st 0) (drop 1 (rows_of st)) (subst (λ (rs : List Row). T (rows_ok (kind_at st) (length st.heads) rs)) (parts_at st l 0 h) l.entries) in
      ap name_length (path_next st l 0 h ∙ o.path) ∙ sym o.nameless
  name_is (suc j) e =
      let h : suc j < count st = omega (arith, a.within, e) in
      let r = row_at st (suc j) in
      let q = path_at st j in
      let d = dir_after (kind_at st) false (take (suc j) (rows_of st)) in
      let w = walk-follows (kind_at st) (length st.heads) q d r (drop (suc (suc j)) (rows_of st)) (subst (λ (rs : List Row). T (walk_ok (kind_at st) (length st.heads) q d rs)) (rest_at st l (suc j) h) (walk-behind st l j)) in
      let m = one_deep q d r.depth r.name w in
      ap name_length (path_next st l (suc j) h ∙ ap (λ (n : ℕ). path_by n q r.name) m.1) ∙ last_name_lem (take m.0 q) r.name []

  -- what stands there
  found : (m : Node) → look (state st).tree p ≡ some m → node_at st k ≡ m
  found m e = some_inj (sym (path-look st l i a.within) ∙ ap (look (state st).tree) a.path ∙ e)

  long : length (bytes_at st k) ≡ len_of (get_or st.heads k 0)
  long = bytes-length st k (omega (arith, l.space, l.exact.bytes)) (slot-low st l i a.within)

  -- a file
  pub record FileAt (j : ℕ) : Type 0 where
    pub kind : kind_at st k ≡ 2
    pub slot : k ≡ j

  file_is : (j : ℕ) → node_at st k ≡ file j → FileAt j
  file_is j e = go (eqb (kind_at st k) 1) (eqb (kind_at st k) 2) refl e
    where
      go : (b c : Bool) → eqb (kind_at st k) 2 ≡ c → cond b (dir (meta_at st k)) (cond c (file k) (link (meta_at st k) (bytes_at st k))) ≡ file j → FileAt j
      go true c z y = absurd (let w : ◌≡◌ {A = ℕ} 0 1 = cc in omega arith)
      go false true z y = record { kind = eqb-true (kind_at st k) 2 z; slot = cc }
      go false false z y = absurd (let w : ◌≡◌ {A = ℕ} 0 1 = cc in omega arith)

  link_is : (m : Meta) (t : Bytes) → node_at st k ≡ link m t → bytes_at st k ≡ t
  link_is m t e = go (eqb (kind_at st k) 1) (eqb (kind_at st k) 2) e
    where
      go : (b c : Bool) → cond b (dir (meta_at st k)) (cond c (file k) (link (meta_at st k) (bytes_at st k))) ≡ link m t → bytes_at st k ≡ t
      go true c y = absurd (let w : ◌≡◌ {A = ℕ} 0 1 = cc in omega arith)
      go false true y = absurd (let w : ◌≡◌ {A = ℕ} 0 1 = cc in omega arith)
      go false false y = cc

  -- what goes with its node: a file's contents unless a number is open on it, which none is on another kind; a directory's slot is empty
  freed-by : (z : ℕ) (h : Bool) → z ≡ len_of (get_or st.heads k 0) → h ≡ held_from st 32 0 k → cond h 0 z ≡ freed_by (state st).files (state st).opens (node_at st k)
  unfolding freed_by size_of
  freed-by z h f g = go (slot st l k (slot-low st l i a.within))
    where
      loose : (T (held_from st 32 0 k) → ⊥) → cond h 0 z ≡ z
      loose w = ap (λ (b : Bool). cond b 0 z) (g ∙ is_false (held_from st 32 0 k) w)

      linked : (n : ℕ) → kind_at st k ≡ n → node_by n k (meta_at st k) (bytes_at st k) ≡ link (meta_at st k) (bytes_at st k) → (T (held_from st 32 0 k) → ⊥)
          → cond h 0 z ≡ freed_by (state st).files (state st).opens (node_at st k)
      linked n e y w =
          loose w ∙ f ∙ sym long
          ∙ sym (ap (freed_by (state st).files (state st).opens) (ap (λ (m : ℕ). node_by m k (meta_at st k) (bytes_at st k)) e ∙ y))

      filed : kind_at st k ≡ 2 → cond h 0 z ≡ freed_by (state st).files (state st).opens (node_at st k)
      filed e =
          let b : h ≡ is_held (state st).opens k = g ∙ sym (held_is st 32 0 k) in
          let c : z ≡ size_of (file_of (state st).files k) = f ∙ sym long ∙ sym (ap size_of (has_file st l k (slot-low st l i a.within) e)) in
          (λ j. cond (b j) 0 (c j)) ∙ sym (ap (freed_by (state st).files (state st).opens) (file_at_lem st k e))

      go : SlotOf st k → cond h 0 z ≡ freed_by (state st).files (state st).opens (node_at st k)
      go (free e x y w) = linked 0 e refl w
      go (directory e x y w) = loose w ∙ f ∙ x ∙ sym (ap (freed_by (state st).files (state st).opens) (dir_at st k e))
      go (named e y) = filed e
      go (removed e y t) = filed e
      go (target e t y w) = linked 3 e refl w

  pub weight_is : (n z : ℕ) (h : Bool) → n ≡ nlen_of word → z ≡ len_of (get_or st.heads k 0) → h ≡ held_from st 32 0 k → WeightIs st p (record { name = n; size = z; held = h })
  weight_is n z h e f g =
      record {
        name = e ∙ sym name-long ∙ sym (name_is i refl) ∙ ap name_length a.path;
        contents = λ j c x y.
            let w = file_is j (found (file j) x) in
            let v = some_inj (sym (has_file st l k (slot-low st l i a.within) w.kind) ∙ ap (file_of (state st).files) w.slot ∙ y) in
            f ∙ sym long ∙ ap (λ (u : File). length u.bytes) v;
        target = λ m t x. f ∙ sym long ∙ ap length (link_is m t (found (link m t) x));
        held = λ j x. g ∙ sym (held_is st 32 0 k) ∙ ap (is_held (state st).opens) (file_is j (found (file j) x)).slot;
        freed = λ m x. freed-by z h f g ∙ ap (freed_by (state st).files (state st).opens) (found m x);
      }

-- ---- by the slices

-- the numbers of two stores with the same words
held_same : (st u : Store) → st.words ≡ u.words → (n i k : ℕ) → held_from st n i k ≡ held_from u n i k
unfolding held_from
held_same st u e zero i k = refl
held_same st u e (suc n) i k = λ j. eqb (get_or (e j) (5 + 3 * i) 0) (suc k) || held_same st u e n (suc i) k j

-- what the reads ask
pub record Ready (ws rs hs : List ℕ) (s : Spot) : Type 0 where
  pub wide : length ws ≡ 102
  pub within : s.at < length rs
  pub few : length rs ≤ 4096
  pub slot : slot_of (get_or rs s.at 0) < length hs
  pub low : length hs ≤ 4128

pub ready : (ws rs hs : List ℕ) (s : Spot) → Weighed ws rs hs s → Ready ws rs hs s
ready ws rs hs s w =
    let c = w.counted in
    let st = c.store in
    let l = c.lawful in
    record {
      wide = sym (ap length c.words) ∙ l.exact.words;
      within = omega (arith, w.at.within, l.counted, l.exact.records, ap length c.records);
      few = omega (arith, l.exact.records, l.entry_limit.1, ap length c.records);
      slot = omega (arith, slot-low st l s.at w.at.within, ap (λ (us : List ℕ). slot_of (get_or us s.at 0)) c.records, ap length c.heads);
      low = omega (arith, l.exact.heads, l.slotted, l.entry_limit.1, ap length c.heads);
    }

module _ (ws rs hs : List ℕ) (st : Store) (e : st.words ≡ ws) (f : st.records ≡ rs) (g : st.heads ≡ hs) (l : Lawful st) (s : Spot) (p : Path) (a : At st s p) where
  pub weight-told : (k n z : ℕ) (h : Bool) → k ≡ slot_of (get_or rs s.at 0) → n ≡ nlen_of (get_or rs s.at 0) → z ≡ len_of (get_or hs k 0) → h ≡ held_in ws k
      → WeightIs st p (record { name = n; size = z; held = h })
  weight-told k n z h q x y v =
      let w : k ≡ slot_at st s.at = q ∙ ap (λ (us : List ℕ). slot_of (get_or us s.at 0)) (sym f) in
      weight_is st l s p a n z h (x ∙ ap (λ (us : List ℕ). nlen_of (get_or us s.at 0)) (sym f)) (y ∙ (λ j. len_of (get_or (sym g j) (w j) 0)))
      (v ∙ held_same (lent ws [] [] [] [] []) st (sym e) 32 0 k ∙ ap (held_from st 32 0) w)
