-- What the entries behind a spot say of the model's listing: how many they are, the text of their names and its length, and the first.
-- Assumes nothing.
use mathlib.Core.List.{List, [], ◌∷◌, ◌++◌, map}
use mathlib.Core.Path.{◌≡◌, refl, sym, ap, ◌∙◌, transport}
use Prim.Native.Nat.{ℕ, suc, ◌+◌, ◌-◌, ◌≤◌, ◌<◌}
use native.Mathlib.Numerals.{add-one}
use native.Mathlib.Omega.{arith}
use lib.ListN.{length, take, drop, get_or, length-drop}
use lib.Seq.{drop-cons, get_or-take, take-length}
use Rattle.std.specs.List.{sum_by}
use Rattle.std.specs.Option.{MatchOption, option_map}
use Rattle.std.specs.Prelude.{Option, Some, None, is_none}
use Rattle.std.proofs.lemmas.List.{length-map}
use Rattle.text.specs.Utf8.{Bytes}
use Rattle.path.specs.Path.{Name}
use Rattle.model.specs.Tree.{Path}
use Rattle.model.specs.Prog.{Stat, bare?, answer, is_nil}
use Rattle.model.specs.Calls.States.{world_of}
use Rattle.model.specs.Operations.Shows.{names_text}
use Rattle.layout.specs.Fields.{depth_of, nlen_of}
use Rattle.layout.specs.Rows.{Row, name_total, rows}
use Rattle.layout.specs.Store.{Store, count, live, rows_of, state}
use Rattle.layout.specs.Lawful.{Lawful}
use Rattle.layout.proofs.Named.{rows_drop, total-split}
use Rattle.layout.proofs.Used.{live-length}
use Rattle.ask_find.specs.declared.Spot.{Spot}
use Rattle.ask_find.specs.Paths.{path_at}
use Rattle.ask_find.specs.Spots.{At, Held}
use Rattle.ask_find.proofs.Children.{word-live, offset-next}
use Rattle.ask_find.proofs.Records.{total-live}
use Rattle.ask_list.specs.declared.entries.Entry.{Entry}
use Rattle.ask_list.specs.Entries.{entries_at, entries_behind, next_spot}
use Rattle.ask_list.specs.Listed.{listing_of, entries_in, listed_from, behind_in, Leads, Rest, Roomy}
use Rattle.ask_list.proofs.Entered.{Step, out, on, past, step, entries-end, Fits, fits, text_size, name_in, text_of, text-size, names-are, row-names, texts}
use Rattle.ask_list.proofs.Steps.{count_at, text_at, listed-end, listed-out, listed-past}
use Rattle.ask_list.proofs.Spotted.{listing-spot, spot-depth, entry-depth, entry-up, total_next, keeps_at, leads_at}

module _ (st : Store) (l : Lawful st) where
  -- ---- the whole listing of the directory at a spot

  module _ (s : Spot) (p : Path) (a : At st s p) where
    abbrev i : ℕ
    i = s.at

    abbrev d : ℕ
    d = depth_of (get_or st.records i 0)

    abbrev from : Spot
    from = next_spot s (get_or st.records i 0)

    -- the entries below it
    abbrev es : List Entry
    es = entries_at (suc d) (drop (i + 1) (live st)) from

    -- by the records that were read
    pub by_records : (ws : List ℕ) → live st ≡ ws → entries_behind ws s (depth_of (get_or ws i 0) + 1) ≡ es
    by_records ws e =
        (λ j. entries_behind (sym e j) s (depth_of (get_or (sym e j) i 0) + 1))
        ∙ ap (λ (w : ℕ). entries_at (depth_of w + 1) (drop (i + 1) (live st)) (next_spot s w)) (word-live st i a.within)
        ∙ ap (λ (m : ℕ). entries_at m (drop (i + 1) (live st)) from) (add-one d)

    behind : drop (i + 1) (rows_of st) ≡ rows (drop (i + 1) (live st)) (drop from.off st.bytes)
    behind =
        sym (rows_drop (live st) st.bytes (i + 1))
        ∙ ap (λ (o : ℕ). rows (drop (i + 1) (live st)) (drop o st.bytes)) (total-live st l (i + 1) (omega (arith, a.within)) ∙ sym (offset-next st l s p a))

    names : map (λ (r : Row). r.name) (entries_in d (drop (i + 1) (rows_of st))) ≡ map (name_in st.bytes) es
    names = ap (λ (rs : List Row). map (λ (r : Row). r.name) (entries_in d rs)) behind ∙ names-are d (drop (i + 1) (live st)) st.bytes from

    pub all-fit : Fits st.bytes es
    all-fit =
        fits st.bytes (suc d) (drop (i + 1) (live st)) from
        (omega (arith, offset-next st l s p a, total-live st l (i + 1) (omega (arith, a.within)), total-split (live st) (i + 1), l.space, l.exact.bytes))

    pub count-told : length es ≡ length (listing_of st p)
    count-told =
        sym (length-map es (name_in st.bytes)) ∙ sym (ap length names) ∙ length-map (entries_in d (drop (i + 1) (rows_of st))) (λ (r : Row). r.name)
        ∙ sym (count_at st l i a.within) ∙ ap (λ (q : Path). length (listing_of st q)) a.path

    pub text-told : text_of st.bytes es ≡ names_text (listing_of st p)
    text-told =
        sym (ap texts names) ∙ sym (row-names (entries_in d (drop (i + 1) (rows_of st))))
        ∙ sym (text_at st l i a.within) ∙ ap (λ (q : Path). names_text (listing_of st q)) a.path

    pub length-told : sum_by text_size es ≡ length (names_text (listing_of st p))
    length-told = sym (text-size st.bytes es all-fit) ∙ ap length text-told

  -- ---- the first of some

  -- some entries of the directory p begin with the first of these
  abbrev pub Leading : Path → List (Name × Stat) → List Entry → Type 0
  Leading p u [] = u ≡ []
  Leading p u (x ∷ xs) = Leads st p x.spot u

  -- the record at j, which is the first of those that are left
  record Head (j w : ℕ) (ws : List ℕ) : Type 0 where
    within : j < count st
    word : get_or st.records j 0 ≡ w
    rest : drop (j + 1) (live st) ≡ ws

  head : (j w : ℕ) (ws : List ℕ) → drop j (live st) ≡ w ∷ ws → Head j w ws
  head j w ws e = record { within = h; word = first; rest = last }
    where
      h : j < count st
      h = omega (arith, ap length e, length-drop j (live st), live-length st l)

      cut : drop j (live st) ≡ get_or (live st) j 0 ∷ drop (suc j) (live st)
      cut = drop-cons (live st) j 0 (omega (arith, h, live-length st l))

      first : get_or st.records j 0 ≡ w
      first = let c = cut in let g = get_or-take (count st) st.records j 0 h in cc

      last : drop (j + 1) (live st) ≡ ws
      last = let c = cut in rw (add-one j) (cc)

  turn : (p : Path) (w : ℕ) (ws : List ℕ) (j o : ℕ) → 0 < j → Head j w ws → take (length p) (path_at st (j - 1)) ≡ p → o ≡ name_total (take j st.records)
      → (take (length p) (path_at st (j + 1 - 1)) ≡ p → o + nlen_of w ≡ name_total (take (j + 1) st.records) → Leading p (listed_from st (length p) (j + 1)) (entries_at (suc (length p)) ws (record { at = j + 1; off = o + nlen_of w })))
      → Leading p (listed_from st (length p) j) (entries_at (suc (length p)) (w ∷ ws) (record { at = j; off = o }))
  turn p w ws j o b x t f ih = go (step (suc m) w ws (record { at = j; off = o }))
    where
      m : ℕ
      m = length p

      deep : depth_of (get_or st.records j 0) ≡ depth_of w
      deep = ap depth_of x.word

      go : Step (suc m) w ws (record { at = j; off = o }) → Leading p (listed_from st m j) (entries_at (suc m) (w ∷ ws) (record { at = j; off = o }))
      go (out g z) = rw z (listed-out st l j x.within m (omega (arith, deep, g)))
      go (on g z) = rw z (leads_at st l j b x.within p o t (deep ∙ g) f (listed_from st m j) refl)
      go (past g z) =
          rw (z, listed-past st l j x.within m (omega (arith, deep, g)) (λ y. omega (arith, deep, g, y)))
          (ih (keeps_at st l j b x.within m (omega (arith, deep, g)) ∙ t)
          (omega (arith, f, ap nlen_of x.word, total_next st.records j (omega (arith, x.within, l.counted, l.exact.records)))))

  pub leading : (p : Path) (ws : List ℕ) (j o : ℕ) → 0 < j → drop j (live st) ≡ ws → take (length p) (path_at st (j - 1)) ≡ p → o ≡ name_total (take j st.records)
      → Leading p (listed_from st (length p) j) (entries_at (suc (length p)) ws (record { at = j; off = o }))
  leading p [] j o b e t f =
      rw (entries-end (suc (length p)) [] (record { at = j; off = o }) refl)
      (listed-end st l j (length p) (omega (arith, ap length e, length-drop j (live st), live-length st l)))
  leading p (w ∷ ws) j o b e t f = let x = head j w ws e in turn p w ws j o b x t f (λ u g. leading p ws (j + 1) (o + nlen_of w) (omega arith) x.rest u g)

  -- of the directory at a spot
  pub leads-below : (s : Spot) (p : Path) (a : At st s p) → Leading p (listing_of st p) (es s p a)
  leads-below s p a =
      let u = spot-depth st l s p a in
      let b : s.at + 1 - 1 ≡ s.at = omega arith in
      let z = leading p (drop (s.at + 1) (live st)) (s.at + 1) (s.off + nlen_of (get_or st.records s.at 0)) (omega arith) refl
      (ap (λ (k : ℕ). take (length p) (path_at st k)) b ∙ ap (take (length p)) a.path ∙ take-length p) (offset-next st l s p a) in
      rw (listing-spot st l s p a, u) z

  -- behind an entry
  pub leads-beside : (s : Spot) (p : Path) (x : Name) (a : At st s (p ++ (x ∷ []))) → Leading p (behind_in st p s) (entries_behind (live st) s (depth_of (get_or (live st) s.at 0)))
  leads-beside s p x a =
      let b : s.at + 1 - 1 ≡ s.at = omega arith in
      let z = leading p (drop (s.at + 1) (live st)) (s.at + 1) (s.off + nlen_of (get_or st.records s.at 0)) (omega arith) refl
      (ap (λ (k : ℕ). take (length p) (path_at st k)) b ∙ entry-up st l s p x a) (offset-next st l s (p ++ (x ∷ [])) a) in
      rw (word-live st s.at a.within, entry-depth st l s p x a) z

  -- by what a call gave
  pub rest_by : (p : Path) (u : List (Name × Stat)) (es fs : List Entry) (r : Option Entry) → Leading p u es → MatchOption r ((es ≡ []) × (fs ≡ [])) (λ x. es ≡ x ∷ fs) → Rest st p u (option_map (λ (x : Entry). x.spot) r)
  rest_by p u es fs None h e = rw e.0 at h
  rest_by p u es fs (Some x) h e = rw e at h

  -- whether there is one
  pub bare_by : (p : Path) (r : Option Spot) → Rest st p (listing_of st p) r → is_none r ≡ answer (bare? p) (world_of (state st))
  unfolding answer
  bare_by p None h = sym (ap is_nil h)
  bare_by p (Some x) h = sym (ap is_nil h.list)

-- ---- the text of the names

-- the text of all, by the slices
abbrev pub whole : List ℕ → Bytes → Spot → Bytes
whole ws bs s = text_of bs (entries_behind ws s (depth_of (get_or ws s.at 0) + 1))

pub whole-told : (ws : List ℕ) (bs : Bytes) (s : Spot) (st : Store) (l : Lawful st) (p : Path) (a : At st s p) → live st ≡ ws → st.bytes ≡ bs → whole ws bs s ≡ names_text (listing_of st p)
whole-told ws bs s st l p a e b = (λ j. text_of (sym b j) (by_records st l s p a ws e j)) ∙ text-told st l s p a

-- there is room for it, and the names stand within the bytes
pub whole-room : (ws : List ℕ) (bs : Bytes) (s : Spot) (to : Bytes) → Roomy ws bs s to → length (whole ws bs s) ≤ length to
whole-room ws bs s to r = let h = r.held in omega (arith, r.fits, ap length (whole-told ws bs s h.store h.lawful h.path h.at h.records h.bytes))

pub whole-fits : (ws : List ℕ) (bs : Bytes) (s : Spot) → Held ws bs s → Fits bs (entries_behind ws s (depth_of (get_or ws s.at 0) + 1))
whole-fits ws bs s h =
    let st = h.store in
    transport (λ j. Fits (h.bytes j) (sym (by_records st h.lawful s h.path h.at ws h.records) j)) (all-fit st h.lawful s h.path h.at)
