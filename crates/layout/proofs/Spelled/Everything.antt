-- Every state that obeys the rules is the state of some store: the state read back has the same entries and open numbers, with the
-- slots for the numbers of the files. So refusals 15 and 16 are never the layout's fault.
-- Assumes nothing.
use mathlib.Core.Bool.{Bool, true, false, false≢true}
use mathlib.Core.List.{[], ◌∷◌}
use mathlib.Core.Logic.{◌⊎◌, inl, inr}
use mathlib.Core.Option.{Option, none, some}
use mathlib.Core.Path.{◌≡◌, refl, sym, ap, ap₂, ◌∙◌, subst}
use native.Mathlib.Decide.{ℕ_discrete}
use Prim.Native.Nat.{ℕ, suc, ◌-◌, ◌≤◌, ◌<◌, ◌^◌}
use native.Mathlib.Omega.{arith}
use lib.Dec.{T, eqb, ltb}
use lib.ListN.{length, get_or}
use borrow.Author.Tests.{eq-eqb, ne_eqb, eqb-true, ltb-true, ltb-false}
use Rattle.path.specs.Path.{names, body}
use Rattle.model.specs.Tree.{Path, File, Node, dir, file, link, Entries, Open, or_else, same_path, look, file_of, open_of}
use Rattle.model.specs.Prog.{on_some, Position, answer}
use Rattle.model.specs.Calls.States.{State, is_named}
use Rattle.model.specs.Rules.{bytes_ok, NodeOk, Obeys}
use Rattle.model.specs.Fuller.{shown_file, shown_node, shown, position_of, StandsAt, StandsRemoved, same_id, share}
use Rattle.model.proofs.Demand.Contents.{named_at, at_named}
use Rattle.model.proofs.Entries.{clash, some_inj, is_true, is_false, of_true, Apart}
use Rattle.model.proofs.Demand.Over.{file-inj}
use Rattle.model.proofs.Demand.OverEdits.{dir_no_file, link_no_file}
use Rattle.model.specs.Alike.{same_file, one_file, Alike}
use Rattle.layout.specs.Store.{Store, holder, position, kept_length, cell, state}
use Rattle.layout.specs.Lawful.{Sized, Lawful}
use Rattle.layout.proofs.Obeying.{lawful-obeys}
use Rattle.layout.proofs.Tables.{open-found, open_there}
use Rattle.layout.proofs.Spelled.Housing.{home_own}
use Rattle.layout.proofs.Spelled.Items.{home}
use Rattle.layout.proofs.Spelled.Lawing.{file-back, spell-lawful}
use Rattle.layout.proofs.Spelled.Ordered.{sorted, sorted-obeys, sorted-ascends, alike-sorted}
use Rattle.layout.proofs.Spelled.Placing.{placed, tree-back}
use Rattle.layout.proofs.Spelled.Sizing.{record-words, path-cells, spell-sized}
use Rattle.layout.proofs.Spelled.Slotting.{path-short, path-back}
use Rattle.layout.proofs.Climbing.{Ascends}
use Rattle.layout.proofs.Spelled.Stored.{holder_by, position_by, spell, most_back, room_back, mask-back, here_back, holder-back, position-back, kept_back, text-back}
use Rattle.layout.proofs.Spelled.Tracing.{renamed}
use Rattle.layout.proofs.Spelled.Written.{kept_text, text_of}

-- what is there, otherwise named
abbrev mapped : (Node → Node) → Option Node → Option Node
mapped g none = none
mapped g (some n) = some (g n)

renamed-look : (g : Node → Node) (t : Entries) (q : Path) → look (renamed g t) q ≡ mapped g (look t q)
unfolding look renamed
renamed-look g [] q = refl
renamed-look g (e ∷ t) q = go (same_path e.0 q) (renamed-look g t q)
  where
    go : (b : Bool) → look (renamed g t) q ≡ mapped g (look t q) → or_else b (g e.1) (look (renamed g t) q) ≡ mapped g (or_else b e.1 (look t q))
    go true ih = refl
    go false ih = ih

module _ (s : State) (o : Obeys s) (a : Ascends s.tree) where
  abbrev back : State
  back = state (spell s)

  -- ---- entries

  look-back : (p : Path) → look back.tree p ≡ mapped (placed s) (look s.tree p)
  look-back p = ap (λ (t : Entries). look t p) (tree-back s o a) ∙ renamed-look (placed s) s.tree p

  there : (p : Path) (n : Node) → look s.tree p ≡ some n → look back.tree p ≡ some (placed s n)
  there p n e = look-back p ∙ ap (mapped (placed s)) e

  node-shown : (n : Node) → NodeOk s.files n → shown_node back (placed s n) ≡ shown_node s n
  unfolding shown_node
  node-shown (dir m) h = refl
  node-shown (link m t) h = refl
  node-shown (file j) h =
      ap (λ (x : Option File). on_some x (λ f. some (shown_file f.meta f.bytes))) (file-back s o j h.0 h.1 ∙ sym h.1)

  same_shown : (p : Path) → shown back p ≡ shown s p
  unfolding shown
  same_shown p = ap (λ (x : Option Node). on_some x (shown_node back)) (look-back p) ∙ go (look s.tree p) refl
    where
      go : (x : Option Node) → look s.tree p ≡ x → on_some (mapped (placed s) x) (shown_node back) ≡ on_some x (shown_node s)
      go none e = refl
      go (some n) e = node-shown n (o.nodes p n e)

  -- a name of a file in the store is one in the state
  name_back : (j : ℕ) (f : File) → file_of s.files j ≡ some f → T (is_named back.tree (home s j)) → T (is_named s.tree j)
  name_back j f e t = go (look s.tree p) refl
    where
      apart : Apart back.tree
      apart = (lawful-obeys (spell s) (spell-sized s o) (spell-lawful s o a)).paths

      p : Path
      p = (named_at back.tree apart (home s j) t).0

      at : look back.tree p ≡ some (file (home s j))
      at = (named_at back.tree apart (home s j) t).1

      two : (n : Node) → look s.tree p ≡ some n → placed s n ≡ file (home s j) → T (is_named s.tree j)
      two (dir m) x y = absurd (dir_no_file m (home s j) y)
      two (link m w) x y = absurd (link_no_file m w (home s j) y)
      two (file i) x y =
          let h = o.nodes p (file i) x in
          subst (λ (k : ℕ). T (is_named s.tree k)) (home_own s o i j h.0 f h.1 e (file-inj y)) (at_named s.tree p i x)

      go : (x : Option Node) → look s.tree p ≡ x → T (is_named s.tree j)
      go none x = clash (look back.tree p) (file (home s j)) (look-back p ∙ ap (mapped (placed s)) x) at
      go (some n) x = two n x (some_inj (sym (there p n x) ∙ at))

  -- ---- open numbers

  -- an open number with the slot of its file
  abbrev opened : ℕ → Option Open → Option Open
  opened n none = none
  opened n (some b) = some (record { num = n; id = home s b.id; pos = b.pos; kept = b.kept })

  open-back : (n : ℕ) → open_of back.opens n ≡ opened n (open_of s.opens n)
  open-back n = go (ltb n 32) refl (open_of s.opens n) refl
    where
      shut : (holder (spell s) n ≡ 0) ⊎ (32 ≤ n) → open_of back.opens n ≡ none
      shut h = two (open_of back.opens n) refl h
        where
          two : (x : Option Open) → open_of back.opens n ≡ x → (holder (spell s) n ≡ 0) ⊎ (32 ≤ n) → open_of back.opens n ≡ none
          two none e h = e
          two (some b) e (inl h) = absurd ((open-found (spell s) 32 0 n b e).holds h)
          two (some b) e (inr h) = absurd (omega (arith, (open-found (spell s) 32 0 n b e).high))

      go : (c : Bool) → ltb n 32 ≡ c → (x : Option Open) → open_of s.opens n ≡ x → open_of back.opens n ≡ opened n x
      go false l none e = shut (inr (ltb-false n 32 l))
      go false l (some b) e = absurd (omega (arith, (o.opens n b e).0, ltb-false n 32 l))
      go true l none e = shut (inl (holder-back s n (ltb-true n 32 l) ∙ ap (holder_by s) e))
      go true l (some b) e =
          let low = ltb-true n 32 l in
          let hold : holder (spell s) n ≡ suc (home s b.id) = holder-back s n low ∙ ap (holder_by s) e in
          let id : holder (spell s) n - 1 ≡ home s b.id = omega (arith, hold) in
          let pos : position (spell s) n ≡ b.pos = position-back s n low ∙ ap (position_by s) e in
          let ok = (o.opens n b e).2 in
          let text : text_of s (suc n) ≡ body b.kept = ap kept_text e in
          let kept : names (cell (spell s) (suc n) (kept_length (spell s) n)) ≡ b.kept =
          ap names (text-back s (suc n) (kept_length (spell s) n) (omega arith) (omega (arith, ap length text, path-short b.kept ok)) (kept_back s n low) ∙ text) ∙ path-back b.kept ok in
          open_there (spell s) 32 0 n (omega arith) (omega arith) (λ z. omega (arith, hold)) ∙ ap some (λ i. record { num = n; id = id i; pos = pos i; kept = kept i })

  same_position : (n : ℕ) → position_of back n ≡ position_of s n
  unfolding position_of answer
  same_position n = ap (λ (x : Option Open). on_some x (λ b. some (place b))) (open-back n) ∙ go (open_of s.opens n)
    where
      place : Open → Position
      place b = record { pos = b.pos; kept = b.kept }

      go : (x : Option Open) → on_some (opened n x) (λ b. some (place b)) ≡ on_some x (λ b. some (record { pos = b.pos; kept = b.kept }))
      go none = refl
      go (some b) = refl

  same_share : (n m : ℕ) → share back n m ≡ share s n m
  unfolding share
  same_share n m = (λ i. same_id (open-back n i) (open-back m i)) ∙ go (open_of s.opens n) refl (open_of s.opens m) refl
    where
      go : (x : Option Open) → open_of s.opens n ≡ x → (y : Option Open) → open_of s.opens m ≡ y → same_id (opened n x) (opened m y) ≡ same_id x y
      go none e y g = refl
      go (some b) e none g = refl
      go (some b) e (some c) g = two (eqb b.id c.id) refl
        where
          two : (z : Bool) → eqb b.id c.id ≡ z → eqb (home s b.id) (home s c.id) ≡ z
          two true z = eq-eqb (home s b.id) (home s c.id) (ap (home s) (eqb-true b.id c.id z))
          two false z =
              let f = (o.opens n b e).3 in
              let h = (o.opens m c g).3 in
              ne_eqb (home s b.id) (home s c.id) (λ w. false≢true (sym z ∙ eq-eqb b.id c.id (home_own s o b.id c.id f.0 h.0 f.1 h.1 w)))

  on-file : (n : ℕ) (b : Open) → open_of back.opens n ≡ some b → ((p : Path) × StandsAt back n p × StandsAt s n p) ⊎ ((f : File) × StandsRemoved back n f × StandsRemoved s n f)
  on-file n b e = go (open_of s.opens n) refl
    where
      go : (x : Option Open) → open_of s.opens n ≡ x → ((p : Path) × StandsAt back n p × StandsAt s n p) ⊎ ((f : File) × StandsRemoved back n f × StandsRemoved s n f)
      go none x = clash (open_of back.opens n) b (open-back n ∙ ap (opened n) x) e
      go (some c) x = two (is_named s.tree c.id) refl
        where
          at : open_of back.opens n ≡ opened n (some c)
          at = open-back n ∙ ap (opened n) x

          f : (f : File) × (file_of s.files c.id ≡ some f)
          f = (o.opens n c x).3

          two : (z : Bool) → is_named s.tree c.id ≡ z → ((p : Path) × StandsAt back n p × StandsAt s n p) ⊎ ((f : File) × StandsRemoved back n f × StandsRemoved s n f)
          two true z =
              let p = named_at s.tree o.paths c.id (of_true z) in
              inl (p.0, record { held = _; is_open = at; is_there = there p.0 (file c.id) p.1 }, record { held = c; is_open = x; is_there = p.1 })
          two false z =
              let loose : is_named back.tree (home s c.id) ≡ false =
              is_false (is_named back.tree (home s c.id)) (λ t. false≢true (sym z ∙ is_true (is_named s.tree c.id) (name_back c.id f.0 f.1 t))) in
              inr (f.0, record { held = _; is_open = at; no_name = loose; is_file = file-back s o c.id f.0 f.1 }, record { held = c; is_open = x; no_name = z; is_file = f.1 })

  -- names of one file
  same_files : (p q : Path) → one_file back p q ≡ one_file s p q
  unfolding one_file
  same_files p q = ap₂ same_file (look-back p) (look-back q) ∙ go (look s.tree p) refl (look s.tree q) refl
    where
      own : (i j : ℕ) → look s.tree p ≡ some (file i) → look s.tree q ≡ some (file j) → Dec (i ≡ j) → eqb (home s i) (home s j) ≡ eqb i j
      own i j x y (yes e) = eq-eqb (home s i) (home s j) (ap (home s) e) ∙ sym (eq-eqb i j e)
      own i j x y (no n) =
          let f = o.nodes p (file i) x in
          let g = o.nodes q (file j) y in
          ne_eqb (home s i) (home s j) (λ e. n (home_own s o i j f.0 g.0 f.1 g.1 e)) ∙ sym (ne_eqb i j n)

      go : (x : Option Node) → look s.tree p ≡ x → (y : Option Node) → look s.tree q ≡ y
          → same_file (mapped (placed s) x) (mapped (placed s) y) ≡ same_file x y
      go none e y f = refl
      go (some (dir m)) e y f = refl
      go (some (link m t)) e y f = refl
      go (some (file i)) e none f = refl
      go (some (file i)) e (some (dir m)) f = refl
      go (some (file i)) e (some (link m t)) f = refl
      go (some (file i)) e (some (file j)) f = own i j e f (ℕ_discrete i j)

  pub spell-alike : Alike back s
  spell-alike =
      record {
        entries = same_shown;
        names = same_files;
        opens = record { position = same_position; on_file = on-file; sharing = same_share };
        current = ap names (text-back s 0 _ (omega arith) (path-short s.here o.current) (here_back s)) ∙ path-back s.here o.current;
        umask = mask-back s;
        entry_limit = most_back s;
        byte_limit = room_back s;
      }

-- its records and cells are words of 64 bits and bytes too, as those of every slice are
pub every-slice : (s : State) → Obeys s
    → (st : Store) × Sized st × Lawful st × Alike (state st) s × ((i : ℕ) → get_or st.records i 0 < 2 ^ 64) × T (bytes_ok st.paths)
every-slice s o =
    let u = sorted-obeys s o in
    let a = sorted-ascends s o in (
      spell (sorted s),
      spell-sized (sorted s) u,
      spell-lawful (sorted s) u a,
      alike-sorted s o (state (spell (sorted s))) (spell-alike (sorted s) u a),
      record-words (sorted s) u a,
      path-cells (sorted s) u,
    )

pub every-state : (s : State) → Obeys s → (st : Store) × Sized st × Lawful st × Alike (state st) s
every-state s o = let h = every-slice s o in (h.0, h.1, h.2, h.3)
